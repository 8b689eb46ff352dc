use Rattle.std.proofs.Common.{◌≡◌, ◌≤◌, ◌-◌, ◌∷◌, map}
use Rattle.std.specs.List.{range_with_len}
use Rattle.key_names.specs.declared.events.Event.TheVariants.{Add, Fork}
use Rattle.event_script.proofs.load.opening.Given as goal

abbrev pub invariant-loop-child : goal.invariant-loop-child
invariant-loop-child l =
    (l.events.items ≡ Add (range_with_len 0 32) 256 ∷ map Fork (range_with_len 1 (l.child - 1)))
    × (l.child - 1 ≤ l.callers - 1)
