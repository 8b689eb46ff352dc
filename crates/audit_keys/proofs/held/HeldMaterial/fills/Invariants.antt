use Rattle.std.specs.Prelude.{ℕ, ◌≡◌, ◌++◌, Option}
use Rattle.key_names.specs.Kernel.Batches.{Fill}
use Rattle.key_names.specs.Keys.LiveMaterial.{fill_rest}
use Rattle.audit_keys.specs.Fills.{AreFills}
use Rattle.audit_keys.specs.declared.held.BatchHolder.TheVariants.{Cpu}
use Rattle.audit_keys.specs.Held.{held_rest}
use Rattle.audit_keys.specs.Listed.{listed_below}
use Rattle.audit_keys.proofs.held.HeldMaterial.fills.Given as goal

abbrev pub invariant-loop-width : goal.invariant-loop-width
invariant-loop-width l = record {
  keys : l.self.keys.items ≡ l.initial.self.keys.items;
  rests : (book : ℕ → Option Fill) → AreFills book l.fills → l.self.rests.items
      ≡ l.initial.self.rests.items ++ listed_below l.width (λ w. held_rest (Cpu l.cpu w) (fill_rest w (book w)));
}
