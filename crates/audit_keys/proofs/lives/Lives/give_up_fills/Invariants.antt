use Rattle.std.specs.Prelude.{ℕ, ◌≡◌, ◌++◌, Option}
use Rattle.key_names.specs.Kernel.Batches.{Fill}
use Rattle.key_names.specs.Keys.LiveMaterial.{fill_rest}
use Rattle.audit_keys.specs.Fills.{AreFills}
use Rattle.audit_keys.specs.Rests.{given_up}
use Rattle.audit_keys.specs.Listed.{listed_below}
use Rattle.audit_keys.proofs.lives.Lives.give_up_fills.Given as goal

abbrev pub invariant-loop-width : goal.invariant-loop-width
invariant-loop-width l = record {
  births : l.self.births.items ≡ l.initial.self.births.items;
  endings : l.self.endings.items ≡ l.initial.self.endings.items;
  given_up : (book : ℕ → Option Fill) → AreFills book l.fills → l.self.given_up.items
      ≡ l.initial.self.given_up.items ++ listed_below l.width (λ w. given_up l.by (fill_rest w (book w)));
}
