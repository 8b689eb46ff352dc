use Rattle.std.proofs.Common.{◌≡◌, ℕ, ◌+◌, ◌-◌, length, Some}
use Rattle.std.specs.Prelude.{slice_get}
use Rattle.judge_log.proofs.notes.Notes.put.Given as goal

abbrev pub invariant-loop-self : goal.invariant-loop-self
invariant-loop-self g l = record {
  same : l.self ≡ record l.initial.self { noted = l.self.noted };
  kept : (k : ℕ) (x : _) → slice_get l.initial.self.noted.items k ≡ Some x → slice_get l.self.noted.items k ≡ Some x;
}

abbrev pub decreases-loop-self : goal.decreases-loop-self
decreases-loop-self g l = l.event + 1 - length l.self.noted.items
