-- Notes of answers and data, indexed by event number.
use Rattle.std.specs.Prelude.{ℕ, ◌≡◌, ◌≢◌, Some, List, [], ◌∷◌, slice_get}
use Rattle.judge_log.specs.declared.said.MadeLine.{MadeLine}
use Rattle.judge_log.specs.Said.{NotedAt}

-- the number of an event, with its answer and data
pub record Write : Type 0 where
  pub event : ℕ
  pub said : MadeLine

module _ {Noted : Type 0} (IsNoted : ℕ → MadeLine → Noted → Type 0) where
  -- `new` is `old` with a note of `one` at the event's number, and all other notes of `old` unchanged
  pub record IsPut (event : ℕ) (one : MadeLine) (old new : List Noted) : Type 0 where
    pub here : NotedAt IsNoted new event one
    pub others : (k : ℕ) (x : Noted) → k ≢ event → slice_get old k ≡ Some x → slice_get new k ≡ Some x

  -- `new` is `old` after the answers and data in the list are noted one after another
  abbrev pub Written : List Write → List Noted → List Noted → Type 0
  Written [] old new = new ≡ old
  Written (w ∷ writes) old new = (mid : List Noted) × IsPut w.event w.said old mid × Written writes mid new
