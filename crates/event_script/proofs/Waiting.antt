-- A reader that waits for more text after a whole line is in one of two stages: the script's head is incomplete, or the
-- line `end` would exceed the limit of a script's bytes.
use Rattle.std.proofs.Common.{◌≡◌, ℕ, ◌+◌, ◌<◌, ◌≤◌, List, [], arith}
use Rattle.event_script.specs.Drafts.{draft_as}
use Rattle.event_script.specs.Feeding.{HasFed}
use Rattle.event_script.specs.Waiting.{IsBeforeEvents, IsFull, IsHead}
use Rattle.event_script.specs.declared.whole.draft.Draft.{Draft}
use Rattle.event_script.specs.declared.reader.ScriptReader.{ScriptReader}
use Rattle.event_script.specs.declared.whole.stage.ScriptStage.{ScriptStage}
use Rattle.event_script.specs.declared.whole.stage.ScriptStage.TheVariants.{Version, Cpus, Start, Lines, Ended, Faulty}
use Rattle.event_script.proofs.Feeding.{not_too_long}

module _ (text : List ℕ) (r : ScriptReader) (fed : HasFed text r) (short : r.len ≤ 16777216) (rest : r.rest.items ≡ []) where
  pub is_full : (draft : Draft) (number : ℕ) → r.stage ≡ Lines draft number → 16777216 < r.len + 4 → IsFull text
  is_full draft number is many =
      let few = not_too_long text r fed short in record {
        draft = draft_as draft;
        number = number;
        goes_on = λ later. rw (is, rest) at ((fed.read few).same later);
        full = omega (arith, fed.len few, many);
      }

  at_head : (stage : ScriptStage) → IsHead stage → r.stage ≡ stage → IsBeforeEvents text
  at_head stage head is =
      let few = not_too_long text r fed short in record {
        stage = stage;
        is_head = head;
        goes_on = λ later. rw (is, rest) at ((fed.read few).same later);
      }

  pub is_before : (stage : ScriptStage) → r.stage ≡ stage
      → ((draft : Draft) (number : ℕ) → r.stage ≡ Lines draft number → ⊥)
      → ((draft : Draft) (number : ℕ) → r.stage ≡ Ended draft number → ⊥)
      → ((fault : _) (line : _) → r.stage ≡ Faulty fault line → ⊥) → IsBeforeEvents text
  is_before Version is no_lines no_end no_fault = at_head Version tt is
  is_before (Cpus version) is no_lines no_end no_fault = at_head (Cpus version) tt is
  is_before (Start head) is no_lines no_end no_fault = at_head (Start head) tt is
  is_before (Lines draft number) is no_lines no_end no_fault = absurd (no_lines draft number is)
  is_before (Ended draft number) is no_lines no_end no_fault = absurd (no_end draft number is)
  is_before (Faulty fault line) is no_lines no_end no_fault = absurd (no_fault fault line is)
