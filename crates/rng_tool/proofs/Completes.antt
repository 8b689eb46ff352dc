-- If neither the source nor the sink failed, a command gave its answer, or memory ran out.
use Rattle.std.proofs.Common.{ℕ, ◌≡◌, ◌≤◌, ◌⊎◌, ltb, false, length, List, Option, None, Some, ap, sym, ◌∙◌, refl, inl, inr}
use Rattle.std.specs.Prelude.{IfSome}
use Rattle.std.proofs.lemmas.Bool.{le-ltb}
use Rattle.key_names.specs.Texts.ScriptFaults.{fault_in, first_fault, front}
use Rattle.key_names.specs.Texts.ScriptGrammar.{Script, IsScript}
use Rattle.key_names.proofs.Script.ScriptTexts.{script_again}
use Rattle.tool_ends.specs.Ends.{AtOutputEnd, EndsWith}
use Rattle.tool_ends.specs.Pairs.{TellsFault, most_input, pair_fault}
use Rattle.tool_ends.specs.declared.status.Status.{Status}
use Rattle.tool_ends.specs.declared.status.Status.TheVariants.{Done, No, Usage, ReadFault, WriteFault, Refused, NoMemory}
use Rattle.rng_tool.specs.JudgeOutcome.{JudgeEnds}
use Rattle.rng_tool.specs.Outcome.{IsRefusal, RunEnds}
use Rattle.rng_tool.specs.declared.judge.Judge.{Judge}

-- a text that is a script is not refused
not_refused : (script : Script) (text output : List ℕ) → IsScript script text → IsRefusal text output → ⊥
not_refused script text output is refusal =
    let none = ap fault_in (script_again text script is) in cc (none, refusal.first)

-- if a text of allowed length begins with the script `script`, `check` and `replay` do not refuse the text
not_judge_refused : (script : Script) (text output : List ℕ) → length text ≤ most_input → IsScript script (front text)
    → TellsFault text output → ⊥
not_judge_refused script text output short is refusal =
    let same : pair_fault text ≡ first_fault (front text) =
    (let le : ltb most_input (length text) ≡ false = le-ltb _ _ short in rw le refl) in
    not_refused script (front text) output is
    (record { fault = refusal.fault; first = sym same ∙ refusal.first; line = refusal.line })

-- `status` is the status before the flush at the end of the output, and `result` is the status after it. If `result` is
-- a read fault, `status` is a read fault too
pub read_before : (status result : Status) (m n : ℕ) → AtOutputEnd status result m n → result ≡ ReadFault
    → status ≡ ReadFault
read_before status result m n ended is = elim ended [
  | inl same ↦ sym same.0 ∙ is
  | inr faulty ↦ (let never : WriteFault ≡ ReadFault = sym faulty.1 ∙ is in absurd cc)
]

module _ (left_after a b : Option (List ℕ)) where
  pub run_completes : (status : Status) (left : Option (List ℕ)) → RunEnds status left left_after a b
      → (status ≡ ReadFault → ⊥) → (status ≡ WriteFault → ⊥)
      → IfSome left (λ all. (script : Script) → IsScript script all → (status ≡ Done) ⊎ (status ≡ NoMemory))
  run_completes status None e read written = tt
  run_completes Done (Some all) e read written = λ script is. inl refl
  run_completes NoMemory (Some all) e read written = λ script is. inr refl
  run_completes Refused (Some all) e read written = λ script is. absurd (not_refused script all e.output is e.of_all)
  run_completes ReadFault (Some all) e read written = absurd (read refl)
  run_completes WriteFault (Some all) e read written = absurd (written refl)
  run_completes No (Some all) e read written = absurd e.is
  run_completes Usage (Some all) e read written = absurd e

  pub judge_completes : (judge : Judge) (status : Status) (left : Option (List ℕ))
      → JudgeEnds judge status left left_after a b → (status ≡ ReadFault → ⊥) → (status ≡ WriteFault → ⊥)
      → IfSome left (λ all. (script : Script) → length all ≤ most_input → IsScript script (front all)
      → (status ≡ Done) ⊎ ((status ≡ No) ⊎ (status ≡ NoMemory)))
  judge_completes judge status None e read written = tt
  judge_completes judge Done (Some all) e read written = λ script short is. inl refl
  judge_completes judge No (Some all) e read written = λ script short is. inr (inl refl)
  judge_completes judge NoMemory (Some all) e read written = λ script short is. inr (inr refl)
  judge_completes judge Refused (Some all) e read written =
      λ script short is. absurd (not_judge_refused script all e.output short is e.of_all)
  judge_completes judge ReadFault (Some all) e read written = absurd (read refl)
  judge_completes judge WriteFault (Some all) e read written = absurd (written refl)
  judge_completes judge Usage (Some all) e read written = absurd e

-- if a command that reads no input ended with another status than a write fault, it is done, or memory ran out
pub ends_completes : (Of : List ℕ → Type 0) (status : Status) (a b : Option (List ℕ)) → EndsWith Of status a b
    → (status ≡ WriteFault → ⊥) → (status ≡ Done) ⊎ (status ≡ NoMemory)
ends_completes Of Done a b e written = inl refl
ends_completes Of NoMemory a b e written = inr refl
ends_completes Of WriteFault a b e written = absurd (written refl)
ends_completes Of No a b e written = absurd e
ends_completes Of Usage a b e written = absurd e
ends_completes Of ReadFault a b e written = absurd e
ends_completes Of Refused a b e written = absurd e
