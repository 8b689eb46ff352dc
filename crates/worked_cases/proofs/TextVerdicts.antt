-- Computes the verdict on two texts, a script's and a transcript's.
use Rattle.std.proofs.Common.{◌≡◌, ◌<◌, ◌≤◌, ℕ, zero, suc, ◌^◌, true, is_some, Option, Some, None, Result, Ok, Err}
use Rattle.std.proofs.Common.{List, [], ◌∷◌, refl, sym, ap, ◌∙◌, subst, slice_index, length, ◌==◌, if◌then◌else◌, arith}
use Rattle.std.specs.List.{AllByRecursion}
use Rattle.std.specs.Fmt.{digits}
use Rattle.hex.specs.Hex.{decode_pairs, encode_with, IsBytes}
use Rattle.key_names.specs.declared.names.LaneId.{LaneId}
use Rattle.key_names.specs.declared.names.LaneId.TheVariants.{Pool as PoolLane, Base as BaseLane, Cpu as CpuLane}
use Rattle.key_names.specs.declared.names.Step.{Step}
use Rattle.key_names.specs.declared.names.Step.TheVariants.{Look, Visit}
use Rattle.key_names.specs.declared.events.Word.{Word}
use Rattle.key_names.specs.declared.events.Word.TheVariants.{Bits}
use Rattle.key_names.specs.declared.faults.ScriptFault.{ScriptFault}
use Rattle.key_names.specs.Kernel.Blake2s.{blake2s, compressed, folded, start_vector, round, mixed_at, mixed}
use Rattle.key_names.specs.Kernel.Keystream.{keystream_byte}
use Rattle.key_names.specs.Kernel.FastPool.{sip_round, word_mixed}
use Rattle.key_names.specs.Transcripts.SeenLine.{SeenLine, Shown, no_data, bytes, count}
use Rattle.key_names.specs.Texts.ScriptGrammar.{Script, IsScript}
use Rattle.key_names.specs.Texts.ScriptFaults.{script_of, script_from}
use Rattle.key_names.specs.Texts.TranscriptGrammar.{IsTranscriptText, LineFits, LastHasLines, StepFits, LaneFits, ShownFits}
use Rattle.key_names.specs.Texts.TranscriptGrammar.{UnderOwnNumber, transcript_text, line_text, steps_text, step_text}
use Rattle.key_names.specs.Texts.TranscriptGrammar.{lane_text, shown_text, answer_text}
use Rattle.key_names.specs.Transcripts.IsTranscript.{HasLines, MarksConform, MadeBook, FirstFails, Clause, lines_clause, marks_clause}
use Rattle.key_names.specs.Transcripts.IsTranscript.{forms_clause, answers_clause, data_clause, looks_clause, clause_number}
use Rattle.key_names.proofs.Script.ScriptTexts.{script_takes}
use Rattle.rand_core.specs.Steps.{u32_at}
use Rattle.rand_chacha.specs.Block.{block_word, double_rounds, column_round, diagonal_round, quarter_round}
use Rattle.worked_cases.proofs.Decided.{Decided, yes, no, both, found, found_both, found_three, found_pair, each}
use Rattle.worked_cases.proofs.Decided.{each_found, negated, at_most, below, same_number, same_bytes}
use Rattle.worked_cases.proofs.DecidedLines.{same_word_text, has_lines}
use Rattle.worked_cases.proofs.DecidedMarks.{marks_conform}
use Rattle.worked_cases.proofs.ReadTexts.{lines_of}
use Rattle.worked_cases.proofs.Verdicts.{Lanes, Verdict, lawful, first_fails, unknown, verdict, verdict_number}
use Rattle.worked_cases.specs.Runs.{IsLawfulRun, FailsFirst}

-- ---- the text of a transcript

bytes_from : (xs : List ℕ) → AllByRecursion (λ b. b < 256) xs → (i : ℕ) → slice_index xs i < 256
bytes_from [] all i = omega arith
bytes_from (b ∷ xs) all zero = all.0
bytes_from (b ∷ xs) all (suc i) = bytes_from xs all.1 i

abbrev lane_fits : (lane : LaneId) → Option (LaneFits lane)
lane_fits (CpuLane cpu) = found (below cpu (2 ^ 32))
lane_fits PoolLane = Some tt
lane_fits BaseLane = Some tt

abbrev step_fits : (step : Step) → Option (StepFits step)
step_fits (Look generation) = found (below generation (2 ^ 63))
step_fits (Visit mark) = found_three (λ l p s. record { lane = l; place = p; stamp = s }) (lane_fits mark.lane)
    (found (below mark.place (2 ^ 63))) (found (below mark.stamp (2 ^ 63)))

pub known_bytes : (xs : List ℕ) → AllByRecursion (λ b. b < 256) xs → IsBytes xs
known_bytes xs all = bytes_from xs all

abbrev shown_fits : (word : Word) (shown : Shown) → Option (ShownFits word shown)
shown_fits word no_data = Some tt
shown_fits word (bytes shown) = found_three (λ w n b. (w, n, known_bytes shown b))
    (found (negated (same_word_text word Bits)))
    (found (below 0 (length shown))) (found (each (λ b. below b 256) shown))
shown_fits word (count n) = found (both (same_word_text word Bits) (below n (2 ^ 32)))

abbrev line_fits : (line : SeenLine) → Option (LineFits line)
line_fits line = found_three (λ n s d. record { caller = n.0; event = n.1.0; few_steps = n.1.1; steps = s; shown = d })
    (found (both (below line.caller (2 ^ 32)) (both (below line.event (2 ^ 32)) (at_most (length line.steps) 20))))
    (each_found step_fits line.steps) (shown_fits line.word line.shown)

abbrev last_has_lines : (t : List (List SeenLine)) → Option (LastHasLines t)
last_has_lines [] = Some tt
last_has_lines (lines ∷ []) = found (below 0 (length lines))
last_has_lines (lines ∷ next ∷ t) = last_has_lines (next ∷ t)

abbrev own_number : (first : ℕ) (t : List (List SeenLine)) → Option (UnderOwnNumber first t)
own_number first [] = Some tt
own_number first (lines ∷ t) =
    found_pair (found (each (λ line. same_number line.caller first) lines)) (own_number (suc first) t)

abbrev text_found : (text : List ℕ) (t : List (List SeenLine)) → Option (IsTranscriptText text t)
text_found text t = found_three (λ f o s. record { fits = f; own = o; spelled = s })
    (found_three (λ c l n. record { few_callers = c; last = l; lines = n }) (found (at_most (length t) 64))
    (last_has_lines t)
    (each_found (each_found line_fits) t)) (own_number 0 t) (found (same_bytes text (transcript_text t)))

-- ---- The text of a script and the text of a transcript

abbrev script_or_none : Result Script ScriptFault → Script
script_or_none (Ok script) = script
script_or_none (Err fault) = record { version = 0; cpus = 0; callers = [] }

-- the script that `input` spells, if it spells one; `lines_in` gives the lines of `output`
abbrev pub script_in : List ℕ → Script
script_in input = script_or_none (script_of input)

abbrev pub lines_in : List ℕ → List ℕ → List (List SeenLine)
lines_in input output = lines_of (length (script_in input).callers) output

abbrev gives_script : (r : Result Script ScriptFault) → Option (r ≡ Ok (script_or_none r))
gives_script (Ok script) = Some refl
gives_script (Err fault) = None

-- `input` is the text of a script, and `output` is the text of a transcript
pub record TextsFound (input output : List ℕ) : Type 0 where
  pub script_is : IsScript (script_in input) input
  pub lines_are : IsTranscriptText output (lines_in input output)

abbrev texts_found : (input output : List ℕ) → Option (TextsFound input output)
texts_found input output = found_both (λ s l. record
    { script_is = script_takes input (script_in input) s; lines_are = l })
    (gives_script (script_of input)) (text_found output (lines_in input output))

-- the number of the verdict, or 1 if the texts are not those of a script and of a transcript
abbrev number_of : {input output : List ℕ} → Option (TextsFound input output) → Verdict (script_in input)
    (lines_in input output) → ℕ
number_of (Some f) v = verdict_number v
number_of None v = 1

-- the verdict as a number, computed with all definitions unfolded
unfoldable pub text_verdict : (input output : List ℕ) (lanes : Lanes) → ℕ
unfolding blake2s compressed folded start_vector round mixed_at mixed u32_at keystream_byte block_word double_rounds
    column_round diagonal_round quarter_round sip_round word_mixed script_of script_from digits decode_pairs
    encode_with transcript_text line_text steps_text step_text lane_text shown_text answer_text
text_verdict input output lanes =
    number_of (texts_found input output) (verdict (script_in input) (lines_in input output) lanes)

abbrev clause_at : ℕ → Clause
clause_at n = if n == 2 then lines_clause else if n == 3 then marks_clause else if n == 4 then forms_clause
    else if n == 5 then answers_clause else if n == 6 then data_clause else looks_clause

clause_again : (clause : Clause) → clause_at (clause_number clause) ≡ clause
clause_again lines_clause = refl
clause_again marks_clause = refl
clause_again forms_clause = refl
clause_again answers_clause = refl
clause_again data_clause = refl
clause_again looks_clause = refl

from_two : (clause : Clause) → 2 ≤ clause_number clause
from_two lines_clause = omega arith
from_two marks_clause = omega arith
from_two forms_clause = omega arith
from_two answers_clause = omega arith
from_two data_clause = omega arith
from_two looks_clause = omega arith

is_lawful : (input output : List ℕ) (o : Option (TextsFound input output))
    (v : Verdict (script_in input) (lines_in input output)) →
    number_of o v ≡ 0 → IsLawfulRun input output
is_lawful input output None v e = absurd (omega (arith, e))
is_lawful input output (Some f) (lawful h) e = record {
  script = script_in input;
  lines = lines_in input output;
  script_is = f.script_is;
  lines_are = f.lines_are;
  lawful = h;
}
is_lawful input output (Some f) (first_fails clause h) e = (let two = from_two clause in absurd (omega arith))
is_lawful input output (Some f) unknown e = absurd (omega arith)

fails_with : (clause : Clause) (input output : List ℕ) → TextsFound input output →
    FirstFails (script_in input) (lines_in input output) clause → FailsFirst clause input output
fails_with clause input output f h = record {
  script = script_in input;
  lines = lines_in input output;
  script_is = f.script_is;
  lines_are = f.lines_are;
  fails = h;
}

fails_at : (clause : Clause) (input output : List ℕ) (o : Option (TextsFound input output))
    (v : Verdict (script_in input) (lines_in input output)) →
    number_of o v ≡ clause_number clause → FailsFirst clause input output
fails_at clause input output None v e = (let two = from_two clause in absurd (omega arith))
fails_at clause input output (Some f) (lawful h) e = (let two = from_two clause in absurd (omega arith))
fails_at clause input output (Some f) (first_fails other h) e =
    let same : other ≡ clause = sym (clause_again other) ∙ ap clause_at e ∙ clause_again clause in
    fails_with clause input output f (subst (λ (c : Clause). FirstFails (script_in input) (lines_in input output) c)
    same h)
fails_at clause input output (Some f) unknown e = (let two = from_two clause in absurd (omega arith))

-- ---- What the number of a verdict proves

pub lawful_run : (input output : List ℕ) (lanes : Lanes) → text_verdict input output lanes ≡ 0 → IsLawfulRun input
    output
unfolding text_verdict
lawful_run input output lanes e =
    is_lawful input output (texts_found input output) (verdict (script_in input) (lines_in input output) lanes) e

pub fails_first : (clause : Clause) (input output : List ℕ) (lanes : Lanes) →
    text_verdict input output lanes ≡ clause_number clause → FailsFirst clause input output
unfolding text_verdict
fails_first clause input output lanes e =
    fails_at clause input output (texts_found input output) (verdict (script_in input) (lines_in input output) lanes) e

-- ---- Steps that have no form (allowed pattern)

-- `input` is the text of a script, `output` is the text of a transcript, and the clauses on lines and marks hold for
-- them
pub record FrontFound (input output : List ℕ) : Type 0 where
  pub texts : TextsFound input output
  pub lines : HasLines (script_in input) (lines_in input output)
  pub marks : MarksConform (script_in input) (lines_in input output)

abbrev holds_of : {P : Type 0} → Option (Decided P) → Option P
holds_of (Some (yes p)) = Some p
holds_of (Some (no p)) = None
holds_of None = None

abbrev pub front_found : (input output : List ℕ) → Option (FrontFound input output)
front_found input output = found_three (λ t l m. record { texts = t; lines = l; marks = m }) (texts_found input output)
    (found (has_lines (script_in input) (lines_in input output)))
    (holds_of (marks_conform (script_in input) (lines_in input output)))

pub no_form : (input output : List ℕ) (o : Option (FrontFound input output)) → is_some o ≡ true →
    (MadeBook (script_in input) (lines_in input output) → ⊥) → FailsFirst forms_clause input output
no_form input output None e none = cc
no_form input output (Some f) e none = fails_with forms_clause input output f.texts (f.lines, f.marks, none)
