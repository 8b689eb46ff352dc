-- A script's transcript has exactly one line for each event and one more for each caller. An input that is not a script
-- with a transcript after it is refused.
use Rattle.std.proofs.Common.{◌≡◌, ◌<◌, ℕ, suc, ◌+◌, ◌≤◌, refl, List, [], ◌∷◌, length, sym, ◌∙◌, arith, inl, inr, true, ltb, Some}
use Rattle.std.specs.List.{sum_by}
use Rattle.std.proofs.lemmas.Bool.{lt-ltb}
use Rattle.std.proofs.lemmas.List.Concat.{length-flat_map}
use Rattle.std.proofs.lemmas.List.Sums.{sum_by-cons}
use Rattle.key_names.specs.declared.events.Event.{Event}
use Rattle.key_names.specs.declared.faults.FaultKind.TheVariants.{TooLong}
use Rattle.key_names.specs.Transcripts.IsTranscript.{HasLines}
use Rattle.key_names.specs.Texts.ScriptFaults.{front}
use Rattle.key_names.specs.Texts.ScriptGrammar.{Script, IsScript, WellFormed}
use Rattle.key_names.specs.Transcripts.SeenLine.{SeenLine}
use Rattle.key_names.proofs.Samples.Lines.{AllFit, fits_long}
use Rattle.transcript_text.specs.ReadTexts.{HasMoreLines}
use Rattle.tool_ends.specs.Pairs.{IsNoPair, IsNoText, LacksLines, RefusalOf, TellsFault, following, no_line, pair_fault, refusal_line}
use Rattle.tool_ends.specs.declared.pair.NotRead.{NotRead}
use Rattle.tool_ends.specs.declared.pair.NotRead.TheVariants.{ReadFault, Refused, NoTranscript, TooManyLines, NoMemory}
use Rattle.key_names.specs.declared.faults.ScriptFault.{ScriptFault}
use Rattle.tool_ends.specs.declared.status.Status.{Status}
use Rattle.tool_ends.specs.declared.status.Status.TheVariants.{Refused as IsRefused, No as IsNo}

-- if the lines are those that the script requires, there is exactly one line for each event, and one more for each
-- caller
lines_of_all : (c : ℕ) (callers : List (List Event)) (t : List (List SeenLine)) → AllFit c callers t
    → sum_by length t ≡ sum_by length callers + length callers
lines_of_all c [] [] fit = refl
lines_of_all c [] (lines ∷ t) fit = absurd fit
lines_of_all c (events ∷ callers) [] fit = absurd fit
lines_of_all c (events ∷ callers) (lines ∷ t) fit = omega (
  arith,
  sum_by-cons length lines t,
  sum_by-cons length events callers,
  fits_long c 0 events lines fit.0,
  lines_of_all (suc c) callers t fit.1,
)

pub few_lines : (script : Script) (t : List (List SeenLine)) → WellFormed script → HasLines script t
    → sum_by length t ≤ 65600
few_lines script t ok fit = omega (arith, ok.events, ok.callers.1, lines_of_all 0 script.callers t fit)

-- if a transcript has more lines than any script's transcript can have, the transcript's lines are not those that
-- `script` requires
pub too_many : (script : Script) (text : List ℕ) → WellFormed script → HasMoreLines 65600 text → LacksLines script text
too_many script text ok more = record {
  lines = more.callers;
  is_text = more.is_text;
  fails = λ has. absurd (omega (
    arith,
    more.many,
    few_lines script more.callers ok has,
    length-flat_map (λ ls. ls) more.callers,
  ));
}

-- the first fault of an input above the limit is that it is too long, at line 0
pub too_long : (input : List ℕ) → 100663296 < length input → pair_fault input ≡ Some (record { line = 0; kind = TooLong })
too_long input long = let is : ltb 100663296 (length input) ≡ true = lt-ltb _ _ long in rw is refl

-- a refusal that is right for one input above the limit is right for any other input above the limit
pub too_long_alike : (input all output : List ℕ) → 100663296 < length input → 100663296 < length all →
    TellsFault input output → TellsFault all output
too_long_alike input all output long too tells = record {
  fault = tells.fault;
  first = too_long all too ∙ sym (too_long input long) ∙ tells.first;
  line = tells.line;
}

-- if the text after the script is not read for the reason `why`, the whole input is not read for the reason `why`
pub no_pair : (input : List ℕ) (script : Script) → length input ≤ 100663296 → IsScript script (front input) →
    (why : NotRead) → IsNoText (following input) why → IsNoPair input why
no_pair input script short is ReadFault not = absurd not
no_pair input script short is (Refused fault) not = absurd not
no_pair input script short is NoTranscript not = record {
  short = short;
  script = script;
  is_script = is;
  clause = inl (refl, not);
}
no_pair input script short is TooManyLines not = (
  record {
    short = short;
    script = script;
    is_script = is;
    clause = inr (refl, too_many script (following input) is.well_formed not);
  },
  not,
)
no_pair input script short is NoMemory not = tt

-- ---- refusals and failed clauses, as lines of output

pub refused_by : (fault : ScriptFault) (line : List ℕ) → line ≡ refusal_line fault → (s : Status) (o : List ℕ) →
    (s ≡ IsRefused) × (o ≡ line) → RefusalOf (Refused fault) s o
refused_by fault line is s o said = (said.0, said.1 ∙ is)

pub failed_by : (number : ℕ) (line : List ℕ) → line ≡ no_line number → (s : Status) (o : List ℕ) →
    (s ≡ IsNo) × (o ≡ line) → (s ≡ IsNo) × (o ≡ no_line number)
failed_by number line is s o said = (said.0, said.1 ∙ is)
