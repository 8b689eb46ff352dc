-- A case holds if the verdicts computed for it and for its near misses (changed transcripts) are the expected numbers.
use Rattle.std.proofs.Common.{◌≡◌, ℕ, List, [], ◌∷◌, map}
use Rattle.std.specs.List.{AllByRecursion}
use Rattle.key_names.specs.Transcripts.IsTranscript.{clause_number}
use Rattle.worked_cases.specs.Runs.{Case, NearMiss, Holds, FailsFirst, clause_missed, lines_with, transcript_with}
use Rattle.worked_cases.proofs.Decided.{first_same, rest_same}
use Rattle.worked_cases.proofs.Verdicts.{Lanes}
use Rattle.worked_cases.proofs.TextVerdicts.{text_verdict, lawful_run, fails_first}

abbrev miss_verdict : Case → Lanes → NearMiss → ℕ
miss_verdict case lanes miss = text_verdict case.script (transcript_with (lines_with case.lines miss)) lanes

abbrev number_missed : NearMiss → ℕ
number_missed miss = clause_number (clause_missed miss)

-- the verdict on the transcript of `case`, and then the verdicts on its near misses, each as a number
unfoldable pub verdicts : Case → Lanes → List ℕ
unfolding text_verdict
verdicts case lanes = text_verdict case.script (transcript_with case.lines) lanes ∷ map (miss_verdict case lanes)
    case.near_misses

misses_fail : (case : Case) (lanes : Lanes) (misses : List NearMiss) →
    map (miss_verdict case lanes) misses ≡ map number_missed misses →
    AllByRecursion (λ miss. FailsFirst (clause_missed miss) case.script
    (transcript_with (lines_with case.lines miss))) misses
misses_fail case lanes [] e = tt
misses_fail case lanes (miss ∷ misses) e = (
  fails_first (clause_missed miss) case.script (transcript_with (lines_with case.lines miss)) lanes
      (first_same _ _ _ _ e),
  misses_fail case lanes misses (rest_same _ _ _ _ e),
)

pub holds : (case : Case) (lanes : Lanes) → verdicts case lanes ≡ 0 ∷ map number_missed case.near_misses → Holds case
unfolding verdicts
holds case lanes e = record {
  lawful = lawful_run case.script (transcript_with case.lines) lanes (first_same _ _ _ _ e);
  near_misses = misses_fail case lanes case.near_misses (rest_same _ _ _ _ e);
}
