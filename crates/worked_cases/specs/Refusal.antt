-- Near misses (changed transcripts) are refused.
use Rattle.std.specs.Prelude.{ℕ, List}
use Rattle.key_names.specs.Transcripts.IsTranscript.{Clause}
use Rattle.worked_cases.specs.Runs.{IsLawfulRun, FailsFirst}

-- if `clause` is the first that fails for `input`, a script's text, and `output`, a transcript's text, then the
-- transcript is not lawful for the script
abbrev pub FailsIsRefused : Type 0
FailsIsRefused = (clause : Clause) (input output : List ℕ) → FailsFirst clause input output → ¬ IsLawfulRun input output
