-- `RunOf` allows the transcript of each run of a script's callers.
use Rattle.std.proofs.Common.{◌≡◌, ℕ, suc, refl, List, [], ◌∷◌, length, arith}
use Rattle.std.specs.List.{AllByRecursion}
use Rattle.key_names.specs.declared.events.Event.{Event}
use Rattle.key_names.specs.Transcripts.IsTranscript.{LinesFit}
use Rattle.key_names.specs.Texts.ScriptGrammar.{Script, WellFormed}
use Rattle.key_names.specs.Transcripts.SeenLine.{SeenLine}
use Rattle.key_names.specs.Texts.TranscriptGrammar.{UnderOwnNumber}
use Rattle.key_names.proofs.Samples.Lines.{AllFit}
use Rattle.lane_table.specs.declared.view.View.{View}
use Rattle.caller_run.specs.Laws.{LawfulRuns}
use Rattle.transcript_check.specs.Judged.{IsSound}
use Rattle.transcript_check.proofs.Sound.{lawful_is_sound}

-- if `lines` fit the events of caller `c`, each of them has the number `c` as its caller
own_lines : (c n : ℕ) (events : List Event) (lines : List SeenLine) → LinesFit c n events lines
    → AllByRecursion (λ line. line.caller ≡ c) lines
own_lines c n [] [] fit = absurd fit
own_lines c n [] (line ∷ []) fit = (fit.caller, tt)
own_lines c n [] (line ∷ next ∷ lines) fit = absurd fit
own_lines c n (event ∷ events) [] fit = absurd fit
own_lines c n (event ∷ events) (line ∷ lines) fit = (fit.0.caller, own_lines c (suc n) events lines fit.1)

pub under_own_number : (c : ℕ) (callers : List (List Event)) (t : List (List SeenLine)) → AllFit c callers t
    → UnderOwnNumber c t
under_own_number c [] [] fit = tt
under_own_number c [] (lines ∷ t) fit = absurd fit
under_own_number c (events ∷ callers) [] fit = absurd fit
under_own_number c (events ∷ callers) (lines ∷ t) fit =
    (own_lines c 0 events lines fit.0, under_own_number (suc c) callers t fit.1)

pub as_many : (c : ℕ) (callers : List (List Event)) (t : List (List SeenLine)) → AllFit c callers t
    → length t ≡ length callers
as_many c [] [] fit = refl
as_many c [] (lines ∷ t) fit = absurd fit
as_many c (events ∷ callers) [] fit = absurd fit
as_many c (events ∷ callers) (lines ∷ t) fit = omega (arith, as_many (suc c) callers t fit.1)

pub run_of : (script : Script) (t : List (List SeenLine)) → WellFormed script → (w : View) × LawfulRuns script t w →
    IsSound script t
run_of script t well ran = lawful_is_sound script t well _ _ ran.1.transcript
