-- A fact about a lane and a place holds of all marks exactly if it holds of each visit of the lines. The lines of all
-- calls have the same visits.
use Rattle.std.proofs.Common.{ℕ, suc, List, [], ◌∷◌}
use Rattle.std.specs.Bool.{⊤}
use Rattle.std.specs.List.{AllByRecursion, flat_map}
use Rattle.key_names.specs.declared.events.Event.{Event}
use Rattle.key_names.specs.declared.names.LaneId.{LaneId}
use Rattle.key_names.specs.declared.names.Step.{Step}
use Rattle.key_names.specs.declared.names.Step.TheVariants.{Look, Visit as Marked}
use Rattle.key_names.specs.Callers.Calls.{all_calls}
use Rattle.key_names.specs.Transcripts.SeenLine.{SeenLine}
use Rattle.key_names.specs.Transcripts.IsTranscript.{LinesFit, EachCaller, MarkBy, marks_from, line_marks, all_marks}
use Rattle.key_names.proofs.Lists.Each.{each_append, each_parts}
use Rattle.key_names.proofs.Unique.UniqueLines.{calls_cover}
use Rattle.key_names.proofs.Unique.UniqueMeanings.{OfCall}

module _ (Q : LaneId → ℕ → Type 0) where
  abbrev pub StepHas : Step → Type 0
  StepHas (Look g) = ⊤
  StepHas (Marked mark) = Q mark.lane mark.place

  abbrev pub MarkHas : MarkBy → Type 0
  MarkHas by = Q by.mark.lane by.mark.place

  abbrev pub LineHas : SeenLine → Type 0
  LineHas line = AllByRecursion StepHas line.steps

  steps_have : (c n i : ℕ) (steps : List Step) → AllByRecursion MarkHas (marks_from c n i steps) →
      AllByRecursion StepHas steps
  steps_have c n i [] all = tt
  steps_have c n i (Look g ∷ steps) all = (tt, steps_have c n (suc i) steps all)
  steps_have c n i (Marked mark ∷ steps) all = (all.0, steps_have c n (suc i) steps all.1)

  marks_have : (c n i : ℕ) (steps : List Step) → AllByRecursion StepHas steps →
      AllByRecursion MarkHas (marks_from c n i steps)
  marks_have c n i [] all = tt
  marks_have c n i (Look g ∷ steps) all = marks_have c n (suc i) steps all.1
  marks_have c n i (Marked mark ∷ steps) all = (all.0, marks_have c n (suc i) steps all.1)

  lines_have : (lines : List SeenLine) → AllByRecursion MarkHas (flat_map line_marks lines) →
      AllByRecursion LineHas lines
  lines_have [] all = tt
  lines_have (line ∷ lines) all =
      let parts = each_parts MarkHas (line_marks line) (flat_map line_marks lines) all in
      (steps_have line.caller line.event 0 line.steps parts.0, lines_have lines parts.1)

  of_lines : (lines : List SeenLine) → AllByRecursion LineHas lines →
      AllByRecursion MarkHas (flat_map line_marks lines)
  of_lines [] all = tt
  of_lines (line ∷ lines) all =
      each_append MarkHas (line_marks line) (flat_map line_marks lines)
      (marks_have line.caller line.event 0 line.steps all.0) (of_lines lines all.1)

  pub all_lines : (t : List (List SeenLine)) → AllByRecursion MarkHas (all_marks t) →
      AllByRecursion (λ lines. AllByRecursion LineHas lines) t
  all_lines [] all = tt
  all_lines (lines ∷ t) all =
      let parts = each_parts MarkHas (flat_map line_marks lines) (all_marks t) all in
      (lines_have lines parts.0, all_lines t parts.1)

  pub all_of_lines : (t : List (List SeenLine)) → AllByRecursion (λ lines. AllByRecursion LineHas lines) t →
      AllByRecursion MarkHas (all_marks t)
  all_of_lines [] all = tt
  all_of_lines (lines ∷ t) all =
      each_append MarkHas (flat_map line_marks lines) (all_marks t) (of_lines lines all.0) (all_of_lines t all.1)

-- `P` holds of each line of a transcript exactly if it holds of each line of the calls
module _ (P : SeenLine → Type 0) where
  pub to_callers : (c : ℕ) (ess : List (List Event)) (t : List (List SeenLine)) →
      EachCaller (λ c events lines. LinesFit c 0 events lines) c ess t →
      AllByRecursion (λ lines. AllByRecursion P lines) t →
      AllByRecursion (λ calls. AllByRecursion (OfCall P) calls) (all_calls ess t)
  to_callers c [] [] fit all = tt
  to_callers c [] (lines ∷ t) fit all = absurd fit
  to_callers c (es ∷ ess) [] fit all = absurd fit
  to_callers c (es ∷ ess) (lines ∷ t) fit all =
      ((calls_cover P P c es lines fit.0).to_calls tt all.0, to_callers (suc c) ess t fit.1 all.1)

  pub to_all_lines : (c : ℕ) (ess : List (List Event)) (t : List (List SeenLine)) →
      EachCaller (λ c events lines. LinesFit c 0 events lines) c ess t →
      AllByRecursion (λ calls. AllByRecursion (OfCall P) calls) (all_calls ess t) →
      AllByRecursion (λ lines. AllByRecursion P lines) t
  to_all_lines c [] [] fit all = tt
  to_all_lines c [] (lines ∷ t) fit all = absurd fit
  to_all_lines c (es ∷ ess) [] fit all = absurd fit
  to_all_lines c (es ∷ ess) (lines ∷ t) fit all =
      (((calls_cover P P c es lines fit.0).to_lines all.0).1, to_all_lines (suc c) ess t fit.1 all.1)
