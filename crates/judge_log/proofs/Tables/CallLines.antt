-- A fact holds of each line of a transcript exactly if it holds of each line of the calls that group these lines.
use Rattle.std.proofs.Common.{ℕ, zero, suc, ◌<◌, List, [], ◌∷◌, length, arith}
use Rattle.std.specs.List.{AllByRecursion}
use Rattle.key_names.specs.declared.events.Event.{Event}
use Rattle.key_names.specs.Lanes.Book.{list_at}
use Rattle.key_names.specs.Callers.Calls.{all_calls, calls_of}
use Rattle.key_names.specs.Transcripts.SeenLine.{SeenLine}
use Rattle.key_names.specs.Transcripts.IsTranscript.{EachCaller, LinesFit}
use Rattle.key_names.proofs.Unique.UniqueMeanings.{OfCall}
use Rattle.key_names.proofs.Unique.UniqueLines.{Covers, calls_cover}

module _ (P : SeenLine → Type 0) where
  to_calls_from : (c : ℕ) (callers : List (List Event)) (t : List (List SeenLine)) →
      EachCaller (λ c events lines. LinesFit c 0 events lines) c callers t → AllByRecursion (AllByRecursion P) t →
      (i : ℕ) → AllByRecursion (OfCall P) (list_at (all_calls callers t) i)
  to_calls_from c [] t fit all i = tt
  to_calls_from c (events ∷ callers) [] fit all i = absurd fit
  to_calls_from c (events ∷ callers) (lines ∷ t) fit all zero =
      let cover : Covers P P [] lines (calls_of events lines) = calls_cover P P c events lines fit.0 in
      cover.to_calls tt all.0
  to_calls_from c (events ∷ callers) (lines ∷ t) fit all (suc i) =
      to_calls_from (suc c) callers t fit.1 all.1 i

  pub to_calls : (callers : List (List Event)) (t : List (List SeenLine)) →
      EachCaller (λ c events lines. LinesFit c 0 events lines) 0 callers t → AllByRecursion (AllByRecursion P) t →
      (i : ℕ) → AllByRecursion (OfCall P) (list_at (all_calls callers t) i)
  to_calls callers t fit all i = to_calls_from 0 callers t fit all i

  to_lines_from : (c : ℕ) (callers : List (List Event)) (t : List (List SeenLine)) →
      EachCaller (λ c events lines. LinesFit c 0 events lines) c callers t →
      ((i : ℕ) → i < length (all_calls callers t) → AllByRecursion (OfCall P) (list_at (all_calls callers t) i)) →
      AllByRecursion (AllByRecursion P) t
  to_lines_from c [] [] fit all = tt
  to_lines_from c [] (lines ∷ t) fit all = absurd fit
  to_lines_from c (events ∷ callers) [] fit all = tt
  to_lines_from c (events ∷ callers) (lines ∷ t) fit all =
      let cover : Covers P P [] lines (calls_of events lines) = calls_cover P P c events lines fit.0 in (
        (cover.to_lines (all 0 (omega arith))).1,
        to_lines_from (suc c) callers t fit.1 (λ i lt. all (suc i) (omega arith)),
      )

  pub to_lines : (callers : List (List Event)) (t : List (List SeenLine)) →
      EachCaller (λ c events lines. LinesFit c 0 events lines) 0 callers t →
      ((i : ℕ) → i < length (all_calls callers t) → AllByRecursion (OfCall P) (list_at (all_calls callers t) i)) →
      AllByRecursion (AllByRecursion P) t
  to_lines callers t fit all = to_lines_from 0 callers t fit all
