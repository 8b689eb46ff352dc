-- Each call that made an interrupt of a sample gets a line of a transcript. The proof that the samples of the table's
-- book are lawful uses these lines.
use Rattle.std.proofs.Common.{◌≡◌, ℕ, suc, ◌+◌, ◌≤◌, inl, inr, List, [], ◌∷◌, ◌++◌, sym, ap, ◌∙◌, subst, refl, arith, Some}
use Rattle.std.specs.Prelude.{slice_get}
use Rattle.std.specs.List.{AllByRecursion, flat_map}
use Rattle.std.proofs.lemmas.List.{append-nil}
use Rattle.std.proofs.lemmas.Option.{slice_get_within}
use Rattle.key_names.specs.declared.entries.CpuEntry.{CpuEntry}
use Rattle.key_names.specs.declared.events.Answer.TheVariants.{Ok as Done}
use Rattle.key_names.specs.declared.events.Word.TheVariants.{Irq as IrqWord}
use Rattle.key_names.specs.declared.names.LaneId.{LaneId}
use Rattle.key_names.specs.declared.names.Step.{Step}
use Rattle.key_names.specs.Lanes.Book.{Book, Visit as BookVisit, lists_of}
use Rattle.key_names.specs.Callers.Effects.{effects_of}
use Rattle.key_names.specs.Transcripts.IsTranscript.{MarkBy, PlacesConform, VisitsAre, all_marks, lane_marks, line_marks, marks_from}
use Rattle.key_names.specs.Callers.LineSamples.{SamplesConform}
use Rattle.key_names.specs.Lanes.Samples.{LawfulSamples, fast_before, visits_of}
use Rattle.key_names.specs.Transcripts.SeenLine.{SeenLine, no_data}
use Rattle.key_names.proofs.History.SortedVisits.{IsIn}
use Rattle.key_names.proofs.Samples.Lines.{Apart}
use Rattle.key_names.proofs.Samples.SampleLaw.{samples_lawful}
use Rattle.lane_table.specs.declared.view.Visit.{Visit}
use Rattle.lane_table.specs.BookLaws.{ClosedLanes}
use Rattle.lane_table.specs.BookLists.{book_of}
use Rattle.lane_table.proofs.Book.BookSamples.{OfLane, cpu_visited, fast_met}
use Rattle.rng_core.specs.SampleEffects.{fast_in}
use Rattle.irq_feed.specs.TableFeed.{marks_of}

abbrev line : ℕ → List Step → SeenLine
line event steps =
    record { caller = 0; event = event; word = IrqWord; answer = Done; steps = steps; shown = no_data }

abbrev lines : ℕ → List (List Step) → List SeenLine
lines event [] = []
lines event (steps ∷ calls) = line event steps ∷ lines (suc event) calls

marks_are : (event : ℕ) (calls : List (List Step)) → flat_map line_marks (lines event calls) ≡ marks_of event calls
marks_are event [] = refl
marks_are event (steps ∷ calls) = ap (λ (l : List MarkBy). marks_from 0 event 0 steps ++ l) (marks_are (suc event) calls)

-- the event number of each line is `event` or greater
number_from : (event : ℕ) (calls : List (List Step)) (a : SeenLine) → IsIn a (lines event calls) → event ≤ a.event
number_from event [] a here = absurd here
number_from event (steps ∷ calls) a (inl is) = let e = ap (λ (l : SeenLine). l.event) is in omega arith
number_from event (steps ∷ calls) a (inr there) = let up = number_from (suc event) calls a there in omega arith

-- two lines with the same event number are the same line
one_line : (event : ℕ) (calls : List (List Step)) (a b : SeenLine) → IsIn a (lines event calls) →
    IsIn b (lines event calls) → a.event ≡ b.event → a ≡ b
one_line event [] a b x y same = absurd x
one_line event (steps ∷ calls) a b (inl x) (inl y) same = sym x ∙ y
one_line event (steps ∷ calls) a b (inl x) (inr y) same =
    let e = ap (λ (l : SeenLine). l.event) x in let up = number_from (suc event) calls b y in absurd (omega arith)
one_line event (steps ∷ calls) a b (inr x) (inl y) same =
    let e = ap (λ (l : SeenLine). l.event) y in let up = number_from (suc event) calls a x in absurd (omega arith)
one_line event (steps ∷ calls) a b (inr x) (inr y) same = one_line (suc event) calls a b x y same

lines_apart : (calls : List (List Step)) → Apart (lines 0 calls ∷ [])
lines_apart calls a b (la, inl x, ina) (lb, inl y, inb) by same =
    one_line 0 calls a b (subst (λ (l : List SeenLine). IsIn a l) (sym x) ina)
    (subst (λ (l : List SeenLine). IsIn b l) (sym y) inb) same
lines_apart calls a b (la, inl x, ina) (lb, inr y, inb) by same = absurd y
lines_apart calls a b (la, inr x, ina) among by same = absurd x

module _ (calls : List (List Step)) (visits : ℕ → List Visit) (closed : ClosedLanes 3 visits)
    (made : VisitsAre (book_of 3 visits []) (marks_of 0 calls))
    (places : (lane : LaneId) → PlacesConform (lane_marks lane (marks_of 0 calls))) where
  abbrev book : Book
  book = book_of 3 visits []

  abbrev Conform : List Step → Type 0
  Conform steps = SamplesConform (fast_in visits) (effects_of (lists_of book) steps)

  conform_in : (event : ℕ) (some : List (List Step)) → AllByRecursion Conform some →
      AllByRecursion (λ l. Conform l.steps) (lines event some)
  conform_in event [] all = tt
  conform_in event (steps ∷ some) all = (all.0, conform_in (suc event) some all.1)

  fast_is : (c place : ℕ) (v : BookVisit CpuEntry) → slice_get (visits_of book c) place ≡ Some v →
      fast_before (visits_of book c) place ≡ fast_in visits c place
  fast_is c place v at =
      let x : OfLane 3 visits [] c place v = cpu_visited 3 visits [] closed c place v at in
      let within = slice_get_within (visits (c + 2)) place x.visited.visit x.visited.conforms in
      fast_met 3 visits [] closed c place x.below (omega arith)

  pub lawful_samples : AllByRecursion Conform calls → LawfulSamples book
  lawful_samples conform =
      let marks : all_marks (lines 0 calls ∷ []) ≡ marks_of 0 calls =
      append-nil (flat_map line_marks (lines 0 calls)) ∙ marks_are 0 calls in
      samples_lawful (lines 0 calls ∷ []) book (fast_in visits) fast_is (lines_apart calls)
      (subst (λ (l : List MarkBy). VisitsAre book l) (sym marks) made)
      (subst (λ (l : List MarkBy). (lane : LaneId) → PlacesConform (lane_marks lane l)) (sym marks) places)
      (conform_in 0 calls conform, tt)
