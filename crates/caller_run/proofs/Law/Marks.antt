-- The marks of all callers' lines are the book's visits: each visit has exactly one mark.
use Rattle.std.proofs.Common.{◌≡◌, ℕ, zero, suc, ◌+◌, ◌<◌, ◌≤◌, cond, List, [], ◌∷◌, length, refl, sym, ap, ◌∙◌, subst, arith, inl, inr, Bool, true, false, Some}
use Rattle.std.specs.Prelude.{◌==◌, if◌then◌else◌, slice_get}
use Rattle.std.specs.List.{AllByRecursion, flat_map, sum_by, range_with_len}
use Rattle.std.proofs.lemmas.List.Sums.{sum_by-cons}
use Rattle.key_names.specs.declared.events.Event.{Event}
use Rattle.key_names.specs.declared.names.LaneId.{LaneId}
use Rattle.key_names.specs.declared.names.LaneId.TheVariants.{Pool as PoolLane, Base as BaseLane, Cpu as CpuLane}
use Rattle.key_names.specs.declared.names.Mark.{Mark}
use Rattle.key_names.specs.Transcripts.SeenLine.{SeenLine}
use Rattle.key_names.specs.Transcripts.IsTranscript.{MarkBy, EachCaller, PlacesConform, VisitsAre, all_marks, line_marks, lane_marks, is_same_lane}
use Rattle.key_names.proofs.Lists.Each.{each_append, each_parts, each_weaker}
use Rattle.key_names.proofs.Transcripts.TranscriptBooks.{lt_or_le}
use Rattle.lane_table.specs.declared.view.View.{View}
use Rattle.lane_table.specs.LaneNumbers.{index_of}
use Rattle.lane_table.specs.WorldRule.{at, known_of}
use Rattle.lane_table.specs.Steps.{Grows}
use Rattle.lane_table.specs.Calls.{Ended, made_in}
use Rattle.lane_table.specs.BookLists.{StateLists, book_of}
use Rattle.lane_table.proofs.Book.BookMarks.{MarksVisit, all_made, MarksPlace}
use Rattle.lane_table.proofs.Book.BookEnds.{ended_visits, ended_places}
use Rattle.lane_table.proofs.Lists.Lists.{sum_by-map}
use Rattle.caller_run.specs.Laws.{Run, HasRun, lines_of_all, marked}
use Rattle.caller_run.proofs.Orders.CallSteps.{lines_items}
use Rattle.caller_run.proofs.Orders.CallWeights.{calls_each}
use Rattle.caller_run.proofs.Orders.Chains.{stood_grown}
use Rattle.caller_run.proofs.Law.LineMarks.{mark_of, marks_are, fit_own, lane_sum, same_lane}
use Rattle.caller_run.proofs.Planning.Sums.{each_flat, sum_range, sum_none, sum_same, sum_both, sum_ones, once_in_range}
use Rattle.std.proofs.lemmas.Bool.{eqb-true}
use Rattle.caller_run.specs.Items.{Item}
use Rattle.lane_table.specs.declared.view.Visit.{Visit}
use Rattle.lane_table.specs.Advances.{MadeStep, looked, visited}
use Rattle.lane_table.proofs.Lists.Places.{conforms_at}
use Rattle.caller_run.specs.NumberedSteps.{NumberedStep, item_of, items_of}
use Rattle.caller_run.specs.Ran.{Stood}

-- If each mark is the mark of a visit, each mark of `lane` is the mark of a visit of this lane

pub in_one_lane : (lanes : ℕ) (visits : ℕ → List Visit) (lane : LaneId) (marks : List MarkBy) →
    AllByRecursion (MarksVisit lanes visits) marks →
    AllByRecursion (MarksPlace (visits (index_of lane))) (lane_marks lane marks)
in_one_lane lanes visits lane [] all = tt
in_one_lane lanes visits lane (by ∷ marks) all =
    go (is_same_lane by.mark.lane lane) refl all.0 (in_one_lane lanes visits lane marks all.1)
  where
    go : (b : Bool) → is_same_lane by.mark.lane lane ≡ b → MarksVisit lanes visits by →
        AllByRecursion (MarksPlace (visits (index_of lane))) (lane_marks lane marks) →
        AllByRecursion (MarksPlace (visits (index_of lane)))
        (if b then by.mark ∷ lane_marks lane marks else lane_marks lane marks)
    go true is here rest =
        let same : index_of by.mark.lane ≡ index_of lane =
        eqb-true (index_of by.mark.lane) (index_of lane) (sym (same_lane by.mark.lane lane) ∙ is) in
        let there : slice_get (visits (index_of lane)) by.mark.place ≡ Some here.0 =
        ap (λ i. slice_get (visits i) by.mark.place) (sym same) ∙ here.2 in
        ((here.0, there, ap (λ s. s.0) here.3), rest)
    go false is here rest = rest

pub none_beyond : (lanes : ℕ) (visits : ℕ → List Visit) (lane : LaneId) (marks : List MarkBy) → lanes ≤ index_of lane →
    AllByRecursion (MarksVisit lanes visits) marks → lane_marks lane marks ≡ []
none_beyond lanes visits lane [] beyond all = refl
none_beyond lanes visits lane (by ∷ marks) beyond all =
    go (is_same_lane by.mark.lane lane) refl all.0 (none_beyond lanes visits lane marks beyond all.1)
  where
    go : (b : Bool) → is_same_lane by.mark.lane lane ≡ b → MarksVisit lanes visits by → lane_marks lane marks ≡ [] →
        (if b then by.mark ∷ lane_marks lane marks else lane_marks lane marks) ≡ []
    go true is here rest =
        let same : index_of by.mark.lane ≡ index_of lane =
        eqb-true (index_of by.mark.lane) (index_of lane) (sym (same_lane by.mark.lane lane) ∙ is) in
        let low = here.1 in absurd (omega arith)
    go false is here rest = rest

-- suppose that a caller made these steps, and that the view w records each visit among them (`Stood`)
module _ (caller : ℕ) (w : View) (numbered_steps : List NumberedStep)
    (stood : AllByRecursion (Stood w caller) numbered_steps) where
  -- each mark of the item is the mark of a visit
  abbrev Visits : Item → Type 0
  Visits item = AllByRecursion (MarksVisit (length w.lanes) (known_of w)) (mark_of caller item)

  pub items_visit : AllByRecursion Visits (items_of numbered_steps)
  items_visit = all numbered_steps stood
    where
      one : (d : NumberedStep) (made_step : MadeStep) →
          Stood w caller (record { event = d.event; number = d.number; made_step = made_step }) →
          Visits (item_of (record { event = d.event; number = d.number; made_step = made_step }))
      one d (looked g) here = tt
      one d (visited mark e) here = (
        (
          here.visit,
          here.near,
          conforms_at (known_of w (index_of mark.lane)) mark.place here.visit here.there,
          (λ i. (here.stamped i, here.by i)),
        ),
        tt,
      )

      all : (numbered_steps : List NumberedStep) → AllByRecursion (Stood w caller) numbered_steps →
          AllByRecursion Visits (items_of numbered_steps)
      all [] stood = tt
      all (d ∷ numbered_steps) stood = (one d d.made_step stood.0, all numbered_steps stood.1)

-- Each mark in the lines of a run is the mark of a visit

run_visits : (w : View) (caller : ℕ) (events : List Event) (r : Run) → HasRun caller events r →
    length w.lanes ≡ length r.end.lanes → Grows r.end w →
    AllByRecursion (MarksVisit (length w.lanes) (known_of w)) (flat_map line_marks r.lines)
run_visits w caller events r has sized grows =
    let c = r.begun.caller in let done = has.ended.done in let fit = has.ended.fit in
    let stood = stood_grown r.end w c done.numbered_steps sized grows done.ran.stood in
    let items = calls_each (λ item. AllByRecursion (MarksVisit (length w.lanes) (known_of w)) (mark_of c item)) c events
    r.lines fit (subst (AllByRecursion _) done.order (items_visit c w done.numbered_steps stood)) in
    let all : AllByRecursion (MarksVisit (length w.lanes) (known_of w)) (all_marks (r.lines ∷ [])) =
    subst (AllByRecursion (MarksVisit (length w.lanes) (known_of w)))
    (sym (marks_are c r.lines (fit_own c 0 events r.lines fit)))
    (each_flat (MarksVisit (length w.lanes) (known_of w)) (mark_of c) (lines_items r.lines) items) in
    (each_parts (MarksVisit (length w.lanes) (known_of w)) (flat_map line_marks r.lines) [] all).0

pub all_visit : (w : View) (k : ℕ) (callers : List (List Event)) (runs : List Run) → EachCaller HasRun k callers runs →
    AllByRecursion (λ r. length w.lanes ≡ length r.end.lanes) runs → AllByRecursion (λ r. Grows r.end w) runs →
    AllByRecursion (MarksVisit (length w.lanes) (known_of w)) (all_marks (lines_of_all runs))
all_visit w k [] [] each sized grows = tt
all_visit w k [] (r ∷ rs) each sized grows = absurd each
all_visit w k (es ∷ callers) [] each sized grows = absurd each
all_visit w k (es ∷ callers) (r ∷ rs) each sized grows =
    each_append (MarksVisit (length w.lanes) (known_of w)) (flat_map line_marks r.lines) (all_marks (lines_of_all rs))
    (run_visits w k es r each.0 sized.0 grows.0) (all_visit w (suc k) callers rs each.1 sized.1 grows.1)

-- The number of marks: each lane has as many marks as visits

abbrev lane_of : ℕ → LaneId
lane_of zero = PoolLane
lane_of (suc zero) = BaseLane
lane_of (suc (suc c)) = CpuLane c

lane_is : (i : ℕ) → index_of (lane_of i) ≡ i
lane_is zero = refl
lane_is (suc zero) = refl
lane_is (suc (suc c)) = omega arith

abbrev here_in : ℕ → MarkBy → ℕ
here_in i by = cond (index_of by.mark.lane == i) 1 0

total : (lanes : ℕ) (marks : List MarkBy) → AllByRecursion (λ by. index_of by.mark.lane < lanes) marks →
    length marks ≡ sum_by (λ i. sum_by (here_in i) marks) (range_with_len 0 lanes)
total lanes [] near = sym (sum_none (range_with_len 0 lanes))
total lanes (by ∷ marks) near =
    let rest = total lanes marks near.1 in
    let one : sum_by (λ i. here_in i by) (range_with_len 0 lanes) ≡ 1 =
    once_in_range (index_of by.mark.lane) 0 lanes (omega arith) (let n = near.0 in omega arith) in
    let same = sum_same (λ i. sum_by (here_in i) (by ∷ marks)) (λ i. here_in i by + sum_by (here_in i) marks)
    (range_with_len 0 lanes) (λ i. sum_by-cons (here_in i) by marks) in
    let both = sum_both (λ i. here_in i by) (λ i. sum_by (here_in i) marks) (range_with_len 0 lanes) in omega arith

module _ (w : View) (t : List (List SeenLine)) (callers : StateLists) (low : 2 ≤ length w.lanes)
    (ended : Ended (length w.lanes) w)
    (visit : AllByRecursion (MarksVisit (length w.lanes) (known_of w)) (all_marks t))
    (placed : (f : ℕ → ℕ) (lane : LaneId) → index_of lane < length w.lanes →
    sum_by f (at (index_of lane) w).places ≡ marked f lane t)
    (made : (lane : LaneId) → index_of lane < length w.lanes →
    (at (index_of lane) w).made ≡ marked (λ p. 1) lane t) where
  abbrev marks : List MarkBy
  marks = all_marks t

  in_index : (i : ℕ) → i < length w.lanes → sum_by (here_in i) marks ≡ length (known_of w i)
  in_index i near =
      let lane = lane_of i in let is = lane_is i in
      ap (λ (n : ℕ). sum_by (here_in n) marks) (sym is)
      ∙ sym (lane_sum (λ p. 1) lane marks)
      ∙ sum_by-map (λ p. 1) (λ (mark : Mark). mark.place) (lane_marks lane marks)
      ∙ sym (made lane (omega arith)) ∙ ended.made (index_of lane) (omega arith)
      ∙ ap (λ (n : ℕ). length (known_of w n)) is

  many : length marks ≡ sum_by made_in w.lanes
  many =
      total (length w.lanes) marks
      (each_weaker (MarksVisit (length w.lanes) (known_of w)) (λ by. index_of by.mark.lane < length w.lanes) marks
      (λ by v. v.1) visit)
      ∙ sum_range (λ i. sum_by (here_in i) marks) (λ i. length (known_of w i)) 0 (length w.lanes)
      (λ i near. in_index i (omega arith)) ∙ sym (all_made w ended.made)

  pub all_visits : VisitsAre (book_of (length w.lanes) (known_of w) callers) marks
  all_visits = ended_visits w callers low ended marks visit many

  counted : (lane : LaneId) → index_of lane < length w.lanes →
      length (lane_marks lane marks) ≡ (at (index_of lane) w).made
  counted lane near = sym (sum_ones (lane_marks lane marks)) ∙ sym (made lane near)

  pub all_places : (lane : LaneId) → PlacesConform (lane_marks lane marks)
  all_places lane = elim (lt_or_le (index_of lane) (length w.lanes)) [
    | inl near ↦ ended_places w callers low ended (index_of lane) near (lane_marks lane marks)
        (in_one_lane (length w.lanes) (known_of w) lane marks visit) (counted lane near)
        (λ place. sum_by-map (λ p. cond (p == place) 1 0) (λ (mark : Mark). mark.place) (lane_marks lane marks)
        ∙ sym (placed (λ p. cond (p == place) 1 0) lane near))
    | inr beyond ↦ subst PlacesConform (sym (none_beyond (length w.lanes) (known_of w) lane marks beyond visit))
        (record { once = tt; rise = tt })
  ]
