-- The marks in the traces of successive calls are exactly the visits that the pass made. If the pass made all visits
-- of a table of three lanes, the marks are the visits of the table's book.
use Rattle.std.proofs.Common.{◌≡◌, ℕ, zero, suc, ◌+◌, ◌<◌, List, [], ◌∷◌, ◌++◌, length, map, refl, sym, ap, ◌∙◌, subst, arith, Bool, true, false, cond, nat_eq, lit<, length-append, append_assoc}
use Rattle.std.specs.Prelude.{slice_index_or}
use Rattle.std.specs.List.{AllByRecursion, sum_by}
use Rattle.std.proofs.lemmas.List.{map-append, append-nil}
use Rattle.std.proofs.lemmas.List.Sums.{sum_by-cons}
use Rattle.key_names.specs.declared.names.Mark.{Mark}
use Rattle.key_names.specs.declared.names.Step.{Step}
use Rattle.key_names.specs.Transcripts.IsTranscript.{MarkBy, VisitsAre, marks_from}
use Rattle.key_names.proofs.Lists.Each.{each_append, each_weaker}
use Rattle.lane_table.specs.declared.view.LaneEntry.{LaneEntry}
use Rattle.lane_table.specs.declared.view.LaneView.{LaneView}
use Rattle.lane_table.specs.declared.view.View.{View}
use Rattle.lane_table.specs.BookLists.{book_of}
use Rattle.lane_table.specs.Calls.{Ended, SameView, made_in, plan_of}
use Rattle.lane_table.specs.LaneNumbers.{index_of}
use Rattle.lane_table.specs.Steps.{Grows, first_view}
use Rattle.lane_table.specs.Advances.{AllConform, Climbs, MadeStep, IsMarkOf, looked, places_in, stamps_in, step_of, visited}
use Rattle.lane_table.specs.WorldRule.{at, blank, known_of}
use Rattle.lane_table.proofs.Book.BookEnds.{ended_visits}
use Rattle.lane_table.proofs.Book.BookMarks.{MarksVisit}
use Rattle.lane_table.proofs.Lists.Places.{conforms_at}
use Rattle.lane_table.proofs.Lists.VisitLists.{begins_refl, begins_trans}
use Rattle.lane_table.proofs.Calls.AdvanceLemmas.{climbs_append, mark_grown}
use Rattle.rng_core.specs.declared.setting.Setting.{Setting}
use Rattle.rng_core.specs.Traces.{TraceRecords, knowing}

-- ---- The marks of one lane

abbrev pub either : Bool → Mark → List Mark → List Mark
either here m ms = cond here (m ∷ ms) ms

-- the marks that are of lane `lane`
abbrev pub lane_of : ℕ → List MarkBy → List Mark
lane_of lane [] = []
lane_of lane (by ∷ marks) = cond (nat_eq (index_of by.mark.lane) lane) (by.mark ∷ lane_of lane marks) (lane_of lane marks)

abbrev pub marks_in : ℕ → List MarkBy → ℕ
marks_in lane marks = length (lane_of lane marks)

abbrev pub places : List Mark → List ℕ
places ms = map (λ m. m.place) ms

abbrev pub stamps_of : List MarkBy → List ℕ
stamps_of marks = map (λ by. by.mark.stamp) marks

pub lane_append : (lane : ℕ) (xs ys : List MarkBy) → lane_of lane (xs ++ ys) ≡ lane_of lane xs ++ lane_of lane ys
lane_append lane [] ys = refl
lane_append lane (by ∷ xs) ys = go (nat_eq (index_of by.mark.lane) lane) (lane_append lane xs ys)
  where
    go : (b : Bool) → lane_of lane (xs ++ ys) ≡ lane_of lane xs ++ lane_of lane ys →
        either b by.mark (lane_of lane (xs ++ ys)) ≡ either b by.mark (lane_of lane xs) ++ lane_of lane ys
    go true rest = ap (λ (l : List Mark). by.mark ∷ l) rest
    go false rest = rest

pub marks_both : (lane : ℕ) (xs ys : List MarkBy) → marks_in lane (xs ++ ys) ≡ marks_in lane xs + marks_in lane ys
marks_both lane xs ys = ap length (lane_append lane xs ys) ∙ length-append (lane_of lane xs) (lane_of lane ys)

-- ---- The visits of the calls that a pass has made

-- the view `v` knows the visit of the mark `by`
abbrev pub IsKnown : View → MarkBy → Type 0
IsKnown v by = (e : LaneEntry) × IsMarkOf v by.mark by.who e

-- from the view `v` to `w` the pass made exactly the visits of `marks`
pub record Path (v w : View) (marks : List MarkBy) : Type 0 where
  pub same : SameView v w
  pub grows : Grows v w
  pub made : (lane : ℕ) → lane < length v.lanes → (at lane w).made ≡ (at lane v).made + marks_in lane marks
  pub placed : (lane : ℕ) → lane < length v.lanes → (at lane w).places ≡ (at lane v).places ++ places (lane_of lane marks)
  pub climbs : Climbs v.stamp (stamps_of marks) w.stamp
  pub known : AllByRecursion (IsKnown w) marks

-- if `w` continues `v`, each visit that `v` knows is known to `w`
pub known_grown : (v w : View) (marks : List MarkBy) → length w.lanes ≡ length v.lanes → Grows v w →
    AllByRecursion (IsKnown v) marks → AllByRecursion (IsKnown w) marks
known_grown v w marks sized grows = each_weaker (IsKnown v) (IsKnown w) marks
    (λ by k. (k.0, mark_grown v w by.mark by.who k.0 sized grows k.1))

length_places : (ms : List Mark) → length (places ms) ≡ length ms
length_places [] = refl
length_places (m ∷ ms) = ap suc (length_places ms)

module _ (caller event : ℕ) where
  abbrev marks_at : ℕ → List MadeStep → List MarkBy
  marks_at n made_steps = marks_from caller event n (map step_of made_steps)

  places_by : (lane n : ℕ) (made_steps : List MadeStep) →
      places_in lane made_steps ≡ places (lane_of lane (marks_at n made_steps))
  places_by lane n [] = refl
  places_by lane n (looked g ∷ made_steps) = places_by lane (suc n) made_steps
  places_by lane n (visited mark e ∷ made_steps) =
      go (nat_eq (index_of mark.lane) lane) (places_by lane (suc n) made_steps)
    where
      go : (b : Bool) → places_in lane made_steps ≡ places (lane_of lane (marks_at (suc n) made_steps)) →
          cond b (mark.place ∷ places_in lane made_steps) (places_in lane made_steps)
          ≡ places (either b mark (lane_of lane (marks_at (suc n) made_steps)))
      go true rest = ap (λ (l : List ℕ). mark.place ∷ l) rest
      go false rest = rest

  stamps_by : (n : ℕ) (made_steps : List MadeStep) → stamps_in made_steps ≡ stamps_of (marks_at n made_steps)
  stamps_by n [] = refl
  stamps_by n (looked g ∷ made_steps) = stamps_by (suc n) made_steps
  stamps_by n (visited mark e ∷ made_steps) = ap (λ (l : List ℕ). mark.stamp ∷ l) (stamps_by (suc n) made_steps)

  known_by : (w : View) (n : ℕ) (made_steps : List MadeStep) → AllConform w caller event n made_steps →
      AllByRecursion (IsKnown w) (marks_at n made_steps)
  known_by w n [] conform = tt
  known_by w n (looked g ∷ made_steps) conform = known_by w (suc n) made_steps conform
  known_by w n (visited mark e ∷ made_steps) conform = ((e, conform.0), known_by w (suc n) made_steps conform.1)

-- if `TraceRecords` holds for a call, the call made exactly the visits that its trace lists
pub path_recorded : (set : Setting) (v w : View) (steps : List Step) (made_steps : List MadeStep) →
    TraceRecords set (knowing v []) (knowing w steps) made_steps → Path v w (marks_from set.caller set.event 0 steps)
path_recorded set v w steps made_steps is =
    let c : ℕ = set.caller in
    let e : ℕ = set.event in
    let go : Path v w (marks_at c e 0 made_steps) = record {
      same = is.went.same;
      grows = is.went.grows;
      made = λ lane low. is.went.made lane low
          ∙ ap (λ (k : ℕ). (at lane v).made + k)
          (ap length (places_by c e lane 0 made_steps) ∙ length_places (lane_of lane (marks_at c e 0 made_steps)));
      placed = λ lane low. is.went.places lane low
          ∙ ap (λ (l : List ℕ). (at lane v).places ++ l) (places_by c e lane 0 made_steps);
      climbs = subst (λ (l : List ℕ). Climbs v.stamp l w.stamp) (stamps_by c e 0 made_steps) is.went.climbs;
      known = known_by c e w 0 made_steps is.went.conform;
    } in
    subst (λ (l : List Step). Path v w (marks_from c e 0 l)) (sym is.trace) go

pub path_none : (v : View) → Path v v []
path_none v = record {
  same = record { first = refl; share = refl; halvings = refl; sized = refl };
  grows = λ lane low. begins_refl (known_of v lane);
  made = λ lane low. omega arith;
  placed = λ lane low. sym (append-nil (at lane v).places);
  climbs = refl;
  known = tt;
}

pub path_then : (u v w : View) (xs ys : List MarkBy) → Path u v xs → Path v w ys → Path u w (xs ++ ys)
path_then u v w xs ys a b = record {
  same = record {
    first = b.same.first ∙ a.same.first;
    share = b.same.share ∙ a.same.share;
    halvings = b.same.halvings ∙ a.same.halvings;
    sized = b.same.sized ∙ a.same.sized;
  };
  grows = λ lane low. begins_trans (known_of u lane) (known_of v lane) (known_of w lane) (a.grows lane low)
      (b.grows lane (let n = a.same.sized in omega arith));
  made = λ lane low.
      let one = a.made lane low in
      let two = b.made lane (let n = a.same.sized in omega arith) in
      let both = marks_both lane xs ys in
      omega arith;
  placed = λ lane low.
      b.placed lane (let n = a.same.sized in omega arith)
      ∙ ap (λ (l : List ℕ). l ++ places (lane_of lane ys)) (a.placed lane low)
      ∙ append_assoc (at lane u).places (places (lane_of lane xs)) (places (lane_of lane ys))
      ∙ ap (λ (l : List ℕ). (at lane u).places ++ l)
      (sym (map-append (λ (m : Mark). m.place) (lane_of lane xs) (lane_of lane ys))
      ∙ ap places (sym (lane_append lane xs ys)));
  climbs = subst (λ (l : List ℕ). Climbs u.stamp l w.stamp) (sym (map-append (λ (by : MarkBy). by.mark.stamp) xs ys))
      (climbs_append u.stamp v.stamp w.stamp (stamps_of xs) (stamps_of ys) a.climbs b.climbs);
  known = each_append (IsKnown w) xs ys (known_grown v w xs b.same.sized b.grows a.known) b.known;
}

-- ---- A table of three lanes, after all its visits

one_lane : (i : ℕ) → i < 3 → cond (nat_eq i 0) 1 0 + cond (nat_eq i 1) 1 0 + cond (nat_eq i 2) 1 0 ≡ 1
one_lane zero low = refl
one_lane (suc zero) low = refl
one_lane (suc (suc zero)) low = refl
one_lane (suc (suc (suc i))) low = absurd (omega arith)

counts_one : (b : Bool) (m : Mark) (ms : List Mark) → length (either b m ms) ≡ cond b 1 0 + length ms
counts_one true m ms = omega arith
counts_one false m ms = omega arith

by_lanes : (marks : List MarkBy) → AllByRecursion (λ by. index_of by.mark.lane < 3) marks →
    length marks ≡ marks_in 0 marks + marks_in 1 marks + marks_in 2 marks
by_lanes [] near = refl
by_lanes (by ∷ marks) near =
    let i : ℕ = index_of by.mark.lane in
    let rest = by_lanes marks near.1 in
    let one = one_lane i near.0 in
    let a = counts_one (nat_eq i 0) by.mark (lane_of 0 marks) in
    let b = counts_one (nat_eq i 1) by.mark (lane_of 1 marks) in
    let c = counts_one (nat_eq i 2) by.mark (lane_of 2 marks) in
    omega arith

made_of_three : (v : View) → length v.lanes ≡ 3 →
    sum_by made_in v.lanes ≡ (at 0 v).made + (at 1 v).made + (at 2 v).made
made_of_three v n = go v.lanes n
  where
    go : (l : List LaneView) → length l ≡ 3 → sum_by made_in l
        ≡ made_in (slice_index_or l 0 blank) + made_in (slice_index_or l 1 blank) + made_in (slice_index_or l 2 blank)
    go [] e = absurd (omega arith)
    go (a ∷ []) e = absurd (omega arith)
    go (a ∷ b ∷ []) e = absurd (omega arith)
    go (a ∷ b ∷ c ∷ []) e =
        let x = sum_by-cons made_in a (b ∷ c ∷ []) in
        let y = sum_by-cons made_in b (c ∷ []) in
        let z = sum_by-cons made_in c [] in
        omega arith
    go (a ∷ b ∷ c ∷ d ∷ l) e = absurd (omega arith)

-- suppose that a pass made all visits of a table and knows the visit of each mark, and that each lane has as many
-- visits as marks. Then the marks are the visits of the table's book
pub three_visits : (w : View) (marks : List MarkBy) → length w.lanes ≡ 3 → Ended (length w.lanes) w →
    ((lane : ℕ) → lane < 3 → (at lane w).made ≡ marks_in lane marks) → AllByRecursion (IsKnown w) marks →
    VisitsAre (book_of (length w.lanes) (known_of w) []) marks
three_visits w marks wide ended made known = ended_visits w [] (let n = wide in omega arith) ended marks visit many
  where
    visit : AllByRecursion (MarksVisit (length w.lanes) (known_of w)) marks
    visit = each_weaker (IsKnown w) (MarksVisit (length w.lanes) (known_of w)) marks
        (λ by k. let m = k.1 in (
          m.visit,
          m.near,
          conforms_at (known_of w (index_of by.mark.lane)) by.mark.place m.visit m.there,
          (λ i. (m.stamped i, m.by i)),
        )) known

    many : length marks ≡ sum_by made_in w.lanes
    many =
        let n = wide in
        let near = each_weaker (IsKnown w) (λ by. index_of by.mark.lane < 3) marks
        (λ by k. let e = k.1.near in omega arith) known in
        let count = by_lanes marks near in
        let all = made_of_three w wide in
        let a = made 0 (lit< tt) in
        let b = made 1 (lit< tt) in
        let c = made 2 (lit< tt) in
        omega arith

-- the view of a new table of three lanes
abbrev pub start : View
start = first_view (plan_of 3 0)

pub none_made : (lane : ℕ) → lane < 3 → (at lane start).made ≡ 0
none_made zero low = refl
none_made (suc zero) low = refl
none_made (suc (suc zero)) low = refl
none_made (suc (suc (suc lane))) low = absurd (omega arith)

pub path_visits : (w : View) (marks : List MarkBy) → Path start w marks → Ended (length w.lanes) w →
    VisitsAre (book_of (length w.lanes) (known_of w) []) marks
path_visits w marks path ended = three_visits w marks path.same.sized ended
    (λ lane low. let some = path.made lane low in let none = none_made lane low in omega arith) path.known
