-- Marks of visits agree with the book: each visit is in the book at its place, with its stamp and its maker, and
-- stamps rise along a lane. Proofs that a transcript's marks are right use these lemmas.
use Rattle.std.proofs.Common.{◌≡◌, ℕ, zero, suc, ◌+◌, ◌-◌, ◌≤◌, ◌<◌, cond, List, [], ◌∷◌, length, map, refl, sym, ap, subst, ◌∙◌, arith, Some}
use Rattle.std.specs.Prelude.{◌==◌, count_by, slice_get, slice_index_or, option_and_then}
use Rattle.std.specs.List.{AllByRecursion, sum_by, range_with_len}
use Rattle.std.proofs.lemmas.List.Sums.{sum_by-cons}
use Rattle.std.proofs.lemmas.Bool.Decides.{nat_tests}
use Rattle.key_names.specs.declared.names.LaneId.{LaneId}
use Rattle.key_names.specs.declared.names.LaneId.TheVariants.{Pool as PoolLane, Base as BaseLane, Cpu as CpuLane}
use Rattle.key_names.specs.declared.names.Mark.{Mark}
use Rattle.key_names.specs.declared.names.Who.{Who}
use Rattle.key_names.specs.Lanes.Book.{Book}
use Rattle.key_names.specs.Lanes.Book as of_book
use Rattle.key_names.specs.Transcripts.IsTranscript.{MarkBy, PlacesConform, stamped, stamped_at, visit_count, VisitsAre}
use Rattle.key_names.proofs.Lists.Each.{each_weaker}
use Rattle.key_names.proofs.Lists.MarkLists.{each_once}
use Rattle.lane_table.specs.declared.view.Visit.{Visit}
use Rattle.lane_table.specs.declared.view.LaneView.{LaneView}
use Rattle.lane_table.specs.declared.view.View.{View}
use Rattle.lane_table.specs.Meaning.{LawfulLane}
use Rattle.lane_table.specs.LaneNumbers.{index_of}
use Rattle.lane_table.specs.WorldRule.{Rising, times, once_below, blank, at, known_of}
use Rattle.lane_table.specs.BookLists.{StateLists, book_visits, cpu_entry, book_of}
use Rattle.lane_table.specs.BookLaws.{ClosedLanes}
use Rattle.lane_table.proofs.Book.BookEntries.{Kind, VisitAt, pool_kind, base_kind, cpu_kind, one_kind, lane_at, visit_at, visits_length}
use Rattle.lane_table.proofs.Book.BookWhole.{cpu_visits}

-- the stamp and the maker of a visit
abbrev pub stamp_of : Visit → ℕ × Who
stamp_of x = (x.stamp, x.who)

-- the number of visits in `count` lanes, from the lane `lane` on
abbrev pub visits_in : (ℕ → List Visit) → ℕ → ℕ → ℕ
visits_in visits lane count = sum_by (λ lane. length (visits lane)) (range_with_len lane count)

-- the mark `by` has the lane, the place, the stamp and the maker of a visit in the lists `visits`
abbrev pub MarksVisit : ℕ → (ℕ → List Visit) → MarkBy → Type 0
MarksVisit lanes visits by =
    (x : Visit) × (index_of by.mark.lane < lanes)
    × (slice_get (visits (index_of by.mark.lane)) by.mark.place ≡ Some x)
    × (stamp_of x ≡ (by.mark.stamp, by.who))

module _ (lanes : ℕ) (visits : ℕ → List Visit) (callers : StateLists) (ok : ClosedLanes lanes visits) where
  abbrev book : Book
  book = book_of lanes visits callers

  stamped_there : {E : Type 0} {lane : ℕ} (k : Kind E lane) (xs : List Visit) → LawfulLane lanes lane xs →
      (place : ℕ) (x : Visit) → slice_get xs place ≡ Some x →
      stamped (book_visits k.of xs) place ≡ Some (stamp_of x)
  stamped_there {E = E} k xs lawful place x at =
      let v : VisitAt k lanes xs place x = lane_at k lanes xs lawful place x at in
      ap (option_and_then (λ (visit : of_book.Visit E). Some (visit.stamp, visit.who)))
      (visit_at k.of xs (one_kind k lanes xs lawful) place x v.entry at (ap k.of v.is ∙ k.unwraps v.entry))

  -- each visit is in the book with its stamp and its maker
  pub stamped_here : (lane : LaneId) (place : ℕ) (x : Visit) → index_of lane < lanes →
      slice_get (visits (index_of lane)) place ≡ Some x → stamped_at book lane place ≡ Some (stamp_of x)
  stamped_here PoolLane place x below at = stamped_there pool_kind (visits 0) (ok.lawful 0 below) place x at
  stamped_here BaseLane place x below at = stamped_there base_kind (visits 1) (ok.lawful 1 below) place x at
  stamped_here (CpuLane c) place x below at =
      ap (λ xs. stamped xs place) (cpu_visits lanes visits callers c below)
      ∙ stamped_there (cpu_kind c) (visits (c + 2)) (ok.lawful (c + 2) below) place x at

  lane_length : {E : Type 0} {lane : ℕ} (k : Kind E lane) → LawfulLane lanes lane (visits lane) →
      length (book_visits k.of (visits lane)) ≡ length (visits lane)
  lane_length {lane = lane} k lawful = visits_length k.of (visits lane) (one_kind k lanes (visits lane) lawful)

  cpus_count : (first count : ℕ) → first + count + 2 ≤ lanes →
      sum_by (λ xs. length xs) (map (λ c. book_visits cpu_entry (visits (c + 2))) (range_with_len first count))
      ≡ visits_in visits (first + 2) count
  cpus_count first zero within = refl
  cpus_count first (suc count) within =
      let f = λ (c : ℕ). book_visits cpu_entry (visits (c + 2)) in
      let next : (first + 1) + 2 ≡ (first + 2) + 1 = omega arith in
      let here : length (f first) ≡ length (visits (first + 2)) =
      lane_length (cpu_kind first) (ok.lawful (first + 2) (omega arith)) in
      let rest : sum_by (λ xs. length xs) (map f (range_with_len (first + 1) count))
      ≡ visits_in visits ((first + 2) + 1) count =
      cpus_count (first + 1) count (omega arith) ∙ ap (λ lane. visits_in visits lane count) next in
      sum_by-cons (λ xs. length xs) (f first) (map f (range_with_len (first + 1) count))
      ∙ (λ k. here k + rest k)
      ∙ sym (sum_by-cons (λ lane. length (visits lane)) (first + 2) (range_with_len ((first + 2) + 1) count))

  -- the book and the lanes have the same number of visits
  pub counted_visits : visit_count book ≡ visits_in visits 0 lanes
  counted_visits =
      let all : lanes ≡ suc (suc (lanes - 2)) = omega arith in
      let f = λ (lane : ℕ). length (visits lane) in
      let cpus : sum_by (λ xs. length xs) book.cpus ≡ visits_in visits 2 (lanes - 2) =
      cpus_count 0 (lanes - 2) (omega arith) in
      let pool : length book.pool ≡ length (visits 0) = lane_length pool_kind (ok.lawful 0 (omega arith)) in
      let base : length book.base ≡ length (visits 1) = lane_length base_kind (ok.lawful 1 (omega arith)) in
      let first : visits_in visits 0 (suc (suc (lanes - 2)))
      ≡ length (visits 0) + visits_in visits 1 (suc (lanes - 2)) =
      sum_by-cons f 0 (range_with_len 1 (suc (lanes - 2))) in
      let second : visits_in visits 1 (suc (lanes - 2)) ≡ length (visits 1) + visits_in visits 2 (lanes - 2) =
      sum_by-cons f 1 (range_with_len 2 (lanes - 2)) in
      let sum : visit_count book ≡ visits_in visits 0 (suc (suc (lanes - 2))) = omega arith in
      sum ∙ ap (visits_in visits 0) (sym all)

  -- if each mark belongs to a visit (`MarksVisit`), and there are as many marks as visits, the marks are exactly the
  -- marks of the book's visits
  pub visits_are : (marks : List MarkBy) → AllByRecursion (MarksVisit lanes visits) marks →
      length marks ≡ visits_in visits 0 lanes → VisitsAre book marks
  visits_are marks all many = record {
    conform = each_weaker (MarksVisit lanes visits)
        (λ by. stamped_at book by.mark.lane by.mark.place ≡ Some (by.mark.stamp, by.who)) marks
        (λ by m. stamped_here by.mark.lane by.mark.place m.0 m.1 m.2 ∙ ap Some m.3) all;
    no_others = many ∙ sym counted_visits;
  }

-- along a list with rising stamps, a later visit has the higher stamp
rising_above : (first : ℕ) (xs : List Visit) (i : ℕ) (x : Visit) → Rising first xs → slice_get xs i ≡ Some x →
    first < x.stamp
rising_above first [] i x rises at = cc
rising_above first (y ∷ ys) zero x rises at =
    let same : y ≡ x = cc in let P : Visit → Type 0 = λ z. first < z.stamp in subst P same rises.0
rising_above first (y ∷ ys) (suc i) x rises at =
    let above : y.stamp < x.stamp = rising_above y.stamp ys i x rises.1 at in let here = rises.0 in omega arith

pub later_stamp : (first : ℕ) (xs : List Visit) (i j : ℕ) (x y : Visit) → Rising first xs → slice_get xs i ≡ Some x →
    slice_get xs j ≡ Some y → i < j → x.stamp < y.stamp
later_stamp first [] i j x y rises at there before = cc
later_stamp first (z ∷ zs) zero zero x y rises at there before = absurd (omega arith)
later_stamp first (z ∷ zs) zero (suc j) x y rises at there before =
    let same : z ≡ x = cc in let P : Visit → Type 0 = λ w. w.stamp < y.stamp in
    subst P same (rising_above z.stamp zs j y rises.1 there)
later_stamp first (z ∷ zs) (suc i) zero x y rises at there before = absurd (omega arith)
later_stamp first (z ∷ zs) (suc i) (suc j) x y rises at there before =
    later_stamp z.stamp zs i j x y rises.1 at there (omega arith)

-- the two definitions that count the marks at a place agree
pub times_of_marks : (place : ℕ) (marks : List Mark) →
    times place (map (λ mark. mark.place) marks) ≡ count_by (λ mark. mark.place == place) marks
times_of_marks place [] = refl
times_of_marks place (m ∷ ms) =
    sum_by-cons (λ p. cond (p == place) 1 0) m.place (map (λ mark. mark.place) ms)
    ∙ ap (λ n. cond (m.place == place) 1 0 + n) (times_of_marks place ms)
    ∙ sym (sum_by-cons (λ mark. cond (mark.place == place) 1 0) m ms)

module _ (xs : List Visit) where
  -- `mark` has the place and the stamp of a visit in the list `xs`
  abbrev pub MarksPlace : Mark → Type 0
  MarksPlace mark = (x : Visit) × (slice_get xs mark.place ≡ Some x) × (x.stamp ≡ mark.stamp)

  each_rises : (first : ℕ) → Rising first xs → (marks others : List Mark) → AllByRecursion MarksPlace marks →
      AllByRecursion MarksPlace others →
      AllByRecursion (λ a. AllByRecursion (λ b. a.place < b.place → a.stamp < b.stamp) marks) others
  each_rises first rises marks others all =
      each_weaker MarksPlace (λ a. AllByRecursion (λ b. a.place < b.place → a.stamp < b.stamp) marks) others
      (λ a at. each_weaker MarksPlace (λ b. a.place < b.place → a.stamp < b.stamp) marks
      (λ b there before.
      let later : at.0.stamp < there.0.stamp =
      later_stamp first xs a.place b.place at.0 there.0 rises at.1 there.1 before in
      let here : at.0.stamp ≡ a.stamp = at.2 in let other : there.0.stamp ≡ b.stamp = there.2 in omega arith) all)

  -- if the marks of a lane's visits have each place of the lane once, `PlacesConform` holds for them
  pub places_conform : (first : ℕ) (marks : List Mark) → Rising first xs → AllByRecursion MarksPlace marks →
      length marks ≡ length xs →
      ((place : ℕ) → times place (map (λ mark. mark.place) marks) ≡ once_below place (length xs)) →
      PlacesConform marks
  places_conform first marks rises all many placed = record {
    once = each_once 0 (length marks) marks (λ place from below.
        let one : once_below place (length xs) ≡ 1 = grind (arith, nat_tests) in
        sym (times_of_marks place marks) ∙ placed place ∙ one);
    rise = each_rises first rises marks marks all all;
  }

-- if `made` of each lane equals `count` of the lane, the sum of `made` over all lanes is the sum of `count`
sum_made : (xs : List LaneView) (count : ℕ → ℕ) (first : ℕ) →
    ((i : ℕ) → i < length xs → (slice_index_or xs i blank).made ≡ count (first + i)) →
    sum_by (λ a. a.made) xs ≡ sum_by count (range_with_len first (length xs))
sum_made [] count first each = refl
sum_made (x ∷ xs) count first each =
    let here : x.made ≡ count first = (let p : first + 0 ≡ first = omega arith in each 0 (omega arith) ∙ ap count p) in
    let rest : sum_by (λ a. a.made) xs ≡ sum_by count (range_with_len (first + 1) (length xs)) =
    sum_made xs count (first + 1) (λ i below.
    let p : first + suc i ≡ (first + 1) + i = omega arith in each (suc i) (omega arith) ∙ ap count p) in
    sum_by-cons (λ (a : LaneView). a.made) x xs ∙ (λ k. here k + rest k)
    ∙ sym (sum_by-cons count first (range_with_len (first + 1) (length xs)))

pub all_made : (v : View) → ((i : ℕ) → i < length v.lanes → (at i v).made ≡ length (known_of v i)) →
    sum_by (λ a. a.made) v.lanes ≡ sum_by (λ lane. length (known_of v lane)) (range_with_len 0 (length v.lanes))
all_made v each = sum_made v.lanes (λ lane. length (known_of v lane)) 0
    (λ i below. let p : i ≡ 0 + i = omega arith in each i below ∙ ap (λ lane. length (known_of v lane)) p)
