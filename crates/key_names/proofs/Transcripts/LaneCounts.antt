-- Let VisitsAre hold for a book and some marks, and let PlacesConform hold for the marks of each lane. Then each lane
-- has as many visits as marks.
use Rattle.std.proofs.Common.{◌≡◌, ℕ, zero, suc, ◌+◌, ◌<◌, ◌≤◌, Bool, true, false, List, [], ◌∷◌, refl, sym}
use Rattle.std.proofs.Common.{subst, ap, ◌∙◌, arith, Some, length}
use Rattle.std.specs.Prelude.{count_by, ◌==◌, if◌then◌else◌}
use Rattle.std.specs.List.{AllByRecursion, sum_by}
use Rattle.std.proofs.lemmas.List.Sums.{sum_by-cons}
use Rattle.std.proofs.lemmas.Bool.{eqb-true, eq-eqb, ne_eqb}
use Rattle.std.proofs.lemmas.Option.{slice_get_within}
use Rattle.key_names.specs.declared.names.LaneId.{LaneId}
use Rattle.key_names.specs.declared.names.LaneId.TheVariants.{Pool as PoolLane, Base as BaseLane, Cpu as CpuLane}
use Rattle.key_names.specs.declared.names.Mark.{Mark}
use Rattle.key_names.specs.declared.names.Who.{Who}
use Rattle.key_names.specs.declared.entries.CpuEntry.{CpuEntry}
use Rattle.key_names.specs.Lanes.Book.{Book, Visit, list_at}
use Rattle.key_names.specs.Transcripts.IsTranscript.{MarkBy, is_same_lane, lane_marks, PlacesConform, stamped}
use Rattle.key_names.specs.Transcripts.IsTranscript.{stamped_at, visit_count, VisitsAre}
use Rattle.key_names.proofs.Transcripts.TakenMarks.{from_range}
use Rattle.key_names.proofs.Lists.Each.{each_weaker}
use Rattle.key_names.proofs.History.SortedVisits.{one_if}
use Rattle.key_names.proofs.Unique.UniqueMarks.{found}

pub lane_itself : (lane : LaneId) → is_same_lane lane lane ≡ true
lane_itself PoolLane = refl
lane_itself BaseLane = refl
lane_itself (CpuLane c) = eq-eqb c c refl

pub same_lane : (a b : LaneId) → is_same_lane a b ≡ true → a ≡ b
same_lane PoolLane PoolLane is = refl
same_lane PoolLane BaseLane is = cc
same_lane PoolLane (CpuLane d) is = cc
same_lane BaseLane PoolLane is = cc
same_lane BaseLane BaseLane is = refl
same_lane BaseLane (CpuLane d) is = cc
same_lane (CpuLane c) PoolLane is = cc
same_lane (CpuLane c) BaseLane is = cc
same_lane (CpuLane c) (CpuLane d) is = ap CpuLane (eqb-true c d is)

-- if Q holds for each mark and that mark's own lane, then Q holds for `lane` and each mark of `lane`
pub of_lane : (Q : LaneId → Mark → Type 0) (lane : LaneId) (marks : List MarkBy) →
    AllByRecursion (λ by. Q by.mark.lane by.mark) marks → AllByRecursion (λ m. Q lane m) (lane_marks lane marks)
of_lane Q lane [] all = tt
of_lane Q lane (by ∷ marks) all = go (is_same_lane by.mark.lane lane) refl (of_lane Q lane marks all.1)
  where
    go : (b : Bool) → is_same_lane by.mark.lane lane ≡ b → AllByRecursion (λ m. Q lane m) (lane_marks lane marks) →
        AllByRecursion (λ m. Q lane m) (if b then by.mark ∷ lane_marks lane marks else lane_marks lane marks)
    go true is rest = let P : LaneId → Type 0 = λ x. Q x by.mark in
        (subst P (same_lane by.mark.lane lane is) all.0, rest)
    go false is rest = rest

-- let Q hold for the place of each mark of a lane, and let PlacesConform hold for these marks. Then Q holds for each
-- place below the number of marks
module _ (Q : ℕ → Type 0) where
  at_some : (place : ℕ) (ms : List Mark) → AllByRecursion (λ m. Q m.place) ms →
      1 ≤ count_by (λ mark. mark.place == place) ms → Q place
  at_some place [] all some = absurd (omega arith)
  at_some place (m ∷ ms) all some = go (m.place == place) refl (at_some place ms all.1)
    where
      count_is : count_by (λ (mark : Mark). mark.place == place) (m ∷ ms)
          ≡ one_if (m.place == place) + count_by (λ (mark : Mark). mark.place == place) ms
      count_is = sum_by-cons (λ (mark : Mark). one_if (mark.place == place)) m ms

      go : (b : Bool) → (m.place == place) ≡ b →
          (1 ≤ count_by (λ (mark : Mark). mark.place == place) ms → Q place) → Q place
      go true is rest = let P : ℕ → Type 0 = λ i. Q i in subst P (eqb-true m.place place is) all.0
      go false is rest =
          let none : one_if (m.place == place) ≡ 0 = ap one_if is in
          let whole = count_is in
          let left : 1 ≤ count_by (λ (mark : Mark). mark.place == place) ms = omega arith in rest left

  pub each_place : (ms : List Mark) → PlacesConform ms → AllByRecursion (λ m. Q m.place) ms → (i : ℕ) → i < length ms →
      Q i
  each_place ms conform all i lt =
      let p : 0 + i ≡ i = omega arith in
      let once : count_by (λ mark. mark.place == (0 + i)) ms ≡ 1 =
      from_range (λ place. count_by (λ mark. mark.place == place) ms ≡ 1) 0 (length ms) conform.once i lt in
      let P : ℕ → Type 0 = λ j. Q j in subst P p (at_some (0 + i) ms all (omega arith))

pub every_place : (Q : LaneId → ℕ → Type 0) (lane : LaneId) (marks : List MarkBy) →
    PlacesConform (lane_marks lane marks) → AllByRecursion (λ by. Q by.mark.lane by.mark.place) marks → (i : ℕ) →
    i < length (lane_marks lane marks) → Q lane i
every_place Q lane marks conform all i lt =
    each_place (λ i. Q lane i) (lane_marks lane marks) conform (of_lane (λ l m. Q l m.place) lane marks all) i lt

-- the number of visits of a lane in the book
abbrev pub lane_length : Book → LaneId → ℕ
lane_length book PoolLane = length book.pool
lane_length book BaseLane = length book.base
lane_length book (CpuLane c) = length (list_at book.cpus c)

within : {E : Type 0} (visits : List (Visit E)) (place : ℕ) (there : ℕ × Who) → stamped visits place ≡ Some there →
    place < length visits
within visits place there at =
    let f = found visits place there.0 there.1 at in slice_get_within visits place f.visit f.is

pub within_lane : (book : Book) (lane : LaneId) (place : ℕ) (there : ℕ × Who) →
    stamped_at book lane place ≡ Some there →
    place < lane_length book lane
within_lane book PoolLane place there at = within book.pool place there at
within_lane book BaseLane place there at = within book.base place there at
within_lane book (CpuLane c) place there at = within (list_at book.cpus c) place there at

-- the number of marks of a lane among `marks`
abbrev pub mark_count : LaneId → List MarkBy → ℕ
mark_count lane marks = length (lane_marks lane marks)

-- the number of marks in the CPUs' lanes together; `c` is the number of the first CPU
abbrev cpu_counts : {X : Type 0} → ℕ → List X → List MarkBy → ℕ
cpu_counts c [] marks = 0
cpu_counts c (x ∷ xs) marks = mark_count (CpuLane c) marks + cpu_counts (suc c) xs marks

count_if : (b : Bool) (by : MarkBy) (ms : List Mark) → length (if b then by.mark ∷ ms else ms) ≡ one_if b + length ms
count_if true by ms = omega arith
count_if false by ms = omega arith

one_more_mark : (lane : LaneId) (by : MarkBy) (marks : List MarkBy) →
    mark_count lane (by ∷ marks) ≡ one_if (is_same_lane by.mark.lane lane) + mark_count lane marks
one_more_mark lane by marks = count_if (is_same_lane by.mark.lane lane) by (lane_marks lane marks)

-- if the lane of a mark is not the lane of a CPU from `c` on, the mark is not counted
skips : {X : Type 0} (c : ℕ) (xs : List X) (by : MarkBy) (marks : List MarkBy) →
    ((d : ℕ) → c ≤ d → is_same_lane by.mark.lane (CpuLane d) ≡ false) →
    cpu_counts c xs (by ∷ marks) ≡ cpu_counts c xs marks
skips c [] by marks other = refl
skips c (x ∷ xs) by marks other =
    let here : mark_count (CpuLane c) (by ∷ marks) ≡ one_if (is_same_lane by.mark.lane (CpuLane c)) + mark_count
    (CpuLane c) marks =
    one_more_mark (CpuLane c) by marks in
    let none : one_if (is_same_lane by.mark.lane (CpuLane c)) ≡ 0 = ap one_if (other c (omega arith)) in
    let rest : cpu_counts (suc c) xs (by ∷ marks) ≡ cpu_counts (suc c) xs marks =
    skips (suc c) xs by marks (λ d le. other d (omega arith)) in omega arith

-- if the mark `by` is in the lane of a counted CPU, it adds 1 to the count
counts_once : {X : Type 0} (c d e : ℕ) (xss : List (List X)) (by : MarkBy) (marks : List MarkBy) → e ≡ c + d →
    by.mark.lane ≡ CpuLane e → 1 ≤ length (list_at xss d) → cpu_counts c xss (by ∷ marks) ≡ 1 + cpu_counts c xss marks
counts_once c d e [] by marks at lane there = absurd (omega arith)
counts_once c zero e (xs ∷ xss) by marks at lane there =
    let here : mark_count (CpuLane c) (by ∷ marks) ≡ one_if (is_same_lane by.mark.lane (CpuLane c)) + mark_count
    (CpuLane c) marks =
    one_more_mark (CpuLane c) by marks in
    let same : e ≡ c = omega arith in
    let self : (e == c) ≡ true = eq-eqb e c same in
    let one : one_if (is_same_lane by.mark.lane (CpuLane c)) ≡ 1 =
    ap (λ x. one_if (is_same_lane x (CpuLane c))) lane ∙ ap one_if self in
    let rest : cpu_counts (suc c) xss (by ∷ marks) ≡ cpu_counts (suc c) xss marks =
    skips (suc c) xss by marks (λ x le. ap (λ y. is_same_lane y (CpuLane x)) lane ∙ ne_eqb e x (omega arith)) in
    omega arith
counts_once c (suc d) e (xs ∷ xss) by marks at lane there =
    let here : mark_count (CpuLane c) (by ∷ marks) ≡ one_if (is_same_lane by.mark.lane (CpuLane c)) + mark_count
    (CpuLane c) marks =
    one_more_mark (CpuLane c) by marks in
    let none : one_if (is_same_lane by.mark.lane (CpuLane c)) ≡ 0 =
    ap (λ x. one_if (is_same_lane x (CpuLane c))) lane ∙ ap one_if (ne_eqb e c (λ p. omega arith)) in
    let rest : cpu_counts (suc c) xss (by ∷ marks) ≡ 1 + cpu_counts (suc c) xss marks =
    counts_once (suc c) d e xss by marks (omega arith) lane there in omega arith

module _ (book : Book) where
  -- the numbers of marks of the pool, of the base and of the CPUs add up to the number of all marks
  pub counted : (marks : List MarkBy) → AllByRecursion (λ by. by.mark.place < lane_length book by.mark.lane) marks →
      length marks ≡ mark_count PoolLane marks + mark_count BaseLane marks + cpu_counts 0 book.cpus marks
  counted [] all = none_counted book.cpus 0
    where
      none_counted : (xss : List (List (Visit CpuEntry))) (c : ℕ) → length {A = MarkBy} [] ≡ 0 + 0 + cpu_counts c xss []
      none_counted [] c = refl
      none_counted (xs ∷ xss) c =
          let rest : length {A = MarkBy} [] ≡ 0 + 0 + cpu_counts (suc c) xss [] = none_counted xss (suc c) in
          omega arith
  counted (by ∷ marks) all = go by.mark.lane refl all.0 (counted marks all.1)
    where
      pool : mark_count PoolLane (by ∷ marks) ≡ one_if (is_same_lane by.mark.lane PoolLane) + mark_count PoolLane marks
      pool = one_more_mark PoolLane by marks

      base : mark_count BaseLane (by ∷ marks) ≡ one_if (is_same_lane by.mark.lane BaseLane) + mark_count BaseLane marks
      base = one_more_mark BaseLane by marks

      go : (lane : LaneId) → by.mark.lane ≡ lane → by.mark.place < lane_length book by.mark.lane →
          length marks ≡ mark_count PoolLane marks + mark_count BaseLane marks + cpu_counts 0 book.cpus marks →
          length (by ∷ marks) ≡ mark_count PoolLane (by ∷ marks) + mark_count BaseLane (by ∷ marks)
          + cpu_counts 0 book.cpus (by ∷ marks)
      go PoolLane is lt rest =
          let a = pool in let b = base in
          let x : one_if (is_same_lane by.mark.lane PoolLane) ≡ 1 = ap (λ l. one_if (is_same_lane l PoolLane)) is in
          let y : one_if (is_same_lane by.mark.lane BaseLane) ≡ 0 = ap (λ l. one_if (is_same_lane l BaseLane)) is in
          let z : cpu_counts 0 book.cpus (by ∷ marks) ≡ cpu_counts 0 book.cpus marks =
          skips 0 book.cpus by marks (λ d le. ap (λ l. is_same_lane l (CpuLane d)) is) in omega arith
      go BaseLane is lt rest =
          let a = pool in let b = base in
          let x : one_if (is_same_lane by.mark.lane PoolLane) ≡ 0 = ap (λ l. one_if (is_same_lane l PoolLane)) is in
          let y : one_if (is_same_lane by.mark.lane BaseLane) ≡ 1 = ap (λ l. one_if (is_same_lane l BaseLane)) is in
          let z : cpu_counts 0 book.cpus (by ∷ marks) ≡ cpu_counts 0 book.cpus marks =
          skips 0 book.cpus by marks (λ d le. ap (λ l. is_same_lane l (CpuLane d)) is) in omega arith
      go (CpuLane c) is lt rest =
          let a = pool in let b = base in
          let x : one_if (is_same_lane by.mark.lane PoolLane) ≡ 0 = ap (λ l. one_if (is_same_lane l PoolLane)) is in
          let y : one_if (is_same_lane by.mark.lane BaseLane) ≡ 0 = ap (λ l. one_if (is_same_lane l BaseLane)) is in
          let there : by.mark.place < length (list_at book.cpus c) =
          (let P : LaneId → Type 0 = λ l. by.mark.place < lane_length book l in subst P is lt) in
          let z : cpu_counts 0 book.cpus (by ∷ marks) ≡ 1 + cpu_counts 0 book.cpus marks =
          counts_once 0 c c book.cpus by marks (omega arith) is (omega arith) in omega arith

-- if a ≤ x and b ≤ y, and a + b is x + y, then a is x, and b is y
parts_equal : (a b x y : ℕ) → a ≤ x → b ≤ y → a + b ≡ x + y → (a ≡ x) × (b ≡ y)
parts_equal a b x y le le' same = (omega arith, omega arith)

cpus_within : {X : Type 0} (c : ℕ) (xss : List (List X)) (marks : List MarkBy) →
    ((d : ℕ) → mark_count (CpuLane (c + d)) marks ≤ length (list_at xss d)) →
    cpu_counts c xss marks ≤ sum_by (λ xs. length xs) xss
cpus_within c [] marks le = omega arith
cpus_within {X = X} c (xs ∷ xss) marks le =
    let sum : sum_by (λ (ys : List X). length ys) (xs ∷ xss) ≡ length xs + sum_by (λ (ys : List X). length ys) xss =
    sum_by-cons (λ (ys : List X). length ys) xs xss in
    let zero_is : c + 0 ≡ c = omega arith in
    let here : mark_count (CpuLane c) marks ≤ length xs =
    (let P : ℕ → Type 0 = λ i. mark_count (CpuLane i) marks ≤ length xs in subst P zero_is (le 0)) in
    let rest : cpu_counts (suc c) xss marks ≤ sum_by (λ (ys : List X). length ys) xss = cpus_within (suc c) xss marks
    (λ d. let next : c + suc d ≡ suc c + d = omega arith in
    let P : ℕ → Type 0 = λ i. mark_count (CpuLane i) marks ≤ length (list_at xss d) in subst P next (le (suc d))) in
    omega arith

cpus_equal : {X : Type 0} (c : ℕ) (xss : List (List X)) (marks : List MarkBy) →
    ((d : ℕ) → mark_count (CpuLane (c + d)) marks ≤ length (list_at xss d)) →
    cpu_counts c xss marks ≡ sum_by (λ xs. length xs) xss →
    (d : ℕ) → mark_count (CpuLane (c + d)) marks ≡ length (list_at xss d)
cpus_equal c [] marks le same d = (let here : mark_count (CpuLane (c + d)) marks ≤ 0 = le d in omega arith)
cpus_equal {X = X} c (xs ∷ xss) marks le same d =
    let sum : sum_by (λ (ys : List X). length ys) (xs ∷ xss) ≡ length xs + sum_by (λ (ys : List X). length ys) xss =
    sum_by-cons (λ (ys : List X). length ys) xs xss in
    let zero_is : c + 0 ≡ c = omega arith in
    let here : mark_count (CpuLane c) marks ≤ length xs =
    (let P : ℕ → Type 0 = λ i. mark_count (CpuLane i) marks ≤ length xs in subst P zero_is (le 0)) in
    let le_rest : (e : ℕ) → mark_count (CpuLane (suc c + e)) marks ≤ length (list_at xss e) =
    (λ e. let next : c + suc e ≡ suc c + e = omega arith in
    let P : ℕ → Type 0 = λ i. mark_count (CpuLane i) marks ≤ length (list_at xss e) in subst P next (le (suc e))) in
    let both = parts_equal (mark_count (CpuLane c) marks) (cpu_counts (suc c) xss marks) (length xs)
    (sum_by (λ (ys : List X). length ys) xss) here (cpus_within (suc c) xss marks le_rest) (omega arith) in
    at_number d both.0 (cpus_equal (suc c) xss marks le_rest both.1)
  where
    at_number : (d : ℕ) → mark_count (CpuLane c) marks ≡ length xs →
        ((e : ℕ) → mark_count (CpuLane (suc c + e)) marks ≡ length (list_at xss e)) →
        mark_count (CpuLane (c + d)) marks ≡ length (list_at (xs ∷ xss) d)
    at_number zero first rest =
        let zero_is : c + 0 ≡ c = omega arith in ap (λ i. mark_count (CpuLane i) marks) zero_is ∙ first
    at_number (suc e) first rest =
        let next : c + suc e ≡ suc c + e = omega arith in ap (λ i. mark_count (CpuLane i) marks) next ∙ rest e

-- if VisitsAre holds for the book and the marks, and PlacesConform for the marks of each lane, then each lane has as
-- many visits as marks
pub lane_counts : (book : Book) (marks : List MarkBy) → ((lane : LaneId) → PlacesConform (lane_marks lane marks)) →
    VisitsAre book marks → (lane : LaneId) → mark_count lane marks ≡ lane_length book lane
lane_counts book marks places visits lane = at_lane lane
  where
    all : AllByRecursion (λ by. by.mark.place < lane_length book by.mark.lane) marks
    all = each_weaker _ _ marks
        (λ (by : MarkBy) at. within_lane book by.mark.lane by.mark.place (by.mark.stamp, by.who) at) visits.conform

    no_more : (lane : LaneId) → mark_count lane marks ≤ lane_length book lane
    no_more lane = at_most (mark_count lane marks) (λ i lt. every_place (λ l i. i < lane_length book l) lane marks
        (places lane) all i lt)
      where
        at_most : (n : ℕ) → ((i : ℕ) → i < n → i < lane_length book lane) → n ≤ lane_length book lane
        at_most zero each = omega arith
        at_most (suc n) each = let last : n < lane_length book lane = each n (omega arith) in omega arith

    total : mark_count PoolLane marks + mark_count BaseLane marks + cpu_counts 0 book.cpus marks ≡ visit_count book
    total = sym (counted book marks all) ∙ visits.no_others

    cpus_le : (d : ℕ) → mark_count (CpuLane (0 + d)) marks ≤ length (list_at book.cpus d)
    cpus_le d = let p : 0 + d ≡ d = omega arith in
        let P : ℕ → Type 0 = λ i. mark_count (CpuLane i) marks ≤ length (list_at book.cpus d) in
        subst P (sym p) (no_more (CpuLane d))

    at_lane : (lane : LaneId) → mark_count lane marks ≡ lane_length book lane
    at_lane PoolLane =
        let a = no_more PoolLane in let b = no_more BaseLane in let c = cpus_within 0 book.cpus marks cpus_le in
        let t = total in omega arith
    at_lane BaseLane =
        let a = no_more PoolLane in let b = no_more BaseLane in let c = cpus_within 0 book.cpus marks cpus_le in
        let t = total in omega arith
    at_lane (CpuLane d) =
        let a = no_more PoolLane in let b = no_more BaseLane in let c = cpus_within 0 book.cpus marks cpus_le in
        let t = total in
        let same : cpu_counts 0 book.cpus marks ≡ sum_by (λ (xs : List (Visit CpuEntry)). length xs) book.cpus =
        omega arith in
        let p : 0 + d ≡ d = omega arith in
        ap (λ i. mark_count (CpuLane i) marks) (sym p) ∙ cpus_equal 0 book.cpus marks cpus_le same d
