-- The visits of one lane in a history are that lane's list, because the stamps of a lane rise along its list.
use Rattle.std.proofs.Common.{◌≡◌, ℕ, zero, suc, ◌+◌, ◌<◌, ◌≤◌, Bool, true, false, cond, List, [], ◌∷◌, ◌++◌, refl, sym}
use Rattle.std.proofs.Common.{subst, ap, ◌∙◌, inl, inr, arith, Some, None, Option, length}
use Rattle.std.specs.Prelude.{⊤, ◌==◌, ◌&&◌, nat_lt, count_by, filter, slice_index_or, IsSortedBy}
use Rattle.std.specs.List.{AllByRecursion}
use Rattle.std.proofs.ByRecursion.{all_shuffled}
use Rattle.std.proofs.lemmas.Bool.{ltb-false, eq-eqb, ne_eqb}
use Rattle.std.proofs.lemmas.List.Elements.{filter-append}
use Rattle.std.proofs.lemmas.List.{append-nil}
use Rattle.std.proofs.lemmas.List.Sums.{sum_by-cons}
use Rattle.std.proofs.lemmas.List.Sorted.{sum_by-IsPermutation}
use Rattle.key_names.specs.declared.names.LaneId.{LaneId}
use Rattle.key_names.specs.declared.names.LaneId.TheVariants.{Pool as PoolLane, Base as BaseLane, Cpu as CpuLane}
use Rattle.key_names.specs.declared.names.Mark.{Mark}
use Rattle.key_names.specs.declared.names.Who.{Who}
use Rattle.key_names.specs.declared.entries.CpuEntry.{CpuEntry}
use Rattle.key_names.specs.Lanes.Book.{Book, Visit, list_at}
use Rattle.key_names.specs.Lanes.BookHistory.{Happening, visits_from, visits_of_lane, visits_of_cpus, all_visits, lane_visits}
use Rattle.key_names.specs.Lanes.BookHistory.{comes_before, HistoryKeepsLanes}
use Rattle.key_names.specs.Transcripts.IsTranscript.{MarkBy, is_same_lane, all_marks, lane_marks, PlacesConform, stamped, stamped_at}
use Rattle.key_names.specs.Transcripts.IsTranscript.{VisitsAre}
use Rattle.key_names.proofs.Lists.Each.{each_weaker, each_both}
use Rattle.key_names.proofs.Transcripts.LaneCounts.{of_lane, each_place, within_lane, lane_counts}
use Rattle.key_names.proofs.History.SortedVisits.{one_if, Rising, Sorted, count, IsIn, sorted_is}

abbrev stamp_of : Happening → ℕ
stamp_of h = h.stamp

-- the visits of a list that pass a test `p`
module _ (p : Happening → Bool) where
  count_filter : (k : ℕ) (hs : List Happening) →
      count stamp_of k (filter p hs) ≡ count_by (λ h. p h && (h.stamp == k)) hs
  count_filter k [] = refl
  count_filter k (h ∷ hs) = go (p h) (filter p hs) ∙ ap (λ n. one_if (p h && (h.stamp == k)) + n) (count_filter k hs)
      ∙ sym (sum_by-cons (λ x. one_if (p x && (x.stamp == k))) h hs)
    where
      go : (b : Bool) (left : List Happening) →
          count stamp_of k (cond b (h ∷ left) left) ≡ one_if (b && (h.stamp == k)) + count stamp_of k left
      go true left = sum_by-cons (λ x. one_if (x.stamp == k)) h left
      go false left = omega arith

  all_filter : (P : Happening → Type 0) (hs : List Happening) → AllByRecursion P hs → AllByRecursion P (filter p hs)
  all_filter P [] all = tt
  all_filter P (h ∷ hs) all = go (p h) (filter p hs) (all_filter P hs all.1)
    where
      go : (b : Bool) (left : List Happening) → AllByRecursion P left → AllByRecursion P (cond b (h ∷ left) left)
      go true left rest = (all.0, rest)
      go false left rest = rest

  sorted_filter : (hs : List Happening) → Sorted stamp_of hs → Sorted stamp_of (filter p hs)
  sorted_filter [] sorted = tt
  sorted_filter (h ∷ hs) sorted = go (p h) (sorted_filter hs sorted.1)
    where
      go : (b : Bool) → Sorted stamp_of (filter p hs) → Sorted stamp_of (cond b (h ∷ filter p hs) (filter p hs))
      go true rest = (all_filter (λ y. h.stamp ≤ y.stamp) hs sorted.0, rest)
      go false rest = rest

  -- if the visit `h` passes the test, it is in the filtered list `hs`
  abbrev Left : List Happening → Happening → Type 0
  Left hs h = p h ≡ true → IsIn h (filter p hs)

  all_left : (hs : List Happening) → AllByRecursion (Left hs) hs
  all_left [] = tt
  all_left (h ∷ hs) = (
    here,
    each_weaker (Left hs) (Left (h ∷ hs)) hs (λ x left passes. more (p h) x (left passes))
        (all_left hs),
  )
    where
      here : Left (h ∷ hs) h
      here passes = rw passes (inl refl)

      more : (b : Bool) (x : Happening) → IsIn x (filter p hs) → IsIn x (cond b (h ∷ filter p hs) (filter p hs))
      more true x left = inr left
      more false x left = left

  passing : (P : Happening → Type 0) (hs : List Happening) → AllByRecursion (λ h. p h ≡ true → P h) hs →
      AllByRecursion P (filter p hs)
  passing P [] all = tt
  passing P (h ∷ hs) all = go (p h) refl (passing P hs all.1)
    where
      go : (b : Bool) → p h ≡ b → AllByRecursion P (filter p hs) →
          AllByRecursion P (cond b (h ∷ filter p hs) (filter p hs))
      go true is rest = (all.0 is, rest)
      go false is rest = rest

-- if `hs` is sorted by `comes_before`, no stamp in `hs` is above a later one
sorted_stamps : (hs : List Happening) → IsSortedBy comes_before hs → Sorted stamp_of hs
sorted_stamps [] sorted = tt
sorted_stamps (h ∷ []) sorted = (tt, tt)
sorted_stamps (h ∷ next ∷ hs) sorted =
    let rest = sorted_stamps (next ∷ hs) (λ k d low lt. following k d (sorted (suc k) d (omega arith) (omega arith))) in
    let le : h.stamp ≤ next.stamp = not_less next h (sorted 0 h (omega arith) (omega arith)) in
    ((le, each_weaker (λ y. next.stamp ≤ y.stamp) (λ y. h.stamp ≤ y.stamp) hs (λ y above. omega arith) rest.0), rest)
  where
    following : (k : ℕ) (d : Happening) →
        comes_before (slice_index_or (h ∷ next ∷ hs) (suc k + 1) d) (slice_index_or (next ∷ hs) k d) ≡ false →
        comes_before (slice_index_or (next ∷ hs) (k + 1) d) (slice_index_or (next ∷ hs) k d) ≡ false
    following k d is =
        let P : ℕ → Type 0 = λ i.
        comes_before (slice_index_or (h ∷ next ∷ hs) i d) (slice_index_or (next ∷ hs) k d) ≡ false in
        let p : suc k + 1 ≡ suc (k + 1) = omega arith in subst P p is

    not_less : (a b : Happening) → comes_before a b ≡ false → b.stamp ≤ a.stamp
    not_less a b is = go (nat_lt a.stamp b.stamp) refl
      where
        go : (less : Bool) → nat_lt a.stamp b.stamp ≡ less → b.stamp ≤ a.stamp
        go true less = cc
        go false less = ltb-false a.stamp b.stamp less

-- whether the visit `h` is in `lane`
abbrev in_lane : LaneId → Happening → Bool
in_lane lane h = is_same_lane h.lane lane

filter_lane : {E : Type 0} (lane other : LaneId) (b : Bool) → is_same_lane other lane ≡ b →
    (i : ℕ) (visits : List (Visit E)) →
    filter (in_lane lane) (visits_from other i visits) ≡ cond b (visits_from other i visits) []
filter_lane lane other true is i [] = refl
filter_lane lane other false is i [] = refl
filter_lane lane other true is i (v ∷ visits) = rw (is, filter_lane lane other true is (suc i) visits) refl
filter_lane lane other false is i (v ∷ visits) = rw is (filter_lane lane other false is (suc i) visits)

-- if `lane` is not the lane of a CPU from `c` on, no visit of these CPUs is in `lane`
filter_others : (lane : LaneId) (c : ℕ) (cpus : List (List (Visit CpuEntry))) →
    ((d : ℕ) → c ≤ d → is_same_lane (CpuLane d) lane ≡ false) → filter (in_lane lane) (visits_of_cpus c cpus) ≡ []
filter_others lane c [] other = refl
filter_others lane c (visits ∷ more) other =
    filter-append (in_lane lane) (visits_of_lane (CpuLane c) visits) (visits_of_cpus (suc c) more)
    ∙ ap (λ hs. hs ++ filter (in_lane lane) (visits_of_cpus (suc c) more))
    (filter_lane lane (CpuLane c) false (other c (omega arith)) 0 visits)
    ∙ filter_others lane (suc c) more (λ d above. other d (omega arith))

filter_cpu : (c d : ℕ) (cpus : List (List (Visit CpuEntry))) →
    filter (in_lane (CpuLane (c + d))) (visits_of_cpus c cpus) ≡ visits_of_lane (CpuLane (c + d)) (list_at cpus d)
filter_cpu c d [] = refl
filter_cpu c zero (visits ∷ more) =
    let here : c ≡ c + 0 = omega arith in
    filter-append (in_lane (CpuLane (c + 0))) (visits_of_lane (CpuLane c) visits) (visits_of_cpus (suc c) more)
    ∙ ap (λ hs. hs ++ filter (in_lane (CpuLane (c + 0))) (visits_of_cpus (suc c) more))
    (filter_lane (CpuLane (c + 0)) (CpuLane c) true (eq-eqb c (c + 0) here) 0 visits)
    ∙ ap (λ hs. visits_of_lane (CpuLane c) visits ++ hs) (filter_others (CpuLane (c + 0)) (suc c) more
    (λ d above. ne_eqb d (c + 0) (omega arith)))
    ∙ append-nil (visits_of_lane (CpuLane c) visits) ∙ ap (λ i. visits_of_lane (CpuLane i) visits) here
filter_cpu c (suc d) (visits ∷ more) =
    let next : suc c + d ≡ c + suc d = omega arith in
    let P : ℕ → Type 0 = λ i.
    filter (in_lane (CpuLane i)) (visits_of_cpus (suc c) more) ≡ visits_of_lane (CpuLane i) (list_at more d) in
    filter-append (in_lane (CpuLane (c + suc d))) (visits_of_lane (CpuLane c) visits) (visits_of_cpus (suc c) more)
    ∙ ap (λ hs. hs ++ filter (in_lane (CpuLane (c + suc d))) (visits_of_cpus (suc c) more))
    (filter_lane (CpuLane (c + suc d)) (CpuLane c) false (ne_eqb c (c + suc d) (omega arith)) 0 visits)
    ∙ subst P next (filter_cpu (suc c) d more)

lane_of_all : (book : Book) (lane : LaneId) → filter (in_lane lane) (all_visits book) ≡ lane_visits book lane
lane_of_all book lane =
    filter-append (in_lane lane) (pool ++ base) cpus
    ∙ ap (λ hs. hs ++ filter (in_lane lane) cpus) (filter-append (in_lane lane) pool base) ∙ at_lane lane
  where
    pool : List Happening
    pool = visits_of_lane PoolLane book.pool

    base : List Happening
    base = visits_of_lane BaseLane book.base

    cpus : List Happening
    cpus = visits_of_cpus 0 book.cpus

    at_lane : (lane : LaneId) →
        filter (in_lane lane) pool ++ filter (in_lane lane) base ++ filter (in_lane lane) cpus ≡ lane_visits book lane
    at_lane PoolLane = rw (
      filter_lane PoolLane PoolLane true refl 0 book.pool,
      filter_lane PoolLane BaseLane false refl 0 book.base,
      filter_others PoolLane 0 book.cpus (λ d above. refl),
    ) (append-nil (pool ++ []) ∙ append-nil pool)
    at_lane BaseLane = rw (
      filter_lane BaseLane PoolLane false refl 0 book.pool,
      filter_lane BaseLane BaseLane true refl 0 book.base,
      filter_others BaseLane 0 book.cpus (λ d above. refl),
    ) (append-nil base)
    at_lane (CpuLane c) =
        let P : ℕ → Type 0 = λ i.
        filter (in_lane (CpuLane i)) cpus ≡ visits_of_lane (CpuLane i) (list_at book.cpus c) in
        let p : 0 + c ≡ c = omega arith in
        rw (
          filter_lane (CpuLane c) PoolLane false refl 0 book.pool,
          filter_lane (CpuLane c) BaseLane false refl 0 book.base,
        ) (subst P p (filter_cpu 0 c book.cpus))

-- given the stamps and makers of the visits at two places: if both places have a visit, the first stamp is below the
-- second
abbrev Below : Option (ℕ × Who) → Option (ℕ × Who) → Type 0
Below None there = ⊤
Below (Some here) None = ⊤
Below (Some here) (Some there) = here.0 < there.0

below_none : (o : Option (ℕ × Who)) → Below o None
below_none None = tt
below_none (Some here) = tt

module _ {E : Type 0} (lane : LaneId) where
  above : (here : ℕ × Who) (i : ℕ) (visits : List (Visit E)) → ((b : ℕ) → Below (Some here) (stamped visits b)) →
      AllByRecursion (λ h. here.0 < h.stamp) (visits_from lane i visits)
  above here i [] below = tt
  above here i (v ∷ visits) below = (below 0, above here (suc i) visits (λ b. below (suc b)))

  rising : (i : ℕ) (visits : List (Visit E)) → ((a b : ℕ) → a < b → Below (stamped visits a) (stamped visits b)) →
      Rising stamp_of (visits_from lane i visits)
  rising i [] below = tt
  rising i (v ∷ visits) below = (
    above (v.stamp, v.who) (suc i) visits (λ b. below 0 (suc b) (omega arith)),
    rising (suc i) visits (λ a b lt. below (suc a) (suc b) (omega arith)),
  )

module _ (book : Book) (marks : List MarkBy) (places : (lane : LaneId) → PlacesConform (lane_marks lane marks))
    (visits : VisitsAre book marks) where
  -- the visit at a mark's place has the mark's stamp
  abbrev Stamped : LaneId → Mark → Type 0
  Stamped lane m = (who : Who) × (stamped_at book lane m.place ≡ Some (m.stamp, who))

  all_stamped : (lane : LaneId) → AllByRecursion (Stamped lane) (lane_marks lane marks)
  all_stamped lane = of_lane Stamped lane marks
      (each_weaker (λ by. stamped_at book by.mark.lane by.mark.place ≡ Some (by.mark.stamp, by.who))
      (λ by. Stamped by.mark.lane by.mark) marks (λ by at. (by.who, at)) visits.conform)

  abbrev Rises : LaneId → ℕ → ℕ → Type 0
  Rises lane a b = a < b → Below (stamped_at book lane a) (stamped_at book lane b)

  marks_rise : (lane : LaneId) (m n : Mark) → Stamped lane m → Stamped lane n →
      (m.place < n.place → m.stamp < n.stamp) → Rises lane m.place n.place
  marks_rise lane m n at at' rise lt = rw (at.1, at'.1) (rise lt)

  -- each mark of the lane with a higher place than `m` has a higher stamp
  abbrev Row : LaneId → Mark → Type 0
  Row lane m = AllByRecursion (λ n. m.place < n.place → m.stamp < n.stamp) (lane_marks lane marks)

  mark_rises : (lane : LaneId) (b : ℕ) → b < length (lane_marks lane marks) → (m : Mark) → Stamped lane m →
      Row lane m → Rises lane m.place b
  mark_rises lane b lt m at rise = each_place (λ j. Rises lane m.place j) (lane_marks lane marks) (places lane)
      (each_weaker (λ n. (m.place < n.place → m.stamp < n.stamp) × Stamped lane n) (λ n. Rises lane m.place n.place)
      (lane_marks lane marks) (λ n h. marks_rise lane m n at h.1 h.0)
      (each_both (λ n. m.place < n.place → m.stamp < n.stamp) (Stamped lane) (lane_marks lane marks) rise
      (all_stamped lane))) b lt

  below_at : (lane : LaneId) (a b : ℕ) → a < b → Below (stamped_at book lane a) (stamped_at book lane b)
  below_at lane a b lt = go (stamped_at book lane b) refl
    where
      go : (o : Option (ℕ × Who)) → stamped_at book lane b ≡ o →
          Below (stamped_at book lane a) (stamped_at book lane b)
      go None is = rw is (below_none (stamped_at book lane a))
      go (Some there) is =
          let within = within_lane book lane b there is in
          let counts = lane_counts book marks places visits lane in
          let ms : List Mark = lane_marks lane marks in
          let b_lt : b < length ms = omega arith in
          each_place (λ i. Rises lane i b) ms (places lane)
          (each_weaker (λ m. Row lane m × Stamped lane m) (λ m. Rises lane m.place b) ms
          (λ m h. mark_rises lane b b_lt m h.1 h.0)
          (each_both (Row lane) (Stamped lane) ms (places lane).rise (all_stamped lane))) a (omega arith) lt

  pub lane_rises : (lane : LaneId) → Rising stamp_of (lane_visits book lane)
  lane_rises PoolLane = rising PoolLane 0 book.pool (below_at PoolLane)
  lane_rises BaseLane = rising BaseLane 0 book.base (below_at BaseLane)
  lane_rises (CpuLane c) = rising (CpuLane c) 0 (list_at book.cpus c) (below_at (CpuLane c))

pub history_keeps_lanes : HistoryKeepsLanes
history_keeps_lanes script t book history lane marks visits is =
    sym (sorted_is stamp_of (lane_visits book lane) (filter (in_lane lane) history)
    (lane_rises book (all_marks t) marks.lanes visits lane)
    (sorted_filter (in_lane lane) history (sorted_stamps history is.sorted)) counts all)
  where
    visits_are : filter (in_lane lane) (all_visits book) ≡ lane_visits book lane
    visits_are = lane_of_all book lane

    counts : (k : ℕ) → count stamp_of k (lane_visits book lane) ≡ count stamp_of k (filter (in_lane lane) history)
    counts k = ap (count stamp_of k) (sym visits_are) ∙ count_filter (in_lane lane) k (all_visits book)
        ∙ sym (sum_by-IsPermutation (λ h. one_if (in_lane lane h && (h.stamp == k))) (all_visits book) history is.whole)
        ∙ sym (count_filter (in_lane lane) k history)

    all : AllByRecursion (λ h. IsIn h (lane_visits book lane)) (filter (in_lane lane) history)
    all = subst (λ (hs : List Happening). AllByRecursion (λ h. IsIn h hs) (filter (in_lane lane) history)) visits_are
        (passing (in_lane lane) (λ h. IsIn h (filter (in_lane lane) (all_visits book))) history
        (all_shuffled (Left (in_lane lane) (all_visits book)) (all_visits book) history is.whole
        (all_left (in_lane lane) (all_visits book))))
