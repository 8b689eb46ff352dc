-- A book is made from lists and sorted marks. The book's visits have exactly these marks, and each visit is at the
-- place of its mark.
use Rattle.std.proofs.Common.{◌≡◌, ℕ, zero, suc, ◌+◌, Bool, true, false, Some, List, [], ◌∷◌, ◌++◌, length, map, refl, sym, subst, ap, ◌∙◌, arith, append_assoc, length-append}
use Rattle.std.specs.Prelude.{if◌then◌else◌, IsPermutation}
use Rattle.std.specs.List.{AllByRecursion, sum_by}
use Rattle.std.proofs.lemmas.List.Sums.{sum_by-cons}
use Rattle.std.proofs.lemmas.List.Elements.{All-from_recursion, recursion_from_All}
use Rattle.std.proofs.lemmas.List.Sorted.{All-permutation, IsPermutation-sym, length_permutation}
use Rattle.key_names.specs.declared.names.LaneId.{LaneId}
use Rattle.key_names.specs.declared.names.LaneId.TheVariants.{Pool as PoolLane, Base as BaseLane, Cpu as CpuLane}
use Rattle.key_names.specs.declared.entries.CpuEntry.{CpuEntry}
use Rattle.key_names.specs.declared.entries.VEntry.{VEntry}
use Rattle.key_names.specs.Lanes.Book.{Book, Visit, Lists, lists_of, entries_of, list_at, cpu_list}
use Rattle.key_names.specs.Transcripts.IsTranscript.{MarkBy, is_same_lane, lane_marks, stamped, stamped_at, VisitsAre}
use Rattle.key_names.specs.Transcripts.PlacesInOrder.{InOrder}
use Rattle.key_names.proofs.Lists.Each.{each_both, each_weaker}
use Rattle.key_names.proofs.Transcripts.LaneCounts.{lane_itself, same_lane}
use Rattle.serial_replay.proofs.MarksCounted.{marks_counted}

-- the marks of the lane, in the order of `marks`, each with the caller that made it
abbrev pub of_lane : LaneId → List MarkBy → List MarkBy
of_lane lane [] = []
of_lane lane (by ∷ marks) = if is_same_lane by.mark.lane lane then by ∷ of_lane lane marks else of_lane lane marks

marks_alone : (lane : LaneId) (marks : List MarkBy) → map (λ by. by.mark) (of_lane lane marks) ≡ lane_marks lane marks
marks_alone lane [] = refl
marks_alone lane (by ∷ marks) = go (is_same_lane by.mark.lane lane) (marks_alone lane marks)
  where
    go : (b : Bool) → map (λ (by : MarkBy). by.mark) (of_lane lane marks) ≡ lane_marks lane marks →
        map (λ (by : MarkBy). by.mark) (if b then by ∷ of_lane lane marks else of_lane lane marks)
        ≡ (if b then by.mark ∷ lane_marks lane marks else lane_marks lane marks)
    go true rest = ap (λ ms. by.mark ∷ ms) rest
    go false rest = rest

-- each mark that `of_lane lane` picks from `marks` is on the lane `lane`
are_there : (lane : LaneId) (marks : List MarkBy) → AllByRecursion (λ by. by.mark.lane ≡ lane) (of_lane lane marks)
are_there lane [] = tt
are_there lane (by ∷ marks) = go (is_same_lane by.mark.lane lane) refl (are_there lane marks)
  where
    go : (b : Bool) → is_same_lane by.mark.lane lane ≡ b →
        AllByRecursion (λ (by : MarkBy). by.mark.lane ≡ lane) (of_lane lane marks) →
        AllByRecursion (λ (by : MarkBy). by.mark.lane ≡ lane) (if b then by ∷ of_lane lane marks else of_lane lane marks)
    go true is rest = (same_lane by.mark.lane lane is, rest)
    go false is rest = rest

-- if `P` holds of the marks of each lane, `P` holds of all marks
by_lanes : (P : MarkBy → Type 0) (marks : List MarkBy) → ((lane : LaneId) → AllByRecursion P (of_lane lane marks)) →
    AllByRecursion P marks
by_lanes P [] each = tt
by_lanes P (by ∷ marks) each =
    let first : AllByRecursion P (by ∷ of_lane by.mark.lane marks) =
    subst (λ b. AllByRecursion P (if b then by ∷ of_lane by.mark.lane marks else of_lane by.mark.lane marks))
    (lane_itself by.mark.lane) (each by.mark.lane) in
    (first.0, by_lanes P marks (λ lane. go lane (is_same_lane by.mark.lane lane) (each lane)))
  where
    go : (lane : LaneId) (b : Bool) → AllByRecursion P (if b then by ∷ of_lane lane marks else of_lane lane marks) →
        AllByRecursion P (of_lane lane marks)
    go lane true all = all.1
    go lane false all = all

-- the visits of a lane: each entry of the list, paired with the mark in the same position
abbrev pub visits : {E : Type 0} → List E → List MarkBy → List (Visit E)
visits [] bys = []
visits (e ∷ es) [] = []
visits (e ∷ es) (by ∷ bys) = record { stamp = by.mark.stamp; who = by.who; entry = e } ∷ visits es bys

visits_long : {E : Type 0} (es : List E) (bys : List MarkBy) → length bys ≡ length es → length (visits es bys) ≡ length es
visits_long [] bys long = refl
visits_long (e ∷ es) [] long = absurd (omega arith)
visits_long (e ∷ es) (by ∷ bys) long = ap suc (visits_long es bys (omega arith))

entries_back : {E : Type 0} (es : List E) (bys : List MarkBy) → length bys ≡ length es → entries_of (visits es bys) ≡ es
entries_back [] bys long = refl
entries_back (e ∷ es) [] long = absurd (omega arith)
entries_back (e ∷ es) (by ∷ bys) long = ap (λ xs. e ∷ xs) (entries_back es bys (omega arith))

at_end : {E : Type 0} (front : List (Visit E)) (v : Visit E) (rest : List (Visit E)) →
    stamped (front ++ v ∷ rest) (length front) ≡ Some (v.stamp, v.who)
at_end [] v rest = refl
at_end (x ∷ front) v rest = at_end front v rest

-- if a lane's places count up from `i`, there is, at the place of each mark, a visit with the mark's stamp and caller
placed : {E : Type 0} (front : List (Visit E)) (es : List E) (bys : List MarkBy) (i : ℕ) → length front ≡ i →
    InOrder i (map (λ by. by.mark) bys) → length bys ≡ length es →
    AllByRecursion (λ by. stamped (front ++ visits es bys) by.mark.place ≡ Some (by.mark.stamp, by.who)) bys
placed front es [] i long order same = tt
placed front [] (by ∷ bys) i long order same = absurd (omega arith)
placed {E = E} front (e ∷ es) (by ∷ bys) i long order same =
    let v : Visit E = record { stamp = by.mark.stamp; who = by.who; entry = e } in
    let rest : List (Visit E) = visits es bys in
    let longer : length (front ++ v ∷ []) ≡ suc i = (let l = length-append front (v ∷ []) in omega arith) in (
      ap (stamped (front ++ v ∷ rest)) (order.0 ∙ sym long) ∙ at_end front v rest,
      subst (λ (all : List (Visit E)). AllByRecursion
          (λ (by : MarkBy). stamped all by.mark.place ≡ Some (by.mark.stamp, by.who)) bys)
          (append_assoc front (v ∷ []) rest) (placed (front ++ v ∷ []) es bys (suc i) longer order.2 (omega arith)),
    )

module _ (marks : List MarkBy) where
  -- the visits of each CPU in the list; the first CPU in it has the number `c`
  abbrev pub cpu_visits : ℕ → List (List CpuEntry) → List (List (Visit CpuEntry))
  cpu_visits c [] = []
  cpu_visits c (es ∷ ess) = visits es (of_lane (CpuLane c) marks) ∷ cpu_visits (suc c) ess

  cpu_at : (c : ℕ) (ess : List (List CpuEntry)) (d : ℕ) →
      list_at (cpu_visits c ess) d ≡ visits (list_at ess d) (of_lane (CpuLane (c + d)) marks)
  cpu_at c [] d = refl
  cpu_at c (es ∷ ess) zero = ap (λ n. visits es (of_lane (CpuLane n) marks)) (omega arith)
  cpu_at c (es ∷ ess) (suc d) =
      cpu_at (suc c) ess d ∙ ap (λ n. visits (list_at ess d) (of_lane (CpuLane n) marks)) (omega arith)

  cpus_back : (c : ℕ) (ess : List (List CpuEntry)) →
      ((d : ℕ) → length (of_lane (CpuLane (c + d)) marks) ≡ length (list_at ess d)) → map entries_of (cpu_visits c ess) ≡ ess
  cpus_back c [] each = refl
  cpus_back c (es ∷ ess) each =
      let here : length (of_lane (CpuLane c) marks) ≡ length es =
      ap (λ n. length (of_lane (CpuLane n) marks)) (omega arith) ∙ each 0 in
      let rest : map entries_of (cpu_visits (suc c) ess) ≡ ess = cpus_back (suc c) ess
      (λ d. ap (λ n. length (of_lane (CpuLane n) marks)) (omega arith) ∙ each (suc d)) in
      λ i. entries_back es (of_lane (CpuLane c) marks) here i ∷ rest i

  cpus_long : (c : ℕ) (ess : List (List CpuEntry)) → length (cpu_visits c ess) ≡ length ess
  cpus_long c [] = refl
  cpus_long c (es ∷ ess) = ap suc (cpus_long (suc c) ess)

  abbrev pub book_of : Lists → List (List (List VEntry)) → Book
  book_of lists states = record {
    pool = visits lists.pool (of_lane PoolLane marks);
    base = visits lists.base (of_lane BaseLane marks);
    cpus = cpu_visits 0 lists.cpus;
    callers = states;
  }

  -- each lane's list has as many entries as the lane has marks, and the places of these marks count up from 0
  pub record Placed (lists : Lists) : Type 0 where
    pub pool : length (lane_marks PoolLane marks) ≡ length lists.pool
    pub base : length (lane_marks BaseLane marks) ≡ length lists.base
    pub cpu : (c : ℕ) → length (lane_marks (CpuLane c) marks) ≡ length (cpu_list lists c)
    pub order : (lane : LaneId) → InOrder 0 (lane_marks lane marks)

  module _ (lists : Lists) (states : List (List (List VEntry))) (stored : Placed lists) where
    bys_long : (lane : LaneId) → length (of_lane lane marks) ≡ length (lane_marks lane marks)
    bys_long lane = sym (map_long (of_lane lane marks)) ∙ ap length (marks_alone lane marks)
      where
        map_long : (bys : List MarkBy) → length (map (λ by. by.mark) bys) ≡ length bys
        map_long [] = refl
        map_long (by ∷ bys) = ap suc (map_long bys)

    pool_long : length (of_lane PoolLane marks) ≡ length lists.pool
    pool_long = bys_long PoolLane ∙ stored.pool

    base_long : length (of_lane BaseLane marks) ≡ length lists.base
    base_long = bys_long BaseLane ∙ stored.base

    cpu_long : (c : ℕ) → length (of_lane (CpuLane c) marks) ≡ length (cpu_list lists c)
    cpu_long c = bys_long (CpuLane c) ∙ stored.cpu c

    cpu_long_0 : (c : ℕ) → length (of_lane (CpuLane (0 + c)) marks) ≡ length (list_at lists.cpus c)
    cpu_long_0 c = ap (λ n. length (of_lane (CpuLane n) marks)) (omega arith) ∙ cpu_long c

    -- the book made from `lists`, `states` and the marks has these lists
    pub lists_back : lists_of (book_of lists states) ≡ record lists { callers = states }
    lists_back = λ i. record {
      pool = entries_back lists.pool (of_lane PoolLane marks) pool_long i;
      base = entries_back lists.base (of_lane BaseLane marks) base_long i;
      cpus = cpus_back 0 lists.cpus cpu_long_0 i;
      callers = states;
    }

    pub as_many_cpus : length (book_of lists states).cpus ≡ length lists.cpus
    as_many_cpus = cpus_long 0 lists.cpus

    abbrev Conforms : MarkBy → Type 0
    Conforms by = stamped_at (book_of lists states) by.mark.lane by.mark.place ≡ Some (by.mark.stamp, by.who)

    in_order : (lane : LaneId) → InOrder 0 (map (λ by. by.mark) (of_lane lane marks))
    in_order lane = subst (InOrder 0) (sym (marks_alone lane marks)) (stored.order lane)

    on_lane : {E : Type 0} (lane : LaneId) (es : List E) → length (of_lane lane marks) ≡ length es →
        ((place : ℕ) → stamped_at (book_of lists states) lane place ≡ stamped (visits es (of_lane lane marks)) place) →
        AllByRecursion Conforms (of_lane lane marks)
    on_lane lane es long is =
        each_weaker
        (λ (by : MarkBy). (by.mark.lane ≡ lane)
        × (stamped (visits es (of_lane lane marks)) by.mark.place ≡ Some (by.mark.stamp, by.who)))
        Conforms (of_lane lane marks)
        (λ by h. ap (λ l. stamped_at (book_of lists states) l by.mark.place) h.0 ∙ is by.mark.place ∙ h.1)
        (each_both (λ (by : MarkBy). by.mark.lane ≡ lane)
        (λ (by : MarkBy). stamped (visits es (of_lane lane marks)) by.mark.place ≡ Some (by.mark.stamp, by.who))
        (of_lane lane marks) (are_there lane marks) (placed [] es (of_lane lane marks) 0 refl (in_order lane) long))

    lane_conforms : (lane : LaneId) → AllByRecursion Conforms (of_lane lane marks)
    lane_conforms PoolLane = on_lane PoolLane lists.pool pool_long (λ place. refl)
    lane_conforms BaseLane = on_lane BaseLane lists.base base_long (λ place. refl)
    lane_conforms (CpuLane c) = on_lane (CpuLane c) (cpu_list lists c) (cpu_long c) (λ place.
        ap (λ vs. stamped vs place) (cpu_at 0 lists.cpus c
        ∙ ap (λ n. visits (cpu_list lists c) (of_lane (CpuLane n) marks)) (omega arith)))

    visit_lengths : sum_by (λ vs. length vs) (cpu_visits 0 lists.cpus) ≡ sum_by (λ es. length es) lists.cpus
    visit_lengths = by 0 lists.cpus cpu_long_0
      where
        by : (c : ℕ) (ess : List (List CpuEntry)) →
            ((d : ℕ) → length (of_lane (CpuLane (c + d)) marks) ≡ length (list_at ess d)) →
            sum_by (λ (vs : List (Visit CpuEntry)). length vs) (cpu_visits c ess)
            ≡ sum_by (λ (es : List CpuEntry). length es) ess
        by c [] each = refl
        by c (es ∷ ess) each =
            let here : length (of_lane (CpuLane c) marks) ≡ length es =
            ap (λ n. length (of_lane (CpuLane n) marks)) (omega arith) ∙ each 0 in
            sum_by-cons (λ (vs : List (Visit CpuEntry)). length vs) (visits es (of_lane (CpuLane c) marks))
            (cpu_visits (suc c) ess)
            ∙ (λ i. visits_long es (of_lane (CpuLane c) marks) here i + by (suc c) ess
            (λ d. ap (λ n. length (of_lane (CpuLane n) marks)) (omega arith) ∙ each (suc d)) i)
            ∙ sym (sum_by-cons (λ (es : List CpuEntry). length es) es ess)

    count_is : length marks
        ≡ length (visits lists.pool (of_lane PoolLane marks)) + length (visits lists.base (of_lane BaseLane marks))
        + sum_by (λ vs. length vs) (cpu_visits 0 lists.cpus)
    count_is =
        let all = marks_counted lists.cpus marks stored.cpu in
        let p : length (visits lists.pool (of_lane PoolLane marks)) ≡ length lists.pool =
        visits_long lists.pool (of_lane PoolLane marks) pool_long in
        let b : length (visits lists.base (of_lane BaseLane marks)) ≡ length lists.base =
        visits_long lists.base (of_lane BaseLane marks) base_long in
        let v = visit_lengths in let lp = stored.pool in let lb = stored.base in omega arith

    pub visits_are : (inferred : List MarkBy) → IsPermutation inferred marks → VisitsAre (book_of lists states) inferred
    visits_are inferred moved = record {
      conform = recursion_from_All Conforms inferred (All-permutation Conforms marks inferred (IsPermutation-sym inferred marks moved)
          (All-from_recursion Conforms marks (by_lanes Conforms marks lane_conforms)));
      no_others = sym (length_permutation inferred marks moved) ∙ count_is;
    }
