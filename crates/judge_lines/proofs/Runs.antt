-- In marks sorted by lane and stamp, the marks of each lane come one after the other, as a run. So the places of each
-- lane count up exactly if the places of each run do.
use Rattle.std.proofs.Common.{◌≡◌, ℕ, suc, ◌+◌, ◌<◌, ◌≤◌, Bool, true, false, cond, Option, Some, None, List, [], ◌∷◌, length, get_or, drop, map, inl, inr, refl, sym, subst, ap, ◌∙◌, arith}
use Rattle.std.specs.Prelude.{◌↔◌, ◌⊎◌, ◌==◌, MatchBool, nat_lt, IsSortedByKey}
use Rattle.std.specs.Ordering.{is_lt, ordering_then, nat_cmp}
use Rattle.std.specs.declared.cmp.Ordering.{Ordering}
use Rattle.std.specs.declared.cmp.Ordering.TheVariants.{Less, Equal, Greater}
use Rattle.std.specs.List.{AllByRecursion}
use Rattle.std.proofs.lemmas.List.{drop_more, at_drop_all}
use Rattle.std.proofs.lemmas.Bool.{eq-eqb}
use Rattle.std.proofs.lemmas.Bool.Decides.{nat_tests}
use Rattle.key_names.specs.declared.names.LaneId.{LaneId}
use Rattle.key_names.specs.declared.names.LaneId.TheVariants.{Pool as PoolLane, Base as BaseLane, Cpu as CpuLane}
use Rattle.key_names.specs.declared.names.Mark.{Mark}
use Rattle.key_names.specs.Transcripts.IsTranscript.{is_same_lane, lane_marks, PlacesConform}
use Rattle.key_names.specs.Transcripts.PlacesInOrder.{InOrder, ByStamp}
use Rattle.key_names.proofs.Transcripts.PlacesInOrder.{places_count_up}
use Rattle.key_names.proofs.Lists.Each.{each_weaker}
use Rattle.key_names.proofs.Transcripts.LaneCounts.{same_lane, lane_itself}
use Rattle.judge_lines.specs.declared.marks.MarkOf.{MarkOf}
use Rattle.judge_lines.specs.Marks.{seen_mark, lane_rank, NotAfter, IsSortedByLane, Follows, RunsCount}

rank_same : (a b : LaneId) → lane_rank a ≡ lane_rank b → is_same_lane a b ≡ true
rank_same PoolLane PoolLane e = refl
rank_same BaseLane BaseLane e = refl
rank_same (CpuLane c) (CpuLane d) e = eq-eqb c d (omega arith)
rank_same PoolLane BaseLane e = absurd (omega arith)
rank_same PoolLane (CpuLane d) e = absurd (omega arith)
rank_same BaseLane PoolLane e = absurd (omega arith)
rank_same BaseLane (CpuLane d) e = absurd (omega arith)
rank_same (CpuLane c) PoolLane e = absurd (omega arith)
rank_same (CpuLane c) BaseLane e = absurd (omega arith)

-- lanes of different ranks are different
apart : (a b : LaneId) → lane_rank a < lane_rank b → is_same_lane b a ≡ false
apart a b low = go (is_same_lane b a) refl
  where
    go : (t : Bool) → is_same_lane b a ≡ t → is_same_lane b a ≡ false
    go true e = let r : lane_rank b ≡ lane_rank a = ap lane_rank (same_lane b a e) in absurd (omega arith)
    go false e = e

after_after : (a b c : Mark) → NotAfter a b → NotAfter b c → NotAfter a c
after_after a b c (inl p) (inl q) = inl (omega arith)
after_after a b c (inl p) (inr q) = inl (let e = q.0 in omega arith)
after_after a b c (inr p) (inl q) = inl (let e = p.0 in omega arith)
after_after a b c (inr p) (inr q) = inr (p.0 ∙ q.0, (let x = p.1 in let y = q.1 in omega arith))

all_after : (a : MarkOf) (marks : List MarkOf) → IsSortedByLane (a ∷ marks) →
    AllByRecursion (λ b. NotAfter a.mark b.mark) marks
all_after a [] sorted = tt
all_after a (b ∷ marks) sorted = (
  sorted.0,
  each_weaker (λ (c : MarkOf). NotAfter b.mark c.mark) (λ (c : MarkOf). NotAfter a.mark c.mark) marks
      (λ c h. after_after a.mark b.mark c.mark sorted.0 h) (all_after b marks sorted.1),
)

sorted_rest : (a : MarkOf) (marks : List MarkOf) → IsSortedByLane (a ∷ marks) → IsSortedByLane marks
sorted_rest a [] sorted = tt
sorted_rest a (b ∷ marks) sorted = sorted.1

abbrev of_lane : LaneId → List MarkOf → List Mark
of_lane lane marks = lane_marks lane (map seen_mark marks)

taken : (lane : LaneId) (m : MarkOf) (marks : List MarkOf) → is_same_lane m.mark.lane lane ≡ true →
    of_lane lane (m ∷ marks) ≡ m.mark ∷ of_lane lane marks
taken lane m marks e = rw e refl

left : (lane : LaneId) (m : MarkOf) (marks : List MarkOf) → is_same_lane m.mark.lane lane ≡ false →
    of_lane lane (m ∷ marks) ≡ of_lane lane marks
left lane m marks e = rw e refl

-- if P holds for each mark in `marks` whose lane is `lane`, it holds for each mark in `of_lane lane marks`
in_lane : (P : Mark → Type 0) (lane : LaneId) (marks : List MarkOf) →
    AllByRecursion (λ (m : MarkOf). is_same_lane m.mark.lane lane ≡ true → P m.mark) marks → AllByRecursion P (of_lane lane marks)
in_lane P lane [] all = tt
in_lane P lane (m ∷ marks) all = go (is_same_lane m.mark.lane lane) refl (in_lane P lane marks all.1)
  where
    go : (t : Bool) → is_same_lane m.mark.lane lane ≡ t → AllByRecursion P (of_lane lane marks) →
        AllByRecursion P (of_lane lane (m ∷ marks))
    go true e rest = subst (λ (ms : List Mark). AllByRecursion P ms) (sym (taken lane m marks e)) (all.0 e, rest)
    go false e rest = subst (λ (ms : List Mark). AllByRecursion P ms) (sym (left lane m marks e)) rest

-- if no mark in `marks` has the lane `lane`, `of_lane lane marks` is empty
none_left : (lane : LaneId) (marks : List MarkOf) →
    AllByRecursion (λ (m : MarkOf). is_same_lane m.mark.lane lane ≡ false) marks → of_lane lane marks ≡ []
none_left lane [] none = refl
none_left lane (m ∷ marks) none = left lane m marks none.0 ∙ none_left lane marks none.1

pub lane_sorted : (lane : LaneId) (marks : List MarkOf) → IsSortedByLane marks → ByStamp (of_lane lane marks)
lane_sorted lane [] sorted = tt
lane_sorted lane (m ∷ marks) sorted =
    go (is_same_lane m.mark.lane lane) refl (lane_sorted lane marks (sorted_rest m marks sorted))
  where
    not_above : is_same_lane m.mark.lane lane ≡ true → (n : MarkOf) → NotAfter m.mark n.mark →
        is_same_lane n.mark.lane lane ≡ true → m.mark.stamp ≤ n.mark.stamp
    not_above e n (inl less) e' =
        let r : lane_rank m.mark.lane ≡ lane_rank n.mark.lane =
        ap lane_rank (same_lane m.mark.lane lane e ∙ sym (same_lane n.mark.lane lane e')) in absurd (omega arith)
    not_above e n (inr h) e' = h.1

    go : (t : Bool) → is_same_lane m.mark.lane lane ≡ t → ByStamp (of_lane lane marks) →
        ByStamp (of_lane lane (m ∷ marks))
    go true e rest = subst ByStamp (sym (taken lane m marks e)) (
      in_lane (λ n. m.mark.stamp ≤ n.stamp) lane marks
          (each_weaker (λ (n : MarkOf). NotAfter m.mark n.mark)
          (λ (n : MarkOf). is_same_lane n.mark.lane lane ≡ true → m.mark.stamp ≤ n.mark.stamp) marks (not_above e)
          (all_after m marks sorted)),
      rest,
    )
    go false e rest = subst ByStamp (sym (left lane m marks e)) rest

-- `marks` come after mark `a`. In the lane of `a`, they go on with the next places and with higher stamps. In each
-- other lane, their places count up from 0
record GoesOn (a : Mark) (marks : List MarkOf) : Type 0 where
  run : InOrder (suc a.place) (of_lane a.lane marks)
  above : AllByRecursion (λ n. a.stamp < n.stamp) (of_lane a.lane marks)
  others : (lane : LaneId) → is_same_lane a.lane lane ≡ false → InOrder 0 (of_lane lane marks)

-- if mark m has place i, and `marks` go on after m (`GoesOn`), the places in m's lane count up from i
first_of : (m : MarkOf) (marks : List MarkOf) (i : ℕ) → m.mark.place ≡ i → GoesOn m.mark marks →
    InOrder i (of_lane m.mark.lane (m ∷ marks))
first_of m marks i here on = subst (InOrder i) (sym (taken m.mark.lane m marks (lane_itself m.mark.lane)))
    (here, on.above, subst (λ j. InOrder (suc j) (of_lane m.mark.lane marks)) here on.run)

of_first : (m : MarkOf) (marks : List MarkOf) (i : ℕ) → InOrder i (of_lane m.mark.lane (m ∷ marks)) →
    (m.mark.place ≡ i) × AllByRecursion (λ n. m.mark.stamp < n.stamp) (of_lane m.mark.lane marks)
    × InOrder (suc m.mark.place) (of_lane m.mark.lane marks)
of_first m marks i order =
    let h : (m.mark.place ≡ i) × AllByRecursion (λ n. m.mark.stamp < n.stamp) (of_lane m.mark.lane marks)
    × InOrder (suc i) (of_lane m.mark.lane marks) =
    subst (InOrder i) (taken m.mark.lane m marks (lane_itself m.mark.lane)) order in
    (h.0, h.1, subst (λ j. InOrder (suc j) (of_lane m.mark.lane marks)) (sym h.0) h.2)

-- if in each lane the places of m and `marks` count up from 0, the places of `marks` do so in each lane other than m's
others_of : (m : MarkOf) (marks : List MarkOf) (order : (lane : LaneId) → InOrder 0 (of_lane lane (m ∷ marks))) →
    (lane : LaneId) → is_same_lane m.mark.lane lane ≡ false → InOrder 0 (of_lane lane marks)
others_of m marks order lane e = subst (InOrder 0) (left lane m marks e) (order lane)

begins : (m : MarkOf) (marks : List MarkOf) → m.mark.place ≡ 0 → GoesOn m.mark marks → (lane : LaneId) →
    InOrder 0 (of_lane lane (m ∷ marks))
begins m marks here on lane = go (is_same_lane m.mark.lane lane) refl
  where
    go : (t : Bool) → is_same_lane m.mark.lane lane ≡ t → InOrder 0 (of_lane lane (m ∷ marks))
    go true e = subst (λ l. InOrder 0 (of_lane l (m ∷ marks))) (same_lane m.mark.lane lane e) (first_of m marks 0 here on)
    go false e = subst (InOrder 0) (sym (left lane m marks e)) (on.others lane e)

module _ (a m : MarkOf) (marks : List MarkOf) (sorted : IsSortedByLane (a ∷ m ∷ marks)) where
  -- suppose that the next mark m is in the same lane as mark a
  module _ (e : is_same_lane a.mark.lane m.mark.lane ≡ true) where
    one : a.mark.lane ≡ m.mark.lane
    one = same_lane a.mark.lane m.mark.lane e

    same_on : a.mark.stamp < m.mark.stamp → m.mark.place ≡ suc a.mark.place → GoesOn m.mark marks → GoesOn a.mark (m ∷ marks)
    same_on up next on = record {
      run = subst (λ l. InOrder (suc a.mark.place) (of_lane l (m ∷ marks))) (sym one)
          (first_of m marks (suc a.mark.place) next on);
      above = subst (λ l. AllByRecursion (λ n. a.mark.stamp < n.stamp) (of_lane l (m ∷ marks))) (sym one)
          (subst (λ (ms : List Mark). AllByRecursion (λ n. a.mark.stamp < n.stamp) ms)
          (sym (taken m.mark.lane m marks (lane_itself m.mark.lane))) (
            up,
            each_weaker (λ (n : Mark). m.mark.stamp < n.stamp) (λ (n : Mark). a.mark.stamp < n.stamp)
                (of_lane m.mark.lane marks) (λ n h. omega arith) on.above,
          ));
      others = λ lane other.
          let other' : is_same_lane m.mark.lane lane ≡ false = subst (λ l. is_same_lane l lane ≡ false) one other in
          subst (InOrder 0) (sym (left lane m marks other')) (on.others lane other');
    }

    on_same : GoesOn a.mark (m ∷ marks) → (a.mark.stamp < m.mark.stamp) × (m.mark.place ≡ suc a.mark.place) × GoesOn m.mark marks
    on_same on =
        let run : (m.mark.place ≡ suc a.mark.place)
        × AllByRecursion (λ n. m.mark.stamp < n.stamp) (of_lane m.mark.lane marks)
        × InOrder (suc m.mark.place) (of_lane m.mark.lane marks) =
        of_first m marks (suc a.mark.place)
        (subst (λ l. InOrder (suc a.mark.place) (of_lane l (m ∷ marks))) one on.run) in
        let up : AllByRecursion (λ n. a.mark.stamp < n.stamp) (m.mark ∷ of_lane m.mark.lane marks) =
        subst (λ (ms : List Mark). AllByRecursion (λ n. a.mark.stamp < n.stamp) ms)
        (taken m.mark.lane m marks (lane_itself m.mark.lane))
        (subst (λ l. AllByRecursion (λ n. a.mark.stamp < n.stamp) (of_lane l (m ∷ marks))) one on.above) in (
          up.0,
          run.0,
          record {
            run = run.2;
            above = run.1;
            others = λ lane other.
                let other' : is_same_lane a.mark.lane lane ≡ false = subst (λ l. is_same_lane l lane ≡ false) (sym one) other in
                subst (InOrder 0) (left lane m marks other) (on.others lane other');
          },
        )

  -- suppose that the next mark m is in another lane than mark a
  module _ (e : is_same_lane a.mark.lane m.mark.lane ≡ false) where
    below : lane_rank a.mark.lane < lane_rank m.mark.lane
    below = go sorted.0
      where
        go : NotAfter a.mark m.mark → lane_rank a.mark.lane < lane_rank m.mark.lane
        go (inl less) = less
        go (inr h) = let t : is_same_lane a.mark.lane m.mark.lane ≡ true = rank_same a.mark.lane m.mark.lane h.0 in cc

    no_more : of_lane a.mark.lane (m ∷ marks) ≡ []
    no_more = none_left a.mark.lane (m ∷ marks) (
      apart a.mark.lane m.mark.lane below,
      each_weaker (λ (n : MarkOf). NotAfter m.mark n.mark) (λ (n : MarkOf). is_same_lane n.mark.lane a.mark.lane ≡ false) marks
          far (all_after m marks sorted.1),
    )
      where
        far : (n : MarkOf) → NotAfter m.mark n.mark → is_same_lane n.mark.lane a.mark.lane ≡ false
        far n (inl less) = apart a.mark.lane n.mark.lane (let b = below in omega arith)
        far n (inr h) = apart a.mark.lane n.mark.lane (let b = below in let r = h.0 in omega arith)

    other_on : m.mark.place ≡ 0 → GoesOn m.mark marks → GoesOn a.mark (m ∷ marks)
    other_on here on = record {
      run = subst (InOrder (suc a.mark.place)) (sym no_more) tt;
      above = subst (λ (ms : List Mark). AllByRecursion (λ n. a.mark.stamp < n.stamp) ms) (sym no_more) tt;
      others = λ lane other. begins m marks here on lane;
    }

    on_other : GoesOn a.mark (m ∷ marks) → (m.mark.place ≡ 0) × GoesOn m.mark marks
    on_other on =
        let run : (m.mark.place ≡ 0) × AllByRecursion (λ n. m.mark.stamp < n.stamp) (of_lane m.mark.lane marks)
        × InOrder (suc m.mark.place) (of_lane m.mark.lane marks) = of_first m marks 0 (on.others m.mark.lane e) in (
          run.0,
          record {
            run = run.2;
            above = run.1;
            others = λ lane other. rest lane other (is_same_lane a.mark.lane lane) refl;
          },
        )
      where
        rest : (lane : LaneId) → is_same_lane m.mark.lane lane ≡ false → (t : Bool) → is_same_lane a.mark.lane lane ≡ t →
            InOrder 0 (of_lane lane marks)
        rest lane other false e' = subst (InOrder 0) (left lane m marks other) (on.others lane e')
        rest lane other true e' = subst (InOrder 0) (sym gone) tt
          where
            gone : of_lane lane marks ≡ []
            gone = sym (left lane m marks other)
                ∙ subst (λ l. of_lane l (m ∷ marks) ≡ []) (same_lane a.mark.lane lane e') no_more

after_mark : (a : MarkOf) (marks : List MarkOf) → IsSortedByLane (a ∷ marks) →
    (RunsCount (Some a.mark) marks → GoesOn a.mark marks) × (GoesOn a.mark marks → RunsCount (Some a.mark) marks)
after_mark a [] sorted = ((λ h. record { run = tt; above = tt; others = λ lane other. tt }), (λ h. tt))
after_mark a (m ∷ marks) sorted =
    go (is_same_lane a.mark.lane m.mark.lane) refl (after_mark m marks sorted.1)
  where
    Both : Type 0
    Both = (RunsCount (Some m.mark) marks → GoesOn m.mark marks) × (GoesOn m.mark marks → RunsCount (Some m.mark) marks)

    follows : (t : Bool) → is_same_lane a.mark.lane m.mark.lane ≡ t → Follows (Some a.mark) m.mark →
        MatchBool t ((a.mark.stamp < m.mark.stamp) × (m.mark.place ≡ suc a.mark.place)) (m.mark.place ≡ 0)
    follows t e h = subst (λ b. MatchBool b ((a.mark.stamp < m.mark.stamp) × (m.mark.place ≡ suc a.mark.place)) (m.mark.place ≡ 0)) e h

    followed : (t : Bool) → is_same_lane a.mark.lane m.mark.lane ≡ t →
        MatchBool t ((a.mark.stamp < m.mark.stamp) × (m.mark.place ≡ suc a.mark.place)) (m.mark.place ≡ 0) →
        Follows (Some a.mark) m.mark
    followed t e h = subst (λ b. MatchBool b ((a.mark.stamp < m.mark.stamp) × (m.mark.place ≡ suc a.mark.place)) (m.mark.place ≡ 0)) (sym e) h

    go : (t : Bool) → is_same_lane a.mark.lane m.mark.lane ≡ t →
        (RunsCount (Some m.mark) marks → GoesOn m.mark marks) × (GoesOn m.mark marks → RunsCount (Some m.mark) marks) →
        (RunsCount (Some a.mark) (m ∷ marks) → GoesOn a.mark (m ∷ marks))
        × (GoesOn a.mark (m ∷ marks) → RunsCount (Some a.mark) (m ∷ marks))
    go true e ih = (
      (λ h. let f : (a.mark.stamp < m.mark.stamp) × (m.mark.place ≡ suc a.mark.place) = follows true e h.0 in
          same_on a m marks sorted e f.0 f.1 (ih.0 h.1)),
      (λ on. let s : (a.mark.stamp < m.mark.stamp) × (m.mark.place ≡ suc a.mark.place) × GoesOn m.mark marks =
          on_same a m marks sorted e on in (followed true e (s.0, s.1), ih.1 s.2)),
    )
    go false e ih = (
      (λ h. let f : m.mark.place ≡ 0 = follows false e h.0 in other_on a m marks sorted e f (ih.0 h.1)),
      (λ on. let s : (m.mark.place ≡ 0) × GoesOn m.mark marks = on_other a m marks sorted e on in
          (followed false e s.0, ih.1 s.1)),
    )

counted : (marks : List MarkOf) → IsSortedByLane marks →
    (RunsCount None marks → (lane : LaneId) → InOrder 0 (of_lane lane marks))
    × (((lane : LaneId) → InOrder 0 (of_lane lane marks)) → RunsCount None marks)
counted [] sorted = ((λ h lane. tt), (λ h. tt))
counted (m ∷ marks) sorted =
    let both : (RunsCount (Some m.mark) marks → GoesOn m.mark marks) × (GoesOn m.mark marks → RunsCount (Some m.mark) marks) =
    after_mark m marks sorted in (
      (λ h lane. begins m marks h.0 (both.0 h.1) lane),
      (λ order.
          let run : (m.mark.place ≡ 0) × AllByRecursion (λ n. m.mark.stamp < n.stamp) (of_lane m.mark.lane marks)
          × InOrder (suc m.mark.place) (of_lane m.mark.lane marks) = of_first m marks 0 (order m.mark.lane) in
          (run.0, both.1 (record { run = run.2; above = run.1; others = others_of m marks order }))),
    )

-- the places of the runs in the marks from mark i on count up exactly if mark i follows `last` (`Follows`) and the
-- places of the runs after mark i count up
pub runs_more : (last : Option Mark) (marks : List MarkOf) (i : ℕ) (d : MarkOf) → i < length marks →
    RunsCount last (drop i marks)
    ↔ Follows last (get_or marks i d).mark × RunsCount (Some (get_or marks i d).mark) (drop (i + 1) marks)
runs_more last marks i d low = rw (drop_more marks i d low) ((λ h. h), (λ h. h))

pub runs_end : (last : Option Mark) (marks : List MarkOf) (i : ℕ) → length marks ≤ i → RunsCount last (drop i marks)
runs_end last marks i high = rw (at_drop_all (λ x. x) marks i high) tt

-- in marks sorted by lane, the places of each lane count up exactly if the places of each run do
pub runs_conform : (marks : List MarkOf) → IsSortedByLane marks →
    RunsCount None marks ↔ ((lane : LaneId) → PlacesConform (lane_marks lane (map seen_mark marks)))
runs_conform marks sorted = (
  (λ h lane. (places_count_up (of_lane lane marks)).0 ((counted marks sorted).0 h lane)),
  (λ conform. (counted marks sorted).1
      (λ lane. (places_count_up (of_lane lane marks)).1 (lane_sorted lane marks sorted) (conform lane))),
)

-- ---- sorting marks by rank and stamp

abbrev pub sort_key : MarkOf → ℕ × ℕ
sort_key of = (lane_rank of.mark.lane, of.mark.stamp)

abbrev pub by_both : ℕ × ℕ → ℕ × ℕ → Ordering
by_both x y = ordering_then (nat_cmp x.0 y.0) (nat_cmp x.1 y.1)

-- if mark b does not sort before mark a, then b's rank `rb` is higher, or the ranks are equal and b's stamp `sb` is not
-- lower
not_before : (ra rb sa sb : ℕ) → is_lt (by_both (rb, sb) (ra, sa)) ≡ false → (ra < rb) ⊎ ((ra ≡ rb) × (sa ≤ sb))
not_before ra rb sa sb e = go (nat_lt rb ra) refl (rb == ra) refl (nat_lt sb sa) refl (sb == sa) e
  where
    go : (b1 : Bool) → nat_lt rb ra ≡ b1 → (b2 : Bool) → (rb == ra) ≡ b2 → (b3 : Bool) → nat_lt sb sa ≡ b3 → (b4 : Bool) →
        is_lt (ordering_then (cond b1 Less (cond b2 Equal Greater)) (cond b3 Less (cond b4 Equal Greater))) ≡ false →
        (ra < rb) ⊎ ((ra ≡ rb) × (sa ≤ sb))
    go true e1 b2 e2 b3 e3 b4 h = cc
    go false e1 true e2 true e3 b4 h = cc
    go false e1 true e2 false e3 b4 h =
        let r : ra ≡ rb = grind (arith, nat_tests) in let s : sa ≤ sb = grind (arith, nat_tests) in inr (r, s)
    go false e1 false e2 b3 e3 b4 h = let r : ra < rb = grind (arith, nat_tests) in inl r

pub sorted_lanes : (marks : List MarkOf) → IsSortedByKey sort_key by_both marks → IsSortedByLane marks
sorted_lanes [] up = tt
sorted_lanes (a ∷ []) up = tt
sorted_lanes (a ∷ b ∷ marks) up = (
  not_before (lane_rank a.mark.lane) (lane_rank b.mark.lane) a.mark.stamp b.mark.stamp (up 0 a (omega arith) (omega arith)),
  sorted_lanes (b ∷ marks) (λ k d low high.
      let e : suc k + 1 ≡ suc (k + 1) = omega arith in
      subst (λ n. is_lt (by_both (sort_key (get_or (a ∷ b ∷ marks) n d)) (sort_key (get_or (b ∷ marks) k d))) ≡ false) e
      (up (suc k) d (omega arith) (omega arith))),
)
