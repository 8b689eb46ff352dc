-- If PlacesConform holds for the marks of each lane, the lines of a transcript have at most one mark for each place.
use Rattle.std.proofs.Common.{◌≡◌, ℕ, zero, suc, ◌+◌, ◌<◌, ◌≤◌, Bool, true, false, cond, List, [], ◌∷◌, ◌++◌, inl, inr, refl, sym, subst, ap, ◌∙◌, arith, Some, None, Option, length}
use Rattle.std.specs.Prelude.{count_by, ◌==◌, ◌&&◌, nat_lt, if◌then◌else◌, slice_get}
use Rattle.std.specs.List.{AllByRecursion, range_with_len, flat_map}
use Rattle.std.proofs.lemmas.List.Sums.{sum_by-cons}
use Rattle.std.proofs.lemmas.Bool.Decides.{nat_tests}
use Rattle.key_names.specs.declared.names.LaneId.{LaneId}
use Rattle.key_names.specs.declared.names.LaneId.TheVariants.{Pool as PoolLane, Base as BaseLane, Cpu as CpuLane}
use Rattle.key_names.specs.declared.names.Mark.{Mark}
use Rattle.key_names.specs.declared.names.Step.{Step}
use Rattle.key_names.specs.declared.names.Step.TheVariants.{Look, Visit as Marked}
use Rattle.key_names.specs.declared.entries.PoolEntry.{PoolEntry}
use Rattle.key_names.specs.declared.entries.BaseEntry.{BaseEntry}
use Rattle.key_names.specs.declared.entries.CpuEntry.{CpuEntry}
use Rattle.key_names.specs.Lanes.Book.{Lists, cpu_list}
use Rattle.key_names.specs.Callers.Effects.{Effect, at_pool, at_base, at_cpu, effect_or, effect_at, effects_of, pool_visit, base_visit, cpu_visit}
use Rattle.key_names.specs.Transcripts.SeenLine.{SeenLine}
use Rattle.key_names.specs.Transcripts.IsTranscript.{MarkBy, marks_from, line_marks, all_marks, is_same_lane, lane_marks, PlacesConform}
use Rattle.key_names.proofs.Vgetrandom.KeyTakes.{is_here, effect_takes}
use Rattle.key_names.proofs.Transcripts.TranscriptBooks.{lt_or_le}

abbrev pub hit : Bool → ℕ
hit b = cond b 1 0

-- These functions count the marks of place `p` of `lane`.
module _ (lane : LaneId) (p : ℕ) where
  abbrev pub lane_takes : LaneId → ℕ → ℕ
  lane_takes other place = if is_same_lane other lane then hit (place == p) else 0

  -- how many of the steps are marks of place `p`
  abbrev pub mark_takes : List Step → ℕ
  mark_takes [] = 0
  mark_takes (Look g ∷ steps) = mark_takes steps
  mark_takes (Marked mark ∷ steps) = lane_takes mark.lane mark.place + mark_takes steps

  -- how many of the marks of one lane have place `p`
  abbrev place_count : List Mark → ℕ
  place_count marks = count_by (λ mark. mark.place == p) marks

  abbrev count_here : List MarkBy → ℕ
  count_here marks = place_count (lane_marks lane marks)

  count_cons : (m : Mark) (ms : List Mark) → place_count (m ∷ ms) ≡ cond (m.place == p) 1 0 + place_count ms
  count_cons m ms = sum_by-cons (λ mark. cond (mark.place == p) 1 0) m ms

  here_cons : (by : MarkBy) (marks : List MarkBy) →
      count_here (by ∷ marks) ≡ lane_takes by.mark.lane by.mark.place + count_here marks
  here_cons by marks = go (is_same_lane by.mark.lane lane)
    where
      go : (b : Bool) → place_count (if b then by.mark ∷ lane_marks lane marks else lane_marks lane marks)
          ≡ (if b then hit (by.mark.place == p) else 0) + count_here marks
      go true = count_cons by.mark (lane_marks lane marks)
      go false = omega arith

  here_append : (xs ys : List MarkBy) → count_here (xs ++ ys) ≡ count_here xs + count_here ys
  here_append [] ys = omega arith
  here_append (by ∷ xs) ys =
      let a : count_here (by ∷ (xs ++ ys)) ≡ lane_takes by.mark.lane by.mark.place + count_here (xs ++ ys) =
      here_cons by (xs ++ ys) in
      let b : count_here (by ∷ xs) ≡ lane_takes by.mark.lane by.mark.place + count_here xs = here_cons by xs in
      let rest : count_here (xs ++ ys) ≡ count_here xs + count_here ys = here_append xs ys in omega arith

  steps_count : (caller n i : ℕ) (steps : List Step) → count_here (marks_from caller n i steps) ≡ mark_takes steps
  steps_count caller n i [] = refl
  steps_count caller n i (Look g ∷ steps) = steps_count caller n (suc i) steps
  steps_count caller n i (Marked mark ∷ steps) =
      let by : MarkBy = record { mark = mark; who = record { caller = caller; event = n; step = i } } in
      let rest : count_here (marks_from caller n (suc i) steps) ≡ mark_takes steps =
      steps_count caller n (suc i) steps in
      here_cons by (marks_from caller n (suc i) steps) ∙ ap (λ m. lane_takes mark.lane mark.place + m) rest

  abbrev pub lines_takes : List SeenLine → ℕ
  lines_takes [] = 0
  lines_takes (line ∷ lines) = mark_takes line.steps + lines_takes lines

  abbrev pub total_takes : List (List SeenLine) → ℕ
  total_takes [] = 0
  total_takes (lines ∷ t) = lines_takes lines + total_takes t

  lines_count : (lines : List SeenLine) → count_here (flat_map line_marks lines) ≡ lines_takes lines
  lines_count [] = refl
  lines_count (line ∷ lines) =
      let a : count_here (line_marks line ++ flat_map line_marks lines) ≡ count_here (line_marks line) + count_here
      (flat_map line_marks lines) =
      here_append (line_marks line) (flat_map line_marks lines) in
      let b : count_here (line_marks line) ≡ mark_takes line.steps = steps_count line.caller line.event 0 line.steps in
      let rest : count_here (flat_map line_marks lines) ≡ lines_takes lines = lines_count lines in omega arith

  total_count : (t : List (List SeenLine)) → count_here (all_marks t) ≡ total_takes t
  total_count [] = refl
  total_count (lines ∷ t) =
      let a : count_here (flat_map line_marks lines ++ all_marks t) ≡ count_here (flat_map line_marks lines)
      + count_here (all_marks t) =
      here_append (flat_map line_marks lines) (all_marks t) in
      let b : count_here (flat_map line_marks lines) ≡ lines_takes lines = lines_count lines in
      let rest : count_here (all_marks t) ≡ total_takes t = total_count t in omega arith

-- These functions count how often the read at place `p` of CPU `c` occurs.
module _ (c p : ℕ) where
  cpu_takes : (d place : ℕ) → lane_takes (CpuLane c) p (CpuLane d) place ≡ is_here c p d place
  cpu_takes d place = go (d == c)
    where
      go : (b : Bool) → (if b then hit (place == p) else 0) ≡ hit (b && place == p)
      go true = refl
      go false = refl

  lane_effect : (lists : Lists) (lane : LaneId) (place : ℕ) (ds : List Effect) (n : ℕ) → effect_takes c p ds ≤ n →
      effect_takes c p (effect_at lists lane place ∷ ds) ≤ lane_takes (CpuLane c) p lane place + n
  lane_effect lists PoolLane place ds n le = pool (slice_get lists.pool place)
    where
      pool : (o : Option PoolEntry) → effect_takes c p (effect_or (λ e. at_pool (pool_visit lists place e)) o ∷ ds) ≤ 0 + n
      pool None = omega arith
      pool (Some e) = omega arith
  lane_effect lists BaseLane place ds n le = base (slice_get lists.base place)
    where
      base : (o : Option BaseEntry) → effect_takes c p (effect_or (λ e. at_base (base_visit lists place e)) o ∷ ds) ≤ 0 + n
      base None = omega arith
      base (Some e) = omega arith
  lane_effect lists (CpuLane d) place ds n le = cpu (slice_get (cpu_list lists d) place)
    where
      cpu : (o : Option CpuEntry) → effect_takes c p (effect_or (λ e. at_cpu (cpu_visit lists d place e)) o ∷ ds)
          ≤ lane_takes (CpuLane c) p (CpuLane d) place + n
      cpu None = omega arith
      cpu (Some e) = let same = cpu_takes d place in omega arith

  -- the effects of `steps` contain the visit at place `p` of CPU `c` at most as often as `steps` contain the visit's
  -- mark
  pub effects_within : (lists : Lists) (steps : List Step) → effect_takes c p (effects_of lists steps) ≤ mark_takes (CpuLane c) p steps
  effects_within lists [] = omega arith
  effects_within lists (Look g ∷ steps) = effects_within lists steps
  effects_within lists (Marked mark ∷ steps) =
      lane_effect lists mark.lane mark.place (effects_of lists steps) (mark_takes (CpuLane c) p steps) (effects_within lists steps)

-- `at_place` counts the marks with place `q`; `below` counts the marks with a place below `n`
at_place : ℕ → List Mark → ℕ
at_place q [] = 0
at_place q (m ∷ ms) = cond (m.place == q) 1 0 + at_place q ms

below : ℕ → List Mark → ℕ
below n [] = 0
below n (m ∷ ms) = cond (nat_lt m.place n) 1 0 + below n ms

at_is_count : (q : ℕ) (ms : List Mark) → count_by (λ mark. mark.place == q) ms ≡ at_place q ms
unfolding at_place
at_is_count q [] = refl
at_is_count q (m ∷ ms) = count_cons PoolLane q m ms ∙ ap (λ n. cond (m.place == q) 1 0 + n) (at_is_count q ms)

one_more_below : (x n : ℕ) → cond (nat_lt x (suc n)) 1 0 ≡ cond (nat_lt x n) 1 0 + cond (x == n) 1 0
one_more_below x n = grind (arith, nat_tests)

below_next : (n : ℕ) (ms : List Mark) → below (suc n) ms ≡ below n ms + at_place n ms
unfolding at_place below
below_next n [] = omega arith
below_next n (m ∷ ms) =
    let a : cond (nat_lt m.place (suc n)) 1 0 ≡ cond (nat_lt m.place n) 1 0 + cond (m.place == n) 1 0 =
    one_more_below m.place n in
    let rest : below (suc n) ms ≡ below n ms + at_place n ms = below_next n ms in omega arith

not_below : (x : ℕ) → hit (nat_lt x 0) ≡ 0
not_below x = grind (arith, nat_tests)

none_below : (ms : List Mark) → below 0 ms ≡ 0
unfolding below
none_below [] = refl
none_below (m ∷ ms) = let rest : below 0 ms ≡ 0 = none_below ms in let a : hit (nat_lt m.place 0) ≡ 0 =
    not_below m.place in omega arith

all_below : (n : ℕ) (ms : List Mark) → ((i : ℕ) → i < n → at_place i ms ≡ 1) → below n ms ≡ n
all_below zero ms once = none_below ms
all_below (suc n) ms once =
    let rest : below n ms ≡ n = all_below n ms (λ i lt. once i (omega arith)) in
    let here : at_place n ms ≡ 1 = once n (omega arith) in
    let next : below (suc n) ms ≡ below n ms + at_place n ms = below_next n ms in omega arith

one_of_both : (x n q : ℕ) → n ≤ q → cond (nat_lt x n) 1 0 + cond (x == q) 1 0 ≤ 1
one_of_both x n q le = grind (arith, nat_tests)

no_room : (n q : ℕ) (ms : List Mark) → n ≤ q → below n ms + at_place q ms ≤ length ms
unfolding at_place below
no_room n q [] le = omega arith
no_room n q (m ∷ ms) le =
    let rest : below n ms + at_place q ms ≤ length ms = no_room n q ms le in
    let one : cond (nat_lt m.place n) 1 0 + cond (m.place == q) 1 0 ≤ 1 = one_of_both m.place n q le in omega arith

pub from_range : (P : ℕ → Type 0) (from n : ℕ) → AllByRecursion P (range_with_len from n) → (i : ℕ) → i < n →
    P (from + i)
from_range P from zero all i lt = absurd (omega arith)
from_range P from (suc n) all zero lt = let p : from ≡ from + 0 = omega arith in subst P p all.0
from_range P from (suc n) all (suc i) lt =
    let p : (from + 1) + i ≡ from + suc i = omega arith in subst P p (from_range P (from + 1) n all.1 i (omega arith))

-- no place occurs twice among marks for which PlacesConform holds
at_most_once : (q : ℕ) (ms : List Mark) → PlacesConform ms → at_place q ms ≤ 1
at_most_once q ms conform = elim (lt_or_le q (length ms)) [
  | inl lt ↦ (let one : at_place q ms ≡ 1 = once q lt in omega arith)
  | inr le ↦ (let all : below (length ms) ms ≡ length ms = all_below (length ms) ms once in
      let room : below (length ms) ms + at_place q ms ≤ length ms = no_room (length ms) q ms le in omega arith)
]
  where
    once : (i : ℕ) → i < length ms → at_place i ms ≡ 1
    once i lt =
        let p : 0 + i ≡ i = omega arith in
        let e : count_by (λ mark. mark.place == (0 + i)) ms ≡ 1 =
        from_range (λ place. count_by (λ mark. mark.place == place) ms ≡ 1) 0 (length ms) conform.once i lt in
        sym (at_is_count i ms) ∙ sym (ap (λ j. count_by (λ mark. mark.place == j) ms) p) ∙ e

-- if PlacesConform holds for the marks of `lane`, all lines together have at most one mark of place `p` of `lane`
pub one_mark : (lane : LaneId) (p : ℕ) (t : List (List SeenLine)) → PlacesConform (lane_marks lane (all_marks t)) →
    total_takes lane p t ≤ 1
one_mark lane p t conform =
    let a : count_here lane p (all_marks t) ≡ total_takes lane p t = total_count lane p t in
    let b : count_here lane p (all_marks t) ≡ at_place p (lane_marks lane (all_marks t)) =
    at_is_count p (lane_marks lane (all_marks t)) in
    let le : at_place p (lane_marks lane (all_marks t)) ≤ 1 = at_most_once p (lane_marks lane (all_marks t)) conform in
    omega arith
