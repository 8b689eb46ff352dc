-- The steps of a call have entries in the lists of the CPU and of the pool. Each entry is at the place of its step's
-- mark, and these places follow one another.
use Rattle.std.proofs.Common.{◌≡◌, ℕ, suc, ◌+◌, List, [], ◌∷◌, ◌++◌, length, refl, sym, ap, ◌∙◌, subst, arith, Bool, true, false, cond, nat_eq, append_assoc, Some, None, Option}
use Rattle.std.specs.Prelude.{slice_get}
use Rattle.std.proofs.lemmas.Bool.{eqb-true, ne_eqb}
use Rattle.key_names.specs.declared.names.LaneId.{LaneId}
use Rattle.key_names.specs.declared.names.LaneId.TheVariants.{Pool as PoolLane, Base as BaseLane, Cpu as CpuLane}
use Rattle.key_names.specs.declared.names.Mark.{Mark}
use Rattle.key_names.specs.declared.names.Step.{Step}
use Rattle.key_names.specs.declared.names.Step.TheVariants.{Look, Visit as Marked}
use Rattle.key_names.specs.declared.entries.PoolEntry.{PoolEntry}
use Rattle.key_names.specs.declared.entries.BaseEntry.{BaseEntry}
use Rattle.key_names.specs.declared.entries.CpuEntry.{CpuEntry}
use Rattle.key_names.specs.Lanes.Book.{Lists, cpu_list}
use Rattle.key_names.specs.Callers.Effects.{Effect, looked, at_pool, at_base, at_cpu, nothing_there, effect_or, effect_at, effects_of, pool_visit, base_visit, cpu_visit}
use Rattle.key_names.specs.Transcripts.IsTranscript.{marks_from}
use Rattle.key_names.specs.Transcripts.PlacesInOrder.{InOrder}
use Rattle.lane_table.specs.LaneNumbers.{index_of}
use Rattle.rng_core.proofs.Paths.{lane_of}

abbrev pub cpu_seen : List Effect → List (ℕ × CpuEntry)
cpu_seen [] = []
cpu_seen (looked g ∷ ds) = cpu_seen ds
cpu_seen (at_pool v ∷ ds) = cpu_seen ds
cpu_seen (at_base v ∷ ds) = cpu_seen ds
cpu_seen (at_cpu v ∷ ds) = cond (nat_eq (v.cpu + 2) 2) ((v.place, v.entry) ∷ cpu_seen ds) (cpu_seen ds)
cpu_seen (nothing_there ∷ ds) = cpu_seen ds

abbrev pub pool_seen : List Effect → List (ℕ × PoolEntry)
pool_seen [] = []
pool_seen (looked g ∷ ds) = pool_seen ds
pool_seen (at_pool v ∷ ds) = (v.place, v.entry) ∷ pool_seen ds
pool_seen (at_base v ∷ ds) = pool_seen ds
pool_seen (at_cpu v ∷ ds) = pool_seen ds
pool_seen (nothing_there ∷ ds) = pool_seen ds

-- each effect is a look, or a visit that the lists have
abbrev pub AllThere : List Effect → Type 0
AllThere [] = Unit {0}
AllThere (looked g ∷ ds) = AllThere ds
AllThere (at_pool v ∷ ds) = AllThere ds
AllThere (at_base v ∷ ds) = AllThere ds
AllThere (at_cpu v ∷ ds) = AllThere ds
AllThere (nothing_there ∷ ds) = ⊥

rest_there : (d : Effect) (ds : List Effect) → AllThere (d ∷ ds) → AllThere ds
rest_there (looked g) ds t = t
rest_there (at_pool v) ds t = t
rest_there (at_base v) ds t = t
rest_there (at_cpu v) ds t = t
rest_there nothing_there ds t = absurd t

-- each element of `xs` is a pair of a place and an entry. The places are `i`, `i + 1` and so on, and the list `es` has
-- each pair's entry at the pair's place
abbrev pub Counts : {E : Type 0} → List E → ℕ → List (ℕ × E) → Type 0
Counts es i [] = Unit {0}
Counts es i (x ∷ xs) = (x.0 ≡ i) × (slice_get es i ≡ Some x.1) × Counts es (suc i) xs

-- the places of the marks are `i`, `i + 1` and so on
abbrev pub CountUp : ℕ → List Mark → Type 0
CountUp i [] = Unit {0}
CountUp i (m ∷ ms) = (m.place ≡ i) × CountUp (suc i) ms

pub count_up : (i : ℕ) (ms : List Mark) → InOrder i ms → CountUp i ms
count_up i [] o = tt
count_up i (m ∷ ms) o = (o.0, count_up (suc i) ms o.2)

pub parts_count : (i : ℕ) (xs ys : List Mark) → CountUp i (xs ++ ys) → CountUp i xs × CountUp (i + length xs) ys
parts_count i [] ys c =
    (let same : i ≡ i + 0 = omega arith in (tt, subst (λ k. CountUp k ys) same c))
parts_count i (x ∷ xs) ys c =
    let rest = parts_count (suc i) xs ys c.1 in
    let same : suc i + length xs ≡ i + suc (length xs) = omega arith in
    ((c.0, rest.0), subst (λ k. CountUp k ys) same rest.1)

-- there are as many marks `ms` as pairs `xs`. If the marks' places count up from `i`, so do the places of the pairs,
-- and the list `es` has the pairs' entries at these places
pub record Seen {E : Type 0} (es : List E) (ms : List Mark) (xs : List (ℕ × E)) : Type 0 where
  pub counts : (i : ℕ) → CountUp i ms → Counts es i xs
  pub many : length ms ≡ length xs

one_seen : {E : Type 0} (es : List E) (m : Mark) (e : E) (ms : List Mark) (xs : List (ℕ × E)) →
    slice_get es m.place ≡ Some e → Seen es ms xs → Seen es (m ∷ ms) ((m.place, e) ∷ xs)
one_seen es m e ms xs there rest = record {
  counts = λ i c. (c.0, subst (λ k. slice_get es k ≡ Some e) c.0 there, rest.counts (suc i) c.1);
  many = ap suc rest.many;
}

-- if `front` is a prefix of `es`, and `e` is the next entry of `es`, then `front` followed by `e` is a prefix, too
pub next_entry : {E : Type 0} (es front rest : List E) (e : E) → es ≡ front ++ rest →
    slice_get es (length front) ≡ Some e → (more : List E) × (es ≡ (front ++ e ∷ []) ++ more)
next_entry {E = E} es front rest e is there =
    let n = go front rest (ap (λ l. slice_get l (length front)) (sym is) ∙ there) in
    (n.0, is ∙ ap (λ l. front ++ l) n.1 ∙ sym (append_assoc front (e ∷ []) n.0))
  where
    go : (xs ys : List E) → slice_get (xs ++ ys) (length xs) ≡ Some e → (more : List E) × (ys ≡ e ∷ more)
    go [] [] at = absurd cc
    go [] (y ∷ ys) at = let same : y ≡ e = cc in (ys, ap (λ x. x ∷ ys) same)
    go (x ∷ xs) ys at = go xs ys at

-- the effect of the pool's visit at `place`, if the pool's list has an entry at that place
abbrev pool_effect : Lists → ℕ → Option PoolEntry → Effect
pool_effect lists place o = effect_or (λ e. at_pool (pool_visit lists place e)) o

abbrev base_effect : Lists → ℕ → Option BaseEntry → Effect
base_effect lists place o = effect_or (λ e. at_base (base_visit lists place e)) o

abbrev cpu_effect : Lists → ℕ → ℕ → Option CpuEntry → Effect
cpu_effect lists c place o = effect_or (λ e. at_cpu (cpu_visit lists c place e)) o

module _ (lists : Lists) where
  cpu_more : (mark : Mark) (lane : LaneId) (ds : List Effect) (ms : List Mark) →
      AllThere (effect_at lists lane mark.place ∷ ds) → Seen (cpu_list lists 0) ms (cpu_seen ds) →
      Seen (cpu_list lists 0) (cond (nat_eq (index_of lane) 2) (mark ∷ ms) ms)
      (cpu_seen (effect_at lists lane mark.place ∷ ds))
  cpu_more mark PoolLane ds ms there rest = by (slice_get lists.pool mark.place) there
    where
      by : (o : Option PoolEntry) → AllThere (pool_effect lists mark.place o ∷ ds) → Seen (cpu_list lists 0) ms (cpu_seen (pool_effect lists mark.place o ∷ ds))
      by None t = absurd t
      by (Some e) t = rest
  cpu_more mark BaseLane ds ms there rest = by (slice_get lists.base mark.place) there
    where
      by : (o : Option BaseEntry) → AllThere (base_effect lists mark.place o ∷ ds) → Seen (cpu_list lists 0) ms (cpu_seen (base_effect lists mark.place o ∷ ds))
      by None t = absurd t
      by (Some e) t = rest
  cpu_more mark (CpuLane c) ds ms there rest = by (slice_get (cpu_list lists c) mark.place) refl there
    where
      here : (e : CpuEntry) → slice_get (cpu_list lists c) mark.place ≡ Some e → (b : Bool) → nat_eq (c + 2) 2 ≡ b →
          Seen (cpu_list lists 0) (cond b (mark ∷ ms) ms) (cond b ((mark.place, e) ∷ cpu_seen ds) (cpu_seen ds))
      here e at true is =
          let two : c + 2 ≡ 2 = eqb-true (c + 2) 2 is in
          let none : c ≡ 0 = omega arith in
          one_seen (cpu_list lists 0) mark e ms (cpu_seen ds)
          (subst (λ k. slice_get (cpu_list lists k) mark.place ≡ Some e) none at) rest
      here e at false is = rest

      by : (o : Option CpuEntry) → slice_get (cpu_list lists c) mark.place ≡ o → AllThere (cpu_effect lists c mark.place o ∷ ds) →
          Seen (cpu_list lists 0) (cond (nat_eq (c + 2) 2) (mark ∷ ms) ms) (cpu_seen (cpu_effect lists c mark.place o ∷ ds))
      by None at t = absurd t
      by (Some e) at t = here e at (nat_eq (c + 2) 2) refl

  pub cpu_here : (event n : ℕ) (steps : List Step) → AllThere (effects_of lists steps) →
      Seen (cpu_list lists 0) (lane_of 2 (marks_from 0 event n steps)) (cpu_seen (effects_of lists steps))
  cpu_here event n [] t = record { counts = λ i c. tt; many = refl }
  cpu_here event n (Look g ∷ steps) t = cpu_here event (suc n) steps t
  cpu_here event n (Marked mark ∷ steps) t =
      cpu_more mark mark.lane (effects_of lists steps) (lane_of 2 (marks_from 0 event (suc n) steps)) t
      (cpu_here event (suc n) steps (rest_there (effect_at lists mark.lane mark.place) (effects_of lists steps) t))

  pool_more : (mark : Mark) (lane : LaneId) (ds : List Effect) (ms : List Mark) →
      AllThere (effect_at lists lane mark.place ∷ ds) → Seen lists.pool ms (pool_seen ds) →
      Seen lists.pool (cond (nat_eq (index_of lane) 0) (mark ∷ ms) ms)
      (pool_seen (effect_at lists lane mark.place ∷ ds))
  pool_more mark PoolLane ds ms there rest = by (slice_get lists.pool mark.place) refl there
    where
      by : (o : Option PoolEntry) → slice_get lists.pool mark.place ≡ o → AllThere (pool_effect lists mark.place o ∷ ds) →
          Seen lists.pool (mark ∷ ms) (pool_seen (pool_effect lists mark.place o ∷ ds))
      by None at t = absurd t
      by (Some e) at t = one_seen lists.pool mark e ms (pool_seen ds) at rest
  pool_more mark BaseLane ds ms there rest = by (slice_get lists.base mark.place) there
    where
      by : (o : Option BaseEntry) → AllThere (base_effect lists mark.place o ∷ ds) → Seen lists.pool ms (pool_seen (base_effect lists mark.place o ∷ ds))
      by None t = absurd t
      by (Some e) t = rest
  pool_more mark (CpuLane c) ds ms there rest =
      let other : nat_eq (c + 2) 0 ≡ false = ne_eqb (c + 2) 0 (λ e. absurd (omega arith)) in
      subst (λ b. Seen lists.pool (cond b (mark ∷ ms) ms) (pool_seen (effect_at lists (CpuLane c) mark.place ∷ ds)))
      (sym other) (by (slice_get (cpu_list lists c) mark.place) there)
    where
      by : (o : Option CpuEntry) → AllThere (cpu_effect lists c mark.place o ∷ ds) → Seen lists.pool ms (pool_seen (cpu_effect lists c mark.place o ∷ ds))
      by None t = absurd t
      by (Some e) t = rest

  pub pool_here : (event n : ℕ) (steps : List Step) → AllThere (effects_of lists steps) →
      Seen lists.pool (lane_of 0 (marks_from 0 event n steps)) (pool_seen (effects_of lists steps))
  pool_here event n [] t = record { counts = λ i c. tt; many = refl }
  pool_here event n (Look g ∷ steps) t = pool_here event (suc n) steps t
  pool_here event n (Marked mark ∷ steps) t =
      pool_more mark mark.lane (effects_of lists steps) (lane_of 0 (marks_from 0 event (suc n) steps)) t
      (pool_here event (suc n) steps (rest_there (effect_at lists mark.lane mark.place) (effects_of lists steps) t))
