-- The completed lists match the inferred entries. Any other lists that match have the same lanes.
use Rattle.std.proofs.Common.{◌≡◌, ◌+◌, ℕ, zero, suc, List, [], ◌∷◌, length, take, map, Some, None, refl, sym, subst, ap, ◌∙◌, arith}
use Rattle.std.specs.Prelude.{slice_get}
use Rattle.std.specs.List.{fold}
use Rattle.std.proofs.lemmas.List.{length-map}
use Rattle.key_names.specs.declared.entries.PoolEntry.{PoolEntry}
use Rattle.key_names.specs.declared.entries.PoolEntry.TheVariants.{Mix}
use Rattle.key_names.specs.declared.entries.BaseEntry.{BaseEntry}
use Rattle.key_names.specs.declared.entries.CpuEntry.{CpuEntry}
use Rattle.key_names.specs.Lanes.BaseList.{base_step, base_start}
use Rattle.key_names.specs.Lanes.CpuList.{cpu_step, cpu_start}
use Rattle.key_names.specs.Kernel.FastPool.{FastPool, fast_start, fast_step, dump_bytes, dump_bits}
use Rattle.key_names.specs.Lanes.Book.{Lists, list_at, cpu_list}
use Rattle.key_names.specs.Callers.Effects.{BaseVisit, CpuVisit, base_visit, cpu_visit}
use Rattle.judge_lines.specs.declared.inferred.BaseInferred.{BaseInferred}
use Rattle.judge_lines.specs.declared.inferred.BaseInferred.TheVariants.{Is as base_is, Crossed as crossed, Woken as woken}
use Rattle.judge_lines.specs.declared.inferred.CpuInferred.{CpuInferred}
use Rattle.judge_lines.specs.declared.inferred.CpuInferred.TheVariants.{Is as cpu_is, Batch as batch}
use Rattle.judge_lines.specs.LaneFacts.{LaneFacts, facts_of}
use Rattle.judge_lines.specs.Inferred.{FillsBase, FillsCpu}
use Rattle.judge_log.specs.declared.inferred.InferredPool.{InferredPool}
use Rattle.judge_log.specs.declared.inferred.InferredPool.TheVariants.{Is as pool_is, Dumped as dumped}
use Rattle.judge_log.specs.declared.inferred.InferredCpu.{InferredCpu}
use Rattle.judge_log.specs.Closed.{filled, fast_inferred, facts_inferred, closed_pool, crossed_in, base_entry, closed_base, cpu_inferred_entry, closed_cpu, closed_cpus, closed}
use Rattle.judge_log.specs.Fills.{Fills, pool_entry}
use Rattle.judge_log.specs.Tables.{Tables}

nothing_at : {A : Type 0} {x : A} {B : Type 0} → None ≡ Some x → B
nothing_at is = cc

module _ {S T E : Type 0} (close : S → T → E) (step : S → E → S) where
  filled_count : (s : S) (ts : List T) → length (filled close step s ts) ≡ length ts
  filled_count s [] = refl
  filled_count s (t ∷ ts) = ap suc (filled_count (step s (close s t)) ts)

  filled_at : (s : S) (ts : List T) (i : ℕ) (t : T) (e : E) → slice_get ts i ≡ Some t →
      slice_get (filled close step s ts) i ≡ Some e → e ≡ close (fold step s (take i (filled close step s ts))) t
  filled_at s [] i t e is at = nothing_at is
  filled_at s (u ∷ ts) zero t e is at =
      let same : u ≡ t = cc in let first : close s u ≡ e = cc in sym first ∙ ap (close s) same
  filled_at s (u ∷ ts) (suc i) t e is at = filled_at (step s (close s u)) ts i t e is at

  filled_same : (s : S) (ts : List T) (es : List E) → length es ≡ length ts →
      ((i : ℕ) (t : T) (e : E) → slice_get ts i ≡ Some t → slice_get es i ≡ Some e →
      e ≡ close (fold step s (take i es)) t) → es ≡ filled close step s ts
  filled_same s [] [] count all = refl
  filled_same s [] (e ∷ es) count all = cc
  filled_same s (t ∷ ts) [] count all = cc
  filled_same s (t ∷ ts) (e ∷ es) count all =
      let same : length es ≡ length ts = cc in
      let first : e ≡ close s t = all 0 t e refl refl in
      let rest : es ≡ filled close step (step s e) ts =
      filled_same (step s e) ts es same (λ i u x is at. all (suc i) u x is at) in
      ap (λ x. x ∷ es) first
      ∙ ap (λ xs. close s t ∷ xs) (subst (λ x. es ≡ filled close step (step s x) ts) first rest)

map_at : {T E : Type 0} (f : T → E) (ts : List T) (i : ℕ) (t : T) (e : E) → slice_get ts i ≡ Some t →
    slice_get (map f ts) i ≡ Some e → e ≡ f t
map_at f [] i t e is at = nothing_at is
map_at f (u ∷ ts) zero t e is at = let same : u ≡ t = cc in let first : f u ≡ e = cc in sym first ∙ ap f same
map_at f (u ∷ ts) (suc i) t e is at = map_at f ts i t e is at

map_same : {T E : Type 0} (f : T → E) (ts : List T) (es : List E) → length es ≡ length ts →
    ((i : ℕ) (t : T) (e : E) → slice_get ts i ≡ Some t → slice_get es i ≡ Some e → e ≡ f t) → es ≡ map f ts
map_same f [] [] count all = refl
map_same f [] (e ∷ es) count all = cc
map_same f (t ∷ ts) [] count all = cc
map_same f (t ∷ ts) (e ∷ es) count all =
    let same : length es ≡ length ts = cc in
    ap (λ x. x ∷ es) (all 0 t e refl refl)
    ∙ ap (λ xs. f t ∷ xs) (map_same f ts es same (λ i u x is at. all (suc i) u x is at))

-- ---- one entry of the base

base_closes : (c : LaneFacts) (t : BaseInferred) (v : BaseVisit) → v.entry ≡ base_entry c.crossed_at v.before t →
    FillsBase c t v
base_closes c (base_is e) v h = h
base_closes c (crossed root now p) v h = h
base_closes c woken v h = h

pub closes_base : (c : LaneFacts) (t : BaseInferred) (v : BaseVisit) → FillsBase c t v →
    v.entry ≡ base_entry c.crossed_at v.before t
closes_base c (base_is e) v h = h
closes_base c (crossed root now p) v h = h
closes_base c woken v h = h

cpu_closes : (t : CpuInferred) (v : CpuVisit) → v.entry ≡ cpu_inferred_entry v.before t → FillsCpu t v
cpu_closes (cpu_is e) v h = h
cpu_closes (batch look width) v h = h

pub closes_cpu : (t : CpuInferred) (v : CpuVisit) → FillsCpu t v → v.entry ≡ cpu_inferred_entry v.before t
closes_cpu (cpu_is e) v h = h
closes_cpu (batch look width) v h = h

-- ---- the fast pool after a completed entry

pub fills_fast : (t : CpuInferred) (v : CpuVisit) → FillsCpu t v → (f : FastPool) → fast_step f v.entry ≡ fast_inferred f t
fills_fast (cpu_is e) v h f = ap (fast_step f) h
fills_fast (batch look width) v h f = ap (fast_step f) h

fast_along : (f : FastPool) (ts : List InferredCpu) (es : List CpuEntry) → length es ≡ length ts →
    ((i : ℕ) (t : InferredCpu) (e : CpuEntry) → slice_get ts i ≡ Some t → slice_get es i ≡ Some e → (g : FastPool) →
    fast_step g e ≡ fast_inferred g t.entry) → (k : ℕ) →
    fold fast_step f (take k es) ≡ fold (λ g (t : InferredCpu). fast_inferred g t.entry) f (take k ts)
fast_along f [] [] count all zero = refl
fast_along f [] [] count all (suc k) = refl
fast_along f [] (e ∷ es) count all k = cc
fast_along f (t ∷ ts) [] count all k = cc
fast_along f (t ∷ ts) (e ∷ es) count all zero = refl
fast_along f (t ∷ ts) (e ∷ es) count all (suc k) =
    let same : length es ≡ length ts = cc in
    ap (λ g. fold fast_step g (take k es)) (all 0 t e refl refl f)
    ∙ fast_along (fast_inferred f t.entry) ts es same (λ i u x is at. all (suc i) u x is at) k

-- ---- the lists of the CPUs

cpus_at : (base : List BaseEntry) (c : ℕ) (lanes : List (List InferredCpu)) (n m : ℕ) → c + n ≡ m →
    list_at (closed_cpus base c lanes) n ≡ closed_cpu base m (list_at lanes n)
cpus_at base c [] n m is = refl
cpus_at base c (lane ∷ lanes) zero m is =
    let same : c ≡ m = omega arith in ap (λ x. closed_cpu base x lane) same
cpus_at base c (lane ∷ lanes) (suc n) m is = cpus_at base (suc c) lanes n m (omega arith)

cpus_count : (base : List BaseEntry) (c : ℕ) (lanes : List (List InferredCpu)) →
    length (closed_cpus base c lanes) ≡ length lanes
cpus_count base c [] = refl
cpus_count base c (lane ∷ lanes) = ap suc (cpus_count base (suc c) lanes)

cpus_same : (base : List BaseEntry) (c : ℕ) (lanes : List (List InferredCpu)) (ess : List (List CpuEntry)) →
    length ess ≡ length lanes →
    ((n m : ℕ) → c + n ≡ m → list_at ess n ≡ closed_cpu base m (list_at lanes n)) → ess ≡ closed_cpus base c lanes
cpus_same base c [] [] count all = refl
cpus_same base c [] (es ∷ ess) count all = cc
cpus_same base c (lane ∷ lanes) [] count all = cc
cpus_same base c (lane ∷ lanes) (es ∷ ess) count all =
    let same : length ess ≡ length lanes = cc in
    ap (λ x. x ∷ ess) (all 0 c (omega arith))
    ∙ ap (λ xs. closed_cpu base c lane ∷ xs)
    (cpus_same base (suc c) lanes ess same (λ n m is. all (suc n) m (omega arith)))

-- ---- the completed lists match the inferred entries

closed_lane : (inferred : Tables) (c : ℕ) →
    list_at (closed_cpus (closed_base inferred) 0 inferred.cpus) c ≡ closed_cpu (closed_base inferred) c (list_at inferred.cpus c)
closed_lane inferred c = cpus_at (closed_base inferred) 0 inferred.cpus c c (omega arith)

cpu_filled : (inferred : Tables) (c k : ℕ) (t : InferredCpu) (e : CpuEntry) → slice_get (list_at inferred.cpus c) k ≡ Some t →
    slice_get (cpu_list (closed inferred) c) k ≡ Some e → FillsCpu t.entry (cpu_visit (closed inferred) c k e)
unfolding closed
cpu_filled inferred c k t e is at =
    let es : List CpuEntry = closed_cpu (closed_base inferred) c (list_at inferred.cpus c) in
    let lane = closed_lane inferred c in
    let at' : slice_get es k ≡ Some e = subst (λ xs. slice_get xs k ≡ Some e) lane at in
    let h = filled_at (λ s (u : InferredCpu). cpu_inferred_entry s u.entry) (cpu_step (closed_base inferred) c) cpu_start
    (list_at inferred.cpus c) k t e is at' in
    cpu_closes t.entry (cpu_visit (closed inferred) c k e)
    (subst (λ xs. e ≡ cpu_inferred_entry (fold (cpu_step (closed_base inferred) c) cpu_start (take k xs)) t.entry) (sym lane) h)

cpu_counted : (inferred : Tables) (c : ℕ) → length (cpu_list (closed inferred) c) ≡ length (list_at inferred.cpus c)
unfolding closed
cpu_counted inferred c =
    ap length (closed_lane inferred c)
    ∙ filled_count (λ s (u : InferredCpu). cpu_inferred_entry s u.entry) (cpu_step (closed_base inferred) c) cpu_start
    (list_at inferred.cpus c)

-- if a CPU's list matches the inferred entries, the list and the inferred entries give the same fast pools
pub fast_same : (inferred : Tables) (lists : Lists) (c : ℕ) →
    length (cpu_list lists c) ≡ length (list_at inferred.cpus c) →
    ((k : ℕ) (t : InferredCpu) (e : CpuEntry) → slice_get (list_at inferred.cpus c) k ≡ Some t →
    slice_get (cpu_list lists c) k ≡ Some e → FillsCpu t.entry (cpu_visit lists c k e)) → (k : ℕ) →
    (facts_of lists).fast c k ≡ (facts_inferred inferred).fast c k
fast_same inferred lists c count fills k =
    fast_along fast_start (list_at inferred.cpus c) (cpu_list lists c) count
    (λ i t e is at. fills_fast t.entry (cpu_visit lists c i e) (fills i t e is at)) k

entry_same : (inferred : Tables) (lists : Lists) (t : InferredPool) →
    ((c k : ℕ) → (facts_of lists).fast c k ≡ (facts_inferred inferred).fast c k) →
    pool_entry (facts_inferred inferred) t ≡ pool_entry (facts_of lists) t
entry_same inferred lists (pool_is note) fast = refl
entry_same inferred lists (dumped c k) fast =
    ap (λ (f : FastPool). Mix (dump_bytes f) (dump_bits f)) (sym (fast c k))

closed_fast : (inferred : Tables) (c k : ℕ) → (facts_of (closed inferred)).fast c k ≡ (facts_inferred inferred).fast c k
closed_fast inferred c k =
    fast_same inferred (closed inferred) c (cpu_counted inferred c) (λ i t e is at. cpu_filled inferred c i t e is at) k

pool_filled : (inferred : Tables) (p : ℕ) (t : InferredPool) (e : PoolEntry) → slice_get inferred.pool p ≡ Some t →
    slice_get (closed inferred).pool p ≡ Some e → e ≡ pool_entry (facts_of (closed inferred)) t
unfolding closed
pool_filled inferred p t e is at =
    map_at (pool_entry (facts_inferred inferred)) inferred.pool p t e is at
    ∙ entry_same inferred (closed inferred) t (λ c k. closed_fast inferred c k)

base_filled : (inferred : Tables) (i : ℕ) (t : BaseInferred) (e : BaseEntry) → slice_get inferred.base i ≡ Some t →
    slice_get (closed inferred).base i ≡ Some e → FillsBase (facts_of (closed inferred)) t (base_visit (closed inferred) i e)
unfolding closed
base_filled inferred i t e is at =
    base_closes (facts_of (closed inferred)) t (base_visit (closed inferred) i e)
    (filled_at (base_entry (crossed_in (closed_pool inferred))) base_step base_start inferred.base i t e is at)

pub closed_fills : (inferred : Tables) → Fills inferred (closed inferred)
unfolding closed
closed_fills inferred = record {
  pool_count = length-map inferred.pool (pool_entry (facts_inferred inferred));
  base_count = filled_count (base_entry (crossed_in (closed_pool inferred))) base_step base_start inferred.base;
  cpus_count = cpus_count (closed_base inferred) 0 inferred.cpus;
  cpu_count = λ c. cpu_counted inferred c;
  pool = λ p t e is at. pool_filled inferred p t e is at;
  base = λ i t e is at. base_filled inferred i t e is at;
  cpu = λ c k t e is at. cpu_filled inferred c k t e is at;
}

-- ---- all lists that match the inferred entries have the same lanes

pub record SameLanes (a b : Lists) : Type 0 where
  pub pool : a.pool ≡ b.pool
  pub base : a.base ≡ b.base
  pub cpus : a.cpus ≡ b.cpus

pub fills_same : (inferred : Tables) (lists : Lists) → Fills inferred lists → SameLanes lists (closed inferred)
unfolding closed
fills_same inferred lists fills = record { pool = pool; base = base; cpus = cpus }
  where
    fast : (c k : ℕ) → (facts_of lists).fast c k ≡ (facts_inferred inferred).fast c k
    fast c k = fast_same inferred lists c (fills.cpu_count c) (λ i t e is at. fills.cpu c i t e is at) k

    pool : lists.pool ≡ closed_pool inferred
    pool = map_same (pool_entry (facts_inferred inferred)) inferred.pool lists.pool fills.pool_count
        (λ p t e is at. fills.pool p t e is at ∙ sym (entry_same inferred lists t fast))

    base_of : lists.base ≡ filled (base_entry (crossed_in lists.pool)) base_step base_start inferred.base
    base_of = filled_same (base_entry (crossed_in lists.pool)) base_step base_start inferred.base lists.base
        fills.base_count
        (λ i t e is at. closes_base (facts_of lists) t (base_visit lists i e) (fills.base i t e is at))

    base : lists.base ≡ closed_base inferred
    base = base_of ∙ ap (λ xs. filled (base_entry (crossed_in xs)) base_step base_start inferred.base) pool

    lane : (c : ℕ) → cpu_list lists c ≡ closed_cpu lists.base c (list_at inferred.cpus c)
    lane c = filled_same (λ s (u : InferredCpu). cpu_inferred_entry s u.entry) (cpu_step lists.base c) cpu_start
        (list_at inferred.cpus c) (cpu_list lists c) (fills.cpu_count c)
        (λ k t e is at. closes_cpu t.entry (cpu_visit lists c k e) (fills.cpu c k t e is at))

    cpus : lists.cpus ≡ closed_cpus (closed_base inferred) 0 inferred.cpus
    cpus = cpus_same lists.base 0 inferred.cpus lists.cpus fills.cpus_count
        (λ n m is. let same : n ≡ m = omega arith in
        subst (λ x. list_at lists.cpus n ≡ closed_cpu lists.base x (list_at inferred.cpus n)) same (lane n))
        ∙ ap (λ b. closed_cpus b 0 inferred.cpus) base
