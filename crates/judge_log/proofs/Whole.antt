-- The completed lists are lawful exactly if each lane was found lawful, and if the kept data show that each extraction
-- and each refill is named back by the entry that it names.
use Rattle.std.proofs.Common.{◌≡◌, ℕ, zero, suc, List, [], ◌∷◌, length, map, Option, Some, None, refl, sym, subst, ap, ◌∙◌}
use Rattle.std.specs.Prelude.{slice_get, option_and_then}
use Rattle.key_names.specs.Lanes.PoolList.{extraction_at}
use Rattle.key_names.specs.Lanes.BaseList.{BaseMayCome, base_start, base_step, root_of, root_at, refill_of, refill_at}
use Rattle.key_names.specs.Lanes.CpuList.{CpuMayCome, cpu_start, cpu_step, base_refill_of, base_refill_at}
use Rattle.key_names.specs.Lanes.Book.{Lists, LawfulLanes, list_at, cpu_list}
use Rattle.key_names.proofs.Lists.Growing.{may_at}
use Rattle.key_names.proofs.Lists.ListFacts.{list_is}
use Rattle.judge_log.specs.declared.kept.KeptRoot.{KeptRoot}
use Rattle.judge_log.specs.declared.kept.KeptPool.{KeptPool}
use Rattle.judge_log.specs.declared.kept.KeptBase.{KeptBase}
use Rattle.judge_log.specs.declared.kept.KeptCpu.{KeptCpu}
use Rattle.judge_log.specs.declared.inferred.InferredPool.{InferredPool}
use Rattle.judge_log.specs.declared.inferred.InferredPool.TheVariants.{Is as pool_is, Dumped as dumped}
use Rattle.judge_log.specs.BaseLane.{AllBaseMay, root_in}
use Rattle.judge_log.specs.Closed.{closed}
use Rattle.judge_log.specs.CpuLane.{AllCpuMay, AllCpusMay}
use Rattle.judge_log.specs.Dumps.{AllDue}
use Rattle.judge_log.specs.declared.kept.Lists.{Lists as KeptLists}
use Rattle.judge_log.specs.Fills.{Fills}
use Rattle.judge_log.specs.Kept.{Keeps, KeepsPoolLane, KeepsBaseLane, KeepsCpuLane}
use Rattle.judge_log.specs.Lawful.{Lawful}
use Rattle.judge_log.specs.Names.{AnsweredBy, root_named_in, refill_named_in, AllExtractionsAnswered, AllRefillsAnswered}
use Rattle.judge_log.specs.Places.{AllPlaces, AllKept}
use Rattle.judge_log.specs.PoolLane.{MixConforms, AllMixed}
use Rattle.judge_log.specs.Tables.{Tables}
use Rattle.judge_log.proofs.BaseSteps.{place_same}
use Rattle.judge_log.proofs.Dumps.{and_then_is, list_there}
use Rattle.judge_log.proofs.Filling.{closed_fills, fills_same}
use Rattle.judge_log.proofs.Loops.{lawful_by_place}
use Rattle.judge_log.proofs.Moved.{kept_of_same, lawful_of_same}

-- if `f k` equals `g e` for each kept item `k` and its entry `e`, look-ups at any place give equal results in both
-- lists
names_same : {K E B : Type 0} (f : K → Option B) (g : E → Option B) (kept : List K) (list : List E) →
    length kept ≡ length list →
    ((i : ℕ) (k : K) (e : E) → slice_get kept i ≡ Some k → slice_get list i ≡ Some e → f k ≡ g e) → (i : ℕ) →
    option_and_then f (slice_get kept i) ≡ option_and_then g (slice_get list i)
names_same f g [] [] count each i = refl
names_same f g [] (e ∷ list) count each i = cc
names_same f g (k ∷ kept) [] count each i = cc
names_same f g (k ∷ kept) (e ∷ list) count each zero = each 0 k e refl refl
names_same f g (k ∷ kept) (e ∷ list) count each (suc i) =
    let same : length kept ≡ length list = cc in
    names_same f g kept list same (λ j x y at there. each (suc j) x y at there) i

names_same_in : {K E B : Type 0} (f : K → Option B) (g : E → Option B) (kepts : List (List K)) (lists : List (List E)) →
    length kepts ≡ length lists →
    ((c : ℕ) (kept : List K) (list : List E) → slice_get kepts c ≡ Some kept → slice_get lists c ≡ Some list → (k : ℕ) →
    option_and_then f (slice_get kept k) ≡ option_and_then g (slice_get list k)) → (c k : ℕ) →
    option_and_then (λ kept. option_and_then f (slice_get kept k)) (slice_get kepts c)
    ≡ option_and_then g (slice_get (list_at lists c) k)
names_same_in f g [] [] count each c k = refl
names_same_in f g [] (list ∷ lists) count each c k = cc
names_same_in f g (kept ∷ kepts) [] count each c k = cc
names_same_in f g (kept ∷ kepts) (list ∷ lists) count each zero k = each 0 kept list refl refl k
names_same_in f g (kept ∷ kepts) (list ∷ lists) count each (suc c) k =
    let same : length kepts ≡ length lists = cc in
    names_same_in f g kepts lists same (λ d x y at there. each (suc d) x y at there) c k

module _ (lists : Lists) (pool : List KeptPool) (base : List KeptBase) (cpus : List (List KeptCpu))
    (keeps_pool : KeepsPoolLane pool lists) (keeps_base : KeepsBaseLane base lists)
    (keeps_cpus : AllKept (KeepsCpuLane lists) cpus lists.cpus) where
  roots_same : (i : ℕ) → root_named_in base i ≡ root_at lists.base i
  roots_same i =
      names_same (λ (k : KeptBase). root_of k.entry) root_of base lists.base keeps_base.count
      (λ j k e at there. ap root_of (keeps_base.each j k e at there).entry) i

  refills_same : (b : ℕ) → option_and_then (λ (k : KeptBase). refill_of k.entry) (slice_get base b) ≡
      refill_at lists.base b
  refills_same b =
      names_same (λ (k : KeptBase). refill_of k.entry) refill_of base lists.base keeps_base.count
      (λ j k e at there. ap refill_of (keeps_base.each j k e at there).entry) b

  taken_same : (c k : ℕ) → refill_named_in cpus c k ≡ base_refill_at (cpu_list lists c) k
  taken_same c k =
      names_same_in (λ (kept : KeptCpu). base_refill_of kept.entry) base_refill_of cpus lists.cpus keeps_cpus.count
      (λ d kept list at there place. let all = keeps_cpus.each d kept list at there in
      names_same (λ (x : KeptCpu). base_refill_of x.entry) base_refill_of kept list all.count
      (λ j x e at_here there_here. ap base_refill_of (all.each j x e at_here there_here).entry) place) c k

  pub extractions_there : AllExtractionsAnswered pool base → (p i : ℕ) → extraction_at lists.pool p ≡ Some i →
      root_at lists.base i ≡ Some p
  extractions_there all p i is =
      let outer = and_then_is (λ (root : KeptRoot). Some root.base_place) (root_in pool p) i
      (place_same lists pool keeps_pool p ∙ is) in
      let inner = and_then_is (λ (kept : KeptPool). kept.root) (slice_get pool p) outer.0 outer.1 in
      let answered : root_named_in base outer.0.base_place ≡ Some p = all p inner.0 outer.0 inner.1 inner.2 in
      let place : outer.0.base_place ≡ i = (let both = outer.2 in cc) in
      sym (roots_same i) ∙ subst (λ n. root_named_in base n ≡ Some p) place answered

  pub extractions_back : ((p i : ℕ) → extraction_at lists.pool p ≡ Some i → root_at lists.base i ≡ Some p) →
      AllExtractionsAnswered pool base
  extractions_back all p kept root at is =
      roots_same root.base_place
      ∙ all p root.base_place
      (sym (place_same lists pool keeps_pool p)
      ∙ ap
      (λ o. option_and_then (λ (r : KeptRoot). Some r.base_place) (option_and_then (λ (k : KeptPool). k.root) o)) at
      ∙ ap (option_and_then (λ (r : KeptRoot). Some r.base_place)) is)

  pub refills_there : AllRefillsAnswered base cpus → (b c k : ℕ) → refill_at lists.base b ≡ Some (c, k) →
      base_refill_at (cpu_list lists c) k ≡ Some b
  refills_there all b c k is =
      let kept = and_then_is (λ (x : KeptBase). refill_of x.entry) (slice_get base b) (c, k) (refills_same b ∙ is) in
      sym (taken_same c k) ∙ subst (λ o. AnsweredBy cpus b o) kept.2 (all b kept.0 kept.1)

  pub refills_back : ((b c k : ℕ) → refill_at lists.base b ≡ Some (c, k) →
      base_refill_at (cpu_list lists c) k ≡ Some b) → AllRefillsAnswered base cpus
  refills_back all b kept at = go (refill_of kept.entry) refl
    where
      go : (named : Option (ℕ × ℕ)) → refill_of kept.entry ≡ named → AnsweredBy cpus b named
      go None is = tt
      go (Some named) is =
          taken_same named.0 named.1
          ∙ all b named.0 named.1
          (sym (refills_same b) ∙ ap (option_and_then (λ (x : KeptBase). refill_of x.entry)) at ∙ is)

  pub lanes_lawful : AllBaseMay lists → AllCpusMay lists → AllExtractionsAnswered pool base →
      AllRefillsAnswered base cpus → LawfulLanes lists
  lanes_lawful base_may cpus_may extractions refills = record {
    forward = record {
      base = lawful_by_place (BaseMayCome lists.pool) base_step base_start lists.base base_may;
      cpus = λ c. lawful_by_place (CpuMayCome lists.base c) (cpu_step lists.base c) cpu_start (cpu_list lists c)
          (cpus_may c);
    };
    extractions = extractions_there extractions;
    refills = refills_there refills;
  }

pub base_may_come : (lists : Lists) → LawfulLanes lists → AllBaseMay lists
base_may_come lists h i e is = may_at (BaseMayCome lists.pool) base_step base_start lists.base i e h.forward.base is

pub cpus_may_come : (lists : Lists) → LawfulLanes lists → AllCpusMay lists
cpus_may_come lists h c k e is =
    may_at (CpuMayCome lists.base c) (cpu_step lists.base c) cpu_start (cpu_list lists c) k e (h.forward.cpus c) is

-- if AllCpuMay holds of each CPU in `lists`, it holds of every CPU number, since the CPUs that do not exist have no
-- entries
pub cpus_may : (lists : Lists) → AllPlaces (λ c lane. AllCpuMay lists c) lists.cpus → AllCpusMay lists
cpus_may lists all c k e is = all c (list_at lists.cpus c) (list_there lists.cpus c k e is) k e is

module _ (inferred : Tables) where
  pub all_due : Lawful inferred (closed inferred) → AllDue inferred
  all_due h c lane is k e at t there =
      h.dues c k t e there
      (subst (λ xs. slice_get xs k ≡ Some e) (sym (list_is (closed inferred).cpus c lane is)) at)

  pub all_mixed : Lawful inferred (closed inferred) → AllMixed inferred
  all_mixed h p t is = go t is
    where
      go : (u : InferredPool) → slice_get inferred.pool p ≡ Some u → MixConforms (closed inferred) u
      go (pool_is note) at = tt
      go (dumped c k) at = h.mixes p c k at

  pub lawful_whole : LawfulLanes (closed inferred) → AllDue inferred → AllMixed inferred → Lawful inferred (closed inferred)
  lawful_whole lanes due mixed = record {
    lanes = lanes;
    dues = λ c k t e there at.
        due c (list_at (closed inferred).cpus c) (list_there (closed inferred).cpus c k e at) k e at t there;
    mixes = λ p c k is. mixed p (dumped c k) is;
  }

-- if some lawful lists match the inferred entries, the completed lists are lawful
pub closed_lawful : (inferred : Tables) (lists : Lists) → Fills inferred lists → Lawful inferred lists → Lawful inferred (closed inferred)
closed_lawful inferred lists fills lawful =
    lawful_of_same lists (closed inferred) (fills_same inferred lists fills) inferred lawful

pub keeps_all : (inferred : Tables) (lists : Lists) (kept : KeptLists) → Fills inferred lists → Keeps kept (closed inferred) →
    Keeps kept lists
keeps_all inferred lists kept fills keeps = kept_of_same lists (closed inferred) (fills_same inferred lists fills) kept keeps

pub lists_found : (inferred : Tables) (kept : KeptLists) → AllDue inferred → AllMixed inferred → AllBaseMay (closed inferred) →
    AllCpusMay (closed inferred) → Keeps kept (closed inferred) →
    AllExtractionsAnswered kept.pool.items kept.base.items →
    AllRefillsAnswered kept.base.items (map (λ lane. lane.items) kept.cpus.items) →
    (lists : Lists) × Fills inferred lists × Lawful inferred lists × Keeps kept lists
lists_found inferred kept due mixed base_may cpus_may keeps extractions refills = (
  closed inferred,
  closed_fills inferred,
  lawful_whole inferred
      (lanes_lawful (closed inferred) kept.pool.items kept.base.items (map (λ lane. lane.items) kept.cpus.items) keeps.pool
      keeps.base keeps.cpus base_may cpus_may extractions refills) due mixed,
  keeps,
)
