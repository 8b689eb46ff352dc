-- The loop of replay_base: after i entries, the code's base equals that of the definitions. The code has kept the right
-- data about these entries, and each of them was allowed.
use Rattle.std.proofs.Common.{◌≡◌, ◌<◌, ◌≤◌, ◌+◌, ℕ, suc, List, [], ◌∷◌, ◌++◌, length, take, Option, Some, None, refl, sym, subst, ap, ◌∙◌, arith, ◌⊎◌, inl, inr}
use Rattle.std.specs.Prelude.{slice_get, option_and_then, nat_le, if◌then◌else◌}
use Rattle.key_names.specs.declared.entries.PoolEntry.{PoolEntry}
use Rattle.key_names.specs.declared.entries.PoolEntry.TheVariants.{Mix, Input, Bits, Extract}
use Rattle.key_names.specs.declared.entries.BaseEntry.{BaseEntry}
use Rattle.key_names.specs.declared.entries.BaseEntry.TheVariants.{Early, Reseed, Tick, Draw, Refill, Fork, End, Wait, Resume, Interrupt, Stall, Unstall}
use Rattle.key_names.specs.Lanes.PoolList.{PoolState, pool_after, base_place_of, extraction_at, root_value, root_given}
use Rattle.key_names.specs.Lanes.BaseList.{BaseState, BaseFits, BaseMayCome, RootConforms, base_start, base_step, base_after, base_erases, root_of, roots_after, reseeds_at, generation_after}
use Rattle.key_names.specs.Keys.KeyInUse.{zero_key, base_value_step, base_value_after, base_value_at, base_used_at}
use Rattle.key_names.specs.Lanes.Book.{Lists}
use Rattle.key_names.specs.Callers.Effects.{base_visit}
use Rattle.base_gen.specs.BaseValue.{BaseValue, after_entry, base_at, key_in_use}
use Rattle.base_gen.proofs.Rows.{HandsRoot, after_entry-base_at, key_in_use-root}
use Rattle.judge_lines.specs.declared.inferred.BaseInferred.{BaseInferred}
use Rattle.judge_lines.specs.declared.inferred.BaseInferred.TheVariants.{Is as base_is, Crossed as crossed, Woken as woken}
use Rattle.judge_lines.specs.LaneFacts.{facts_of, crossed_by}
use Rattle.judge_lines.specs.Inferred.{crossed_entry}
use Rattle.judge_log.specs.declared.kept.KeptRoot.{KeptRoot}
use Rattle.judge_log.specs.declared.kept.KeptPool.{KeptPool}
use Rattle.judge_log.specs.declared.kept.KeptBase.{KeptBase}
use Rattle.judge_log.specs.BaseLane.{Fits, state_of, crossing_kept, crossed_of, root_in, root_value_in, RootConformsIn, AllBaseMay}
use Rattle.judge_log.specs.Closed.{closed, base_entry}
use Rattle.judge_log.specs.Kept.{root_kept, KeepsBase, KeepsPoolLane}
use Rattle.judge_log.specs.Tables.{Tables}
use Rattle.std.proofs.lemmas.Option.{slice_get_within}
use Rattle.judge_log.proofs.Dumps.{some_or_none, and_then_is}
use Rattle.judge_log.proofs.Filling.{closed_fills, closes_base}
use Rattle.judge_log.proofs.Loops.{After, after_more, at_too, fold_at}

-- ---- the data that the replay keeps about visits of the pool

root_place : (s : PoolState) (e : PoolEntry) →
    option_and_then (λ (root : KeptRoot). Some root.base_place) (root_kept s e) ≡ base_place_of e
root_place s (Mix text bits) = refl
root_place s (Input word kind code value now) = refl
root_place s Bits = refl
root_place s (Extract hw base_place) = refl

root_worth : (s : PoolState) (e : PoolEntry) (value : List ℕ) →
    option_and_then (λ (root : KeptRoot). Some root.value) (root_kept s e) ≡ Some value → value ≡ root_given s (Some e)
root_worth s (Mix text bits) value is = cc
root_worth s (Input word kind code value' now) value is = cc
root_worth s Bits value is = cc
root_worth s (Extract hw base_place) value is = cc

module _ (lists : Lists) (pool : List KeptPool) (keeps : KeepsPoolLane pool lists) where
  abbrev state : ℕ → PoolState
  state p = pool_after (take p lists.pool)

  -- at place `p`, both the kept data and the pool's entries have an element (`Both`), or neither list has one there
  -- (`Neither`)
  pub record Both (p : ℕ) : Type 0 where
    pub kept : KeptPool
    pub entry : PoolEntry
    pub kept_is : slice_get pool p ≡ Some kept
    pub entry_is : slice_get lists.pool p ≡ Some entry

  pub record Neither (p : ℕ) : Type 0 where
    pub kept_is : slice_get pool p ≡ None
    pub entry_is : slice_get lists.pool p ≡ None

  both_or_neither : (p : ℕ) → Neither p ⊎ Both p
  both_or_neither p = elim (some_or_none (slice_get pool p)) [
    | inl none ↦ elim (some_or_none (slice_get lists.pool p)) [
      | inl no_entry ↦ inl (record { kept_is = none; entry_is = no_entry })
      | inr e ↦ (let k = at_too pool lists.pool p e.0 keeps.count e.1 in
          let never : None ≡ Some k.0 = sym none ∙ k.1 in cc)
    ]
    | inr k ↦ (let e = at_too lists.pool pool p k.0 (sym keeps.count) k.1 in
        inr (record { kept = k.0; entry = e.0; kept_is = k.1; entry_is = e.1 }))
  ]

  crossed_same : (p : ℕ) → crossed_of pool p ≡ (facts_of lists).crossed_at p
  crossed_same p = elim (both_or_neither p) [
    | inl n ↦ ap crossing_kept n.kept_is ∙ sym (ap (crossed_by (state p)) n.entry_is)
    | inr b ↦ ap crossing_kept b.kept_is ∙ (keeps.each p b.kept b.entry b.kept_is b.entry_is).crosses
        ∙ sym (ap (crossed_by (state p)) b.entry_is)
  ]

  pub place_same : (r : ℕ) →
      option_and_then (λ (root : KeptRoot). Some root.base_place) (root_in pool r) ≡ extraction_at lists.pool r
  place_same r = elim (both_or_neither r) [
    | inl n ↦ ap
        (λ o. option_and_then (λ (root : KeptRoot). Some root.base_place) (option_and_then (λ (k : KeptPool). k.root) o))
        n.kept_is
        ∙ sym (ap (option_and_then base_place_of) n.entry_is)
    | inr b ↦ ap
        (λ o. option_and_then (λ (root : KeptRoot). Some root.base_place) (option_and_then (λ (k : KeptPool). k.root) o))
        b.kept_is
        ∙ ap (option_and_then (λ (root : KeptRoot). Some root.base_place))
        (keeps.each r b.kept b.entry b.kept_is b.entry_is).root
        ∙ root_place (state r) b.entry
        ∙ sym (ap (option_and_then base_place_of) b.entry_is)
  ]

  value_same : (r : ℕ) (value : List ℕ) → root_value_in pool r ≡ Some value → value ≡ root_value lists.pool r
  value_same r value is = elim (both_or_neither r) [
    | inl n ↦ (let never : None ≡ Some value = sym
        (ap (λ o. option_and_then (λ (root : KeptRoot). Some root.value) (option_and_then (λ (k : KeptPool). k.root) o))
        n.kept_is) ∙ is in cc)
    | inr b ↦ root_worth (state r) b.entry value
        (sym (ap (option_and_then (λ (root : KeptRoot). Some root.value))
        (keeps.each r b.kept b.entry b.kept_is b.entry_is).root)
        ∙ sym (ap
        (λ o. option_and_then (λ (root : KeptRoot). Some root.value) (option_and_then (λ (k : KeptPool). k.root) o))
        b.kept_is)
        ∙ is)
        ∙ sym (ap (root_given (state r)) b.entry_is)
  ]

  root_there : (s : BaseState) (named : Option ℕ) → RootConformsIn pool s.roots s.place named →
      RootConforms lists.pool s named
  root_there s None h = tt
  root_there s (Some r) h = (h.0, sym (place_same r) ∙ h.1)

  root_back : (s : BaseState) (named : Option ℕ) → RootConforms lists.pool s named →
      RootConformsIn pool s.roots s.place named
  root_back s None h = tt
  root_back s (Some r) h = (h.0, place_same r ∙ h.1)

  closed_same : (kept s : BaseState) (t : BaseInferred) → kept.generation ≡ s.generation →
      base_entry (crossed_of pool) kept t ≡ base_entry (facts_of lists).crossed_at s t
  closed_same kept s (base_is e) is = refl
  closed_same kept s (crossed root now p) is = ap (λ x. crossed_entry x root now) (crossed_same p)
  closed_same kept s woken is = ap (λ n. if nat_le 1 n then Resume else Interrupt) is

pub root_within : (pool : List KeptPool) (least place r : ℕ) → RootConformsIn pool least place (Some r) → r < length pool
root_within pool least place r h =
    let root = and_then_is (λ (root : KeptRoot). Some root.base_place) (root_in pool r) place h.1 in
    let kept = and_then_is (λ (k : KeptPool). k.root) (slice_get pool r) root.0 root.1 in
    slice_get_within pool r kept.0 kept.1

-- ---- the code and the definitions allow the same entries of the base

fits_same : (s : BaseState) (value : List ℕ) (e : BaseEntry) →
    (Fits (base_at s value) e → BaseFits s e) × (BaseFits s e → Fits (base_at s value) e)
fits_same s value (Early (Some root)) = (λ h. h, λ h. h)
fits_same s value (Early None) = (λ h. h, λ h. h)
fits_same s value (Reseed root now) = (λ h. h, λ h. h)
fits_same s value (Tick now (Some root)) = (λ h. h, λ h. h)
fits_same s value (Tick now None) = (λ h. h, λ h. h)
fits_same s value (Draw (Some root) taken) = (λ h. h, λ h. h)
fits_same s value (Draw None taken) = (λ h. h, λ h. h)
fits_same s value (Refill cpu cpu_place) = (λ h. h, λ h. h)
fits_same s value (Fork child) = (λ h. h, λ h. h)
fits_same s value End = (λ h. h, λ h. h)
fits_same s value Wait = (λ h. h, λ h. h)
fits_same s value Resume = (λ h. h, λ h. h)
fits_same s value Interrupt = (λ h. h, λ h. h)
fits_same s value Stall = (λ h. h, λ h. h)
fits_same s value Unstall = (λ h. h, λ h. h)

one_reseed_more : (o : Option ℕ) (g : ℕ) → generation_after o g ≤ g + 1
one_reseed_more None g = omega arith
one_reseed_more (Some now) g = omega arith

-- ---- the loop of replay_base

abbrev pub BaseMay : Lists → ℕ → BaseEntry → Type 0
BaseMay lists i e = BaseMayCome lists.pool (base_after (take i lists.base)) e

abbrev pub BaseKeeps : Lists → ℕ → KeptBase → BaseEntry → Type 0
BaseKeeps lists i k e = KeepsBase (base_used_at lists.pool lists.base i) k (base_visit lists i e)

-- after the first `i` entries of the base, `base`, `least` and the kept data `made` equal what the definitions give
pub record BaseAfter (lists : Lists) (i : ℕ) (base : BaseValue) (least : ℕ) (made : List KeptBase) : Type 0 where
  pub following : After (BaseMay lists) (BaseKeeps lists) lists.base i made
  pub base_conforms : base ≡ base_at (base_after (take i lists.base)) (base_value_after lists.pool (take i lists.base))
  pub least_conforms : least ≡ (base_after (take i lists.base)).roots
  pub place : (base_after (take i lists.base)).place ≡ i
  pub few : base.generation ≤ i

module _ (inferred : Tables) (pool : List KeptPool) (keeps : KeepsPoolLane pool (closed inferred)) (i : ℕ) (t : BaseInferred)
    (is : slice_get inferred.base i ≡ Some t) (base : BaseValue) (least : ℕ) (made : List KeptBase)
    (h : BaseAfter (closed inferred) i base least made) (entry : BaseEntry)
    (entry_is : entry ≡ base_entry (crossed_of pool) (state_of base) t) where
  abbrev s : BaseState
  s = base_after (take i (closed inferred).base)

  abbrev value : List ℕ
  value = base_value_after (closed inferred).pool (take i (closed inferred).base)

  at : slice_get (closed inferred).base i ≡ Some entry
  at =
      let there = at_too (closed inferred).base inferred.base i t (closed_fills inferred).base_count is in
      let filled = closes_base (facts_of (closed inferred)) t (base_visit (closed inferred) i there.0)
      ((closed_fills inferred).base i t there.0 is there.1) in
      let generation : base.generation ≡ s.generation = ap (λ (b : BaseValue). b.generation) h.base_conforms in
      there.1 ∙ ap Some (filled ∙ sym (closed_same (closed inferred) pool keeps (state_of base) s t generation) ∙ sym entry_is)

  root_in_place : (named : Option ℕ) → RootConformsIn pool least i named → RootConformsIn pool s.roots s.place named
  root_in_place named conforms =
      subst (λ p. RootConformsIn pool (base_after (take i (closed inferred).base)).roots p named) (sym h.place)
      (subst (λ x. RootConformsIn pool x i named) h.least_conforms conforms)

  root_from_place : (named : Option ℕ) → RootConformsIn pool s.roots s.place named → RootConformsIn pool least i named
  root_from_place named conforms =
      subst (λ x. RootConformsIn pool x i named) (sym h.least_conforms)
      (subst (λ p. RootConformsIn pool (base_after (take i (closed inferred).base)).roots p named) h.place conforms)

  pub base_stops_at_root : (RootConformsIn pool least i (root_of entry) → ⊥) → AllBaseMay (closed inferred) → ⊥
  base_stops_at_root unfit all =
      unfit (root_from_place (root_of entry) (root_back (closed inferred) pool keeps s (root_of entry) (all i entry at).root))

  pub base_stops : (Fits base entry → ⊥) → AllBaseMay (closed inferred) → ⊥
  base_stops unfit all =
      unfit (subst (λ b. Fits b entry) (sym h.base_conforms) ((fits_same s value entry).1 (all i entry at).fits))

  module _ (root : List ℕ) (conforms : RootConformsIn pool least i (root_of entry))
      (gives : (r : ℕ) → root_of entry ≡ Some r → root_value_in pool r ≡ Some root) (fits : Fits base entry)
      (key : Option (List ℕ))
      (uses : key ≡ (if base_erases entry then Some (key_in_use (root_of entry) root base.key) else None)) where
    hands : HandsRoot (closed inferred).pool entry root
    hands place named = value_same (closed inferred) pool keeps place root (gives place named)

    stepped : after_entry entry root base ≡
        base_at (base_step s entry) (base_value_step (closed inferred).pool value entry)
    stepped =
        ap (after_entry entry root) h.base_conforms ∙ after_entry-base_at (closed inferred).pool s value root entry hands

    state_more : base_after (take (i + 1) (closed inferred).base) ≡ base_step s entry
    state_more = fold_at base_step base_start (closed inferred).base i entry at

    value_more : base_value_after (closed inferred).pool (take (i + 1) (closed inferred).base) ≡
        base_value_step (closed inferred).pool value entry
    value_more = fold_at (base_value_step (closed inferred).pool) zero_key (closed inferred).base i entry at

    used : key_in_use (root_of entry) root base.key ≡ base_used_at (closed inferred).pool (closed inferred).base i
    used =
        ap (λ (b : BaseValue). key_in_use (root_of entry) root b.key) h.base_conforms
        ∙ key_in_use-root (closed inferred).pool (root_of entry) root value hands
        ∙ sym (ap (base_value_at (closed inferred).pool value) at)

    abbrev kept : KeptBase
    kept = record { entry = entry; generation = (after_entry entry root base).generation; key = key }

    keeps_it : BaseKeeps (closed inferred) i kept entry
    keeps_it = record {
      entry = refl;
      generation = ap (λ (b : BaseValue). b.generation) stepped;
      key = uses ∙ ap (λ u. if base_erases entry then Some u else None) used;
    }

    may : BaseMay (closed inferred) i entry
    may = record {
      fits = (fits_same s value entry).0 (subst (λ b. Fits b entry) h.base_conforms fits);
      root = root_there (closed inferred) pool keeps s (root_of entry) (root_in_place (root_of entry) conforms);
    }

    pub base_more : BaseAfter (closed inferred) (i + 1) (after_entry entry root base) (roots_after (root_of entry) least)
        (made ++ record { entry = entry; generation = (after_entry entry root base).generation; key = key } ∷ [])
    base_more = record {
      following = after_more (BaseMay (closed inferred)) (BaseKeeps (closed inferred)) (closed inferred).base i made kept entry at
          h.following may keeps_it;
      base_conforms = stepped
          ∙ ap (λ (x : BaseState). base_at x (base_value_step (closed inferred).pool value entry)) (sym state_more)
          ∙ ap (base_at (base_after (take (i + 1) (closed inferred).base))) (sym value_more);
      least_conforms = ap (roots_after (root_of entry)) h.least_conforms ∙ sym (ap (λ (x : BaseState). x.roots) state_more);
      place = ap (λ (x : BaseState). x.place) state_more ∙ ap suc h.place ∙ (let n : suc i ≡ i + 1 = omega arith in n);
      few = (let g : generation_after (reseeds_at entry) base.generation ≤ base.generation + 1 =
          one_reseed_more (reseeds_at entry) base.generation in
          let f : base.generation ≤ i = h.few in omega arith);
    }

-- if BaseAfter holds of `base`, `least` and `made`, it holds of `next`, `above` and `items`, which are equal to them
pub base_next : (lists : Lists) (i : ℕ) (base : BaseValue) (least : ℕ) (made : List KeptBase) (next : BaseValue)
    (above : ℕ) (items : List KeptBase) → BaseAfter lists i base least made → next ≡ base → above ≡ least →
    items ≡ made → BaseAfter lists i next above items
base_next lists i base least made next above items h is_base is_least is_items =
    subst (λ x. BaseAfter lists i x above items) (sym is_base)
    (subst (λ x. BaseAfter lists i base x items) (sym is_least)
    (subst (λ x. BaseAfter lists i base least x) (sym is_items) h))
