-- The loop of replay_pool: after i entries, the code's pool equals that of the definitions. The code has kept the right
-- data about these entries, and each mix of a dump names a dump.
use Rattle.std.proofs.Common.{◌≡◌, ◌<◌, ◌+◌, ℕ, List, [], ◌∷◌, ◌++◌, length, take, Option, Some, None, sym, subst, ap, ◌∙◌, inl, inr}
use Rattle.std.specs.Prelude.{slice_get}
use Rattle.key_names.specs.declared.entries.PoolEntry.{PoolEntry}
use Rattle.key_names.specs.Lanes.PoolList.{PoolState, crossing, pool_after, pool_start, pool_step}
use Rattle.key_names.specs.Lanes.Book.{Lists}
use Rattle.key_names.specs.Callers.Effects.{pool_visit}
use Rattle.input_pool.specs.declared.pool.Crossing.{Crossing as Crossed}
use Rattle.input_pool.specs.PoolConforms.{crossing_of}
use Rattle.sample_credit.specs.declared.fast_pool.Dump.{Dump}
use Rattle.judge_log.specs.declared.kept.KeptRoot.{KeptRoot}
use Rattle.judge_log.specs.declared.kept.KeptPool.{KeptPool}
use Rattle.judge_log.specs.declared.pool_list.PoolReplay.{PoolReplay}
use Rattle.judge_log.specs.declared.inferred.InferredPool.{InferredPool}
use Rattle.judge_log.specs.Closed.{closed}
use Rattle.judge_log.specs.Dumps.{AllDumps}
use Rattle.std.proofs.lemmas.Option.{slice_get_within}
use Rattle.judge_log.specs.Kept.{root_kept, KeepsPool, KeepsPoolLane}
use Rattle.judge_log.specs.PoolLane.{LaneConforms, entry_found, MixConforms, AllMixed}
use Rattle.judge_log.specs.Tables.{Tables}
use Rattle.judge_log.proofs.Dumps.{found_is, not_found, some_or_none}
use Rattle.judge_log.proofs.Filling.{closed_fills}
use Rattle.judge_log.proofs.Loops.{After, after_more, after_all, below_or_at, at_too, fold_at}

abbrev pub Any : ℕ → PoolEntry → Type 0
Any p e = Unit {0}

abbrev pub PoolKeeps : Lists → ℕ → KeptPool → PoolEntry → Type 0
PoolKeeps lists p k e = KeepsPool k (pool_visit lists p e)

-- after the first `i` entries of the pool, `lane` and the kept data `made` equal what the definitions give, and each
-- entry that mixes a dump names a dump
pub record PoolAfter (inferred : Tables) (i : ℕ) (lane : PoolReplay) (made : List KeptPool) : Type 0 where
  pub conforms : LaneConforms lane (pool_after (take i (closed inferred).pool))
  pub mixed : (j : ℕ) (t : InferredPool) → j < i → slice_get inferred.pool j ≡ Some t → MixConforms (closed inferred) t
  pub following : After Any (PoolKeeps (closed inferred)) (closed inferred).pool i made

module _ (inferred : Tables) (dumps : List (List (Option Dump))) (all : AllDumps (closed inferred) dumps) (i : ℕ) (t : InferredPool)
    (is : slice_get inferred.pool i ≡ Some t) where
  pub pool_stops : entry_found dumps t ≡ None → AllMixed inferred → ⊥
  pool_stops none mixed = not_found (closed inferred) dumps all t none (mixed i t is)

  module _ (lane : PoolReplay) (made : List KeptPool) (h : PoolAfter inferred i lane made) (e : PoolEntry)
      (found : entry_found dumps t ≡ Some e) where
    at : slice_get (closed inferred).pool i ≡ Some e
    at =
        let there = at_too (closed inferred).pool inferred.pool i t (closed_fills inferred).pool_count is in
        there.1
        ∙ ap Some ((closed_fills inferred).pool i t there.0 is there.1 ∙ sym (found_is (closed inferred) dumps all t e found).0)

    pub pool_more : (next : PoolReplay) (root : Option KeptRoot) (crossed : Crossed) →
        LaneConforms next (pool_step (pool_after (take i (closed inferred).pool)) e) →
        root ≡ root_kept (pool_after (take i (closed inferred).pool)) e →
        crossing_of crossed ≡ crossing lane.pool.bits next.pool.bits →
        PoolAfter inferred (i + 1) next
        (made ++ record { before = lane.pool.bits; crossing = crossed; root = root } ∷ [])
    pool_more next root crossed met gives crosses = record {
      conforms = subst (λ (x : PoolState). LaneConforms next x)
          (sym (fold_at pool_step pool_start (closed inferred).pool i e at)) met;
      mixed = λ j u below there. elim (below_or_at j i below) [
        | inl b ↦ h.mixed j u b there
        | inr same ↦ (let both : Some t ≡ Some u = sym is ∙ subst (λ n. slice_get inferred.pool n ≡ Some u) same there in
            let entry : t ≡ u = cc in
            subst (λ x. MixConforms (closed inferred) x) entry (found_is (closed inferred) dumps all t e found).1)
      ];
      following = after_more Any (PoolKeeps (closed inferred)) (closed inferred).pool i made
          (record { before = lane.pool.bits; crossing = crossed; root = root }) e at h.following tt
          (record {
            before = h.conforms.pool.credited;
            crosses = crosses
                ∙ ap (λ b. crossing b next.pool.bits) h.conforms.pool.credited
                ∙ ap (crossing (pool_after (take i (closed inferred).pool)).bits) met.pool.credited;
            root = gives;
          });
    }

pub pool_next : (inferred : Tables) (i : ℕ) (lane : PoolReplay) (made items : List KeptPool) → PoolAfter inferred i lane made →
    items ≡ made → PoolAfter inferred i lane items
pool_next inferred i lane made items h is = subst (λ x. PoolAfter inferred i lane x) (sym is) h

-- if PoolAfter holds of the first i entries of the pool and the code visits the next entry, PoolAfter holds of the
-- first i + 1
pub pool_visited : (inferred : Tables) (dumps : List (List (Option Dump))) (all : AllDumps (closed inferred) dumps) (i : ℕ)
    (t : InferredPool) → slice_get inferred.pool i ≡ Some t → (lane : PoolReplay) (made : List KeptPool) → PoolAfter inferred i lane made →
    (next : PoolReplay) (result : Option (Option KeptRoot)) → (entry_found dumps t ≡ None → result ≡ None) →
    ((s : PoolState) (e : PoolEntry) → LaneConforms lane s → entry_found dumps t ≡ Some e →
    LaneConforms next (pool_step s e) × (result ≡ Some (root_kept s e))) → (root : Option KeptRoot) → result ≡ Some root →
    (crossed : Crossed) → crossing_of crossed ≡ crossing lane.pool.bits next.pool.bits → PoolAfter inferred (i + 1) next
    (made ++ record { before = lane.pool.bits; crossing = crossed; root = root } ∷ [])
pool_visited inferred dumps all i t is lane made h next result none some root gives crossed crosses =
    elim (some_or_none (entry_found dumps t)) [
      | inl nothing ↦ (let both : None ≡ Some root = sym (none nothing) ∙ gives in cc)
      | inr f ↦ (let met = some (pool_after (take i (closed inferred).pool)) f.0 h.conforms f.1 in
          let both : Some root ≡ Some (root_kept (pool_after (take i (closed inferred).pool)) f.0) = sym gives ∙ met.1 in
          let same : root ≡ root_kept (pool_after (take i (closed inferred).pool)) f.0 = cc in
          pool_more inferred dumps all i t is lane made h f.0 f.1 next root crossed met.0 same crosses)
    ]

pub pool_end : (inferred : Tables) (i : ℕ) (lane : PoolReplay) (made : List KeptPool) → length inferred.pool ≡ i →
    PoolAfter inferred i lane made → AllMixed inferred × KeepsPoolLane made (closed inferred)
pool_end inferred i lane made all h =
    let count : length (closed inferred).pool ≡ i = (closed_fills inferred).pool_count ∙ all in (
      λ p t is. h.mixed p t (subst (λ n. p < n) all (slice_get_within inferred.pool p t is)) is,
      (after_all Any (PoolKeeps (closed inferred)) (closed inferred).pool i made count h.following).1,
    )
