-- A reseed raises the generation that its caller has seen.
use Rattle.std.proofs.Common.{◌≡◌, ℕ, suc, ◌+◌, ◌<◌, ◌≤◌, List, take, refl, ap, ◌∙◌, arith}
use mathlib.Core.Option.{some}
use lib.ListN.{get_elem?}
use Rattle.key_names.specs.declared.entries.BaseEntry.TheVariants.{Reseed}
use Rattle.lane_table.specs.declared.lanes.Held.{Held}
use Rattle.lane_table.specs.declared.view.Handed.{Handed}
use Rattle.lane_table.specs.declared.view.LaneEntry.{LaneEntry}
use Rattle.lane_table.specs.declared.view.LaneEntry.TheVariants.{Base}
use Rattle.lane_table.specs.declared.view.Visit.{Visit}
use Rattle.lane_table.specs.LaneNumbers.{index_of}
use Rattle.lane_table.specs.Advances.{floor}
use Rattle.lane_table.specs.Meaning.{Model, made_of, model_step, replay, start_model}
use Rattle.lane_table.specs.WorldRule.{known_of}
use Rattle.lane_table.proofs.Lists.Places.{fold_next, conforms_at}
use Rattle.rng_core.specs.declared.crng.keys.ExtractedRoot.{ExtractedRoot}
use Rattle.rng_core.specs.declared.setting.Setting.{Setting}
use Rattle.rng_core.specs.declared.site.Site.{Site}
use Rattle.rng_core.specs.Traces.{Moment, Visited}
use Rattle.rng_core.specs.Sites.{at, Entered, ExtractedRaising, lane_of, seen_by}

-- if the visit with number `i` in the base's list `xs` is a reseed, it raises the generation by 1
pub reseeded_at : (xs : List Visit) (i root now : ℕ) (x : Visit) → get_elem? xs i ≡ some x →
    x.entry ≡ Base (Reseed root now) →
    (replay (take (suc i) xs)).base.generation ≡ (replay (take i xs)).base.generation + 1
reseeded_at xs i root now x there is = ap (λ (k : Model). k.base.generation)
    (fold_next model_step start_model xs i x (conforms_at xs i x there)
    ∙ ap (λ (e : LaneEntry). made_of (replay (take i xs)) e x.got) is)

-- a caller that made a reseed has seen a generation above the base's generation before the reseed
reseed_seen : (set : Setting) (m n : Moment) (place root now : ℕ) (s : Model) (got : Handed) →
    Visited set m n 1 place s (Base (Reseed root now)) got → s.base.generation < floor n.view
reseed_seen set m n place root now s got v =
    let xs : List Visit = known_of n.view (index_of v.mark.lane) in
    let raised = reseeded_at xs v.mark.place root now v.met.visit v.met.there v.met.is in
    let was : (replay (take v.mark.place xs)).base.generation ≡ s.base.generation =
    ap (λ (k : Model). k.base.generation) v.met.before in
    let seen = v.recorded.went.sees in
    let a = seen.2 in
    let b = seen.3 in omega arith

-- after a caller took the base, extracted a root and made the reseed's visit, the caller has seen a higher generation
-- than before
pub reseed_rises : (l m k n : Site) (base : Held) (root : ExtractedRoot) (place r now : ℕ) (got : Handed) → Entered 1 base l m →
    ExtractedRaising base root m k → Visited k.set (at k) (at n) 1 place (lane_of k 1) (Base (Reseed r now)) got →
    seen_by l < seen_by n
reseed_rises l m k n base root place r now got a b v =
    let first : seen_by l ≤ seen_by m = a.walked.recorded.went.sees in
    let low = (a.low refl).seen in
    let same : (lane_of k 1).base.generation ≡ (lane_of m 1).base.generation =
    ap (λ (s : Model). s.base.generation) b.kept in
    let more = reseed_seen k.set (at k) (at n) place r now (lane_of k 1) got v in omega arith
