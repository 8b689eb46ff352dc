use Rattle.std.proofs.Common.{arith, ap, subst, ◌∙◌, ◌≡◌, ℕ, ◌+◌, List, get_or, take, false, Bool, Some, None}
use Rattle.std.proofs.lemmas.List.{get_or-set_other}
use Rattle.std.specs.List.{sum_by}
use Rattle.std.proofs.lemmas.List.Sums.{sum_by_more}
use Rattle.std.specs.Slots.{slots_counts}
use Rattle.lane_table.specs.declared.view.Content.{Content}
use Rattle.lane_table.specs.WorldRule.{blank, at}
use Rattle.lane_table.specs.Calls.{Ended, made_in}
use Rattle.lane_table.proofs.Lists.Lists.{set_default_until}
use Rattle.lane_table.proofs.Rule.Ending.{stored_in, ended}
use Rattle.lane_table.proofs.lanes.Lanes.close.Goals as goal

pub unreachable-requires : goal.unreachable-requires
unreachable-requires c = let p = c.requires.pass in let t =
    stored_in _ _ c.args.pass.seat.me.0 _ _ c.close_with-closed.ensures.values.2 p.share c.requires.whole
    c.requires.idle _ c.loop-lane.invariant.3 c.loop-lane.lane c.take.result c.take.ensures.value in
    let e : None ≡ Some t.0 = c.in-None.ensures ∙ t.1 in cc e

pub loop-lane-preserved : goal.loop-lane-preserved
loop-lane-preserved c = let v = c.args.pass.seat.me.0 in let p = c.requires.pass in let i : ℕ = c.loop-lane.lane in
    let x : Content = c.in-Some.content in
    let t = stored_in _ _ v _ _ c.close_with-closed.ensures.values.2 p.share c.requires.whole c.requires.idle _
    c.loop-lane.invariant.3 i c.take.result c.take.ensures.value in
    let same : x ≡ t.0 = (let e : Some x ≡ Some t.0 = c.in-Some.ensures ∙ t.1 in cc e) in let made : x.place ≡ (at i v).made =
    ap (λ (z : Content). z.place) same ∙ t.2 in
    let more : sum_by made_in (take (i + 1) v.lanes) ≡ sum_by made_in (take i v.lanes) + (at i v).made =
    sum_by_more made_in v.lanes i blank (omega arith) in
    let inv = c.loop-lane.invariant in let o = c.take.ensures.others in (
      (λ k le lt. ap (λ (l : List Bool). get_or l k false) o.1
          ∙ get_or-set_other c.loop-lane.closed.slots.filled i k false false (λ e. omega arith)
          ∙ inv.0 k (omega arith) (omega arith)),
      (λ k lt. set_default_until c.loop-lane.closed.slots.filled c.take.new.self.slots.filled i k false o.1 inv.1 lt),
      omega arith,
      o.0 ∙ inv.3,
      omega arith,
      omega arith,
    )

pub returns-clause-ended : goal.returns-clause-ended
returns-clause-ended c = let p = c.requires.pass in let n = slots_counts c.close_with-closed.result.slots in let w =
    c.close_with-closed.ensures.counts in
    let done = ended _ _ c.args.pass.seat.me.0 _ _ c.close_with-closed.ensures.values.2 p.share c.requires.whole
    c.requires.idle in subst (λ (z : ℕ). Ended z c.args.pass.seat.me.0) (omega arith) done
