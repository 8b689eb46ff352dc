use Rattle.std.proofs.Common.{ap, refl}
use Rattle.lane_table.specs.Steps.{Seated}
use Rattle.lane_table.specs.Calls.{view}
use Rattle.lane_table.proofs.Calls.HandLemmas.{has_halved, has_child}
use Rattle.rng_core.proofs.SiteLemmas.{one_more, same_then}
use Rattle.rng_core.proofs.callers.forks.fork.Goals as goal

pub returns : goal.returns
returns g c = let recorded = c.tell.ensures in record {
  same = same_then _ _ _ recorded.does.same (record { lanes = refl; set = refl; pass = refl; trace = refl });
  has = has_halved _ _ _ _ recorded.does.has c.split.ensures.pass c.split.ensures.halved;
  child_has = has_child _ _ (view c.tell.new.site.pass.now) _ c.split.ensures.child.0 c.split.ensures.child.1
      c.split.ensures.seat;
  room = one_more _ _ _ recorded.visit;
  forked = record {
    before = _;
    did = recorded.does.did;
    mark = recorded.mark;
    visit = recorded.visit;
    pass_is = ap (λ (m : Seated). m.0) c.split.ensures.halved;
    child_is = ap (λ (m : Seated). m.0) c.split.ensures.seat;
  };
}
