use Rattle.std.proofs.Common.{ap, refl, rules, arith}
use Rattle.lane_table.specs.declared.view.LaneView.{LaneView}
use Rattle.lane_table.proofs.Calls.AdvanceLemmas.{went_raised}
use Rattle.lane_table.proofs.Calls.Lent.{lent}
use Rattle.rng_core.proofs.TellLemmas.{recorded_idly, visited_stays}
use Rattle.rng_core.proofs.site.Site.extract_raising.Goals as goal

pub returns : goal.returns
returns g c = let b = c.extract-root.ensures in let r = c.raise.ensures.raised in record {
  same = record { lanes = b.same.lanes; set = b.same.set; pass = b.same.pass; trace = b.same.trace };
  holds = search rules;
  kept = search rules;
  key = search rules;
  room = b.room;
  visited = (
    b.visited.0,
    visited_stays _ _ _ _ _ _ _ _ _ b.visited.1
        (recorded_idly _ _ _ refl (went_raised _ _ _ _ _ (let a = b.holds.has.pass.sized in omega arith) _
        (let a = b.seen in let low = c.requires.low.seen in
        let d = c.base_generation-generation.ensures _ (lent _ _ _ _ c.state.ensures c.requires.holds.value) in omega
        arith) r))
        (ap (λ (a : LaneView). a.known) (r.others 0 (λ e. absurd (omega arith)))),
  );
}
