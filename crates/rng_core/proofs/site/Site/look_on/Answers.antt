use Rattle.std.proofs.Common.{◌+◌, List, ap, get_or, refl, arith, rules}
use Rattle.lane_table.specs.declared.view.LaneView.{LaneView}
use Rattle.lane_table.specs.Meaning.{replay}
use Rattle.lane_table.specs.WorldRule.{blank}
use Rattle.lane_table.proofs.Calls.HandLemmas.{has_looked}
use Rattle.rng_core.proofs.SiteLemmas.{one_more}
use Rattle.rng_core.proofs.site.Site.look_on.Goals as goal

pub returns : goal.returns
returns c = let k = c.generation-generation.ensures in record {
  walked = record {
    same = record { lanes = refl; set = refl; pass = refl; trace = refl };
    recorded = search rules;
  };
  room = one_more _ _ _ c.push.ensures;
  above = search rules;
  known = search rules;
  small = k.looked.small;
  seen = k.looked.seen;
  consistent = k.looked.consistent;
  stamp = search rules;
  lanes = λ lane. ap (λ (l : List LaneView). replay (get_or l lane blank).known) k.looked.lanes;
  cpus = λ cpu low. k.looked.cpus (cpu + 2) (omega arith) (let s = c.requires.pass.sized in omega arith);
  hands = λ hands has. has_looked _ _ _ _ _ _ has k.pass k.looked;
}
