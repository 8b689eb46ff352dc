use Rattle.std.proofs.Common.{[], arith}
use Rattle.rng_core.proofs.site.Site.enter.Goals as goal

pub returns : goal.returns
returns g c = let k = c.take.ensures in record {
  walked = k.walked;
  trace = k.trace;
  holds = record {
    has = k.hands [] tt c.requires.idle.has;
    lane_is = k.lane_is;
    value = k.value;
    early = (let a = k.early in omega arith);
  };
  low = k.low;
  agrees = k.agrees;
}
