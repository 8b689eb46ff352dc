use Rattle.std.proofs.Common.{[]}
use Rattle.rng_core.proofs.site.Site.look.Goals as goal

pub returns : goal.returns
returns c = record { looked = c.look_on.ensures; has = c.look_on.ensures.hands [] c.requires.has }
