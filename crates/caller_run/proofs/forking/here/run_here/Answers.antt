use Rattle.std.proofs.Common.{rules}
use Rattle.rng_core.proofs.SiteLemmas.{same_then}
use Rattle.caller_run.proofs.Events.OwnSites.{own_hands, lent_hands, ran_here}
use Rattle.caller_run.proofs.forking.here.run_here.Goals as goal

pub returns-clause-has : goal.returns-clause-has
returns-clause-has g c = lent_hands (search rules) (own_hands (same_then _ _ _ c.stall.ensures.does.same c.unstall.ensures.does.same)
    c.unstall.ensures.does.has)

pub returns-clause-here : goal.returns-clause-here
returns-clause-here g c =
    ran_here (search rules) (search rules) c.stall.ensures.does c.unstall.ensures.does
