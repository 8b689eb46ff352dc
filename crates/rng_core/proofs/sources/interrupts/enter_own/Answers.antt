use Rattle.std.proofs.Common.{◌+◌, sym, subst}
use Rattle.rng_core.specs.declared.setting.Setting.{Setting}
use Rattle.rng_core.specs.Sites.{Entered}
use Rattle.rng_core.proofs.sources.interrupts.enter_own.Goals as goal

pub returns : goal.returns
returns g c = subst (λ (s : Setting). Entered (s.cpu + 2) c.enter.result c.args.site.now c.enter.new.self)
    (sym c.enter.ensures.walked.same.set) c.enter.ensures
