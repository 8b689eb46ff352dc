use Rattle.std.proofs.Common.{sym, ◌∙◌}
use Rattle.irq_feed.proofs.Feeding.{mixes_one}
use Rattle.irq_feed.proofs.Mixings.{mixes_on}
use Rattle.irq_feed.proofs.run.mix_if_direct.Goals as goal

pub returns-then-direct-clause-front : goal.returns-then-direct-clause-front
returns-then-direct-clause-front g c = λ through h.
    mixes_one c.args.intake.now.feeds.now c.args.number through c.args.mixed.now c.requires.near.0 h
    c.mix_directly.new.mixed (sym c.direct.ensures ∙ c.if-direct.true) c.mix_directly.ensures.direct
    c.mix_directly.ensures.mixed c.mix_directly.ensures.room

pub returns-then-direct-clause-irqs : goal.returns-then-direct-clause-irqs
returns-then-direct-clause-irqs g c = λ v before.
    mixes_on _ _ _ _ v _ _ c.mix_directly.ensures.mixed c.mix_directly.ensures.irqs before
