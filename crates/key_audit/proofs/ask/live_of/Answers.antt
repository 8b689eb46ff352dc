use Rattle.key_audit.proofs.WordTexts.{line_only, stamp_found}
use Rattle.key_audit.proofs.ask.live_of.Goals as goal

pub returns-in-Some-clause-only : goal.returns-in-Some-clause-only
returns-in-Some-clause-only c ask asks =
    line_only c.args.text.now c.in-Some.line c.in-Some.ensures.found.0 c.in-Some.ensures.found.1
    c.in-Some.ensures.only ask asks

pub returns-in-None-clause-only : goal.returns-in-None-clause-only
returns-in-None-clause-only c ask asks =
    stamp_found c.args.text.now c.number_up_to.result c.map.result c.number_up_to.ensures.value c.map.ensures.cases
    (λ line fits is. let no = c.in-None.ensures.only line fits is in absurd cc) ask asks
