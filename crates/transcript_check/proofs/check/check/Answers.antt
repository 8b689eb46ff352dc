use Rattle.transcript_check.proofs.Sound.{yes_of, no_of}
use Rattle.transcript_check.proofs.check.check.Goals as goal

pub returns-clause-yes : goal.returns-clause-yes
returns-clause-yes c = λ is.
    yes_of c.args.script.now c.args.t.now c.verdict.result
    (rw c.verdict.ensures (c.in_ok-judged.ensures.judged)) is

pub returns-clause-no : goal.returns-clause-no
returns-clause-no c = λ clause fails.
    no_of c.args.script.now c.args.t.now c.verdict.result clause
    (rw c.verdict.ensures (c.in_ok-judged.ensures.judged)) fails
