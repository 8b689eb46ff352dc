use Rattle.std.proofs.lemmas.Bool.{both_ways}
use Rattle.transcript_text.proofs.FeedingOn.{ended, no_line}
use Rattle.transcript_text.proofs.parsing.so_far.SoFar.after_line.Goals as goal

pub returns-then-spells-clause-conforms : goal.returns-then-spells-clause-conforms
returns-then-spells-clause-conforms c = λ text following clean t.
    ended c.args.self.now text c.args.line.now following t (c.spells.ensures.0 c.if-spells.true)

pub returns-then-not-branch-clause-conforms : goal.returns-then-not-branch-clause-conforms
returns-then-not-branch-clause-conforms c = λ text following clean t.
    no_line c.args.self.now c.takes.new.self text c.args.line.now following t clean
    (λ e. both_ways _ c.if-spells.false (c.spells.ensures.1 e))
    (rw c.if-not-branch.true at c.in_ok-takes.ensures.taken) c.in_ok-takes.ensures.lines

pub returns-clause-conforms : goal.returns-clause-conforms
returns-clause-conforms c = λ text following clean t.
    let taken = rw c.if-not-branch.false at c.in_ok-takes.ensures.taken in taken text following t
