use Rattle.std.proofs.Common.{rules}
use Rattle.caller_run.proofs.Events.OwnSites.{own_hands, lent_hands, given_hands, at_fork}
use Rattle.caller_run.proofs.making.caller.Caller.fork.Goals as goal

pub returns-clause-has : goal.returns-clause-has
returns-clause-has g c = lent_hands (search rules) (own_hands c.fork.ensures.same c.fork.ensures.has)

pub returns-clause-child : goal.returns-clause-child
returns-clause-child g c = given_hands c.fork.ensures.same c.fork.ensures.child_has

pub returns-clause-at : goal.returns-clause-at
returns-clause-at g c = at_fork (record {
  lanes = c.args.lanes;
  pass = record c.fork.new.site.pass { now = c.args.self.now.pass };
  trace = c.args.trace;
  set = c.args.self.now.set;
}) c.fork.new.site (search rules) (search rules) c.requires.new c.fork.ensures.forked
