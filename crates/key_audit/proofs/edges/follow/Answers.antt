use Rattle.std.proofs.Common.{sym, ◌∙◌}
use Rattle.key_audit.proofs.Passes.{inserted, unfollowed}
use Rattle.key_audit.proofs.edges.follow.Goals as goal

pub returns-then-contains : goal.returns-then-contains
returns-then-contains c =
    inserted c.args.edge c.args.known.now c.insert.new.self (sym c.contains.ensures ∙ c.if-contains.true)
    c.in_ok-insert.ensures.updates c.in_ok-insert.field-0 c.in_ok-insert.ensures.added

pub returns : goal.returns
returns c = unfollowed c.args.edge c.args.known.now (sym c.contains.ensures ∙ c.if-contains.false)
