use Rattle.std.proofs.Common.{subst}
use Rattle.key_audit.proofs.Passes.{ClosesUp, closed_up, one_pass, pass_smaller, set_out}
use Rattle.key_audit.proofs.edges.reached_by.Goals as goal

pub loop-more-init : goal.loop-more-init
loop-more-init c = set_out c.args.edges.now c.args.start.now c.in_ok-known.known c.in_ok-known.ensures

pub loop-more-preserved : goal.loop-more-preserved
loop-more-preserved c =
    one_pass c.args.edges.now c.args.start.now c.loop-more.known c.pass.new.known c.in_ok-more.more c.in_ok-more.ensures
    (subst (ClosesUp c.args.edges.now c.args.start.now c.loop-more.known) c.loop-more-test.true c.loop-more.invariant)

pub loop-more-smaller : goal.loop-more-smaller
loop-more-smaller c =
    rw c.loop-more-test.true
    (pass_smaller c.args.edges.now c.args.start.now c.loop-more.known c.pass.new.known c.in_ok-more.more
    c.in_ok-more.ensures)

pub returns : goal.returns
returns c q =
    closed_up c.args.edges.now c.args.start.now c.loop-more.known
    (subst (ClosesUp c.args.edges.now c.args.start.now c.loop-more.known) c.loop-more-test.false c.loop-more.invariant) q
