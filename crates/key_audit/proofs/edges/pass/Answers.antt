use Rattle.std.proofs.Common.{◌+◌, sym, subst, arith}
use Rattle.key_audit.specs.Edges.{Follows}
use Rattle.key_audit.proofs.Passes.{PassedTo, none_new, one_new, passed_all}
use Rattle.key_audit.proofs.edges.pass.Goals as goal
use Rattle.key_audit.proofs.edges.pass.Goals.{then-branch, else-branch}

pub loop-edge-preserved : goal.loop-edge-preserved
loop-edge-preserved c =
    let edges = c.args.edges.now in
    let i = c.loop-edge.edge-index in
    let first = c.args.known.now in
    let old = c.loop-edge.known in
    let new = c.follow.new.known in
    elim c.if-branch.branch [
      | then-branch w ↦
          subst (PassedTo edges (i + 1) first new) (sym w.more-is)
          (one_new edges i _ c.loop-edge-test.true first old new c.loop-edge.more c.loop-edge.invariant
          (subst (Follows _ old new) w.if-branch.true c.in_ok-follow.ensures))
      | else-branch w ↦
          subst (PassedTo edges (i + 1) first new) (sym w.more-is)
          (none_new edges i _ c.loop-edge-test.true first old new c.loop-edge.more c.loop-edge.invariant
          (subst (Follows _ old new) w.if-branch.false c.in_ok-follow.ensures))
    ]

pub returns : goal.returns
returns c =
    passed_all c.args.edges.now c.loop-edge.edge-index c.args.known.now c.loop-edge.known c.loop-edge.more (omega arith)
    c.loop-edge.invariant
