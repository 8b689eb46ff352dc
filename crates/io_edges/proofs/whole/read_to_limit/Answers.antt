use Rattle.std.proofs.Common.{arith}
use Rattle.std.proofs.lemmas.List.{length-take}
use Rattle.io_edges.proofs.Pieces.{ConsumesUpTo_more}
use Rattle.io_edges.proofs.whole.read_to_limit.Goals as goal

pub returns-in_err-extend_from_slice-clause-front : goal.returns-in_err-extend_from_slice-clause-front
returns-in_err-extend_from_slice-clause-front g c =
    let count = c.in_ok-count.ensures.bound in
    ConsumesUpTo_more _ _ _ _ c.loop-piece.bytes.items _ c.loop-piece.invariant.0 c.in_ok-count.ensures.taken
    (omega (
      arith,
      count.0,
      count.1,
      c.take.auto.buf,
      length-take c.min-most.result c.loop-piece.piece,
      c.min-most.ensures,
      c.len-in-loop-piece.ensures,
      c.loop-piece.bytes.ok.0,
      c.loop-piece-test.true,
    ))
