use Rattle.std.proofs.Common.{rules, ◌≡◌, ◌+◌, ◌++◌, arith, length, subst, sym, ◌∙◌}
use Rattle.std.specs.Prelude.{drop}
use Rattle.std.proofs.lemmas.List.{length-append, length-take, take-append-le}
use Rattle.std.specs.Io.KnownBytes.{Consumes}
use Rattle.io_edges.proofs.Pieces.{ConsumesUpTo_kept, ConsumesUpTo_more}
use Rattle.tool_ends.specs.declared.pair.NotRead.TheVariants.{NoMemory, ReadFault}
use Rattle.tool_ends.proofs.Taking.{broken_off, ends_read, long_read, piece_taken}
use Rattle.tool_ends.proofs.feeding.feed_to_limit.Goals as goal

pub returns-then-count-eq0-clause-read : goal.returns-then-count-eq0-clause-read
returns-then-count-eq0-clause-read g c =
    let s = c.loop-taken.invariant.so_far in record {
      text = s.input;
      read = ends_read c.args.limit _ _ _ s.input s.read (rw c.if-count-eq0.true at c.in_ok-count.ensures.taken)
          (c.in_ok-count.ensures.end c.if-count-eq0.true (search rules))
          (omega (arith, s.len, c.loop-taken.invariant.within));
      has = s.has;
      len = s.len;
      within = c.loop-taken.invariant.within;
    }

pub returns-in_err-count-clause-not_read : goal.returns-in_err-count-clause-not_read
returns-in_err-count-clause-not_read g c =
    let s = c.loop-taken.invariant.so_far in
    broken_off c.args.limit (λ text why. ⊥) _ _ ReadFault c.from_residual.result c.from_residual.ensures.1
    (ConsumesUpTo_kept _ _ _ _ s.input s.read c.in_err-count.ensures.not_taken
    (omega (arith, s.len, c.loop-taken-test.true)))

pub feed_piece-requires : goal.feed_piece-requires
feed_piece-requires g c =
    let s = c.loop-taken.invariant.so_far in
    let n = c.in_ok-count.count in
    let buf = c.take.new.buf in
    let old = drop c.min-most.result c.loop-taken.piece in (
      s.input,
      s.has,
      omega (
        arith,
        s.len,
        c.requires.small,
        c.loop-taken-test.true,
        c.in_ok-count.ensures.bound.0,
        c.in_ok-count.ensures.bound.1,
        c.take.auto.buf,
        length-take c.min-most.result c.loop-taken.piece,
        length-take n (buf ++ old),
        length-append buf old,
        c.min-most.ensures,
      ),
    )

pub returns-in_err-feed_piece-clause-not_read : goal.returns-in_err-feed_piece-clause-not_read
returns-in_err-feed_piece-clause-not_read g c =
    let s = c.loop-taken.invariant.so_far in
    let count = c.in_ok-count.ensures.bound in
    broken_off c.args.limit (λ text why. ⊥) _ _ NoMemory c.from_residual-in_err-feed_piece.result
    c.from_residual-in_err-feed_piece.ensures.1
    (ConsumesUpTo_more _ _ _ _ s.input _ s.read c.in_ok-count.ensures.taken
    (omega (
      arith,
      s.len,
      count.0,
      count.1,
      c.take.auto.buf,
      length-take c.min-most.result c.loop-taken.piece,
      c.min-most.ensures,
      c.loop-taken-test.true,
    )))

pub loop-taken-preserved : goal.loop-taken-preserved
loop-taken-preserved g c =
    let s = c.loop-taken.invariant.so_far in
    let n = c.in_ok-count.count in
    let buf = c.take.new.buf in
    let old = drop c.min-most.result c.loop-taken.piece in
    let few = c.in_ok-count.ensures.bound.0 in
    record {
      so_far = piece_taken _ _ _ _ _ c.loop-taken.taken n _ s
          (subst (Consumes (g.S.Source.left c.loop-taken.source) (g.S.Source.left c.take.new.self))
          (sym (take-append-le n buf old few)) c.in_ok-count.ensures.taken)
          (omega (arith, few, length-take n (buf ++ old), length-append buf old)) (c.in_ok-feed_piece.ensures s.input);
      counted = c.in_ok-count.ensures.not_counted ∙ c.loop-taken.invariant.counted;
      within = search rules;
    }

pub returns-clause-read : goal.returns-clause-read
returns-clause-read g c =
    let s = c.loop-taken.invariant.so_far in
    let many : length s.input ≡ c.args.limit + 1 =
    omega (arith, s.len, c.loop-taken-test.false, c.loop-taken.invariant.within) in record {
      text = s.input;
      read = long_read c.args.limit _ _ s.input s.read many;
      has = s.has;
      len = s.len;
      within = c.loop-taken.invariant.within;
    }
