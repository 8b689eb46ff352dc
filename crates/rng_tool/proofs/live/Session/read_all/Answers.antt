use Rattle.std.proofs.Common.{◌++◌, arith, subst, sym, ◌∙◌, rules}
use Rattle.std.specs.Prelude.{drop, take}
use Rattle.std.specs.Io.KnownBytes.{Consumes}
use Rattle.std.proofs.KnownBytes.{Consumes-kept, Consumes-trans}
use Rattle.std.proofs.lemmas.List.{length-append, length-take, take-append-le}
use Rattle.io_edges.proofs.Pieces.{AppendsPrefix-of_whole}
use Rattle.tool_ends.proofs.Endings.{appends_kept}
use Rattle.tool_ends.proofs.Taking.{ends_read, long_read}
use Rattle.rng_tool.specs.declared.stop.Stop.TheVariants.{WriteFault}
use Rattle.rng_tool.proofs.LiveGoes.{all_at, part_at, tells_all, tells_part}
use Rattle.rng_tool.proofs.LiveSessions.{more_taken, read_stops, stopped, stops_reading}
use Rattle.rng_tool.proofs.live.Session.read_all.Goals as goal

pub returns-in_default-clause-reads : goal.returns-in_default-clause-reads
returns-in_default-clause-reads g c =
    let i = c.loop-taken.invariant in
    let t = c.loop-taken.self.session_writer in (
      i.text,
      record {
        taken = record {
          read = Consumes-kept _ _ _ i.text i.read c.in_default.ensures.not_taken;
          few = omega (arith, i.len, i.within);
        };
        long = λ many. absurd (omega (arith, many, i.len, c.loop-taken-test.true));
      },
      record {
        emitted = i.at.emitted;
        is = tells_all i.text i.at.emitted t (all_at t.is_over t.run i.text i.at.emitted i.at.is.at);
        written = i.at.written;
      },
    )

pub returns-then-count-eq0-clause-reads : goal.returns-then-count-eq0-clause-reads
returns-then-count-eq0-clause-reads g c =
    let i = c.loop-taken.invariant in (
      i.text,
      ends_read 16777216 _ _ _ i.text i.read (rw c.if-count-eq0.true at c.in-Ok.ensures.taken)
          (c.in-Ok.ensures.end c.if-count-eq0.true (search rules)) (omega (arith, i.len, i.within)),
      omega (arith, i.len, i.within),
      i.at,
    )

pub returns-in_err-read-clause-reads : goal.returns-in_err-read-clause-reads
returns-in_err-read-clause-reads g c =
    let i = c.loop-taken.invariant in
    let n = c.in-Ok.count in
    let buf = c.take.new.buf in
    let old = drop c.min-most.result c.loop-taken.piece in
    let few = c.in-Ok.ensures.bound.0 in
    let stops = c.in_err-read.ensures.goes _ i.text i.at.emitted i.at.is i.at.written in
    stops_reading c.from_residual.result _ _ _ _ _ (i.text ++ take n (buf ++ old)) _ c.from_residual.ensures.1
    (more_taken _ _ _ i.text (take n (buf ++ old)) i.read
    (subst (Consumes (g.S.Source.left c.loop-taken.source) (g.S.Source.left c.take.new.self))
    (sym (take-append-le n buf old few)) c.in-Ok.ensures.taken)
    (omega (
      arith,
      i.len,
      few,
      c.in-Ok.ensures.bound.1,
      c.take.auto.buf,
      length-take c.min-most.result c.loop-taken.piece,
      length-take n (buf ++ old),
      length-append buf old,
      length-append i.text (take n (buf ++ old)),
      c.min-most.ensures,
      c.loop-taken-test.true,
    )))
    (stopped _ _ _ _ _ stops)

pub returns-in_err-read-clause-read_counted : goal.returns-in_err-read-clause-read_counted
returns-in_err-read-clause-read_counted g c =
    let i = c.loop-taken.invariant in
    read_stops c.from_residual.result _ _ _ _ _ _ _ c.from_residual.ensures.1
    (c.in_err-read.ensures.goes _ i.text i.at.emitted i.at.is i.at.written)
    (c.in-Ok.ensures.not_counted ∙ i.read_counted)

pub returns-in_err-flush-clause-reads : goal.returns-in_err-flush-clause-reads
returns-in_err-flush-clause-reads g c =
    let i = c.loop-taken.invariant in
    let n = c.in-Ok.count in
    let buf = c.take.new.buf in
    let old = drop c.min-most.result c.loop-taken.piece in
    let few = c.in-Ok.ensures.bound.0 in
    let text = i.text ++ take n (buf ++ old) in
    let t = c.read.new.self.session_writer in
    let now = c.in_ok-read.ensures.goes _ i.text i.at.emitted i.at.is i.at.written in
    stops_reading c.from_residual-in_err-flush.result WriteFault _ _ _ _ text _ c.from_residual-in_err-flush.ensures.1
    (more_taken _ _ _ i.text (take n (buf ++ old)) i.read
    (subst (Consumes (g.S.Source.left c.loop-taken.source) (g.S.Source.left c.take.new.self))
    (sym (take-append-le n buf old few)) c.in-Ok.ensures.taken)
    (omega (
      arith,
      i.len,
      few,
      c.in-Ok.ensures.bound.1,
      c.take.auto.buf,
      length-take c.min-most.result c.loop-taken.piece,
      length-take n (buf ++ old),
      length-append buf old,
      length-append i.text (take n (buf ++ old)),
      c.min-most.ensures,
      c.loop-taken-test.true,
    )))
    (record {
      emitted = now.emitted;
      is = tells_part text now.emitted t (part_at t.is_over t.run text now.emitted now.is.at);
      written = AppendsPrefix-of_whole _ _ now.emitted (appends_kept _ _ _ now.emitted now.written c.in_err-flush.ensures.kept);
    })

pub loop-taken-preserved : goal.loop-taken-preserved
loop-taken-preserved g c =
    let i = c.loop-taken.invariant in
    let n = c.in-Ok.count in
    let buf = c.take.new.buf in
    let old = drop c.min-most.result c.loop-taken.piece in
    let few = c.in-Ok.ensures.bound.0 in
    let now = c.in_ok-read.ensures.goes _ i.text i.at.emitted i.at.is i.at.written in
    record {
      text = i.text ++ take n (buf ++ old);
      read = Consumes-trans _ _ _ i.text (take n (buf ++ old)) i.read
          (subst (Consumes (g.S.Source.left c.loop-taken.source) (g.S.Source.left c.take.new.self))
          (sym (take-append-le n buf old few)) c.in-Ok.ensures.taken);
      len = omega (
        arith,
        i.len,
        few,
        length-take n (buf ++ old),
        length-append buf old,
        length-append i.text (take n (buf ++ old)),
      );
      within = search rules;
      at = record {
        emitted = now.emitted;
        is = now.is;
        written = appends_kept _ _ _ now.emitted now.written c.in_ok-flush.ensures.kept;
      };
      read_counted = c.in-Ok.ensures.not_counted ∙ i.read_counted;
      counted = c.in_ok-flush.ensures.not_counted ∙ c.in_ok-read.ensures.counted.not_counted (λ e. cc) ∙ i.counted;
    }

pub returns-clause-reads : goal.returns-clause-reads
returns-clause-reads g c =
    let i = c.loop-taken.invariant in (
      i.text,
      long_read 16777216 _ _ i.text i.read (omega (arith, i.len, c.loop-taken-test.false, i.within)),
      omega (arith, i.len, i.within),
      i.at,
    )
