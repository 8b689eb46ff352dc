use Rattle.std.proofs.Common.{[], ◌∷◌, ◌++◌, ◌+◌, codes, drop, subst, arith, rules}
use Rattle.key_names.specs.Texts.TranscriptGrammar.{LineFits}
use Rattle.key_names.proofs.Lists.Each.{each_more}
use Rattle.caller_run.specs.Alone.{last_line}
use Rattle.rng_tool.proofs.WrittenLines.{text_so_far, next_event, no_event, wrote_more, wrote_no_more, wrote_line, wrote_no_line}
use Rattle.rng_tool.proofs.WrittenLines.{was_whole, was_cut, was_cut_before, ended_run}
use Rattle.rng_tool.proofs.alone.write_alone.Goals as goal

pub make-requires : goal.make-requires
make-requires g c =
    let i = c.loop-event.invariant in let n = c.loop-event.event-index in let events = c.args.events.now in (
      search rules,
      (
        c.requires.0,
        drop (n + 1) events,
        i.lines,
        next_event events n c.event-item.result c.loop-event-test.true c.event-item.is (i.goes c.requires.0 c.requires.1),
      ),
    )

pub loop-event-init : goal.loop-event-init
loop-event-init g c =
    let begun = c.begin-written.ensures in record {
      lines = [];
      fits = tt;
      goes = λ script start. start;
      wrote = record { whole = begun.whole; prefix = begun.prefix; cause = begun.cause; not_counted = begun.not_counted };
    }

pub loop-event-preserved : goal.loop-event-preserved
loop-event-preserved g c =
    let i = c.loop-event.invariant in let line = last_line c.make.new.self in
    let n = c.loop-event.event-index in let events = c.args.events.now in
    let held = g.K.Sink.held in let faults = g.K.Sink.faults in let put = c.write-written in
    record {
      lines = i.lines ++ line ∷ [];
      fits = each_more LineFits i.lines line i.fits (subst LineFits c.line-line.ensures.line c.line-line.ensures.fits);
      goes = λ script start. c.make.ensures.going script (drop (n + 1) events) i.lines
          (next_event events n c.event-item.result c.loop-event-test.true c.event-item.is (i.goes script start));
      wrote = wrote_line c.loop-event.written put.result (held c.args.sink.now) (held c.loop-event.sink)
          (held put.new.sink) (faults c.args.sink.now) (faults c.loop-event.sink) (faults put.new.sink) i.lines line
          (search rules) i.wrote c.line-line.ensures.line put.ensures.whole put.ensures.prefix put.ensures.cause
          put.ensures.not_counted;
    }

pub loop-event-preserved-then-is_err : goal.loop-event-preserved-then-is_err
loop-event-preserved-then-is_err g c =
    let i = c.loop-event.invariant in let line = last_line c.make.new.self in
    let n = c.loop-event.event-index in let events = c.args.events.now in
    let held = g.K.Sink.held in let faults = g.K.Sink.faults in
    record {
      lines = i.lines ++ line ∷ [];
      fits = each_more LineFits i.lines line i.fits (subst LineFits c.line-line.ensures.line c.line-line.ensures.fits);
      goes = λ script start. c.make.ensures.going script (drop (n + 1) events) i.lines
          (next_event events n c.event-item.result c.loop-event-test.true c.event-item.is (i.goes script start));
      wrote = wrote_no_line c.loop-event.written (held c.args.sink.now) (held c.loop-event.sink)
          (faults c.args.sink.now) (faults c.loop-event.sink) i.lines line (search rules) i.wrote;
    }

pub end-requires : goal.end-requires
end-requires g c =
    let i = c.loop-event.invariant in (
      c.requires.0,
      i.lines,
      no_event c.args.events.now c.loop-event.event-index (omega (arith, c.loop-event-test.false))
          (i.goes c.requires.0 c.requires.1),
    )

pub returns-in_err-written-clause-prefix : goal.returns-in_err-written-clause-prefix
returns-in_err-written-clause-prefix g c script start =
    let i = c.loop-event.invariant in let held = g.K.Sink.held in let faults = g.K.Sink.faults in
    let line = last_line c.end.new.self in let last = c.line-line-2.ensures in
    let over = no_event c.args.events.now c.loop-event.event-index (omega (arith, c.loop-event-test.false))
    (i.goes script start) in
    let ran = ended_run i.lines line over i.fits last.line last.fits (c.end.ensures.lawful script i.lines over) in
    let text = text_so_far (i.lines ++ line ∷ []) in
    was_cut_before script (held c.args.sink.now) (held c.loop-event.sink) (faults c.args.sink.now)
    (faults c.loop-event.sink) (text ++ codes "end\n") ran c.loop-event.written c.from_residual.result
    (wrote_no_more c.loop-event.written (held c.args.sink.now) (held c.loop-event.sink) (faults c.args.sink.now)
    (faults c.loop-event.sink) text (codes "end\n") (search rules)
    (wrote_no_line c.loop-event.written (held c.args.sink.now) (held c.loop-event.sink) (faults c.args.sink.now)
    (faults c.loop-event.sink) i.lines line (search rules) i.wrote))

pub returns-in_err-write-clause-prefix : goal.returns-in_err-write-clause-prefix
returns-in_err-write-clause-prefix g c script start =
    let i = c.loop-event.invariant in let held = g.K.Sink.held in let faults = g.K.Sink.faults in
    let line = last_line c.end.new.self in let last = c.line-line-2.ensures in
    let over = no_event c.args.events.now c.loop-event.event-index (omega (arith, c.loop-event-test.false))
    (i.goes script start) in
    let ran = ended_run i.lines line over i.fits last.line last.fits (c.end.ensures.lawful script i.lines over) in
    let text = text_so_far (i.lines ++ line ∷ []) in
    let put = c.write in
    let wrote = wrote_line c.loop-event.written put.result (held c.args.sink.now) (held c.loop-event.sink)
    (held put.new.sink) (faults c.args.sink.now) (faults c.loop-event.sink) (faults put.new.sink) i.lines line
    (search rules) i.wrote last.line put.ensures.whole put.ensures.prefix put.ensures.cause put.ensures.not_counted in
    was_cut_before script (held c.args.sink.now) (held put.new.sink) (faults c.args.sink.now) (faults put.new.sink)
    (text ++ codes "end\n") ran put.result c.from_residual-in_err-write.result
    (wrote_no_more put.result (held c.args.sink.now) (held put.new.sink) (faults c.args.sink.now) (faults put.new.sink)
    text (codes "end\n") (search rules) wrote)

pub returns-clause-whole : goal.returns-clause-whole
returns-clause-whole g c script start =
    let i = c.loop-event.invariant in let held = g.K.Sink.held in let faults = g.K.Sink.faults in
    let line = last_line c.end.new.self in let last = c.line-line-2.ensures in
    let over = no_event c.args.events.now c.loop-event.event-index (omega (arith, c.loop-event-test.false))
    (i.goes script start) in
    let ran = ended_run i.lines line over i.fits last.line last.fits (c.end.ensures.lawful script i.lines over) in
    let text = text_so_far (i.lines ++ line ∷ []) in
    let put = c.write in
    let wrote = wrote_line c.loop-event.written put.result (held c.args.sink.now) (held c.loop-event.sink)
    (held put.new.sink) (faults c.args.sink.now) (faults c.loop-event.sink) (faults put.new.sink) i.lines line
    (search rules) i.wrote last.line put.ensures.whole put.ensures.prefix put.ensures.cause put.ensures.not_counted in
    let end = c.end-2 in
    was_whole script (held c.args.sink.now) (held end.new.sink) (faults c.args.sink.now) (faults end.new.sink)
    (text ++ codes "end\n") ran end.result
    (wrote_more put.result end.result (held c.args.sink.now) (held put.new.sink) (held end.new.sink)
    (faults c.args.sink.now) (faults put.new.sink) (faults end.new.sink) text (codes "end\n") (search rules) wrote
    end.ensures.whole end.ensures.prefix end.ensures.cause end.ensures.not_counted)

pub returns-clause-prefix : goal.returns-clause-prefix
returns-clause-prefix g c script start =
    let i = c.loop-event.invariant in let held = g.K.Sink.held in let faults = g.K.Sink.faults in
    let line = last_line c.end.new.self in let last = c.line-line-2.ensures in
    let over = no_event c.args.events.now c.loop-event.event-index (omega (arith, c.loop-event-test.false))
    (i.goes script start) in
    let ran = ended_run i.lines line over i.fits last.line last.fits (c.end.ensures.lawful script i.lines over) in
    let text = text_so_far (i.lines ++ line ∷ []) in
    let put = c.write in
    let wrote = wrote_line c.loop-event.written put.result (held c.args.sink.now) (held c.loop-event.sink)
    (held put.new.sink) (faults c.args.sink.now) (faults c.loop-event.sink) (faults put.new.sink) i.lines line
    (search rules) i.wrote last.line put.ensures.whole put.ensures.prefix put.ensures.cause put.ensures.not_counted in
    let end = c.end-2 in
    was_cut script (held c.args.sink.now) (held end.new.sink) (faults c.args.sink.now) (faults end.new.sink)
    (text ++ codes "end\n") ran end.result
    (wrote_more put.result end.result (held c.args.sink.now) (held put.new.sink) (held end.new.sink)
    (faults c.args.sink.now) (faults put.new.sink) (faults end.new.sink) text (codes "end\n") (search rules) wrote
    end.ensures.whole end.ensures.prefix end.ensures.cause end.ensures.not_counted)
