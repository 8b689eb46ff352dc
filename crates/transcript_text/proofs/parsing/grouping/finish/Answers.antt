use Rattle.std.proofs.Common.{◌<◌, length, refl, ◌∙◌, arith}
use Rattle.transcript_text.specs.Grouping.{seen_callers}
use Rattle.transcript_text.proofs.GroupedLines.{LastHasLines-push, seen_callers-push, finished}
use Rattle.transcript_text.proofs.parsing.grouping.finish.Goals as goal

pub of-requires-2-clause-last : goal.of-requires-2-clause-last
of-requires-2-clause-last c =
    let long : 0 < length c.args.current.lines = grind arith in
    rw (seen_callers-push c.args.done.items c.push.new.self.items c.args.current c.args.current.lines
    c.in_ok-push.ensures.items refl)
    (LastHasLines-push (seen_callers c.args.done.items) c.args.current.lines long)

pub returns : goal.returns
returns c = λ lines g.
    finished c.of-2.result (seen_callers c.args.done.items) c.args.current.lines lines
    (c.of-2.ensures.lines ∙ seen_callers-push c.args.done.items c.push.new.self.items c.args.current
    c.args.current.lines c.in_ok-push.ensures.items refl)
    c.of-2.ensures.fits g
