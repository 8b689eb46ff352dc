use Rattle.std.proofs.Common.{arith}
use Rattle.transcript_text.specs.Views.{seen}
use Rattle.serial_replay.proofs.WrittenLines.{line_more, agree_more, lines_end}
use Rattle.serial_replay.proofs.replay.caller_lines.Goals as goal

pub push_made-requires-clause-kind : goal.push_made-requires-clause-kind
push_made-requires-clause-kind c =
    (agree_more c.args.said.now c.args.lines.now.lines c.loop-number.number (seen c.line.result) c.line.ensures.line
    c.loop-number.invariant.agree).0

pub loop-number-preserved : goal.loop-number-preserved
loop-number-preserved c = record {
  inferred = rw c.in_ok-push_made.ensures
      (line_more c.args.said.now c.args.lines.now.lines c.loop-number.number (seen c.line.result) c.line.ensures.line
      c.loop-number.inferred.lines c.loop-number.invariant.inferred);
  agree = (agree_more c.args.said.now c.args.lines.now.lines c.loop-number.number (seen c.line.result) c.line.ensures.line
      c.loop-number.invariant.agree).1;
}

pub returns : goal.returns
returns c = lines_end c.args.said.now c.args.lines.now.lines c.loop-number.inferred.lines c.loop-number.number
    (omega arith) c.loop-number.invariant.inferred
