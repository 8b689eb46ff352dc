use Rattle.std.proofs.Common.{sym, ◌∙◌, arith}
use Rattle.event_script.proofs.Fronts.{ends_there, goes_past}
use Rattle.event_script.proofs.whole.front.front_len.Goals as goal

pub returns-then-spells-clause-front : goal.returns-then-spells-clause-front
returns-then-spells-clause-front c =
    ends_there c.args.text.now c.loop-line.left.now c.in-Some.line.now c.in-Some.rest.now c.loop-line.invariant.front
    c.in-Some.ensures.parts
    (sym c.spells.ensures ∙ c.if-spells.true)

pub loop-line-preserved : goal.loop-line-preserved
loop-line-preserved c =
    let len = c.in-Some.ensures.len in
    let short = c.loop-line.invariant.short in
    record {
      front = goes_past c.args.text.now c.loop-line.left.now c.in-Some.line.now c.in-Some.rest.now
          c.loop-line.invariant.front c.in-Some.ensures.parts
          (sym c.spells.ensures ∙ c.if-spells.false);
      short = omega arith;
    }
