use Rattle.std.proofs.Common.{refl}
use Rattle.judge_lines.proofs.Runs.{runs_more, runs_end, runs_conform}
use Rattle.judge_lines.proofs.marks.places_count.Goals as goal

pub returns-then-not-follows : goal.returns-then-not-follows
returns-then-not-follows c = (
  (λ h. cc),
  (λ conform. c.if-not-follows.ensures.1
      ((runs_more c.loop-of.last c.args.marks.now c.loop-of.of-index _ c.loop-of-test.true).0
      (c.loop-of.invariant.0 ((runs_conform c.args.marks.now c.requires).1 conform))).0),
)

pub loop-of-preserved : goal.loop-of-preserved
loop-of-preserved c = (
  (λ h. ((runs_more c.loop-of.last c.args.marks.now c.loop-of.of-index _ c.loop-of-test.true).0
      (c.loop-of.invariant.0 h)).1),
  (λ h. c.loop-of.invariant.1
      ((runs_more c.loop-of.last c.args.marks.now c.loop-of.of-index _ c.loop-of-test.true).1
      (c.if-not-follows.ensures.0 refl, h))),
)

pub returns : goal.returns
returns c = (
  (λ h. (runs_conform c.args.marks.now c.requires).0
      (c.loop-of.invariant.1 (runs_end c.loop-of.last c.args.marks.now c.loop-of.of-index c.loop-of-test.false))),
  (λ conform. refl),
)
