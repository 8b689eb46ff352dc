use Rattle.std.proofs.Common.{sym, ◌∙◌}
use Rattle.judge_lines.proofs.CallsFrom.{ends_at_vread, ends_before}
use Rattle.judge_lines.proofs.called.vreads_end.Goals as goal
use Rattle.judge_lines.proofs.called.vreads_end.Goals.{then-is_vread, else-is_vread}

pub loop-number-preserved : goal.loop-number-preserved
loop-number-preserved c = λ k. elim c.if-is_vread.branch [
  | then-is_vread w ↦ rw w.end-is
      (ends_at_vread c.args.events.now c.loop-number.number c.index-events-number.result c.loop-number-test.true
      c.index-events-number.is (sym c.is_vread.ensures ∙ w.if-is_vread.true) k)
  | else-is_vread w ↦ rw w.end-is
      (ends_before c.args.events.now c.loop-number.number c.index-events-number.result c.loop-number-test.true
      c.index-events-number.is (sym c.is_vread.ensures ∙ w.if-is_vread.false) k ∙ c.loop-number.invariant k)
]
