use Rattle.std.proofs.Common.{refl, sym, ◌∙◌}
use Rattle.judge_log.proofs.CpuSteps.{handed_none}
use Rattle.judge_log.proofs.cpu_list.handed.Goals as goal

pub returns-in_err-hand_over : goal.returns-in_err-hand_over
returns-in_err-hand_over c = rw c.from_residual-in_err-hand_over.ensures (λ conforms.
    handed_none c.args.base.now c.requires c.args.cpu c.args.place c.in-Some.look c.in-Some.refill
    c.in_ok-kept.kept (sym c.kept_at.ensures ∙ c.in_ok-kept.was) (c.if-not-refills.ensures.0 refl)
    (rw c.in_err-hand_over.was at c.hand_over.ensures))
