use Rattle.std.proofs.Common.{ℕ, ◌+◌, List, map, drop, sym, ap, ◌∙◌}
use Rattle.key_names.specs.Callers.Calls.{BoundAct}
use Rattle.key_names.specs.Callers.History.{steps_at_point}
use Rattle.judge_lines.specs.declared.called.ActLine.{ActLine}
use Rattle.judge_lines.specs.Called.{seen_act}
use Rattle.judge_lines.proofs.Fronts.{dropped}
use Rattle.audit_keys.specs.Stamps.{latest_of}
use Rattle.audit_keys.proofs.Latest.{at_point, elsewhere}
use Rattle.audit_keys.proofs.stamps.after_point.Goals as goal
use Rattle.audit_keys.proofs.stamps.after_point.Goals.{then-is, else-is}

pub loop-bound-preserved : goal.loop-bound-preserved
loop-bound-preserved c =
    let rest : List BoundAct = map seen_act (drop (c.loop-bound.bound-index + 1) c.args.acts.now) in
    let so_far =
    sym (ap (λ (xs : List ActLine). latest_of c.loop-bound.last (steps_at_point (map seen_act xs) c.args.point))
    (dropped c.args.acts.now c.loop-bound.bound-index c.bound-item.result c.loop-bound-test.true c.bound-item.is))
    ∙ c.loop-bound.invariant in
    elim c.if-is.branch [
      | then-is w ↦ ap (λ (n : ℕ). latest_of n (steps_at_point rest c.args.point))
          (w.last-is ∙ w.latest-last.ensures)
          ∙ sym (at_point c.loop-bound.last (seen_act c.bound-item.result) rest c.args.point (sym c.is.ensures ∙ w.if-is.true))
          ∙ so_far
      | else-is w ↦ ap (λ (n : ℕ). latest_of n (steps_at_point rest c.args.point)) w.last-is
          ∙ sym (elsewhere c.loop-bound.last (seen_act c.bound-item.result) rest c.args.point (sym c.is.ensures ∙ w.if-is.false))
          ∙ so_far
    ]
