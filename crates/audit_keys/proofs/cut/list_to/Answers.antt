use Rattle.std.proofs.Common.{ℕ, Some, refl, sym, ap, ◌∙◌}
use Rattle.std.specs.Global.{Vec}
use Rattle.judge_log.proofs.Loops.{found}
use Rattle.audit_keys.proofs.Cuts.{cut_then, cut_else}
use Rattle.audit_keys.proofs.cut.list_to.Goals as goal
use Rattle.audit_keys.proofs.cut.list_to.Goals.{then-is_by+in_ok-push, else-is_by}

pub loop-place-preserved : goal.loop-place-preserved
loop-place-preserved g c =
    let place : ℕ = c.loop-place.place in
    let list = c.args.kept.now in
    let one = c.index-kept-place.result in
    let is = found list list place one refl c.loop-place-test.true ∙ ap Some (sym c.index-kept-place.is) in
    elim c.if-is_by.branch [
      | then-is_by+in_ok-push w ↦ cut_then c.args.stamp c.args.moments.now list place one _ _ c.is_by.result is
          c.loop-place.invariant c.is_by.ensures w.if-is_by.true
          (ap (λ (v : Vec _). v.items) w.cut-is ∙ w.in_ok-push.ensures.items)
      | else-is_by w ↦ cut_else c.args.stamp c.args.moments.now list place one _ _ c.is_by.result is
          c.loop-place.invariant c.is_by.ensures w.if-is_by.false (ap (λ (v : Vec _). v.items) w.cut-is)
    ]
