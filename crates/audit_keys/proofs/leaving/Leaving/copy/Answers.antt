use Rattle.std.proofs.Common.{◌-◌, ap, ◌∙◌, arith}
use Rattle.std.specs.Prelude.{◌/◌, ◌%◌}
use Rattle.audit_keys.specs.Left.{Left}
use Rattle.audit_keys.proofs.Outlines.{refilled_is}
use Rattle.audit_keys.proofs.leaving.Leaving.copy.Goals as goal

pub returns-clause-left : goal.returns-clause-left
returns-clause-left c =
    refilled_is c.args.len c.args.block c.self.inside.outline.served c.saturating_sub-left.result c.from-whole.result
    ((c.args.len - c.from-2.result) % 64) c.args.self.now c.serve-2.new.self c.refill.new.self
    (ap (λ (l : Left). l.outline.served) c.self.view_is) (omega (arith, c.saturating_sub-left.ensures))
    (omega (arith, c.if-len-from.false, c.from.ensures)) c.in_ok-serve-2.ensures
    (c.from-whole.ensures ∙ ap (λ x. (c.args.len - x) / 64) c.from-2.ensures)
    (ap (λ x. (c.args.len - x) % 64) c.from-2.ensures) c.in_ok-refill.ensures
