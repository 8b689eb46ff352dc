use Rattle.std.proofs.Common.{◌≡◌, subst}
use Rattle.tool_ends.specs.Pairs.{most_input}
use Rattle.tool_ends.proofs.Endings.{counted_at_end, reads_end_after}
use Rattle.key_audit.specs.Outcome.{AuditEnds, Calls}
use Rattle.key_audit.proofs.audit.audit.Goals as goal

pub returns-in-Some-clause-write_fault : goal.returns-in-Some-clause-write_fault
returns-in-Some-clause-write_fault g c =
    (counted_at_end _ _ _ _ _ c.end_output.ensures.ended c.audit_input.ensures.counted).cut

pub returns-in-Some-clause-no_write_fault : goal.returns-in-Some-clause-no_write_fault
returns-in-Some-clause-no_write_fault g c =
    (counted_at_end _ _ _ _ _ c.end_output.ensures.ended c.audit_input.ensures.counted).not_counted

pub returns-in-Some-clause-audited : goal.returns-in-Some-clause-audited
returns-in-Some-clause-audited g c ask is =
    let same : c.in-Some.ask ≡ ask = cc (c.ask_of.ensures.only ask is, c.in-Some.is) in
    reads_end_after most_input (Calls ask) _ _ _ _ _ c.end_output.ensures.kept _ _ _ _ c.end_output.ensures.ended
    (subst (λ one. AuditEnds one c.audit_input.result (g.S.Source.left c.args.source.now)
    (g.S.Source.left c.audit_input.new.source) (g.K.Sink.held c.args.sink.now) (g.K.Sink.held c.audit_input.new.sink))
    same c.audit_input.ensures.ends)
