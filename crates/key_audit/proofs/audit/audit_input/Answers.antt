use Rattle.tool_ends.specs.Pairs.{IsNoPair}
use Rattle.tool_ends.proofs.Inputs.{wider}
use Rattle.tool_ends.proofs.Refusing.{refused_of, said_of}
use Rattle.key_audit.specs.Outcome.{Calls}
use Rattle.key_audit.proofs.Ends.{is_limited, of_none, of_pair}
use Rattle.key_audit.proofs.audit.audit_input.Goals as goal

pub returns-in-Ok-clause-ends : goal.returns-in-Ok-clause-ends
returns-in-Ok-clause-ends g c =
    let ask = c.args.ask in
    let given = c.in-Ok.ensures.read in
    said_of 100663296 (Calls ask) (is_limited ask) _ _ _ _ given.0 given.1 c.tell.result
    (wider _ (Calls ask given.0) (of_pair ask given.0 _ _ given.2) _ _ _ c.tell.ensures.ends)

pub returns-in-Err-clause-ends : goal.returns-in-Err-clause-ends
returns-in-Err-clause-ends g c =
    let ask = c.args.ask in
    refused_of 100663296 (Calls ask) (is_limited ask) _ _ _ _ IsNoPair c.in-Err.why
    (λ input none. of_none ask input c.in-Err.why none) c.in-Err.ensures.not_read c.put_refusal.result
    c.put_refusal.ensures.ends
