use Rattle.tool_ends.specs.Pairs.{IsNoScript}
use Rattle.tool_ends.proofs.Inputs.{wider}
use Rattle.tool_ends.proofs.Refusing.{refused_of, said_of}
use Rattle.rng_tool.specs.Outcome.{CallsFor}
use Rattle.rng_tool.proofs.Inputs.{run_is_limited}
use Rattle.rng_tool.proofs.Running.{none_called, script_runs}
use Rattle.rng_tool.proofs.run_script.run_input.Goals as goal

pub returns-in-Ok-clause-ends : goal.returns-in-Ok-clause-ends
returns-in-Ok-clause-ends g c =
    let given = c.in-Ok.ensures.read in
    said_of 16777216 CallsFor run_is_limited _ _ _ _ given.0 given.1 c.run_script-status.result
    (wider _ (CallsFor given.0) (script_runs given.0 c.in-Ok.script given.2) c.run_script-status.result _ _
    c.run_script-status.ensures.ends)

pub returns-in-Err-clause-ends : goal.returns-in-Err-clause-ends
returns-in-Err-clause-ends g c =
    refused_of 16777216 CallsFor run_is_limited _ _ _ _ IsNoScript c.in-Err.why
    (λ input none. none_called input c.in-Err.why none) c.in-Err.ensures.not_read c.put_refusal.result
    c.put_refusal.ensures.ends
