use Rattle.std.proofs.Common.{arith}
use Rattle.tool_ends.specs.Pairs.{IsNoScript}
use Rattle.tool_ends.proofs.Taking.{broken_off, gives_none, gives_script, no_read_fault, no_text}
use Rattle.tool_ends.proofs.script.read_script.Goals as goal

pub returns-in_err-feed_to_limit-clause-not_read : goal.returns-in_err-feed_to_limit-clause-not_read
returns-in_err-feed_to_limit-clause-not_read g c =
    broken_off 16777216 IsNoScript _ _ _ c.from_residual.result c.from_residual.ensures.1
    (no_text 16777216 IsNoScript _ _ _ c.in_err-feed_to_limit.ensures.not_read)

pub returns-clause-read : goal.returns-clause-read
returns-clause-read g c =
    let t = c.in_ok-feed_to_limit.ensures.read in
    gives_script _ _ t.text c.script_of.result t.read (c.script_of.ensures.read t.text t.has)

pub returns-clause-not_read : goal.returns-clause-not_read
returns-clause-not_read g c =
    let t = c.in_ok-feed_to_limit.ensures.read in
    gives_none 16777216 IsNoScript _ _ t.text c.script_of.result t.read (omega (arith, t.len, t.within)) (λ none. none)
    (c.script_of.ensures.not_read t.text t.has)

pub returns-clause-read_fault : goal.returns-clause-read_fault
returns-clause-read_fault g c =
    let t = c.in_ok-feed_to_limit.ensures.read in
    no_read_fault 16777216 IsNoScript _ t.text c.script_of.result (λ none. none)
    (c.script_of.ensures.not_read t.text t.has)
