use Rattle.std.proofs.Common.{◌∙◌}
use Rattle.rng_tool.specs.LoadOutcome.{load_line}
use Rattle.rng_tool.proofs.Loads.{same_verdict}
use Rattle.rng_tool.proofs.load.checked_line.Goals as goal

pub returns : goal.returns
returns c verdict judged =
    let said = c.in_ok-verdict in
    c.load_line-line.ensures
    ∙ (λ i. load_line c.args.callers (c.event_count.ensures i) (c.shown_len.ensures i)
    (same_verdict c.args.script.now c.args.t.now said.verdict verdict said.ensures.judged judged i))
