use Rattle.std.proofs.Common.{List, ap, ◌∙◌}
use Rattle.std.specs.List.{sum_by}
use Rattle.std.proofs.lemmas.List.{take_all}
use Rattle.key_names.specs.declared.lines.Line.{Line}
use Rattle.rng_tool.specs.LoadOutcome.{data_len}
use Rattle.rng_tool.proofs.ShownBytes.{sum_of_data}
use Rattle.rng_tool.proofs.load.shown_by.Goals as goal

pub returns-clause-sum : goal.returns-clause-sum
returns-clause-sum c =
    let raw = c.lines-line-items.result.now in
    c.loop-line.invariant.so_far
    ∙ ap (λ (ls : List Line). sum_by (λ line. data_len line.shown) ls)
    (take_all c.loop-line.line-index raw c.loop-line-test.false)
    ∙ sum_of_data c.args.lines.now.bytes c.args.lines.now.steps raw c.args.lines.now.lines c.lines-line-items.ensures.seen
    c.lines-line-items.ensures.within
