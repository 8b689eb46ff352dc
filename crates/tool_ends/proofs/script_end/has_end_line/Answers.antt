use Rattle.std.proofs.Common.{◌≡◌, ◌∙◌, arith, ap}
use Rattle.std.specs.Prelude.{◌-◌, drop, length}
use Rattle.tool_ends.specs.Intakes.{last_part}
use Rattle.tool_ends.proofs.EndLines.{found_after, found_exactly}
use Rattle.tool_ends.proofs.script_end.has_end_line.Goals as goal

pub returns-clause-came : goal.returns-clause-came
returns-clause-came c =
    let from : c.saturating_sub-from.result ≡ length c.args.given.now - c.args.count - 4 = omega (arith) in
    let part : c.split_at.result.1.now ≡ last_part c.args.count c.args.given.now =
    c.split_at.ensures.back ∙ ap (λ n. drop n c.args.given.now) from in
    rw part at (rw (← c.is_some.ensures) at (found_exactly c.split_at.result.1.now _ c.find.result c.find.ensures))

pub returns-clause-conforms : goal.returns-clause-conforms
returns-clause-conforms c is = found_after c.saturating_sub-from.result c.args.given.now _ c.find.result (omega arith)
    (rw c.split_at.ensures.back at c.find.ensures) (rw (← c.is_some.ensures) is)
