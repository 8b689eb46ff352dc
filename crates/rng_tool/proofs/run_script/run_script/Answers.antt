use Rattle.std.proofs.Common.{rules}
use Rattle.tool_ends.specs.declared.status.Status.TheVariants.{Done}
use Rattle.rng_tool.proofs.run_script.run_script.Goals as goal

pub returns-in-Err-write_alone-clause-ends : goal.returns-in-Err-write_alone-clause-ends
returns-in-Err-write_alone-clause-ends g c =
    let cut = c.in-Err-write_alone.ensures.prefix c.args.script.now (search rules) in
    (cut.0, (Done, tt, cut.1), cut.2)
