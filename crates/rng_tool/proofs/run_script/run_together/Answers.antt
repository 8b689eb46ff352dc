use Rattle.tool_ends.specs.declared.status.Status.TheVariants.{Done}
use Rattle.rng_tool.proofs.run_script.run_together.Goals as goal

pub returns-clause-ends : goal.returns-clause-ends
returns-clause-ends g c = (
  _,
  (
    Done,
    tt,
    record {
      lines = c.in-Ok.transcript;
      run = c.in-Ok.ensures.run;
      written = c.in-Ok.ensures.text;
    },
  ),
  c.in-Err.ensures.prefix,
)
