use Rattle.std.proofs.Common.{rules}
use Rattle.caller_run.specs.Layouts.{layout}
use Rattle.caller_run.proofs.Forks.AllCallers.{can_caller}
use Rattle.caller_run.proofs.run.run_caller.Goals as goal

pub run_family-requires : goal.run_family-requires
run_family-requires g c = (
  search rules,
  (
    search rules,
    can_caller c.args.shared.now.lanes.now c.args.shared.now.script.now c.args.set c.args.set.caller c.args.pass
        (layout c.args.room) c.requires.has c.requires.set c.requires.well c.requires.cpus c.requires.room,
  ),
)

pub returns-clause-share : goal.returns-clause-share
returns-clause-share g c = c.run_family.ensures.ran.share
