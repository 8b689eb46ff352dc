use Rattle.std.proofs.Common.{sym, subst, arith}
use Rattle.std.specs.List.{AllByRecursion}
use Rattle.key_names.specs.Texts.TranscriptGrammar.{StepFits}
use Rattle.caller_run.proofs.Forks.Alone.{ends_lawfully}
use Rattle.caller_run.proofs.alone.LoneRun.end.Goals as goal

pub returns-clause-lawful : goal.returns-clause-lawful
returns-clause-lawful g c script lines is =
    ends_lawfully c.args.self.now c.leave.new.self c.only.result c.leave.new.trace is c.only.ensures c.leave.ensures
    c.settle.ensures.ended

pub returns-clause-line : goal.returns-clause-line
returns-clause-line g c = record {
  steps_fit = subst (AllByRecursion StepFits) (sym c.leave.ensures.did.recorded.trace) c.leave.ensures.did.recorded.fits;
  shows = rw c.only.ensures tt;
  within = omega arith;
}
