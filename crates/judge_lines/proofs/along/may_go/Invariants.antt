use Rattle.std.proofs.Common.{◌≡◌, List, ◌++◌, drop, map}
use Rattle.key_names.specs.declared.names.Step.{Step}
use Rattle.key_names.specs.Callers.History.{calls_steps}
use Rattle.judge_lines.specs.Along.{HasGone}
use Rattle.judge_lines.specs.Called.{seen_call}
use Rattle.judge_lines.proofs.along.may_go.Given as goal

abbrev pub invariant-loop-call : goal.invariant-loop-call
invariant-loop-call g l = record {
  done : List Step;
  gone : HasGone (g.C.Carry.after l.carry) (g.C.Carry.MayFollow l.carry) l.initial.walk done l.walk;
  so_far : done ++ calls_steps (map seen_call (drop l.call-index l.calls)) ≡ calls_steps (map seen_call l.calls);
}
