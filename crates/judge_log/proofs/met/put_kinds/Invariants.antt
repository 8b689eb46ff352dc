use Rattle.std.proofs.Common.{◌≡◌, map, take}
use Rattle.judge_log.specs.Met.{kind_met}
use Rattle.judge_log.proofs.met.put_kinds.Given as goal

abbrev pub invariant-loop-one : goal.invariant-loop-one
invariant-loop-one l = l.kinds.items ≡ map (kind_met l.cpu) (take l.one-index l.met)
