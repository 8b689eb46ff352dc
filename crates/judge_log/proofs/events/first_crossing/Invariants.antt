use Rattle.std.proofs.Common.{◌≡◌, drop}
use Rattle.judge_log.specs.EventSays.{first_crossing}
use Rattle.judge_log.proofs.events.first_crossing.Given as goal

-- the first crossing among the steps from index `one-index` on is the first crossing among all steps
abbrev pub invariant-loop-one : goal.invariant-loop-one
invariant-loop-one l = first_crossing l.met ≡ first_crossing (drop l.one-index l.met)
