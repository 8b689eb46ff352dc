use Rattle.std.proofs.Common.{◌≡◌, ◌-◌, ◌≤◌, length, replicate}
use Rattle.key_names.specs.Kernel.VgetrandomState.{wiped_state}
use Rattle.judge_log.proofs.states.ReplayedStates.new.Given as goal

abbrev pub invariant-loop-all : goal.invariant-loop-all
invariant-loop-all l = (length l.all.items ≤ 16) × (l.all.items ≡ replicate (length l.all.items) wiped_state)

abbrev pub decreases-loop-all : goal.decreases-loop-all
decreases-loop-all l = 16 - length l.all.items
