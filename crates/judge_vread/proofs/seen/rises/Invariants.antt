use Rattle.std.proofs.Common.{◌≡◌, drop}
use Rattle.judge_vread.specs.Seen.{rises}
use Rattle.judge_vread.proofs.seen.rises.Given as goal

-- the generations of all looks never fall exactly if those of the looks from `step-index` on never fall, and the first
-- is not below `last`
abbrev pub invariant-loop-step : goal.invariant-loop-step
invariant-loop-step l = rises 0 l.seen ≡ rises l.last (drop l.step-index l.seen)
