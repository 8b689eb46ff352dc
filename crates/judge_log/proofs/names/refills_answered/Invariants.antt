use Rattle.std.proofs.Common.{◌≡◌, ◌<◌, ℕ, Some, map}
use Rattle.std.specs.Prelude.{slice_get}
use Rattle.key_names.specs.Lanes.BaseList.{refill_of}
use Rattle.judge_log.specs.declared.kept.KeptBase.{KeptBase}
use Rattle.judge_log.specs.Names.{AnsweredBy}
use Rattle.judge_log.proofs.names.refills_answered.Given as goal

abbrev pub invariant-loop-place : goal.invariant-loop-place
invariant-loop-place l = (b : ℕ) (kept : KeptBase) → b < l.place → slice_get l.base b ≡ Some kept →
    AnsweredBy (map (λ lane. lane.items) l.cpus) b (refill_of kept.entry)
