use Rattle.std.proofs.Common.{◌≡◌, ◌<◌, ℕ, Some}
use Rattle.std.specs.Prelude.{slice_get}
use Rattle.judge_log.specs.declared.kept.KeptRoot.{KeptRoot}
use Rattle.judge_log.specs.declared.kept.KeptPool.{KeptPool}
use Rattle.judge_log.specs.Names.{root_named_in}
use Rattle.judge_log.proofs.names.extractions_answered.Given as goal

abbrev pub invariant-loop-place : goal.invariant-loop-place
invariant-loop-place l = (p : ℕ) (kept : KeptPool) (root : KeptRoot) → p < l.place → slice_get l.pool p ≡ Some kept →
    kept.root ≡ Some root → root_named_in l.base root.base_place ≡ Some p
