use Rattle.std.proofs.Common.{◌≡◌, map, drop}
use Rattle.key_names.specs.Callers.VreadSteps.{is_wiped}
use Rattle.judge_lines.specs.Called.{seen_act}
use Rattle.audit_keys.proofs.leaving.wipes.Given as goal

-- one of all acts wipes at this point exactly if one of the remaining acts does
abbrev pub invariant-loop-bound : goal.invariant-loop-bound
invariant-loop-bound l =
    is_wiped (map seen_act l.acts) l.point ≡ is_wiped (map seen_act (drop l.bound-index l.acts)) l.point
