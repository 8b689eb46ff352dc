use Rattle.std.proofs.Common.{◌≡◌, map, drop}
use Rattle.key_names.specs.Callers.History.{steps_at_point}
use Rattle.judge_lines.specs.Called.{seen_act}
use Rattle.audit_keys.specs.Stamps.{latest_of}
use Rattle.audit_keys.proofs.stamps.after_point.Given as goal

abbrev pub invariant-loop-bound : goal.invariant-loop-bound
invariant-loop-bound l =
    latest_of l.last (steps_at_point (map seen_act (drop l.bound-index l.acts)) l.point)
    ≡ latest_of l.fn.stamp (steps_at_point (map seen_act l.acts) l.point)
