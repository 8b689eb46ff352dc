use Rattle.std.proofs.Common.{◌≡◌, ◌++◌, drop, map}
use Rattle.judge_lines.specs.Called.{seen_act}
use Rattle.audit_keys.specs.LineEnds.{act_ends}
use Rattle.audit_keys.proofs.line_ends.push_acts.Given as goal

abbrev pub invariant-loop-act : goal.invariant-loop-act
invariant-loop-act l =
    l.lines.items ++ act_ends l.call l.stamp (map seen_act (drop l.act-index l.acts))
    ≡ l.initial.lines.items ++ act_ends l.call l.stamp (map seen_act l.acts)
