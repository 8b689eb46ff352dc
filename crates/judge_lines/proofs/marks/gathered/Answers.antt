use Rattle.std.proofs.Common.{map, ap}
use Rattle.key_names.specs.Transcripts.IsTranscript.{all_marks}
use Rattle.judge_lines.specs.Seen.{seen_callers}
use Rattle.judge_lines.specs.Marks.{seen_mark}
use Rattle.judge_lines.proofs.MarkGroups.{groups_joined}
use Rattle.judge_lines.proofs.marks.gathered.Goals as goal

pub returns : goal.returns
returns c =
    groups_joined (all_marks (seen_callers c.args.callers.now)) (map seen_mark c.new-marks.result.items)
    (map seen_mark c.push_group.new.marks.items) (map seen_mark c.push_group-2.new.marks.items)
    (map seen_mark c.push_group-3.new.marks.items) (ap (map seen_mark) c.new-marks.ensures.items)
    c.in_ok-push_group.ensures c.in_ok-push_group-2.ensures c.in_ok-push_group-3.ensures
