use Rattle.std.proofs.Common.{◌≡◌, ◌++◌, map, drop}
use Rattle.std.specs.List.{filter}
use Rattle.key_names.specs.Transcripts.IsTranscript.{all_marks}
use Rattle.judge_lines.specs.Seen.{seen_callers}
use Rattle.judge_lines.specs.Marks.{seen_mark, is_by}
use Rattle.judge_lines.proofs.marks.push_group.Given as goal

abbrev pub invariant-loop-lines : goal.invariant-loop-lines
invariant-loop-lines l =
    map seen_mark l.marks.items ++ filter (is_by l.group) (all_marks (seen_callers (drop l.lines-index l.callers)))
    ≡ map seen_mark l.initial.marks.items ++ filter (is_by l.group) (all_marks (seen_callers l.callers))
