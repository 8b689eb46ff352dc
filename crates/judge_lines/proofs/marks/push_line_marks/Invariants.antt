use Rattle.std.proofs.Common.{◌≡◌, ◌++◌, map, drop}
use Rattle.std.specs.List.{filter}
use Rattle.key_names.specs.Transcripts.IsTranscript.{line_marks, marks_from}
use Rattle.judge_lines.specs.Seen.{seen_bare}
use Rattle.judge_lines.specs.Marks.{seen_mark, is_by}
use Rattle.judge_lines.proofs.marks.push_line_marks.Given as goal

abbrev pub invariant-loop-number : goal.invariant-loop-number
invariant-loop-number l =
    map seen_mark l.marks.items
    ++ filter (is_by l.group) (marks_from l.line.caller l.line.event l.number (drop l.number l.line.steps.now))
    ≡ map seen_mark l.initial.marks.items ++ filter (is_by l.group) (line_marks (seen_bare l.line))
