use Rattle.std.proofs.Common.{◌≡◌, ◌++◌, map, drop}
use Rattle.std.specs.List.{filter, flat_map}
use Rattle.key_names.specs.Transcripts.IsTranscript.{line_marks}
use Rattle.judge_lines.specs.Seen.{seen_bare}
use Rattle.judge_lines.specs.Marks.{seen_mark, is_by}
use Rattle.judge_lines.proofs.marks.push_marks.Given as goal

abbrev pub invariant-loop-line : goal.invariant-loop-line
invariant-loop-line l =
    map seen_mark l.marks.items ++ filter (is_by l.group) (flat_map line_marks (map seen_bare (drop l.line-index l.lines)))
    ≡ map seen_mark l.initial.marks.items ++ filter (is_by l.group) (flat_map line_marks (map seen_bare l.lines))
