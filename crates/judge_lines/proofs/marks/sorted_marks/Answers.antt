use Rattle.std.proofs.lemmas.List.Sorted.{IsPermutation-map, IsPermutation-trans}
use Rattle.std.proofs.lemmas.Fn.{always_returns_same}
use Rattle.std.proofs.Common.{rules, map}
use Rattle.key_names.specs.Transcripts.IsTranscript.{all_marks}
use Rattle.judge_lines.specs.Seen.{seen_callers}
use Rattle.judge_lines.specs.Marks.{seen_mark}
use Rattle.judge_lines.proofs.Runs.{sorted_lanes, sort_key}
use Rattle.judge_lines.proofs.marks.sorted_marks.Goals as goal

pub returns-clause-all : goal.returns-clause-all
returns-clause-all c =
    IsPermutation-trans (all_marks (seen_callers c.args.callers.now)) (map seen_mark c.in_ok-marks.marks.items)
    (map seen_mark c.sort_by_key.new.self.items) c.in_ok-marks.ensures
    (IsPermutation-map seen_mark c.in_ok-marks.marks.items c.sort_by_key.new.self.items c.sort_by_key.ensures.permutation)

pub returns-clause-sorted : goal.returns-clause-sorted
returns-clause-sorted c =
    sorted_lanes c.sort_by_key.new.self.items
    (c.in_ok-sort_by_key.ensures.sorted sort_key (always_returns_same _ _ _ (λ a r q k. search rules)))
