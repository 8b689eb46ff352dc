use Rattle.std.proofs.Common.{◌≡◌, ◌≤◌, ◌*◌, Some, length, map, take}
use Rattle.rng_tool.specs.DrawOutcome.{draw_text}
use Rattle.rng_tool.proofs.draw.draw_text.Given as goal

abbrev pub invariant-loop-answer : goal.invariant-loop-answer
invariant-loop-answer l =
    (l.text.bytes ≡ draw_text (map Some (take l.answer-index l.answer-items))) × (length l.text.bytes ≤ 11 * l.answer-index)
