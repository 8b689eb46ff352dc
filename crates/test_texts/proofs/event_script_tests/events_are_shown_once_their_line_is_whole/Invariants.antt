use Rattle.std.proofs.Common.{ℕ, List}
use Rattle.event_script.specs.Feeding.{HasFed}
use Rattle.test_texts.proofs.event_script_tests.events_are_shown_once_their_line_is_whole.Given as goal

abbrev pub invariant-loop-line : goal.invariant-loop-line
invariant-loop-line g l = record {
  bytes : (text : List ℕ) × HasFed text l.by_bytes;
  lines : (text : List ℕ) × HasFed text l.by_lines;
}

abbrev pub invariant-loop-byte : goal.invariant-loop-byte
invariant-loop-byte g l = record {
  bytes : (text : List ℕ) × HasFed text l.by_bytes;
  lines : (text : List ℕ) × HasFed text l.by_lines;
}
