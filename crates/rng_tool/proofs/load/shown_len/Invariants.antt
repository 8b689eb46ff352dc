use Rattle.std.proofs.Common.{◌≡◌, ◌*◌, ◌^◌, ◌≤◌, length, take}
use Rattle.std.specs.List.{sum_by}
use Rattle.key_names.specs.Transcripts.SeenLine.{bytes_shown}
use Rattle.rng_tool.proofs.load.shown_len.Given as goal

abbrev pub invariant-loop-caller : goal.invariant-loop-caller
invariant-loop-caller l = record {
  so_far : l.sum ≡ sum_by (λ lines. length (bytes_shown lines)) (take l.caller l.transcript);
  small : l.sum ≤ l.caller * (65600 * 2 ^ 32);
}
