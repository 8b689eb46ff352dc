use Rattle.std.proofs.Common.{◌≡◌, ◌*◌, ◌^◌, ◌≤◌, take}
use Rattle.std.specs.List.{sum_by}
use Rattle.rng_tool.specs.LoadOutcome.{data_len}
use Rattle.rng_tool.proofs.load.shown_by.Given as goal

abbrev pub invariant-loop-line : goal.invariant-loop-line
invariant-loop-line l = record {
  so_far : l.sum ≡ sum_by (λ line. data_len line.shown) (take l.line-index l.line-items);
  small : l.sum ≤ l.line-index * 2 ^ 32;
}
