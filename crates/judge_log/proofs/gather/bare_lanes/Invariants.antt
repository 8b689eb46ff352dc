use Rattle.std.proofs.Common.{◌≡◌, ℕ, [], length, map}
use Rattle.key_names.specs.Lanes.Book.{list_at}
use Rattle.judge_log.proofs.gather.bare_lanes.Given as goal

abbrev pub invariant-loop : goal.invariant-loop
invariant-loop l = record {
  long : length l.lanes.items ≡ l.counter;
  bare : (c : ℕ) → list_at (map (λ lane. lane.items) l.lanes.items) c ≡ [];
}
