use Rattle.std.proofs.Common.{◌≡◌}
use Rattle.rand_chacha.specs.Block.{double_rounds}
use Rattle.chacha_blocks.specs.Rows.{state_of}
use Rattle.chacha_blocks.proofs.block.two_blocks.Given as goal

abbrev pub invariant-rounds : goal.invariant-rounds
invariant-rounds l = record {
  rows : state_of l.rows ≡ double_rounds l._round (state_of l.start);
  next_rows : state_of l.next_rows ≡ double_rounds l._round (state_of l.next_start);
}
