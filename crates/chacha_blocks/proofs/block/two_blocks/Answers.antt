use Rattle.std.proofs.Common.{◌≡◌, ◌*◌, ◌+◌, ◌++◌, ◌∙◌, ap, ap₂, sym, arith}
use Rattle.key_names.specs.Kernel.Keystream.{keystream}
use Rattle.key_names.proofs.Standards.Keystreams.{keystream-add}
use Rattle.chacha_blocks.proofs.Rounds.{no_rounds, more_rounds}
use Rattle.chacha_blocks.proofs.Words.{block_bytes}
use Rattle.chacha_blocks.proofs.block.two_blocks.Goals as goal

pub rounds-init : goal.rounds-init
rounds-init c = record {
  rows = no_rounds _;
  next_rows = no_rounds _;
}

pub rounds-preserved : goal.rounds-preserved
rounds-preserved c = record {
  rows =
      more_rounds _ _ _ _ c.rounds._round c.diagonal_round-rows.ensures c.column_round.ensures c.rounds.invariant.rows;
  next_rows =
      more_rounds _ _ _ _ c.rounds._round c.diagonal_round-next_rows.ensures c.column_round-in-rounds.ensures
      c.rounds.invariant.next_rows;
}

pub returns : goal.returns
returns c =
    let key = c.args.key.now in
    let number = c.args.number in
    let done : c.rounds._round ≡ 10 = omega arith in
    let second : 64 * (number + 1) ≡ 64 * number + 64 = omega arith in
    let front =
    c.write_u32_into.ensures ∙ block_bytes key c.rounds.rows c.start_rows-start.result number _ c.summed.ensures
    c.start_rows-start.ensures (rw done at c.rounds.invariant.rows) in
    let back =
    c.write_u32_into-2.ensures ∙ block_bytes key c.rounds.next_rows c.start_rows-next_start.result (number + 1) _
    c.summed-2.ensures c.start_rows-next_start.ensures (rw done at c.rounds.invariant.next_rows) in
    ap₂ ◌++◌ front (back ∙ ap (λ q. keystream key q 64) second) ∙ sym (keystream-add key (64 * number) 64 64)
