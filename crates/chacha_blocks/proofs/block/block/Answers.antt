use Rattle.std.proofs.Common.{◌≡◌, ◌∙◌, arith}
use Rattle.chacha_blocks.proofs.Rounds.{no_rounds, more_rounds}
use Rattle.chacha_blocks.proofs.Words.{block_bytes}
use Rattle.chacha_blocks.proofs.block.block.Goals as goal

pub rounds-init : goal.rounds-init
rounds-init c = no_rounds _

pub rounds-preserved : goal.rounds-preserved
rounds-preserved c =
    more_rounds _ _ _ _ c.rounds._round c.diagonal_round-rows.ensures c.column_round.ensures c.rounds.invariant

pub returns : goal.returns
returns c =
    let done : c.rounds._round ≡ 10 = omega arith in
    c.write_u32_into.ensures
    ∙ block_bytes c.args.key.now c.rounds.rows c.start_rows-start.result c.args.number _ c.summed.ensures
    c.start_rows-start.ensures (rw done at c.rounds.invariant)
