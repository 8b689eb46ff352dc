use Rattle.std.proofs.Common.{◌∙◌, ap}
use Rattle.rand_chacha.specs.Block.{column_round}
use Rattle.chacha_blocks.specs.Rows.{state_of, turned_back}
use Rattle.chacha_blocks.proofs.Rounds.{diagonal_round_is}
use Rattle.chacha_blocks.proofs.block.diagonal_round.Goals as goal

pub returns : goal.returns
returns c =
    c.turned_back.ensures
    ∙ ap turned_back (c.column_round.ensures ∙ ap column_round c.turned.ensures)
    ∙ diagonal_round_is (state_of c.args.rows)
