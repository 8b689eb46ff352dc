use Rattle.std.proofs.Common.{[], ◌∷◌}
use Rattle.chacha_blocks.specs.Rows.{word}
use Rattle.chacha_blocks.proofs.Rounds.{quarter_round_is, column_round_is}
use Rattle.chacha_blocks.proofs.block.column_round.Goals as goal

pub returns : goal.returns
returns c =
    let x = c.args.rows in
    column_round_is x (c.add-a2.result ∷ c.xor_rotate-b2.result ∷ c.add-c2.result ∷ c.xor_rotate-d2.result ∷ [])
    (λ j below. quarter_round_is (word x 0 j) (word x 1 j) (word x 2 j) (word x 3 j) _ _ _ _ _ _ _ _
    (c.add-a1.ensures j below) (c.xor_rotate-d1.ensures j below) (c.add-c1.ensures j below)
    (c.xor_rotate-b1.ensures j below) (c.add-a2.ensures j below) (c.xor_rotate-d2.ensures j below)
    (c.add-c2.ensures j below) (c.xor_rotate-b2.ensures j below))
