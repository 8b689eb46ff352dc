-- The rounds of the code, which works on rows, are the rounds of the standard's definition.
use Rattle.std.proofs.Common.{◌≡◌, ℕ, ◌+◌, ◌<◌, List, [], ◌∷◌, length, slice_index, refl, ap, ◌∙◌, add-one, arith}
use Rattle.rand_chacha.specs.Block.{add32, xor_rotate, quarter_round, column_round, diagonal_round, double_rounds}
use Rattle.rand_chacha.proofs.LaneLemmas.{four_lanes}
use Rattle.chacha_blocks.specs.Rows.{word, state_of, turned, turned_back}

-- a list of length 4 is the list of its elements 0, 1, 2 and 3
pub row_is : (xs : List ℕ) → length xs ≡ 4
    → xs ≡ slice_index xs 0 ∷ slice_index xs 1 ∷ slice_index xs 2 ∷ slice_index xs 3 ∷ []
row_is =
    four_lanes (λ xs. xs ≡ slice_index xs 0 ∷ slice_index xs 1 ∷ slice_index xs 2 ∷ slice_index xs 3 ∷ [])
    (λ a b c d. refl)

-- if the eight steps of the quarter round are made one after another, they give the quarter round
pub quarter_round_is : (a b c d a1 d1 c1 b1 a2 d2 c2 b2 : ℕ) → a1 ≡ add32 a b → d1 ≡ xor_rotate d a1 16
    → c1 ≡ add32 c d1 → b1 ≡ xor_rotate b c1 12 → a2 ≡ add32 a1 b1 → d2 ≡ xor_rotate d1 a2 8
    → c2 ≡ add32 c1 d2 → b2 ≡ xor_rotate b1 c2 7 → (a2, b2, c2, d2) ≡ quarter_round a b c d
unfolding quarter_round
quarter_round_is a b c d a1 d1 c1 b1 a2 d2 c2 b2 s1 s2 s3 s4 s5 s6 s7 s8 = rw (s8, s7, s6, s5, s4, s3, s2, s1) refl

-- if each column of the rows `y` is the quarter round of that column of `x`, then `y` is the column round of `x`
pub column_round_is : (x y : List (List ℕ))
    → ((j : ℕ) → j < 4 → (word y 0 j, word y 1 j, word y 2 j, word y 3 j)
    ≡ quarter_round (word x 0 j) (word x 1 j) (word x 2 j) (word x 3 j))
    → state_of y ≡ column_round (state_of x)
unfolding column_round
column_round_is x y columns =
    rw (← columns 0 (omega arith), ← columns 1 (omega arith), ← columns 2 (omega arith), ← columns 3 (omega arith)) refl

-- a diagonal round turns the rows of the state, makes a column round, and turns the rows back
pub diagonal_round_is : (x : List ℕ) → turned_back (column_round (turned x)) ≡ diagonal_round x
unfolding column_round diagonal_round
diagonal_round_is x = refl

-- ---- Any number of double rounds

pub no_rounds : (start : List ℕ) → start ≡ double_rounds 0 start
unfolding double_rounds
no_rounds start = refl

pub more_rounds : (start before between after : List ℕ) (n : ℕ) → after ≡ diagonal_round between
    → between ≡ column_round before → before ≡ double_rounds n start → after ≡ double_rounds (n + 1) start
unfolding double_rounds
more_rounds start before between after n second first so_far =
    rw add-one (second ∙ ap diagonal_round (first ∙ ap column_round so_far))
