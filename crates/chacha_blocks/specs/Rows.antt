-- The state of the cipher as four rows of four words.
use Rattle.std.specs.Prelude.{ℕ, List, [], ◌∷◌, ◌++◌, map, slice_index, slice_index_or}

-- word j of row i
abbrev pub word : List (List ℕ) → ℕ → ℕ → ℕ
word rows i j = slice_index (slice_index_or rows i []) j

-- the words of row i
abbrev pub row : List (List ℕ) → ℕ → List ℕ
row rows i = word rows i 0 ∷ word rows i 1 ∷ word rows i 2 ∷ word rows i 3 ∷ []

-- the words of the state in the order of the standard: row by row
abbrev pub state_of : List (List ℕ) → List ℕ
state_of rows = row rows 0 ++ row rows 1 ++ row rows 2 ++ row rows 3

-- the state with row i turned to the left by i words, so that each diagonal is a column
abbrev pub turned : List ℕ → List ℕ
turned x = map (slice_index x) (
    0 ∷ 1 ∷ 2 ∷ 3
    ∷ 5 ∷ 6 ∷ 7 ∷ 4
    ∷ 10 ∷ 11 ∷ 8 ∷ 9
    ∷ 15 ∷ 12 ∷ 13 ∷ 14 ∷ [])

-- the state with row i turned back to the right by i words
abbrev pub turned_back : List ℕ → List ℕ
turned_back x = map (slice_index x) (
    0 ∷ 1 ∷ 2 ∷ 3
    ∷ 7 ∷ 4 ∷ 5 ∷ 6
    ∷ 10 ∷ 11 ∷ 8 ∷ 9
    ∷ 13 ∷ 14 ∷ 15 ∷ 12 ∷ [])
