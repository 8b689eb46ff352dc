-- A piece of a keystream is its `len` bytes from byte `from` on. Lemmas cut and join such pieces. A published block is
-- computed.
use Rattle.std.proofs.Common.{zero, suc, ◌+◌, ◌-◌, ◌<◌, ◌≤◌, ◌++◌, ap, sym, ◌∙◌, arith, ◌≡◌, ℕ, List, [], ◌∷◌, refl, replicate, length, take, drop, append-nil}
use Rattle.std.specs.Prelude.{slice_range, slice_index}
use Rattle.std.proofs.lemmas.List.FromFn.{length-map-range_with_len, get_or-map-range_with_len, take-map-range_with_len}
use Rattle.std.proofs.lemmas.List.{drop_at}
use Rattle.key_names.specs.Kernel.Keystream.{keystream, keystream_byte}
use Rattle.rand_core.specs.Steps.{u32_at}
use Rattle.rand_chacha.specs.Block.{block_word, double_rounds, column_round, diagonal_round, quarter_round}

-- block 1 of the keystream of a key of zeros
pub keystream_zero : keystream (replicate 32 0) 64 64 ≡ 159 ∷ 7 ∷ 231 ∷ 190 ∷ 85 ∷ 81 ∷ 56 ∷ 122 ∷ 152 ∷ 186 ∷ 151 ∷
    124 ∷ 115 ∷ 45 ∷ 8 ∷ 13 ∷ 203 ∷ 15 ∷ 41 ∷ 160 ∷ 72 ∷ 227 ∷ 101 ∷ 105 ∷ 18 ∷ 198 ∷ 83 ∷ 62 ∷ 50 ∷ 238 ∷ 122 ∷
    237 ∷ 41 ∷ 183 ∷ 33 ∷ 118 ∷ 156 ∷ 230 ∷ 78 ∷ 67 ∷ 213 ∷ 113 ∷ 51 ∷ 176 ∷ 116 ∷ 216 ∷ 57 ∷ 213 ∷ 49 ∷ 237 ∷ 31 ∷
    40 ∷ 81 ∷ 10 ∷ 251 ∷ 69 ∷ 172 ∷ 225 ∷ 10 ∷ 31 ∷ 75 ∷ 121 ∷ 77 ∷ 111 ∷ []
unfolding keystream_byte u32_at block_word double_rounds column_round diagonal_round quarter_round
keystream_zero = refl

-- a piece of `a + b` bytes is a piece of `a` bytes and then a piece of the next `b` bytes
pub keystream-add : (key : List ℕ) (from a b : ℕ) → keystream key from (a + b) ≡ keystream key from a ++
    keystream key (from + a) b
keystream-add key from zero b =
    let p : zero + b ≡ b = omega arith in let q : from + zero ≡ from = omega arith in
    ap (keystream key from) p ∙ ap (λ f. keystream key f b) (sym q)
keystream-add key from (suc a) b =
    let p : suc a + b ≡ suc (a + b) = omega arith in let q : (from + 1) + a ≡ from + suc a = omega arith in
    ap (keystream key from) p ∙ ap (λ ys. keystream_byte key from ∷ ys)
    (keystream-add key (from + 1) a b ∙ ap (λ f. keystream key (from + 1) a ++ keystream key f b) q)

-- `keystream key from len` has `len` bytes
pub length-keystream : (key : List ℕ) (from len : ℕ) → length (keystream key from len) ≡ len
length-keystream key from len = length-map-range_with_len (λ j. keystream_byte key j) from len

-- byte i of the piece from byte `from` on is byte `from + i` of the keystream
pub slice_index-keystream : (key : List ℕ) (from len i : ℕ) → i < len → slice_index (keystream key from len) i ≡
    keystream_byte key (from + i)
slice_index-keystream key from len i below =
    get_or-map-range_with_len (λ j. keystream_byte key j) from len i (from + i) 0 below refl

-- the first n bytes of a piece are the piece of n bytes that begins at the same byte
pub take-keystream : (key : List ℕ) (from len n : ℕ) → n ≤ len → take n (keystream key from len) ≡ keystream key from n
take-keystream key from len n within = take-map-range_with_len (λ j. keystream_byte key j) from len n within

-- a piece without its first n bytes is the piece that begins n bytes later
pub drop-keystream : (key : List ℕ) (from len n : ℕ) → n ≤ len → drop n (keystream key from len) ≡
    keystream key (from + n) (len - n)
drop-keystream key from len n within =
    let sum : len ≡ n + (len - n) = omega arith in
    ap (λ k. drop n (keystream key from k)) sum ∙ ap (drop n) (keystream-add key from n (len - n))
    ∙ drop_at (keystream key from n) (keystream key (from + n) (len - n)) n (length-keystream key from n)

-- bytes `i` to `j` of a piece are a piece that begins `i` bytes later
pub slice_range-keystream : (key : List ℕ) (from len i j : ℕ) → i ≤ j → j ≤ len →
    slice_range (keystream key from len) i j ≡ keystream key (from + i) (j - i)
slice_range-keystream key from len i j ordered within =
    let short : i ≤ len = omega arith in let fits : j - i ≤ len - i = omega arith in
    ap (take (j - i)) (drop-keystream key from len i short) ∙ take-keystream key (from + i) (len - i) (j - i) fits

-- two pieces joined are one piece if the second begins at the end of the first, or is empty
pub keystream-append : (key : List ℕ) (from a next b len : ℕ) → a + b ≡ len → (0 < b → next ≡ from + a) →
    keystream key from a ++ keystream key next b ≡ keystream key from len
keystream-append key from a next zero len sum goes_on =
    let all : a ≡ len = omega arith in append-nil (keystream key from a) ∙ ap (keystream key from) all
keystream-append key from a next (suc b) len sum goes_on =
    let some : 0 < suc b = omega arith in
    ap (λ q. keystream key from a ++ keystream key q (suc b)) (goes_on some)
    ∙ sym (keystream-add key from a (suc b)) ∙ ap (keystream key from) sum
