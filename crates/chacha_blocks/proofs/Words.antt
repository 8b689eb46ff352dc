-- The bytes that `rand_chacha`'s generator and the block function write are the bytes of `keystream`.
use Rattle.std.proofs.Common.{zero, suc, ◌+◌, ◌*◌, ◌/◌, ◌%◌, ◌^◌, ◌<◌, ◌≤◌, ◌++◌, ap, ap₂, sym, ◌∙◌, arith, ◌≡◌, ℕ, List, length, map, refl, w32}
use Rattle.std.specs.List.{flat_map, range_with_len}
use Rattle.std.specs.Int.{to_le_bytes}
use Rattle.std.specs.Prelude.{slice_index}
use Rattle.rand_core.specs.Steps.{word_bytes, fill_via_u32}
use Rattle.std.proofs.lemmas.List.{ext_get_or}
use Rattle.std.proofs.lemmas.List.FromFn.{length-map-range_with_len, get_or-map-range_with_len}
use Rattle.std.proofs.lemmas.Simd.{get_or-zip2}
use Rattle.std.specs.Simd.Lanes.{zip2}
use Rattle.rand_chacha.specs.Block.{add32, initial_state, double_rounds, block_word}
use Rattle.rand_chacha.specs.ChaCha.{ChaCha, word_at, key_of, next_word}
use Rattle.key_names.specs.Kernel.Keystream.{keystream, keystream_byte}
use Rattle.key_names.proofs.Standards.Keystreams.{keystream-add, take-keystream}
use Rattle.chacha_blocks.specs.Place.{generator_at}
use Rattle.chacha_blocks.specs.Rows.{state_of}

-- byte `4 * w + i` of a key's keystream is byte `i` of its word `w`
keystream_byte-in_word : (key : List ℕ) (w i q : ℕ) → i < 4 → q ≡ 4 * w + i → keystream_byte key q ≡
    slice_index (to_le_bytes w32 (word_at 10 (key_of key) 0 w)) i
unfolding keystream_byte
keystream_byte-in_word key w i q below at =
    let word : q / 4 ≡ w = omega arith in let byte : q % 4 ≡ i = omega arith in
    rw (word, byte) refl

-- the four bytes of a key's keystream from byte `4 * w` on are its word `w`
keystream-word : (key : List ℕ) (w : ℕ) → keystream key (4 * w) 4 ≡ to_le_bytes w32 (word_at 10 (key_of key) 0 w)
keystream-word key w =
    let at = keystream_byte-in_word key w in
    rw (
      at 0 (4 * w) (omega arith) (omega arith),
      at 1 (4 * w + 1) (omega arith) refl,
      at 2 (4 * w + 1 + 1) (omega arith) (omega arith),
      at 3 (4 * w + 1 + 1 + 1) (omega arith) (omega arith),
    ) refl

-- the `4 * k` bytes of a key's keystream from byte `4 * w` on are its `k` words from word `w` on
keystream-words : (key : List ℕ) (w k : ℕ)
    → keystream key (4 * w) (4 * k) ≡ flat_map (to_le_bytes w32) (map (word_at 10 (key_of key) 0) (range_with_len w k))
keystream-words key w zero = refl
keystream-words key w (suc k) =
    let more : 4 * suc k ≡ 4 + 4 * k = omega arith in
    let next : 4 * w + 4 ≡ 4 * (w + 1) = omega arith in
    ap (keystream key (4 * w)) more ∙ keystream-add key (4 * w) 4 (4 * k)
    ∙ ap₂ ◌++◌ (keystream-word key w) (ap (λ q. keystream key q (4 * k)) next ∙ keystream-words key (w + 1) k)

-- the 16 words of block `number` are the 64 bytes of keystream from byte `64 * number` on
words_of_block : (key words : List ℕ) (number : ℕ) → length words ≡ 16
    → ((k : ℕ) → k < 16 → slice_index words k ≡ block_word 10 (key_of key) number 0 k)
    → flat_map (to_le_bytes w32) words ≡ keystream key (64 * number) 64
words_of_block key words number len each =
    let word = word_at 10 (key_of key) 0 in
    let first : 64 * number ≡ 4 * (16 * number) = omega arith in
    let same : words ≡ map word (range_with_len (16 * number) 16) =
    ext_get_or 0 words _ (len ∙ sym (length-map-range_with_len word (16 * number) 16)) (λ k below.
    let within : k < 16 = omega arith in
    let block : (16 * number + k) / 16 ≡ number = omega arith in
    let place : (16 * number + k) % 16 ≡ k = omega arith in
    let here : slice_index words k ≡ word (16 * number + k) = rw (block, place) (each k within) in
    here ∙ sym (get_or-map-range_with_len word (16 * number) 16 k (16 * number + k) 0 within refl)) in
    rw (same, first) (sym (keystream-words key (16 * number) 16))

-- if the rows after ten double rounds are added to the rows before the rounds, the sums are a block of keystream
pub block_bytes : (key : List ℕ) (rows start : List (List ℕ)) (number : ℕ) (words : List ℕ)
    → words ≡ zip2 add32 (state_of rows) (state_of start) → state_of start ≡ initial_state (key_of key) number 0
    → state_of rows ≡ double_rounds 10 (state_of start)
    → flat_map (to_le_bytes w32) words ≡ keystream key (64 * number) 64
unfolding block_word
block_bytes key rows start number words summed begun mixed =
    words_of_block key words number (ap length summed) (λ k below.
    let at = λ (xs : List ℕ). slice_index xs k in
    ap at summed ∙ get_or-zip2 add32 (state_of rows) (state_of start) k 0 0 0 below below
    ∙ ap₂ add32 (ap at (mixed ∙ ap (double_rounds 10) begun)) (ap at begun))

-- the next `k` words of the generator at word `w` are keystream from byte `4 * w` on
word_bytes-generator_at : (key : List ℕ) (w k : ℕ) → w + k < 2 ^ 68 →
    word_bytes (to_le_bytes w32) (next_word 10) k (generator_at key w) ≡
    (keystream key (4 * w) (4 * k), generator_at key (w + k))
unfolding word_bytes
word_bytes-generator_at key w zero within =
    let here : w ≡ w + zero = omega arith in ap (λ p. (keystream key (4 * w) 0, generator_at key p)) here
word_bytes-generator_at key w (suc k) within =
    let before : w + k < 2 ^ 68 = omega arith in
    let next : (w + k + 1) % 2 ^ 68 ≡ w + suc k = omega arith in
    let start : 4 * (w + k) ≡ 4 * w + 4 * k = omega arith in
    let longer : 4 * k + 4 ≡ 4 * suc k = omega arith in
    let bytes : keystream key (4 * w) (4 * k) ++ to_le_bytes w32 (word_at 10 (key_of key) 0 (w + k)) ≡ keystream key
    (4 * w) (4 * suc k) =
    ap (λ ys. keystream key (4 * w) (4 * k) ++ ys)
    (sym (keystream-word key (w + k)) ∙ ap (λ q. keystream key q 4) start)
    ∙ sym (keystream-add key (4 * w) (4 * k) 4) ∙ ap (keystream key (4 * w)) longer in
    rw (word_bytes-generator_at key w k before, bytes, next) refl

-- the next `n` bytes of the generator at word `w` are keystream from byte `4 * w` on
pub fill_via_u32-generator_at : (key : List ℕ) (w n : ℕ) → w + n < 2 ^ 67 →
    fill_via_u32 (next_word 10) n (generator_at key w) ≡ (keystream key (4 * w) n, generator_at key (w + (n + 3) / 4))
fill_via_u32-generator_at key w n within =
    let words : w + (n + 3) / 4 < 2 ^ 68 = omega arith in
    let enough : n ≤ 4 * ((n + 3) / 4) = omega arith in
    rw (word_bytes-generator_at key w ((n + 3) / 4) words, take-keystream key (4 * w) (4 * ((n + 3) / 4)) n enough) refl

-- if a fill took `n` bytes from the generator at word `w`, they are keystream from byte `4 * w` on
pub bytes_of_fill : (key : List ℕ) (w n : ℕ) (rng rest : ChaCha) (bytes : List ℕ) → rng ≡ generator_at key w →
    (bytes, rest) ≡ fill_via_u32 (next_word 10) n rng → w + n < 2 ^ 67 → bytes ≡ keystream key (4 * w) n
bytes_of_fill key w n rng rest bytes begins wrote within =
    ap (λ (p : List ℕ × ChaCha). p.0) (wrote ∙ ap (fill_via_u32 (next_word 10) n) begins
    ∙ fill_via_u32-generator_at key w n within)

pub rest_of_fill : (key : List ℕ) (w n : ℕ) (rng rest : ChaCha) (bytes : List ℕ) → rng ≡ generator_at key w →
    (bytes, rest) ≡ fill_via_u32 (next_word 10) n rng → w + n < 2 ^ 67 → rest ≡ generator_at key (w + (n + 3) / 4)
rest_of_fill key w n rng rest bytes begins wrote within =
    ap (λ (p : List ℕ × ChaCha). p.1) (wrote ∙ ap (fill_via_u32 (next_word 10) n) begins
    ∙ fill_via_u32-generator_at key w n within)
