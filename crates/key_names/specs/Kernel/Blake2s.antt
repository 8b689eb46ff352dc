-- BLAKE2s-256 with a key of 32 bytes or without one, as in RFC 7693. Words have 32 bits, low byte first.
use Rattle.std.specs.Prelude.{ℕ, ◌+◌, ◌-◌, ◌*◌, ◌/◌, ◌%◌, ◌^◌, Bool, true, false, Option, Some, None, List, [], ◌∷◌}
use Rattle.std.specs.Prelude.{◌++◌, length, map, take, drop, replicate, bit_xor, slice_index, slice_set, if◌then◌else◌}
use Rattle.std.specs.Int.{w32, bit_not, rotate_right, from_le_bytes, to_le_bytes}
use Rattle.std.specs.List.{fold, flat_map, range_with_len}
unfoldable pub use Rattle.rand_core.specs.Steps.{u32_at}

-- the initialization vector (section 2.6)
abbrev pub iv : List ℕ
iv =
    0x6A09E667 ∷ 0xBB67AE85 ∷ 0x3C6EF372 ∷ 0xA54FF53A ∷ 0x510E527F ∷ 0x9B05688C ∷ 0x1F83D9AB ∷ 0x5BE0CD19 ∷ []

-- the message schedule: the order of the message words in each of the ten rounds (section 2.7)
abbrev pub sigma : List (List ℕ)
sigma =
    (0 ∷ 1 ∷ 2 ∷ 3 ∷ 4 ∷ 5 ∷ 6 ∷ 7 ∷ 8 ∷ 9 ∷ 10 ∷ 11 ∷ 12 ∷ 13 ∷ 14 ∷ 15 ∷ [])
    ∷ (14 ∷ 10 ∷ 4 ∷ 8 ∷ 9 ∷ 15 ∷ 13 ∷ 6 ∷ 1 ∷ 12 ∷ 0 ∷ 2 ∷ 11 ∷ 7 ∷ 5 ∷ 3 ∷ [])
    ∷ (11 ∷ 8 ∷ 12 ∷ 0 ∷ 5 ∷ 2 ∷ 15 ∷ 13 ∷ 10 ∷ 14 ∷ 3 ∷ 6 ∷ 7 ∷ 1 ∷ 9 ∷ 4 ∷ [])
    ∷ (7 ∷ 9 ∷ 3 ∷ 1 ∷ 13 ∷ 12 ∷ 11 ∷ 14 ∷ 2 ∷ 6 ∷ 5 ∷ 10 ∷ 4 ∷ 0 ∷ 15 ∷ 8 ∷ [])
    ∷ (9 ∷ 0 ∷ 5 ∷ 7 ∷ 2 ∷ 4 ∷ 10 ∷ 15 ∷ 14 ∷ 1 ∷ 11 ∷ 12 ∷ 6 ∷ 8 ∷ 3 ∷ 13 ∷ [])
    ∷ (2 ∷ 12 ∷ 6 ∷ 10 ∷ 0 ∷ 11 ∷ 8 ∷ 3 ∷ 4 ∷ 13 ∷ 7 ∷ 5 ∷ 15 ∷ 14 ∷ 1 ∷ 9 ∷ [])
    ∷ (12 ∷ 5 ∷ 1 ∷ 15 ∷ 14 ∷ 13 ∷ 4 ∷ 10 ∷ 0 ∷ 7 ∷ 6 ∷ 3 ∷ 9 ∷ 2 ∷ 8 ∷ 11 ∷ [])
    ∷ (13 ∷ 11 ∷ 7 ∷ 14 ∷ 12 ∷ 1 ∷ 3 ∷ 9 ∷ 5 ∷ 0 ∷ 15 ∷ 4 ∷ 8 ∷ 6 ∷ 2 ∷ 10 ∷ [])
    ∷ (6 ∷ 15 ∷ 14 ∷ 9 ∷ 11 ∷ 3 ∷ 0 ∷ 8 ∷ 12 ∷ 2 ∷ 13 ∷ 7 ∷ 1 ∷ 4 ∷ 10 ∷ 5 ∷ [])
    ∷ (10 ∷ 2 ∷ 8 ∷ 4 ∷ 7 ∷ 6 ∷ 1 ∷ 5 ∷ 15 ∷ 11 ∷ 9 ∷ 14 ∷ 3 ∷ 12 ∷ 13 ∷ 0 ∷ []) ∷ []

abbrev pub sum32 : ℕ → ℕ → ℕ
sum32 x y = (x + y) % 2 ^ 32

-- the mixing function G on four words of the vector, with two message words (section 3.1)
unfoldable pub mixed : ℕ → ℕ → ℕ → ℕ → ℕ → ℕ → ℕ × ℕ × ℕ × ℕ
mixed a b c d x y =
    let a1 = sum32 (sum32 a b) x in
    let d1 = rotate_right w32 (bit_xor d a1) 16 in
    let c1 = sum32 c d1 in
    let b1 = rotate_right w32 (bit_xor b c1) 12 in
    let a2 = sum32 (sum32 a1 b1) y in
    let d2 = rotate_right w32 (bit_xor d1 a2) 8 in
    let c2 = sum32 c1 d2 in
    let b2 = rotate_right w32 (bit_xor b1 c2) 7 in
    (a2, b2, c2, d2)

-- G on the words a, b, c, d of the vector, with the message words x and y
unfoldable pub mixed_at : List ℕ → ℕ → ℕ → ℕ → ℕ → ℕ → ℕ → List ℕ
mixed_at v a b c d x y =
    let w = mixed (slice_index v a) (slice_index v b) (slice_index v c) (slice_index v d) x y in
    slice_set (slice_set (slice_set (slice_set v a w.0) b w.1) c w.2) d w.3

-- one round: G on the columns, and then on the diagonals (section 3.2). `m` has the sixteen message words in the order
-- of this round
unfoldable pub round : List ℕ → List ℕ → List ℕ
round v m =
    let v0 = mixed_at v 0 4 8 12 (slice_index m 0) (slice_index m 1) in
    let v1 = mixed_at v0 1 5 9 13 (slice_index m 2) (slice_index m 3) in
    let v2 = mixed_at v1 2 6 10 14 (slice_index m 4) (slice_index m 5) in
    let v3 = mixed_at v2 3 7 11 15 (slice_index m 6) (slice_index m 7) in
    let v4 = mixed_at v3 0 5 10 15 (slice_index m 8) (slice_index m 9) in
    let v5 = mixed_at v4 1 6 11 12 (slice_index m 10) (slice_index m 11) in
    let v6 = mixed_at v5 2 7 8 13 (slice_index m 12) (slice_index m 13) in
    mixed_at v6 3 4 9 14 (slice_index m 14) (slice_index m 15)

-- the ten rounds, each with the message words in the order of its schedule
abbrev pub rounds : List ℕ → List ℕ → List ℕ
rounds words v = fold (λ v schedule. round v (map (slice_index words) schedule)) v sigma

-- a block of a message: its 64 bytes, the number of the message's bytes up to the block's end, and whether the block is
-- the message's last
pub record Block : Type 0 where
  pub bytes : List ℕ
  pub count : ℕ
  pub is_last : Bool

-- the message words of a block
abbrev pub message_words : List ℕ → List ℕ
message_words block = map (u32_at block) (range_with_len 0 16)

-- the vector that a compression starts from: the hash words and the initialization vector. The low and the high word of
-- the count are xored into words 12 and 13. For the last block, word 14 is inverted
unfoldable pub start_vector : List ℕ → ℕ → Bool → List ℕ
start_vector h count is_last =
    h ++ (slice_index iv 0 ∷ slice_index iv 1 ∷ slice_index iv 2 ∷ slice_index iv 3
    ∷ bit_xor (slice_index iv 4) (count % 2 ^ 32) ∷ bit_xor (slice_index iv 5) (count / 2 ^ 32 % 2 ^ 32)
    ∷ (if is_last then bit_not w32 (slice_index iv 6) else slice_index iv 6) ∷ slice_index iv 7 ∷ [])

-- for each i from 0 to 7, hash word i xored with the vector's words i and i + 8
unfoldable pub folded : List ℕ → List ℕ → List ℕ
folded h v =
    map (λ i. bit_xor (bit_xor (slice_index h i) (slice_index v i)) (slice_index v (i + 8))) (range_with_len 0 8)

-- the compression function F: the hash words after one more block (section 3.2)
unfoldable pub compressed : List ℕ → Block → List ℕ
compressed h block =
    folded h (rounds (message_words block.bytes) (start_vector h block.count block.is_last))

-- the bytes that are hashed: the key's block if there is a key, and then the text (section 3.3)
abbrev pub message : Option (List ℕ) → List ℕ → List ℕ
message None text = text
message (Some key) text = key ++ replicate 32 0 ++ text

abbrev pub key_len : Option (List ℕ) → ℕ
key_len None = 0
key_len (Some key) = 32

-- the 64 bytes of a message from byte 64 i on, padded with zeros
abbrev pub block_bytes : List ℕ → ℕ → List ℕ
block_bytes bytes i = take 64 (drop (64 * i) bytes ++ replicate 64 0)

-- block i of a message, if this block is not the last
abbrev pub inner_block : List ℕ → ℕ → Block
inner_block bytes i = record { bytes = block_bytes bytes i; count = 64 * (i + 1) % 2 ^ 64; is_last = false }

-- the number of blocks of a message, without the last
abbrev pub inner_count : List ℕ → ℕ
inner_count bytes = (length bytes - 1) / 64

-- the first n blocks of a message, none of them its last
abbrev pub inner_blocks : List ℕ → ℕ → List Block
inner_blocks bytes n = map (inner_block bytes) (range_with_len 0 n)

-- the last block of a message. A message of no bytes has one block of zeros
abbrev pub last_block : List ℕ → Block
last_block bytes =
    record { bytes = block_bytes bytes (inner_count bytes); count = length bytes % 2 ^ 64; is_last = true }

-- a message cut into blocks
abbrev pub blocks : List ℕ → List Block
blocks bytes = inner_blocks bytes (inner_count bytes) ++ last_block bytes ∷ []

-- the hash words before any block. The first word of the parameter block has the length of the hash, the length of the
-- key, fanout 1 and depth 1; this word is xored into the first word of the initialization vector (section 2.5)
abbrev pub start_words : ℕ → List ℕ
start_words key_bytes =
    slice_set iv 0 (bit_xor (slice_index iv 0) (from_le_bytes w32 (32 ∷ key_bytes ∷ 1 ∷ 1 ∷ [])))

-- BLAKE2s-256 of a text, under a key of 32 bytes or without a key
unfoldable pub blake2s : Option (List ℕ) → List ℕ → List ℕ
blake2s key text =
    flat_map (to_le_bytes w32) (fold compressed (start_words (key_len key)) (blocks (message key text)))
