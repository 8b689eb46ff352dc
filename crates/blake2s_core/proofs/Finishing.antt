-- After the last block is hashed, the hash words are the hash of the whole text.
use Rattle.std.proofs.Common.{◌≡◌, ℕ, ◌+◌, ◌-◌, ◌*◌, ◌%◌, ◌^◌, ◌≤◌, List, [], ◌∷◌, ◌++◌, length, take, replicate, true, Option, refl, sym, ap, ◌∙◌, arith, length-drop}
use Rattle.std.specs.List.{flat_map}
use Rattle.std.proofs.lemmas.List.{take-replicate}
use Rattle.std.proofs.lemmas.List.Sums.{fold-append}
use Rattle.std.proofs.Math.Seq.{take-append-add}
use Rattle.byteorder.specs.Endian.{little_bytes}
use Rattle.key_names.specs.Kernel.Blake2s.{blake2s, block_bytes, compressed, inner_blocks, inner_count, key_len, last_block, message, start_words}
use Rattle.blake2s_core.specs.Hash.{Hash, Conforms}

-- the bytes `rest` that a hash keeps, padded with zeros to 64 bytes, are the block that the definition makes of them
padded : (rest : List ℕ) (used : ℕ) → used ≡ length rest → used ≤ 64
    → rest ++ replicate (64 - used) 0 ≡ take 64 (rest ++ replicate 64 0)
padded rest used len fits =
    let all : length rest + (64 - used) ≡ 64 = omega arith in
    ap (λ (zeros : List ℕ). rest ++ zeros) (sym (take-replicate (64 - used) 64 0 (omega arith)))
    ∙ sym (take-append-add rest (replicate 64 0) (64 - used))
    ∙ ap (λ (n : ℕ). take n (rest ++ replicate 64 0)) all

-- if a hash conforms to a key and a text, its words after the last block, as bytes, are `blake2s` of the key and the
-- text
pub Conforms-blake2s : (hash : Hash) (key : Option (List ℕ)) (text block words : List ℕ) (used : ℕ)
    → Conforms hash key text → used ≡ length hash.rest → used ≤ 64 → block ≡ hash.rest ++ replicate (64 - used) 0
    → words ≡ compressed hash.words (record { bytes = block; count = (hash.count + used) % 2 ^ 64; is_last = true })
    → flat_map (little_bytes 4) words ≡ blake2s key text
unfolding blake2s
Conforms-blake2s hash key text block words used conforms len fits filled last =
    let bytes = message key text in
    let start = start_words (key_len key) in
    let n : ℕ = inner_count bytes in
    let rest_len : length hash.rest ≡ length bytes - 64 * n = ap length conforms.last ∙ length-drop (64 * n) bytes in
    let count : (hash.count + used) % 2 ^ 64 ≡ length bytes % 2 ^ 64 = omega (arith, conforms.blocks.counted) in
    let whole : block ≡ block_bytes bytes n = rw (filled, padded hash.rest used len fits, conforms.last) refl in
    let step = fold-append compressed start (inner_blocks bytes n) (last_block bytes ∷ []) in
    ap (flat_map (little_bytes 4)) (last ∙ rw (step, conforms.blocks.hashed, whole, count) refl)
