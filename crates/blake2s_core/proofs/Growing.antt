-- How the state of a hash changes when bytes are added to the text: `Conforms` also holds for the longer text.
use Rattle.std.proofs.Common.{◌≡◌, ℕ, ◌+◌, ◌-◌, ◌*◌, ◌/◌, ◌%◌, ◌^◌, ◌<◌, ◌≤◌, List, [], ◌∷◌, ◌++◌, length, take, drop, replicate, get_or, false, Option, Some, None, refl, sym, ap, ◌∙◌, arith, length-append, length-drop}
use Rattle.std.specs.Simd.{first_chunks}
use Rattle.std.proofs.lemmas.List.{append_assoc, take-append-le, drop-append-le, take_all, get_or-take, drop_at, drop-drop}
use Rattle.std.proofs.lemmas.List.FromFn.{fill_by_all, get_or-map-range_with_len, length-map-range_with_len, map-range_with_len_more}
use Rattle.std.proofs.lemmas.List.Sums.{fold-append}
use Rattle.key_names.specs.Kernel.Blake2s.{Block, block_bytes, compressed, inner_block, inner_blocks, inner_count, key_len, message, start_words}
use Rattle.key_names.proofs.Lists.Chunks.{get_or-first_chunks}
use Rattle.blake2s_core.specs.Hash.{Hash, IsAfter, Conforms}

-- ---- blocks of a message

-- a block that lies wholly within the message has no padding
pub block_bytes_whole : (bytes : List ℕ) (i : ℕ) → 64 * i + 64 ≤ length bytes
    → block_bytes bytes i ≡ take 64 (drop (64 * i) bytes)
block_bytes_whole bytes i fits =
    take-append-le 64 (drop (64 * i) bytes) (replicate 64 0) (omega (arith, length-drop (64 * i) bytes))

-- a block that lies wholly within the message stays the same when the message grows
pub block_bytes-append : (bytes more : List ℕ) (i : ℕ) → 64 * i + 64 ≤ length bytes
    → block_bytes (bytes ++ more) i ≡ block_bytes bytes i
block_bytes-append bytes more i fits =
    block_bytes_whole (bytes ++ more) i (omega (arith, length-append bytes more))
    ∙ ap (take 64) (drop-append-le (64 * i) bytes more (omega arith))
    ∙ take-append-le 64 (drop (64 * i) bytes) more (omega (arith, length-drop (64 * i) bytes))
    ∙ sym (block_bytes_whole bytes i fits)

-- the first n blocks stay the same when the message grows
pub inner_blocks-append : (bytes more : List ℕ) (n : ℕ) → 64 * n ≤ length bytes
    → inner_blocks (bytes ++ more) n ≡ inner_blocks bytes n
inner_blocks-append bytes more n fits =
    let grown : ℕ → Block = inner_block (bytes ++ more) in
    let none : Block = inner_block [] 0 in
    let many = length-map-range_with_len grown 0 n in
    fill_by_all (inner_block bytes) (inner_blocks (bytes ++ more) n) n none many (λ i below.
    get_or-map-range_with_len grown 0 n i i none below (omega arith)
    ∙ ap (λ (b : List ℕ). record { bytes = b; count = 64 * (i + 1) % 2 ^ 64; is_last = false })
    (block_bytes-append bytes more i (omega arith)))

pub IsAfter-append : (words : List ℕ) (count : ℕ) (start bytes more : List ℕ) (n : ℕ) → 64 * n ≤ length bytes
    → IsAfter words count start bytes n → IsAfter words count start (bytes ++ more) n
IsAfter-append words count start bytes more n fits after = record {
  hashed = rw (inner_blocks-append bytes more n fits) after.hashed;
  counted = after.counted;
}

-- if `IsAfter` holds for n blocks, and block n is hashed, `IsAfter` holds for n + 1 blocks
pub IsAfter_more : (words : List ℕ) (count : ℕ) (start bytes block : List ℕ) (n : ℕ)
    → IsAfter words count start bytes n → block ≡ block_bytes bytes n
    → IsAfter (compressed words (record { bytes = block; count = (count + 64) % 2 ^ 64; is_last = false }))
    ((count + 64) % 2 ^ 64) start bytes (n + 1)
IsAfter_more words count start bytes block n after whole =
    let counted : (count + 64) % 2 ^ 64 ≡ 64 * (n + 1) % 2 ^ 64 = omega (arith, after.counted) in
    let blocks = map-range_with_len_more (inner_block bytes) 0 n n (omega arith) in
    let step = fold-append compressed start (inner_blocks bytes n) (inner_block bytes n ∷ []) in record {
      hashed = rw (blocks, step, counted, whole, after.hashed) refl;
      counted = counted;
    }

-- ---- the bytes after the first n blocks

pub record IsTail (bytes : List ℕ) (n : ℕ) (tail : List ℕ) : Type 0 where
  pub dropped : drop (64 * n) bytes ≡ tail
  pub counted : length bytes ≡ 64 * n + length tail

-- the bytes after n blocks, without the first k blocks of these bytes, are the bytes after n + k blocks
IsTail-drop : (bytes tail : List ℕ) (n k : ℕ) → IsTail bytes n tail → drop (64 * k) tail ≡ drop (64 * (n + k)) bytes
IsTail-drop bytes tail n k is_tail =
    let place : 64 * n + 64 * k ≡ 64 * (n + k) = omega arith in
    rw (← is_tail.dropped) (drop-drop (64 * k) (64 * n) bytes ∙ ap (λ (i : ℕ). drop i bytes) place)

-- chunk `k` of 64 bytes in `tail`, the message after its first `n` blocks, is block `n + k` of the message
pub chunk_block : (bytes tail : List ℕ) (n inner k : ℕ) (chunks : List (List ℕ)) → IsTail bytes n tail
    → chunks ≡ first_chunks 64 (length tail / 64) tail → k < inner → inner ≤ length tail / 64
    → get_or (take inner chunks) k [] ≡ block_bytes bytes (n + k)
chunk_block bytes tail n inner k chunks is_tail cut below fits =
    get_or-take inner chunks k [] below
    ∙ ap (λ (cs : List (List ℕ)). get_or cs k []) cut
    ∙ get_or-first_chunks 64 (length tail / 64) tail k (omega arith)
    ∙ ap (take 64) (IsTail-drop bytes tail n k is_tail)
    ∙ sym (block_bytes_whole bytes (n + k) (omega (arith, is_tail.counted)))

-- ---- a text that grows

pub message-append : (key : Option (List ℕ)) (text more : List ℕ)
    → message key (text ++ more) ≡ message key text ++ more
message-append None text more = refl
message-append (Some key) text more = sym (append_assoc (key ++ replicate 32 0) text more)

module _ (hash : Hash) (key : Option (List ℕ)) (text : List ℕ) (conforms : Conforms hash key text) where
  length-rest : length hash.rest ≡ length (message key text) - 64 * inner_count (message key text)
  length-rest = ap length conforms.last ∙ length-drop (64 * inner_count (message key text)) (message key text)

  -- the bytes that the hash keeps and the added bytes, `more`, together are the end of the longer message
  rest-append : (more : List ℕ)
      → hash.rest ++ more ≡ drop (64 * inner_count (message key text)) (message key text ++ more)
  rest-append more =
      let m = message key text in
      ap (λ (r : List ℕ). r ++ more) conforms.last ∙ sym (drop-append-le (64 * inner_count m) m more (omega arith))

  -- if the added bytes, `more`, fit into the last block, `Conforms` holds once they are appended to the kept bytes
  pub Conforms_short : (more rest : List ℕ) → length hash.rest + length more ≤ 64 → rest ≡ hash.rest ++ more
      → Conforms (record hash { rest = rest }) key (text ++ more)
  Conforms_short more rest fits grown =
      let m = message key text in
      let n : ℕ = inner_count m in
      let same : inner_count (m ++ more) ≡ n = omega (arith, length-rest, length-append m more) in
      let start = start_words (key_len key) in
      let after = IsAfter-append hash.words hash.count start m more n (omega arith) conforms.blocks in record {
        blocks = rw (message-append key text more, same) after;
        last = rw (message-append key text more, same) (grown ∙ rest-append more);
      }

  -- the hash words after the blocks hashed so far are the same for the longer message
  pub Conforms-IsAfter : (more : List ℕ)
      → IsAfter hash.words hash.count (start_words (key_len key)) (message key (text ++ more))
      (inner_count (message key text))
  Conforms-IsAfter more =
      let m = message key text in
      let start = start_words (key_len key) in
      rw message-append
      (IsAfter-append hash.words hash.count start m more (inner_count m) (omega arith) conforms.blocks)

  module _ (more head tail : List ℕ) (cut : more ≡ head ++ tail) (full : length hash.rest + length head ≡ 64) where
    message_cut : message key (text ++ more) ≡ (message key text ++ head) ++ tail
    message_cut =
        let m = message key text in
        message-append key text more ∙ ap (λ (x : List ℕ). m ++ x) cut ∙ sym (append_assoc m head tail)

    length_front : length (message key text ++ head) ≡ 64 * (inner_count (message key text) + 1)
    length_front = omega (arith, length-rest, length-append (message key text) head)

    -- the bytes that the hash keeps and `head`, the first added bytes, together are one block of the longer message
    pub filled_block : hash.rest ++ head ≡ block_bytes (message key (text ++ more)) (inner_count (message key text))
    filled_block =
        let front = message key text ++ head in
        let n : ℕ = inner_count (message key text) in
        let fits : 64 * n + 64 ≤ length front = omega (arith, length_front) in
        let all = take_all 64 (drop (64 * n) front) (omega (arith, length_front, length-drop (64 * n) front)) in
        rw message_cut
        (rest-append head ∙ sym all ∙ sym (block_bytes_whole front n fits) ∙ sym (block_bytes-append front tail n fits))

    -- `tail`, the other added bytes, comes after that block in the longer message
    pub tail_of_message : IsTail (message key (text ++ more)) (inner_count (message key text) + 1) tail
    tail_of_message =
        let front = message key text ++ head in
        let n : ℕ = inner_count (message key text) in record {
          dropped = rw message_cut (drop_at front tail (64 * (n + 1)) length_front);
          counted = rw message_cut (omega (arith, length_front, length-append front tail));
        }

-- if all blocks of `tail`, the end of the message, but the last were hashed, and the last is kept, `Conforms` holds
pub Conforms_tail : (key : Option (List ℕ)) (text words rest : List ℕ) (count : ℕ) (tail : List ℕ) (n k : ℕ)
    → IsTail (message key text) n tail → 0 < length tail → k ≡ (length tail - 1) / 64
    → IsAfter words count (start_words (key_len key)) (message key text) (n + k) → rest ≡ drop (64 * k) tail
    → Conforms (record { words = words; rest = rest; count = count }) key text
Conforms_tail key text words rest count tail n k is_tail some last after kept =
    let same : inner_count (message key text) ≡ n + k = omega (arith, is_tail.counted) in record {
      blocks = rw same after;
      last = rw same (kept ∙ IsTail-drop (message key text) tail n k is_tail);
    }
