-- For callers of the crate: a batch that is filled from a key, and then serves integer by integer, matches the CPU's
-- list.
use Rattle.std.proofs.Common.{◌≡◌, ℕ, suc, ◌+◌, ◌-◌, ◌*◌, ◌/◌, ◌<◌, ◌≤◌, Bool, None, List, ◌++◌, refl, ap, sym, ◌∙◌, arith, length, take, drop, replicate, length-append, length-drop, drop-drop}
use Rattle.std.specs.Prelude.{◌==◌, not, ◌||◌, slice_range}
use Rattle.std.proofs.lemmas.Bool.{le-leb}
use Rattle.std.proofs.lemmas.List.{drop_at, length-take-le, length-replicate}
use Rattle.key_names.specs.Kernel.Keystream.{keystream}
use Rattle.key_names.specs.Kernel.Batches.{Fill, must_fill, batched_int, with_zeros}
use Rattle.key_names.proofs.Standards.Keystreams.{length-keystream, slice_range-keystream}
use Rattle.int_batch.specs.BatchValue.{BatchValue, start, wants, filled, next_bytes, after_serving, IsBatchOf}

-- a new batch has to be filled if and only if the definition requires a fill for a width that has had none
pub wants-start : (look width : ℕ) → wants look width (start width) ≡ must_fill look width None
wants-start look width = ap (λ (b : Bool). b || not (look == 0)) (le-leb (96 / width) (96 / width) (omega arith))

-- `IsBatchOf` holds for a batch right after a fill with bytes of the key's keystream
pub IsBatchOf-filled : (width : ℕ) (key : List ℕ) (fill : Fill) → fill.count ≡ 0 →
    IsBatchOf width key fill (filled (keystream key 32 96) fill.look)
IsBatchOf-filled width key fill none = record {
  position = sym none;
  generation = refl;
  len = length-keystream key 32 96;
  rest = refl;
}

-- if fewer than `96 / width` integers were served, the next one ends within the 96 bytes
room : (width position : ℕ) → position < 96 / width → width * position + width ≤ 96
room width position below = grind arith

-- if the batch matches a fill and is not used up, its next bytes are the integer that `batched_int` gives for this fill
pub next_bytes-batched_int : (width : ℕ) (key : List ℕ) (fill : Fill) (b : BatchValue) → IsBatchOf width key fill b →
    fill.count < 96 / width → next_bytes width b ≡ batched_int key width fill.count
next_bytes-batched_int width key fill b is below =
    let from = width * fill.count in
    let fits : from + width ≤ 96 = room width fill.count below in
    let len : from + width - from ≡ width = omega arith in
    ap (λ (p : ℕ). slice_range b.bytes (width * p) (width * p + width)) is.position
    ∙ ap (take (from + width - from)) is.rest
    ∙ slice_range-keystream key 32 96 from (from + width) (omega arith) fits
    ∙ ap (keystream key (32 + from)) len

-- the first `from` bytes of a batch, followed by an integer that was set to 0, are `from + width` bytes (for
-- `IsBatchOf-after_serving`)
length_front : (from width : ℕ) (bytes : List ℕ) → from ≤ length bytes →
    length (take from bytes ++ replicate width 0) ≡ from + width
length_front from width bytes within =
    length-append (take from bytes) (replicate width 0)
    ∙ ap (λ (n : ℕ). n + length {A = ℕ} (replicate width 0)) (length-take-le from bytes within)
    ∙ ap (λ (n : ℕ). from + n) (length-replicate width 0)

drop-with_zeros : (from width : ℕ) (bytes : List ℕ) → from + width ≤ length bytes →
    drop (from + width) (with_zeros from width bytes) ≡ drop (from + width) bytes
drop-with_zeros from width bytes within =
    drop_at (take from bytes ++ replicate width 0) (drop (from + width) bytes) (from + width)
    (length_front from width bytes (omega arith))

length-with_zeros : (from width : ℕ) (bytes : List ℕ) → from + width ≤ length bytes →
    length (with_zeros from width bytes) ≡ length bytes
length-with_zeros from width bytes within =
    let front = length_front from width bytes (omega arith) in
    let following : length (drop (from + width) bytes) ≡ length bytes - (from + width) =
    length-drop (from + width) bytes in
    let both : length (with_zeros from width bytes) ≡ length (take from bytes ++ replicate width 0) + length
    (drop (from + width) bytes) =
    length-append (take from bytes ++ replicate width 0) (drop (from + width) bytes) in
    omega arith

pub IsBatchOf-after_serving : (width : ℕ) (key : List ℕ) (fill : Fill) (b : BatchValue) → IsBatchOf width key fill b →
    fill.count < 96 / width → IsBatchOf width key (record fill { count = suc fill.count }) (after_serving width b)
IsBatchOf-after_serving width key fill b is below =
    let from = width * fill.count in
    let fits : from + width ≤ 96 = room width fill.count below in
    let within : from + width ≤ length b.bytes = rw is.len fits in
    let next : width * suc fill.count ≡ from + width = grind arith in
    let bytes : with_zeros (width * b.position) width b.bytes ≡ with_zeros from width b.bytes =
    ap (λ (p : ℕ). with_zeros (width * p) width b.bytes) is.position in
    record {
      position = omega arith;
      generation = is.generation;
      len = ap length bytes ∙ length-with_zeros from width b.bytes within ∙ is.len;
      rest = ap (drop (width * suc fill.count)) bytes ∙ ap (λ (n : ℕ). drop n (with_zeros from width b.bytes)) next
          ∙ drop-with_zeros from width b.bytes within ∙ sym (drop-drop width from b.bytes) ∙ ap (drop width) is.rest
          ∙ drop-drop width from (keystream key 32 96) ∙ ap (λ (n : ℕ). drop n (keystream key 32 96)) (sym next);
    }
