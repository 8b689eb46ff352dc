-- Lemmas about words that are read from bytes, and about lists written out by their elements.
use Rattle.std.proofs.Common.{◌≡◌, ℕ, ◌+◌, ◌*◌, ◌<◌, ◌≤◌, ◌++◌, List, [], length, length-drop, map, take, drop, slice_index, refl, arith, add-zero, ◌∙◌}
use Rattle.std.specs.List.{range_with_len}
use Rattle.std.proofs.lemmas.List.{get_or-drop, drop_all, append-nil}
use Rattle.std.proofs.lemmas.List.FromFn.{fill_by_all}
use borrow.Rule.Slice.PartMut.{put_mid, post_of}
use Rattle.byteorder.specs.Endian.{IsRead, little_number}
use Rattle.key_names.specs.Kernel.Blake2s.{u32_at}

-- a list of n elements is the list of its elements at places 0 to n - 1
pub by_places : (v : List ℕ) (n : ℕ) → length v ≡ n → v ≡ map (slice_index v) (range_with_len 0 n)
by_places v n len = fill_by_all (slice_index v) v n 0 len (λ k below. refl)

-- `little_number` and `u32_at` read the same number from the four bytes that begin at byte `4 * k`
little_number-u32_at : (bytes : List ℕ) (k : ℕ) → little_number 4 (drop (4 * k) bytes) ≡ u32_at bytes k
unfolding u32_at
little_number-u32_at bytes k = simp (get_or-drop, add-zero) (omega arith)

-- if `words` were read from `bytes`, word k begins at byte `4 * k` of `bytes`
pub read_words : (bytes words : List ℕ) (n : ℕ) → length words ≡ n → IsRead little_number 4 bytes words
    → words ≡ map (u32_at bytes) (range_with_len 0 n)
read_words bytes words n len read =
    fill_by_all (u32_at bytes) words n 0 len (λ k below.
    let inside : k < length words = omega arith in
    read k inside ∙ little_number-u32_at bytes k)

-- if `ys` is written over a list from place `a` to the list's end, the first `a` elements remain, and `ys` follows them
pub put_mid_to_end : (a k : ℕ) (xs ys zs : List ℕ) → length xs ≤ a + k → ys ≡ zs → put_mid a k xs ys ≡ take a xs ++ zs
put_mid_to_end a k xs ys zs end same =
    let none : post_of a k xs ≡ [] = drop_all k (drop a xs) (omega (arith, length-drop a xs)) in
    rw (none, append-nil ys, same) refl
