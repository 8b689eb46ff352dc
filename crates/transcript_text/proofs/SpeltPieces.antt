-- Reading hex digits piece by piece gives the same bytes as reading them at once.
use Rattle.std.proofs.Common.{◌≡◌, ℕ, zero, suc, ◌+◌, ◌-◌, ◌*◌, ◌/◌, ◌%◌, ◌<◌, ◌≤◌, Option, Some, None, List, [], ◌∷◌, ◌++◌, length, take, drop, refl, ap, sym, subst, ◌∙◌, append_assoc, append-nil, length-append, arith}
use Rattle.std.proofs.lemmas.List.{take-append-drop}
use Rattle.hex.specs.Hex.{IsBytes, encode_with, encode_lower, lower_digits}
use Rattle.hex.proofs.HexLemmas.{length-encode_with}
use Rattle.key_names.specs.declared.lines.Data.TheVariants.{None as NoData, Bytes}
use Rattle.key_names.specs.Texts.ScriptFaults.{bytes_of}
use Rattle.key_names.specs.Texts.Spelling.{hex}
use Rattle.key_names.proofs.Script.HexBytes.{encode_with-append, no_bytes}
use Rattle.key_names.proofs.Script.HexFields.{bytes_takes, bytes_again}
use Rattle.transcript_text.specs.Gathered.{bytes_from}
use Rattle.transcript_text.specs.Shows.{AppendsSpelt, NamesSpelt}

-- `text` is the hex digits of `bytes`, and then `rest`. If the whole `text` spells bytes, `rest` is the digits of some
-- bytes.
pub record SpeltSoFar (text bytes rest : List ℕ) : Type 0 where
  pub whole : text ≡ encode_lower bytes ++ rest
  pub small : IsBytes bytes
  pub half : ℕ
  pub even : length rest ≡ 2 * half
  pub only : (all : List ℕ) → bytes_of text ≡ Some all → (last : List ℕ) × (rest ≡ encode_lower last) × IsBytes last

-- `front` and `following` are each the hex digits of whole bytes
record Split (front following : List ℕ) : Type 0 where
  first : List ℕ
  last : List ℕ
  first_is : front ≡ encode_lower first
  last_is : following ≡ encode_lower last
  first_small : IsBytes first
  last_small : IsBytes last

small_more : (x : ℕ) (xs : List ℕ) → x < 256 → IsBytes xs → IsBytes (x ∷ xs)
small_more x xs h small zero = h
small_more x xs h small (suc i) = small i

small_append : (xs ys : List ℕ) → IsBytes xs → IsBytes ys → IsBytes (xs ++ ys)
small_append [] ys hx hy = hy
small_append (x ∷ xs) ys hx hy = small_more x (xs ++ ys) (hx 0) (small_append xs ys (λ i. hx (suc i)) hy)

none_spelt : (text : List ℕ) → ((all : List ℕ) → bytes_of text ≡ Some all → ⊥) → None ≡ bytes_of text
none_spelt text not = go (bytes_of text) refl
  where
    go : (o : Option (List ℕ)) → bytes_of text ≡ o → None ≡ bytes_of text
    go None e = sym e
    go (Some all) e = absurd (not all e)

cons_hex : (a b x : ℕ) (front following first z : List ℕ) → (a ∷ b ∷ front) ++ following ≡ encode_lower (x ∷ z)
    → front ≡ encode_lower first → a ∷ b ∷ front ≡ encode_lower (x ∷ first)
unfolding encode_with
cons_hex a b x front following first z e is = cc

split_hex : (k : ℕ) (front following z : List ℕ) → length front ≡ 2 * k → front ++ following ≡ encode_lower z → IsBytes z
    → Split front following
unfolding encode_with
split_hex zero [] following z long e small = record {
  first = [];
  last = z;
  first_is = refl;
  last_is = e;
  first_small = λ i. omega arith;
  last_small = small;
}
split_hex zero (a ∷ front) following z long e small = absurd (omega arith)
split_hex (suc k) [] following z long e small = absurd (omega arith)
split_hex (suc k) (a ∷ []) following z long e small = absurd (omega arith)
split_hex (suc k) (a ∷ b ∷ front) following [] long e small = absurd cc
split_hex (suc k) (a ∷ b ∷ front) following (x ∷ z) long e small =
    let tail : front ++ following ≡ encode_lower z = cc in
    let s = split_hex k front following z (omega arith) tail (λ i. small (suc i)) in
    record {
      first = x ∷ s.first;
      last = s.last;
      first_is = cons_hex a b x front following s.first z e s.first_is;
      last_is = s.last_is;
      first_small = small_more x s.first (small 0) s.first_small;
      last_small = s.last_small;
    }

hex_some : (bytes text : List ℕ) → 0 < length text → text ≡ encode_lower bytes → text ≡ hex bytes
unfolding encode_with
hex_some [] text some e = absurd (omega (arith, ap length e))
hex_some (b ∷ bytes) text some e = e

hex_back : (bytes text : List ℕ) → 1 < length text → text ≡ hex bytes → text ≡ encode_lower bytes
hex_back [] text some e = absurd (omega (arith, ap length e))
hex_back (b ∷ bytes) text some e = e

again : (text bytes : List ℕ) → 0 < length text → text ≡ encode_lower bytes → IsBytes bytes
    → bytes_of text ≡ Some bytes
again text bytes some e small = ap bytes_of (hex_some bytes text some e) ∙ bytes_again bytes small

pub parts_of : (n : ℕ) (rest front following : List ℕ) → front ≡ take n rest → following ≡ drop n rest
    → rest ≡ front ++ following
parts_of n rest front following f b = sym (rw (f, b) (take-append-drop n rest))

pub spelt_begins : (text none : List ℕ) → none ≡ [] → 1 < length text → length text % 2 ≡ 0
    → SpeltSoFar text none text
spelt_begins text none is some even = record {
  whole = sym (ap (λ bytes. encode_lower bytes ++ text) is ∙ ap (λ l. l ++ text) no_bytes);
  small = λ i. rw is (omega arith);
  half = length text / 2;
  even = omega (arith, even);
  only = λ all e. let p = bytes_takes text all e in (all, hex_back all text some p.0, p.1);
}

module _ (text bytes rest front following : List ℕ) (k : ℕ) (so_far : SpeltSoFar text bytes rest)
    (parts : rest ≡ front ++ following) (long : length front ≡ 2 * k) (some : 0 < k) where
  pub spelt_more : (piece more : List ℕ) → Some piece ≡ bytes_of front → more ≡ bytes ++ piece
      → SpeltSoFar text more following
  spelt_more piece more e more_is =
      let p = bytes_takes front piece (sym e) in
      let front_is : front ≡ encode_lower piece = hex_back piece front (omega (arith, long, some)) p.0 in
      record {
        whole =
            so_far.whole ∙ ap (λ r. encode_lower bytes ++ r) (parts ∙ ap (λ f. f ++ following) front_is)
            ∙ sym (append_assoc (encode_lower bytes) (encode_lower piece) following)
            ∙ ap (λ l. l ++ following) (sym (encode_with-append lower_digits bytes piece) ∙ ap encode_lower (sym more_is));
        small = subst IsBytes (sym more_is) (small_append bytes piece so_far.small p.1);
        half = so_far.half - k;
        even = omega (arith, so_far.even, ap length parts, length-append front following, long);
        only = λ all found.
            let o = so_far.only all found in
            let s = split_hex k front following o.0 long (sym parts ∙ o.1) o.2 in (s.last, s.last_is, s.last_small);
      }

  pub spelt_nowhere : None ≡ bytes_of front → None ≡ bytes_of text
  spelt_nowhere none = none_spelt text (λ all found.
      let o = so_far.only all found in
      let s = split_hex k front following o.0 long (sym parts ∙ o.1) o.2 in
      let same : bytes_of front ≡ Some s.first =
      again front s.first (omega (arith, long, some)) s.first_is s.first_small in
      absurd cc)

-- if `rest` is empty, `text` spells exactly `bytes`
pub spelt_whole : (text bytes rest : List ℕ) → SpeltSoFar text bytes rest → rest ≡ [] → 0 < length text
    → Some bytes ≡ bytes_of text
spelt_whole text bytes rest s done some =
    sym (again text bytes some (s.whole ∙ ap (λ r. encode_lower bytes ++ r) done ∙ append-nil (encode_lower bytes)) s.small)

-- the first part of `text` spells some bytes, `rest` is left, and `new` is `old` with these bytes appended
pub record AppendedSoFar (text old new rest : List ℕ) : Type 0 where
  pub bytes : List ℕ
  pub whole : new ≡ old ++ bytes
  pub so_far : SpeltSoFar text bytes rest

-- ---- data that refer to the bytes appended last

pub names_none : (text old new : List ℕ) → AppendsSpelt text old new → length new ≤ length old
    → NamesSpelt text old new NoData
names_none text old new a same = record {
  appends = a;
  named_is = none (length old) a.bytes (omega (arith, same, ap length a.whole, length-append old a.bytes));
}
  where
    none : (start : ℕ) (bytes : List ℕ) → length bytes ≡ 0 → NoData ≡ bytes_from start bytes
    none start [] e = refl
    none start (b ∷ bytes) e = absurd (omega arith)

pub names_bytes : (text old new : List ℕ) (start len : ℕ) → AppendsSpelt text old new → start ≡ length old
    → len ≡ length new - start → 0 < len → NamesSpelt text old new (Bytes len start)
names_bytes text old new start len a from_here long some = record {
  appends = a;
  named_is = rw from_here (named (length old) len a.bytes
      (omega (arith, long, from_here, ap length a.whole, length-append old a.bytes)) some);
}
  where
    named : (start len : ℕ) (bytes : List ℕ) → len ≡ length bytes → 0 < len → Bytes len start ≡ bytes_from start bytes
    named start len [] e some = absurd (omega arith)
    named start len (b ∷ bytes) e some = ap (λ (n : ℕ). Bytes n start) e

-- a text has at least as many digits as the bytes that it spells
pub spelt_short : (text old new : List ℕ) → AppendsSpelt text old new → length new ≤ length old + length text
spelt_short text old new a =
    let is = (bytes_takes text a.bytes a.spelt).0 in
    omega (arith, ap length a.whole, length-append old a.bytes, ap length is, hex_long a.bytes)
  where
    hex_long : (bytes : List ℕ) → length bytes ≤ length (hex bytes)
    hex_long [] = omega arith
    hex_long (b ∷ bytes) = omega (arith, length-encode_with lower_digits (b ∷ bytes))
