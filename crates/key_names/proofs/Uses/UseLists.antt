-- Lemmas about lists of uses: joined lists, a list for each number below a bound, and uses of keys that may have no
-- name.
use Rattle.std.proofs.Common.{◌≡◌, ℕ, zero, suc, ◌+◌, ◌≤◌, ◌<◌, Bool, true, false, List, [], ◌∷◌, ◌++◌, ◌⊎◌, inl, inr, refl, ap, arith, Some, None, Option, nat_lt}
use Rattle.std.specs.Prelude.{if◌then◌else◌}
use Rattle.std.specs.List.{flat_map, range_with_len}
use Rattle.std.proofs.lemmas.Bool.{ltb-true}
use Rattle.key_names.specs.declared.names.KeyName.{KeyName}
use Rattle.key_names.specs.declared.entries.Taken.{Taken}
use Rattle.key_names.specs.declared.entries.Taken.TheVariants.{User, Kernel}
use Rattle.key_names.specs.Keys.Uses.{Use, Purpose, kept, served, use_of, HoldsByte, IsUsed, Disjoint, read_uses, named_uses, named_use, uses_below}

pub IsUsed-append_cases : (us vs : List Use) (key : KeyName) (q : ℕ) → IsUsed (us ++ vs) key q →
    IsUsed us key q ⊎ IsUsed vs key q
IsUsed-append_cases [] vs key q h = inr h
IsUsed-append_cases (u ∷ us) vs key q (inl h) = inl (inl h)
IsUsed-append_cases (u ∷ us) vs key q (inr h) =
    elim (IsUsed-append_cases us vs key q h) [ inl l ↦ inl (inr l) | inr r ↦ inr r ]

pub used_first : (us vs : List Use) (key : KeyName) (q : ℕ) → IsUsed us key q → IsUsed (us ++ vs) key q
used_first [] vs key q h = absurd h
used_first (u ∷ us) vs key q (inl h) = inl h
used_first (u ∷ us) vs key q (inr h) = inr (used_first us vs key q h)

pub used_second : (us vs : List Use) (key : KeyName) (q : ℕ) → IsUsed vs key q → IsUsed (us ++ vs) key q
used_second [] vs key q h = h
used_second (u ∷ us) vs key q h = inr (used_second us vs key q h)

-- the lists `us` and `vs` are both disjoint, and no byte is in both lists
pub record DisjointParts (us vs : List Use) : Type 0 where
  pub first : Disjoint us
  pub second : Disjoint vs
  pub apart : (key : KeyName) (q : ℕ) → IsUsed us key q → IsUsed vs key q → ⊥

pub disjoint_parts : (us vs : List Use) → Disjoint (us ++ vs) → DisjointParts us vs
disjoint_parts [] vs d = record { first = tt; second = d; apart = λ key q h. absurd h }
disjoint_parts (u ∷ us) vs d =
    let rest : DisjointParts us vs = disjoint_parts us vs d.1 in
    record {
      first = (λ key q h later. d.0 key q h (used_first us vs key q later), rest.first);
      second = rest.second;
      apart = λ key q h later. elim h [
        | inl here ↦ d.0 key q here (used_second us vs key q later)
        | inr there ↦ rest.apart key q there later
      ];
    }

-- if `us` and `vs` are disjoint, and no byte is in both lists, then `us ++ vs` is disjoint
pub Disjoint-append : (us vs : List Use) → Disjoint us → Disjoint vs →
    ((key : KeyName) (q : ℕ) → IsUsed us key q → IsUsed vs key q → ⊥) → Disjoint (us ++ vs)
Disjoint-append [] vs a b apart = b
Disjoint-append (u ∷ us) vs a b apart = (
  λ key q h later. elim (IsUsed-append_cases us vs key q later)
      [ inl l ↦ a.0 key q h l | inr r ↦ apart key q (inl h) r ],
  Disjoint-append us vs a.1 b (λ key q h r. apart key q (inr h) r),
)

-- if the use u ends before the use v begins, u and v have no byte in common
apart_spans : (u v : Use) (key : KeyName) (q : ℕ) → u.span.from + u.span.len ≤ v.span.from → HoldsByte u.span key q →
    HoldsByte v.span key q → ⊥
apart_spans u v key q le h m = omega arith

pub Disjoint-one : (u : Use) → Disjoint (u ∷ [])
Disjoint-one u = (λ key q h none. none, tt)

pub Disjoint-two : (u v : Use) → u.span.from + u.span.len ≤ v.span.from → Disjoint (u ∷ v ∷ [])
Disjoint-two u v le =
    (λ key q h m. elim m [ inl m' ↦ apart_spans u v key q le h m' | inr none ↦ none ], Disjoint-one v)

Disjoint-three : (u v w : Use) → u.span.from + u.span.len ≤ v.span.from → u.span.from + u.span.len ≤ w.span.from →
    v.span.from + v.span.len ≤ w.span.from →
    Disjoint (u ∷ v ∷ w ∷ [])
Disjoint-three u v w uv uw vw = (
  λ key q h m. elim m [
    | inl m' ↦ apart_spans u v key q uv h m'
    | inr (inl m') ↦ apart_spans u w key q uw h m'
    | inr
        (inr none) ↦ none
  ],
  Disjoint-two v w vw,
)

-- if the uses of each named key are disjoint, so are the uses of a key that may have no name
pub named_uses_disjoint : (o : Option KeyName) (f : KeyName → List Use) → ((k : KeyName) → Disjoint (f k)) →
    Disjoint (named_uses o f)
named_uses_disjoint None f d = tt
named_uses_disjoint (Some key) f d = d key

pub named_uses_cases : (o : Option KeyName) (f : KeyName → List Use) (k : KeyName) (q : ℕ) →
    IsUsed (named_uses o f) k q →
    (key : KeyName) × (o ≡ Some key) × IsUsed (f key) k q
named_uses_cases None f k q h = absurd h
named_uses_cases (Some key) f k q h = (key, refl, h)

-- `o` names key k, and byte q is one of the `len` bytes from `from` on
pub record UsesByte (o : Option KeyName) (from len : ℕ) (k : KeyName) (q : ℕ) : Type 0 where
  pub key_is : o ≡ Some k
  pub above : from ≤ q
  pub below : q < from + len

pub one_use : (purpose : Purpose) (o : Option KeyName) (from len : ℕ) (k : KeyName) (q : ℕ) →
    IsUsed (named_use purpose o from len) k q →
    UsesByte o from len k q
one_use purpose None from len k q h = absurd h
one_use purpose (Some key) from len k q (inl u) =
    record { key_is = ap Some u.same_key; above = u.from; below = u.below }
one_use purpose (Some key) from len k q (inr none) = absurd none

pub one_use_disjoint : (purpose : Purpose) (o : Option KeyName) (from len : ℕ) → Disjoint (named_use purpose o from len)
one_use_disjoint purpose None from len = tt
one_use_disjoint purpose (Some key) from len = Disjoint-one (use_of purpose key from len)

-- the read is for a user and longer than 32 bytes, so a key made of bytes 32 to 64 (a call key) serves it
abbrev pub IsLong : Option Taken → Type 0
IsLong None = ⊥
IsLong (Some (User n)) = 32 < n
IsLong (Some (Kernel n)) = ⊥

-- the uses of a read are disjoint
pub read_disjoint : (rekeys : Bool) (key call : KeyName) (t : Taken) → Disjoint (read_uses rekeys key call t)
read_disjoint rekeys key call (Kernel n) = Disjoint-two (use_of kept key 0 32) (use_of served key 32 n) (omega arith)
read_disjoint rekeys key call (User n) =
    elim (nat_lt 32 n) as (λ b. Disjoint
    (use_of kept key 0 32 ∷ (if b then use_of kept key 32 32 ∷ use_of served call 64 n ∷ []
    else (if rekeys then use_of kept key 32 32 else use_of served key 32 n) ∷ []))) [
      | true ↦ Disjoint-three (use_of kept key 0 32) (use_of kept key 32 32) (use_of served call 64 n) (omega arith)
          (omega arith) (omega arith)
      | false ↦ elim rekeys as (λ r. Disjoint
          (use_of kept key 0 32 ∷ (if r then use_of kept key 32 32 else use_of served key 32 n) ∷ [])) [
            | true ↦ Disjoint-two (use_of kept key 0 32) (use_of kept key 32 32) (omega arith)
            | false ↦ Disjoint-two (use_of kept key 0 32) (use_of served key 32 n) (omega arith)
          ]
    ]

-- a read uses only the key in use and, if the read is long, the key that bytes 32 to 64 of the keystream become
pub read_within : (rekeys : Bool) (key call : KeyName) (t : Taken) (k : KeyName) (q : ℕ) →
    IsUsed (read_uses rekeys key call t) k q → (key ≡ k) ⊎ ((call ≡ k) × IsLong (Some t))
read_within rekeys key call t k q (inl u) = inl u.same_key
read_within rekeys key call (Kernel n) k q (inr h) = elim h [ inl u ↦ inl u.same_key | inr none ↦ absurd none ]
read_within rekeys key call (User n) k q (inr h) = go (nat_lt 32 n) refl h
  where
    one : (r : Bool) → IsUsed ((if r then use_of kept key 32 32 else use_of served key 32 n) ∷ []) k q → key ≡ k
    one true h = elim h [ inl u ↦ u.same_key | inr none ↦ absurd none ]
    one false h = elim h [ inl u ↦ u.same_key | inr none ↦ absurd none ]

    go : (b : Bool) → nat_lt 32 n ≡ b → IsUsed (if b then use_of kept key 32 32 ∷ use_of served call 64 n ∷ []
        else (if rekeys then use_of kept key 32 32 else use_of served key 32 n) ∷ []) k q →
        (key ≡ k) ⊎ ((call ≡ k) × (32 < n))
    go true is h = elim h [
      | inl u ↦ inl u.same_key
      | inr (inl u) ↦ inr (u.same_key, ltb-true 32 n is)
      | inr
          (inr none) ↦ absurd none
    ]
    go false is h = inl (one rekeys h)

-- if the choice between x and y by `b` is z, then either `b` is true and x is z, or `b` is false and y is z
pub choice_cases : {A : Type 0} (b : Bool) (x y z : A) → (if b then x else y) ≡ z →
    ((b ≡ true) × (x ≡ z)) ⊎ ((b ≡ false) × (y ≡ z))
choice_cases true x y z e = inl (refl, e)
choice_cases false x y z e = inr (refl, e)

-- the uses `us` are disjoint, and they use only keys with names for which Own holds
pub record Part (Own : KeyName → Type 0) (us : List Use) : Type 0 where
  pub disjoint : Disjoint us
  pub within : (k : KeyName) (q : ℕ) → IsUsed us k q → Own k

-- Own holds for the name k and for some number that is at least `from`
pub record OwnFrom (Own : ℕ → KeyName → Type 0) (from : ℕ) (k : KeyName) : Type 0 where
  pub number : ℕ
  pub above : from ≤ number
  pub own : Own number k

parts_from : (Own : ℕ → KeyName → Type 0) (f : ℕ → List Use) → ((m n : ℕ) (k : KeyName) → Own m k → Own n k → m ≡ n) →
    ((n : ℕ) → Part (Own n) (f n)) → (from count : ℕ) → Part (OwnFrom Own from) (flat_map f (range_with_len from count))
parts_from Own f one part from zero = record { disjoint = tt; within = λ k q h. absurd h }
parts_from Own f one part from (suc count) =
    let now : Part (Own from) (f from) = part from in
    let rest : Part (OwnFrom Own (from + 1)) (flat_map f (range_with_len (from + 1) count)) =
    parts_from Own f one part (from + 1) count in
    record {
      disjoint = Disjoint-append (f from) _ now.disjoint rest.disjoint
          (λ k q a b. let m = rest.within k q b in
          let same : from ≡ m.number = one from m.number k (now.within k q a) m.own in
          let le = m.above in omega arith);
      within = λ k q h. elim (IsUsed-append_cases (f from) _ k q h) [
        | inl a ↦ record { number = from; above = omega arith; own = now.within k q a }
        | inr b ↦ (let m = rest.within k q b in
            record { number = m.number; above = (let le = m.above in omega arith); own = m.own })
      ];
    }

-- if the uses `f n` are a Part for each number n, and no name belongs to two numbers, then all these uses together are
-- disjoint
pub parts_below : (Own : ℕ → KeyName → Type 0) (f : ℕ → List Use) →
    ((m n : ℕ) (k : KeyName) → Own m k → Own n k → m ≡ n) →
    ((n : ℕ) → Part (Own n) (f n)) → (count : ℕ) → Part (OwnFrom Own 0) (uses_below count f)
parts_below Own f one part count = parts_from Own f one part 0 count

used_from : (f : ℕ → List Use) (from count : ℕ) (k : KeyName) (q : ℕ) →
    IsUsed (flat_map f (range_with_len from count)) k q →
    (n : ℕ) × IsUsed (f n) k q
used_from f from zero k q h = absurd h
used_from f from (suc count) k q h =
    elim (IsUsed-append_cases (f from) (flat_map f (range_with_len (from + 1) count)) k q h)
    [ inl a ↦ (from, a) | inr b ↦ used_from f (from + 1) count k q b ]

-- if a byte is in the uses `f n` of all numbers n below `count` together, it is in `f n` for some number n
pub used_below : (f : ℕ → List Use) (count : ℕ) (k : KeyName) (q : ℕ) → IsUsed (uses_below count f) k q →
    (n : ℕ) × IsUsed (f n) k q
used_below f count k q h = used_from f 0 count k q h
