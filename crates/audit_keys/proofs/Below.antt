-- The results for the numbers below `n + 1` are the results for the numbers below `n`, and then the results for `n`.
use Rattle.std.proofs.Common.{◌≡◌, ◌+◌, ℕ, zero, suc, List, [], ◌∷◌, ◌++◌, sym, ap, ◌∙◌, append_assoc, append-nil, arith}
use Rattle.std.specs.Prelude.{Some, slice_get, map}
use Rattle.std.specs.List.{flat_map, range_with_len}
use Rattle.std.proofs.lemmas.List.Concat.{flat_map-append}
use Rattle.key_names.specs.Lanes.Book.{list_at}
use Rattle.audit_keys.specs.Rests.{widths}
use Rattle.audit_keys.specs.Listed.{listed_below}

range_more : (a n j : ℕ) → a + n ≡ j → range_with_len a (suc n) ≡ range_with_len a n ++ j ∷ []
range_more a zero j e = ap (λ x. x ∷ []) (omega (arith, e))
range_more a (suc n) j e = ap (λ xs. a ∷ xs) (range_more (a + 1) n j (omega (arith, e)))

pub below_more : {T : Type 0} (tells : ℕ → List T) (n : ℕ) →
    listed_below (n + 1) tells ≡ listed_below n tells ++ tells n
below_more tells n =
    ap (λ m. listed_below m tells) (let next : n + 1 ≡ suc n = omega arith in next)
    ∙ ap (flat_map tells) (range_more 0 n n (omega arith))
    ∙ flat_map-append tells (range_with_len 0 n) (n ∷ [])
    ∙ ap (λ ts. listed_below n tells ++ ts) (append-nil (tells n))

-- if the results for `n` are appended to the results for the numbers below `n`, they become the results for the numbers
-- below `n + 1`
pub added_more : {T : Type 0} (tells : ℕ → List T) (n : ℕ) (old now new : List T) →
    now ≡ old ++ listed_below n tells → new ≡ now ++ tells n → new ≡ old ++ listed_below (n + 1) tells
added_more tells n old now new h more =
    more ∙ ap (λ ts. ts ++ tells n) h ∙ append_assoc old (listed_below n tells) (tells n)
    ∙ ap (λ ts. old ++ ts) (sym (below_more tells n))

pub all_widths : {T : Type 0} (tells : ℕ → List T) (n : ℕ) → n ≡ 256 → listed_below n tells ≡ flat_map tells widths
unfolding widths
all_widths tells n e = ap (λ m. listed_below m tells) e

pub list_at_map : {A E : Type 0} (f : A → List E) (xs : List A) (i : ℕ) (x : A) → slice_get xs i ≡ Some x →
    list_at (map f xs) i ≡ f x
list_at_map f [] i x is = cc
list_at_map f (y ∷ xs) zero x is = ap f (let e : Some y ≡ Some x = is in cc)
list_at_map f (y ∷ xs) (suc i) x is = list_at_map f xs i x is
