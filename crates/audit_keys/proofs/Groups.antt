-- In a list sorted by key, the elements with the same key form a range, which two partition points bound.
use Rattle.std.proofs.Common.{◌≡◌, ◌≤◌, ◌<◌, ◌+◌, ◌-◌, ℕ, Bool, true, false, List, [], ◌∷◌, ◌++◌, length, take, drop, get_or, refl, sym, ap, subst, ◌∙◌, append-nil, arith}
use Rattle.std.specs.Prelude.{All, not, ◌&&◌, filter, IsSortedByKey}
use Rattle.std.specs.Cmp.{IsTotalOrder}
use Rattle.std.specs.List.Sorted.{IsNonDecreasingBy, IsPartitionedBy, IsPartitionPoint, ties}
use Rattle.std.specs.Ordering.{is_lt, is_le, is_eq, ordering_index, ordering_reverse}
use Rattle.std.specs.declared.cmp.Ordering.{Ordering}
use Rattle.std.specs.declared.cmp.Ordering.TheVariants.{Less, Equal, Greater}
use Rattle.std.proofs.lemmas.List.{take_all, take-append-drop, length-take, length-drop, get_or-take, get_or-drop}
use Rattle.std.proofs.lemmas.List.Elements.{All-head, All-tail, filter-append, filter_agree}
use Rattle.std.proofs.lemmas.List.Sorted.{searchable_from_sorted, IsNonDecreasingBy-drop}
use Rattle.key_names.specs.declared.names.KeyName.{KeyName}
use Rattle.key_names.specs.contracts.names.KeyNameOrd.TheImpl.{ghosts as order}
use Rattle.key_names.specs.contracts.names.KeyNameOrd.TheImpl.Laws.{total-law, matches_eq-law}
use Rattle.key_names.specs.contracts.names.KeyNamePartialEq.TheImpl.{ghosts as names}

filter_all : {X : Type 0} (p : X → Bool) (xs : List X) → All (λ x. p x ≡ true) xs → filter p xs ≡ xs
filter_all p [] all = refl
filter_all p (x ∷ xs) all =
    rw (All-head (λ x. p x ≡ true) x xs all) (ap (λ ys. x ∷ ys) (filter_all p xs (All-tail (λ x. p x ≡ true) x xs all)))

filter_none : {X : Type 0} (p : X → Bool) (xs : List X) → All (λ x. p x ≡ false) xs → filter p xs ≡ []
filter_none p [] none = refl
filter_none p (x ∷ xs) none =
    rw (All-head (λ x. p x ≡ false) x xs none) (filter_none p xs (All-tail (λ x. p x ≡ false) x xs none))

lower : (a b : Ordering) → ordering_index a ≤ ordering_index b → is_lt b ≡ true → is_lt a ≡ true
lower Less b le e = refl
lower Equal Less le e = absurd (omega arith)
lower Equal Equal le e = cc
lower Equal Greater le e = cc
lower Greater Less le e = absurd (omega arith)
lower Greater Equal le e = cc
lower Greater Greater le e = cc

not_above : (a b : Ordering) → ordering_index a ≤ ordering_index b → is_le b ≡ true → is_le a ≡ true
not_above Less b le e = refl
not_above Equal b le e = refl
not_above Greater Less le e = absurd (omega arith)
not_above Greater Equal le e = absurd (omega arith)
not_above Greater Greater le e = cc

before_is_not : (a : Ordering) → is_lt a ≡ true → is_eq a ≡ false
before_is_not Less e = refl
before_is_not Equal e = cc
before_is_not Greater e = cc

after_is_not : (a : Ordering) → is_le a ≡ false → is_eq a ≡ false
after_is_not Less e = cc
after_is_not Equal e = cc
after_is_not Greater e = refl

between_is : (a : Ordering) → is_lt a ≡ false → is_le a ≡ true → is_eq a ≡ true
between_is Less e f = cc
between_is Equal e f = refl
between_is Greater e f = cc

module _ {X K : Type 0} {R : K → K → Ordering} (o : IsTotalOrder R) (key : X → K) (k : K) where
  rises : (xs : List X) → IsSortedByKey key R xs → IsNonDecreasingBy (λ x. ordering_index (R (key x) k)) xs
  rises xs sorted = searchable_from_sorted o key xs k sorted

  first_parted : (xs : List X) → IsSortedByKey key R xs → IsPartitionedBy (λ x. is_lt (R (key x) k)) xs
  first_parted xs sorted i j d le below last =
      lower (R (key (get_or xs i d)) k) (R (key (get_or xs j d)) k) (rises xs sorted i j d le below) last

  count_parted : (xs : List X) (first : ℕ) → IsSortedByKey key R xs →
      IsPartitionedBy (λ x. is_le (R (key x) k)) (drop first xs)
  count_parted xs first sorted i j d le below last =
      not_above (R (key (get_or (drop first xs) i d)) k) (R (key (get_or (drop first xs) j d)) k)
      (IsNonDecreasingBy-drop (λ x. ordering_index (R (key x) k)) first xs (rises xs sorted) i j d le below) last

  abbrev is_at : X → Bool
  is_at x = is_eq (R (key x) k)

  -- the group of the key k (the elements with this key) is `count` elements from `first` on: from the first element
  -- that is not below k to the last one that is not above k
  group_is : (xs : List X) (first count : ℕ) → first ≤ length xs →
      IsPartitionPoint (λ x. is_lt (R (key x) k) ≡ true) (λ x. is_lt (R (key x) k) ≡ false) xs first →
      IsPartitionPoint (λ x. is_le (R (key x) k) ≡ true) (λ x. is_le (R (key x) k) ≡ false) (drop first xs) count →
      count ≤ length (drop first xs) →
      take count (drop first xs) ≡ filter (λ x. is_eq (R (key x) k)) xs
  group_is xs first count low starts counts high =
      sym (ap (filter is_at) (sym (take-append-drop first xs))
      ∙ filter-append is_at (take first xs) (drop first xs)
      ∙ ap (λ ys. ys ++ filter is_at (drop first xs)) (filter_none is_at (take first xs) front)
      ∙ ap (filter is_at) (sym (take-append-drop count (drop first xs)))
      ∙ filter-append is_at (take count (drop first xs)) (drop count (drop first xs))
      ∙ ap (λ ys. ys ++ filter is_at (drop count (drop first xs))) (filter_all is_at (take count (drop first xs)) mid)
      ∙ ap (λ ys. take count (drop first xs) ++ ys) (filter_none is_at (drop count (drop first xs)) back)
      ∙ append-nil (take count (drop first xs)))
    where
      front : All (λ x. is_at x ≡ false) (take first xs)
      front i d below =
          let len = length-take first xs in
          let small : i < first = omega (arith, below, len) in
          rw (get_or-take first xs i d small)
          (before_is_not (R (key (get_or xs i d)) k) (starts.0 i d (omega arith) small))

      mid : All (λ x. is_at x ≡ true) (take count (drop first xs))
      mid i d below =
          let len = length-take count (drop first xs) in
          let size = length-drop first xs in
          let small : i < count = omega (arith, below, len) in
          rw (get_or-take count (drop first xs) i d small)
          (between_is (R (key (get_or (drop first xs) i d)) k)
          (subst (λ x. is_lt (R (key x) k) ≡ false) (sym (get_or-drop first xs i d))
          (starts.1 (first + i) d (omega arith) (omega (arith, below, len, size, low))))
          (counts.0 i d (omega arith) small))

      back : All (λ x. is_at x ≡ false) (drop count (drop first xs))
      back i d below =
          let size = length-drop count (drop first xs) in
          rw (get_or-drop count (drop first xs) i d)
          (after_is_not (R (key (get_or (drop first xs) (count + i) d)) k)
          (counts.1 (count + i) d (omega arith) (omega (arith, below, size, high))))

-- the order of the names of keys
abbrev cmp : KeyName → KeyName → Ordering
cmp = order.cmp

module _ {X : Type 0} (key : X → KeyName) (k : KeyName) where
  pub starts_parted : (all : List X) → IsSortedByKey key cmp all → IsPartitionedBy (λ x. is_lt (cmp (key x) k)) all
  starts_parted = first_parted total-law key k

  whole : (all : List X) (first : ℕ) → take (length all - first) (drop first all) ≡ drop first all
  whole all first =
      take_all (length all - first) (drop first all) (let size = length-drop first all in omega (arith, size))

  pub after_parted : (all : List X) (first : ℕ) → IsSortedByKey key cmp all →
      IsPartitionedBy (λ x. is_le (cmp (key x) k)) (take (length all - first) (drop first all))
  after_parted all first sorted = rw (whole all first) (count_parted total-law key k all first sorted)

  -- the group of the name k lies between two partition points: it begins at `first` and has `count` elements
  pub named : (all : List X) (first count : ℕ) → first ≤ length all →
      IsPartitionPoint (λ x. is_lt (cmp (key x) k) ≡ true) (λ x. is_lt (cmp (key x) k) ≡ false) all first →
      IsPartitionPoint (λ x. is_le (cmp (key x) k) ≡ true) (λ x. is_le (cmp (key x) k) ≡ false)
      (take (length all - first) (drop first all)) count →
      count ≤ length (take (length all - first) (drop first all)) →
      take count (take (length all - first) (drop first all)) ≡ filter (λ x. names.eq (key x) k) all
  named all first count low starts counts high =
      rw (whole all first)
      (group_is total-law key k all first count low starts
      (subst (λ (xs : List X). IsPartitionPoint (λ x. is_le (cmp (key x) k) ≡ true)
      (λ x. is_le (cmp (key x) k) ≡ false) xs count) (whole all first) counts)
      (subst (λ (xs : List X). count ≤ length xs) (whole all first) high)
      ∙ filter_agree (λ x. is_eq (cmp (key x) k)) (λ x. names.eq (key x) k) (λ x. sym (matches_eq-law (key x) k)) all)

module _ {X : Type 0} (key : X → KeyName) where
  ties_are : (a b : Ordering) → b ≡ ordering_reverse a → (not (is_lt a) && not (is_lt b)) ≡ is_eq b
  ties_are Less b e = rw e refl
  ties_are Equal b e = rw e refl
  ties_are Greater b e = rw e refl

  -- a stable sort leaves the elements with the same name in their order
  pub group_stays : (x : X) (xs ys : List X) →
      filter (ties (λ a b. is_lt (cmp (key a) (key b))) x) ys
      ≡ filter (ties (λ a b. is_lt (cmp (key a) (key b))) x) xs →
      filter (λ y. names.eq (key y) (key x)) ys ≡ filter (λ y. names.eq (key y) (key x)) xs
  group_stays x xs ys stable = sym (tied ys) ∙ stable ∙ tied xs
    where
      tied : (zs : List X) → filter (ties (λ a b. is_lt (cmp (key a) (key b))) x) zs
          ≡ filter (λ y. names.eq (key y) (key x)) zs
      tied zs = filter_agree (ties (λ a b. is_lt (cmp (key a) (key b))) x)
          (λ y. names.eq (key y) (key x))
          (λ y. ties_are (cmp (key x) (key y)) (cmp (key y) (key x)) (total-law.antisymm (key y) (key x))
          ∙ sym (matches_eq-law (key y) (key x))) zs
