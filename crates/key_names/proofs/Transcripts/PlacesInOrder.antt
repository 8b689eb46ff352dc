-- If PlacesConform holds for marks that are sorted by stamp, then the marks' places count up from 0.
use Rattle.std.proofs.Common.{ℕ, zero, suc, ◌+◌, ◌≡◌, ◌<◌, ◌≤◌, Bool, true, false, cond, List, [], ◌∷◌, length, refl, sym, subst, ap, ◌∙◌, arith}
use Rattle.std.specs.Prelude.{count_by, ◌==◌, IsPermutation}
use Rattle.std.specs.List.{AllByRecursion, range_with_len}
use Rattle.std.proofs.lemmas.Bool.Decides.{nat_tests}
use Rattle.std.proofs.lemmas.List.Elements.{All-from_recursion, recursion_from_All}
use Rattle.std.proofs.lemmas.List.Sorted.{All-permutation, sum_by-IsPermutation, length_permutation}
use Rattle.key_names.specs.declared.names.Mark.{Mark}
use Rattle.key_names.specs.Transcripts.PlacesInOrder.{InOrder, ByStamp, PlacesCountUp, PlacesInAnyOrder}
use Rattle.key_names.proofs.Lists.Each.{each_weaker, each_both}
use Rattle.key_names.proofs.Lists.MarkLists.{at_place, count_more, Above, in_order_conform}

abbrev hit : Bool → ℕ
hit b = cond b 1 0

-- if P holds for the n numbers from i on, it holds for each number p among them
in_range : (P : ℕ → Type 0) (i n p : ℕ) → AllByRecursion P (range_with_len i n) → i ≤ p → p < i + n → P p
in_range P i zero p all from low = absurd (omega arith)
in_range P i (suc n) p all from low = go (i == p) refl (λ e. in_range P (i + 1) n p all.1 (omega (arith, e)) (omega arith))
  where
    go : (b : Bool) → (i == p) ≡ b → (i + 1 ≤ p → P p) → P p
    go true is later = let same : i ≡ p = grind (arith, nat_tests) in subst P same all.0
    go false is later = later (let other : (i == p) ≡ false = is in grind (arith, nat_tests))

module _ (i : ℕ) where
  abbrev Elsewhere : Mark → Type 0
  Elsewhere m = (m.place == i) ≡ false

  none_here : (ms : List Mark) → AllByRecursion Elsewhere ms → count_by (at_place i) ms ≡ 0
  none_here [] all = refl
  none_here (m ∷ ms) all = count_more i m ms ∙ (λ j. hit (all.0 j) + none_here ms all.1 j)

  here_none : (ms : List Mark) → count_by (at_place i) ms ≡ 0 → AllByRecursion Elsewhere ms
  here_none [] none = tt
  here_none (m ∷ ms) none = go (m.place == i) refl (here_none ms)
    where
      sum : hit (m.place == i) + count_by (at_place i) ms ≡ 0
      sum = sym (count_more i m ms) ∙ none

      go : (b : Bool) → (m.place == i) ≡ b → (count_by (at_place i) ms ≡ 0 → AllByRecursion Elsewhere ms) →
          AllByRecursion Elsewhere (m ∷ ms)
      go true is rest =
          let one : hit (m.place == i) ≡ 1 = ap hit is in absurd (let s = sum in omega (arith, one))
      go false is rest =
          let no : hit (m.place == i) ≡ 0 = ap hit is in
          (is, rest (let s = sum in omega (arith, no)))

-- the marks have the places from i on, each place once, and a mark at a higher place has a higher stamp
record ConformFrom (i : ℕ) (ms : List Mark) : Type 0 where
  once : (p : ℕ) → i ≤ p → p < i + length ms → count_by (at_place p) ms ≡ 1
  from : AllByRecursion (λ m. i ≤ m.place) ms
  rise : AllByRecursion (λ a. AllByRecursion (Above a) ms) ms

module _ (i : ℕ) (m : Mark) (ms : List Mark) (s : ConformFrom i (m ∷ ms)) (sorted : ByStamp (m ∷ ms)) where
  once_here : hit (m.place == i) + count_by (at_place i) ms ≡ 1
  once_here = sym (count_more i m ms) ∙ s.once i (omega arith) (omega arith)

  -- if the first mark `m` has place i, no later mark has a lower place than `m`
  following : m.place ≡ i → AllByRecursion (λ n. n.place < m.place → ⊥) ms
  following is = each_weaker (λ n. i ≤ n.place) (λ n. n.place < m.place → ⊥) ms (λ n le lt. omega arith) s.from.1

  first : m.place ≡ i
  first = go (m.place == i) refl
    where
      go : (b : Bool) → (m.place == i) ≡ b → m.place ≡ i
      go true is = grind (arith, nat_tests)
      go false is =
          let above : i < m.place = (let le : i ≤ m.place = s.from.0 in grind (arith, nat_tests)) in
          let rises : AllByRecursion (λ a. Above a m) ms =
          each_weaker (λ a. AllByRecursion (Above a) (m ∷ ms)) (λ a. Above a m) ms (λ a all. all.0) s.rise.1 in
          let both : AllByRecursion (λ a. Above a m × (m.stamp ≤ a.stamp)) ms =
          each_both (λ a. Above a m) (λ a. m.stamp ≤ a.stamp) ms rises sorted.0 in
          let none : count_by (at_place i) ms ≡ 0 =
          none_here i ms (each_weaker (λ a. Above a m × (m.stamp ≤ a.stamp)) (Elsewhere i) ms
          (λ a h. elsewhere a above h.0 h.1) both) in
          let no : hit (m.place == i) ≡ 0 = ap hit is in
          absurd (let sum = once_here in omega (arith, no, none))
        where
          elsewhere : (a : Mark) → i < m.place → Above a m → m.stamp ≤ a.stamp → Elsewhere i a
          elsewhere a low rise le = at (a.place == i) refl
            where
              at : (b : Bool) → (a.place == i) ≡ b → (a.place == i) ≡ false
              at true is = absurd (let here : a.place ≡ i = grind (arith, nat_tests) in
                  let lt : a.stamp < m.stamp = rise (omega arith) in omega arith)
              at false is = is

  others : AllByRecursion (Elsewhere i) ms
  others = here_none i ms (let one : hit (m.place == i) ≡ 1 = at first in let sum = once_here in omega (arith, one))
    where
      at : m.place ≡ i → hit (m.place == i) ≡ 1
      at is = let same : (m.place == i) ≡ true = grind (arith, nat_tests) in ap hit same

  after : AllByRecursion (λ n. suc i ≤ n.place) ms
  after = each_weaker (λ n. (i ≤ n.place) × Elsewhere i n) (λ n. suc i ≤ n.place) ms (λ n h. past n h.0 h.1)
      (each_both (λ n. i ≤ n.place) (Elsewhere i) ms s.from.1 others)
    where
      past : (n : Mark) → i ≤ n.place → Elsewhere i n → suc i ≤ n.place
      past n le other = let no : (n.place == i) ≡ false = other in grind (arith, nat_tests)

  strict : AllByRecursion (λ n. m.stamp < n.stamp) ms
  strict = each_weaker (λ n. Above m n × (suc i ≤ n.place)) (λ n. m.stamp < n.stamp) ms
      (λ n h. h.0 (let at : m.place ≡ i = first in let le : suc i ≤ n.place = h.1 in omega arith))
      (each_both (Above m) (λ n. suc i ≤ n.place) ms s.rise.0.1 after)

  rest : ConformFrom (suc i) ms
  rest = record {
    once = λ p from low.
        (let at : m.place ≡ i = first in
        let other : (m.place == p) ≡ false = grind (arith, nat_tests) in
        let no : hit (m.place == p) ≡ 0 = ap hit other in
        let sum : hit (m.place == p) + count_by (at_place p) ms ≡ 1 =
        sym (count_more p m ms) ∙ s.once p (omega arith) (omega arith) in omega (arith, no));
    from = after;
    rise = each_weaker (λ a. AllByRecursion (Above a) (m ∷ ms)) (λ a. AllByRecursion (Above a) ms) ms (λ a all. all.1)
        s.rise.1;
  }

orders : (i : ℕ) (ms : List Mark) → ConformFrom i ms → ByStamp ms → InOrder i ms
orders i [] s sorted = tt
orders i (m ∷ ms) s sorted =
    (first i m ms s sorted, strict i m ms s sorted, orders (suc i) ms (rest i m ms s sorted) sorted.1)

each_any : (ms : List Mark) → AllByRecursion (λ m. 0 ≤ m.place) ms
each_any [] = tt
each_any (m ∷ ms) = (omega arith, each_any ms)

pub places_count_up : PlacesCountUp
places_count_up ms = (
  in_order_conform ms,
  λ sorted conform. orders 0 ms (record {
    once = λ p from low.
        in_range (λ place. count_by (λ mark. mark.place == place) ms ≡ 1) 0 (length ms) p conform.once from low;
    from = each_any ms;
    rise = conform.rise;
  }) sorted,
)

module _ (ms ns : List Mark) (same : IsPermutation ms ns) where
  any_order : (P : Mark → Type 0) → AllByRecursion P ms → AllByRecursion P ns
  any_order P all = recursion_from_All P ns (All-permutation P ms ns same (All-from_recursion P ms all))

pub places_in_any_order : PlacesInAnyOrder
places_in_any_order ms ns same conform = record {
  once = each_weaker (λ place. count_by (λ mark. mark.place == place) ms ≡ 1)
      (λ place. count_by (λ mark. mark.place == place) ns ≡ 1) (range_with_len 0 (length ns))
      (λ place is. sum_by-IsPermutation (λ mark. cond (mark.place == place) 1 0) ms ns same ∙ is)
      (subst (λ (n : ℕ). AllByRecursion (λ place. count_by (λ mark. mark.place == place) ms ≡ 1) (range_with_len 0 n))
      (sym (length_permutation ms ns same)) conform.once);
  rise = any_order ms ns same (λ a. AllByRecursion (Above a) ns)
      (each_weaker (λ a. AllByRecursion (Above a) ms) (λ a. AllByRecursion (Above a) ns) ms
      (λ a all. any_order ms ns same (Above a) all) conform.rise);
}
