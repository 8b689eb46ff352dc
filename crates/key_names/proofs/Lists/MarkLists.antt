-- If the marks of a lane are in order (places count up, and stamps rise), then PlacesConform holds for them.
use Rattle.std.proofs.Common.{ℕ, zero, suc, ◌+◌, ◌≡◌, ◌<◌, ◌≤◌, Bool, true, false, cond, List, [], ◌∷◌, ◌++◌, length, refl, ◌∙◌, arith}
use Rattle.std.specs.Prelude.{count_by, ◌==◌}
use Rattle.std.specs.List.{AllByRecursion, range_with_len}
use Rattle.std.proofs.lemmas.List.Sums.{sum_by-cons}
use Rattle.std.proofs.lemmas.Bool.Decides.{nat_tests}
use Rattle.key_names.specs.declared.names.Mark.{Mark}
use Rattle.key_names.specs.Transcripts.IsTranscript.{PlacesConform}
use Rattle.key_names.specs.Transcripts.PlacesInOrder.{InOrder}
use Rattle.key_names.proofs.Lists.Each.{each_more, each_weaker}

abbrev pub at_place : ℕ → Mark → Bool
at_place p m = m.place == p

pub count_more : (p : ℕ) (m : Mark) (ms : List Mark) →
    count_by (at_place p) (m ∷ ms) ≡ cond (m.place == p) 1 0 + count_by (at_place p) ms
count_more p m ms = sum_by-cons (λ n. cond (at_place p n) 1 0) m ms

-- if the marks `ms` are in order from place `i` on, none of them has a place `p` below `i`
none_below : (i p : ℕ) (ms : List Mark) → InOrder i ms → p < i → count_by (at_place p) ms ≡ 0
none_below i p [] order below = refl
none_below i p (m ∷ ms) order below =
    let rest : count_by (at_place p) ms ≡ 0 = none_below (suc i) p ms order.2 (omega arith) in
    let other : (m.place == p) ≡ false = (let here : m.place ≡ i = order.0 in grind (arith, nat_tests)) in
    count_more p m ms ∙ rw (other, rest) refl

-- if marks are in order from place `i` on, each place from `i` to the last occurs once
once_at : (i p : ℕ) (ms : List Mark) → InOrder i ms → i ≤ p → p < i + length ms → count_by (at_place p) ms ≡ 1
once_at i p [] order from below = absurd (omega arith)
once_at i p (m ∷ ms) order from below =
    by_test (λ at. once_at (suc i) p ms order.2 at (omega arith)) (m.place == p) refl
  where
    by_test : (suc i ≤ p → count_by (at_place p) ms ≡ 1) → (b : Bool) → (m.place == p) ≡ b →
        count_by (at_place p) (m ∷ ms) ≡ 1
    by_test later true e =
        let here : m.place ≡ i = order.0 in let at : p < suc i = grind (arith, nat_tests) in
        let rest : count_by (at_place p) ms ≡ 0 = none_below (suc i) p ms order.2 at in
        count_more p m ms ∙ rw (e, rest) refl
    by_test later false e =
        let here : m.place ≡ i = order.0 in let at : suc i ≤ p = grind (arith, nat_tests) in
        let rest : count_by (at_place p) ms ≡ 1 = later at in count_more p m ms ∙ rw (e, rest) refl

pub each_once : (i n : ℕ) (ms : List Mark) → ((p : ℕ) → i ≤ p → p < i + n → count_by (at_place p) ms ≡ 1) →
    AllByRecursion (λ p. count_by (at_place p) ms ≡ 1) (range_with_len i n)
each_once i zero ms once = tt
each_once i (suc n) ms once =
    (once i (omega arith) (omega arith), each_once (i + 1) n ms (λ p from below. once p (omega arith) (omega arith)))

abbrev pub Above : Mark → Mark → Type 0
Above a b = a.place < b.place → a.stamp < b.stamp

-- if marks are in order from place `i` on, each place is at least `i`
each_from : (i : ℕ) (ms : List Mark) → InOrder i ms → AllByRecursion (λ m. i ≤ m.place) ms
each_from i [] order = tt
each_from i (m ∷ ms) order =
    let here : m.place ≡ i = order.0 in (
      omega arith,
      each_weaker (λ n. suc i ≤ n.place) (λ n. i ≤ n.place) ms (λ n h. omega arith)
          (each_from (suc i) ms order.2),
    )

with_first : (m : Mark) (ms others : List Mark) → AllByRecursion (λ a. m.place ≤ a.place) others →
    AllByRecursion (λ a. AllByRecursion (Above a) ms) others →
    AllByRecursion (λ a. AllByRecursion (Above a) (m ∷ ms)) others
with_first m ms [] from all = tt
with_first m ms (a ∷ others) from all =
    let above : Above a m = (λ h. let le = from.0 in absurd (omega arith)) in
    ((above, all.0), with_first m ms others from.1 all.1)

rise_from : (i : ℕ) (ms : List Mark) → InOrder i ms → AllByRecursion (λ a. AllByRecursion (Above a) ms) ms
rise_from i [] order = tt
rise_from i (m ∷ ms) order =
    let here : m.place ≡ i = order.0 in
    let self : Above m m = (λ h. absurd (omega arith)) in
    let following : AllByRecursion (Above m) ms = each_weaker (λ n. m.stamp < n.stamp) (Above m) ms (λ n h lt. h) order.1
    in
    let from : AllByRecursion (λ a. m.place ≤ a.place) ms =
    each_weaker (λ a. suc i ≤ a.place) (λ a. m.place ≤ a.place) ms (λ a h. omega arith) (each_from (suc i) ms order.2)
    in
    ((self, following), with_first m ms ms from (rise_from (suc i) ms order.2))

-- if marks are in order from place 0 on, PlacesConform holds for them
pub in_order_conform : (ms : List Mark) → InOrder 0 ms → PlacesConform ms
in_order_conform ms order = record {
  once = each_once 0 (length ms) ms (λ p from below. once_at 0 p ms order from below);
  rise = rise_from 0 ms order;
}

-- let `ms` be in order from place `i` on, and let the mark `m` have the next place and a stamp above all others. Then
-- `ms` with `m` appended is in order, too
pub in_order_more : (i : ℕ) (ms : List Mark) (m : Mark) → InOrder i ms → AllByRecursion (λ n. n.stamp < m.stamp) ms →
    m.place ≡ i + length ms → InOrder i (ms ++ m ∷ [])
in_order_more i [] m order below at = (omega arith, tt, tt)
in_order_more i (n ∷ ms) m order below at = (
  order.0,
  each_more (λ k. n.stamp < k.stamp) ms m order.1 below.0,
  in_order_more (suc i) ms m order.2 below.1 (omega arith),
)
