-- A shuffle of different items: different lists of draws lead to different orders, and each order comes from some list
-- of draws.
use Rattle.std.proofs.Common.{◌≡◌, ◌<◌, ◌≤◌, ◌-◌, ℕ, zero, suc, List, [], ◌∷◌, length, get_or, refl, ap, sym, ◌∙◌, subst, arith, ⊎_elim}
use Rattle.std.specs.List.{swap}
use Rattle.std.specs.List.Sorted.{IsPermutation}
use Rattle.std.proofs.lemmas.Bool.{cases_eq, cases_lt}
use Rattle.std.proofs.lemmas.List.{ext_get_or}
use Rattle.std.proofs.lemmas.List.Edits.{length-swap}
use Rattle.std.proofs.lemmas.List.Elements.{Contains-get_or}
use Rattle.std.proofs.lemmas.List.Sorted.{Contains-permutation, IsPermutation-keeps, IsPermutation-sym, length_permutation}
use Rattle.std.proofs.lemmas.Grind.{get_or_default_zero}
use Rattle.draw_below.specs.Orders.{AreDifferent, AreDraws, EachOrderHasItsDraws, Makes, exchanged}
use Rattle.draw_below.proofs.Moved.{moved, moved_first, moved_other, moved_back, moved_below, get_moved}

different_swap : (xs : List ℕ) (a b : ℕ) → a < length xs → b < length xs → AreDifferent xs → AreDifferent (swap xs a b)
different_swap xs a b p q apart i j h k same =
    let n = length-swap xs a b in
    let here = moved_below a b i (length xs) p q (omega arith) in
    let there = moved_below a b j (length xs) p q (omega arith) in
    let one = apart (moved a b i) (moved a b j) here there
    (sym (get_moved xs a b i p q) ∙ same ∙ get_moved xs a b j p q) in
    sym (moved_back a b i) ∙ ap (moved a b) one ∙ moved_back a b j

-- the exchanges that the draws `ds` make from the place `last` down do not change the items at places above `last`
untouched : (last : ℕ) (ds xs : List ℕ) (k : ℕ) → last < k → k < length xs → AreDraws last ds →
    get_or (exchanged last ds xs) k 0 ≡ get_or xs k 0
untouched last [] xs k above low drawn = refl
untouched last (d ∷ ds) xs k above low drawn =
    let n = length-swap xs last d in
    untouched (last - 1) ds (swap xs last d) k (omega arith) (omega arith) drawn.1
    ∙ get_moved xs last d k (omega arith) (omega (arith, drawn.0))
    ∙ ap (λ m. get_or xs m 0) (moved_other last d k (omega arith) (omega (arith, drawn.0)))

-- after the exchanges, the item at `last` is the item that was at the first drawn place
last_item : (last d : ℕ) (ds xs : List ℕ) → 0 < last → last < length xs → AreDraws last (d ∷ ds) →
    get_or (exchanged last (d ∷ ds) xs) last 0 ≡ get_or xs d 0
last_item last d ds xs some low drawn =
    let n = length-swap xs last d in
    untouched (last - 1) ds (swap xs last d) last (omega arith) (omega arith) drawn.1
    ∙ get_moved xs last d last low (omega (arith, drawn.0))
    ∙ ap (λ m. get_or xs m 0) (moved_first last d)

-- if all items of `xs` are different, and the draws `ds` turn `xs` into the same order as the draws `es`, then `ds` and
-- `es` are equal
one_list : (last : ℕ) (xs ds es : List ℕ) → AreDifferent xs → last < length xs → length ds ≤ last →
    length ds ≡ length es → AreDraws last ds → AreDraws last es → exchanged last ds xs ≡ exchanged last es xs → ds ≡ es
one_list last xs [] [] apart low short n p q same = refl
one_list last xs [] (e ∷ es) apart low short n p q same = absurd (omega arith)
one_list last xs (d ∷ ds) [] apart low short n p q same = absurd (omega arith)
one_list last xs (d ∷ ds) (e ∷ es) apart low short n p q same =
    let some : 0 < last = omega arith in
    let d_low : d < length xs = omega (arith, p.0) in
    let first : d ≡ e =
    apart d e d_low (omega (arith, q.0))
    (sym (last_item last d ds xs some low p) ∙ ap (λ l. get_or l last 0) same ∙ last_item last e es xs some low q) in
    let again : exchanged (last - 1) ds (swap xs last d) ≡ exchanged (last - 1) es (swap xs last d) =
    same ∙ ap (λ x. exchanged (last - 1) es (swap xs last x)) (sym first) in
    let n' = length-swap xs last d in
    ap (λ x. x ∷ ds) first
    ∙ ap (λ l. e ∷ l)
    (one_list (last - 1) (swap xs last d) ds es (different_swap xs last d low d_low apart) (omega arith) (omega arith)
    (omega arith) p.1 q.1 again)

-- each item of `ys` is in `xs`
abbrev Covers : List ℕ → List ℕ → Type 0
Covers xs ys = (k : ℕ) → k < length ys → (p : ℕ) × (p < length xs) × (get_or xs p 0 ≡ get_or ys k 0)

-- `xs` and `ys` have the same items at the places above `last`
abbrev AgreeAfter : ℕ → List ℕ → List ℕ → Type 0
AgreeAfter last xs ys = (k : ℕ) → last < k → k < length xs → get_or xs k 0 ≡ get_or ys k 0

-- suppose that `xs` and `ys` have the same length, that all items of `ys` are different, and that `xs` has all of them.
-- If both have the same items above `last`, the item of `ys` at `last` is in `xs`, at `last` or at a lower place
place_of : (last : ℕ) (xs ys : List ℕ) → last < length xs → length xs ≡ length ys → AreDifferent ys → Covers xs ys →
    AgreeAfter last xs ys → (p : ℕ) × (p ≤ last) × (get_or xs p 0 ≡ get_or ys last 0)
place_of last xs ys low n apart covers agree =
    let found = covers last (omega arith) in
    let near : found.0 < length xs = found.1 in
    ⊎_elim
    (λ following.
    let same = apart found.0 last (omega arith) (omega arith) (sym (agree found.0 following near) ∙ found.2) in
    absurd (omega arith))
    (λ h. (found.0, h, found.2)) (cases_lt last found.0)

some_draws : (last : ℕ) (xs ys : List ℕ) → last < length xs → length xs ≡ length ys → AreDifferent ys →
    Covers xs ys → AgreeAfter last xs ys →
    (ds : List ℕ) × (length ds ≡ last) × AreDraws last ds × (exchanged last ds xs ≡ ys)
some_draws zero xs ys low n apart covers agree =
    let top = place_of 0 xs ys low n apart covers agree in
    let none : top.0 ≡ 0 = omega (arith, top.1) in
    let first : get_or xs 0 0 ≡ get_or ys 0 0 = ap (λ m. get_or xs m 0) (sym none) ∙ top.2 in (
      [],
      refl,
      tt,
      ext_get_or 0 xs ys n
          (λ i h. ⊎_elim (λ more. agree i more h)
          (λ least. let is : i ≡ 0 = omega arith in
          ap (λ m. get_or xs m 0) is ∙ first ∙ ap (λ m. get_or ys m 0) (sym is))
          (cases_lt 0 i)),
    )
some_draws (suc last) xs ys low n apart covers agree =
    let top = place_of (suc last) xs ys low n apart covers agree in
    let p = top.0 in
    let near : p < length xs = omega (arith, top.1) in
    let swapped : List ℕ = swap xs (suc last) p in
    let m = length-swap xs (suc last) p in
    let rest =
    some_draws last swapped ys (omega arith) (omega arith) apart
    (λ k h. let found = covers k h in
    let there : found.0 < length xs = found.1 in (
      moved (suc last) p found.0,
      subst (λ z. moved (suc last) p found.0 < z) (sym m)
          (moved_below (suc last) p found.0 (length xs) low near there),
      get_moved xs (suc last) p (moved (suc last) p found.0) low near
          ∙ ap (λ z. get_or xs z 0) (moved_back (suc last) p found.0) ∙ found.2,
    ))
    (λ k above h. get_moved xs (suc last) p k low near
    ∙ ⊎_elim
    (λ e. ap (λ z. get_or xs (moved (suc last) p z) 0) e ∙ ap (λ z. get_or xs z 0) (moved_first (suc last) p)
    ∙ top.2 ∙ ap (λ z. get_or ys z 0) (sym e))
    (λ other. ap (λ z. get_or xs z 0) (moved_other (suc last) p k other (omega (arith, top.1)))
    ∙ agree k (omega arith) (omega arith)) (cases_eq k (suc last))) in
    let before : last ≡ suc last - 1 = omega arith in (
      p ∷ rest.0,
      omega (arith, rest.1),
      (top.1, subst (λ z. AreDraws z rest.0) before rest.2),
      subst (λ z. exchanged z rest.0 swapped ≡ ys) before rest.3,
    )

-- if `xs` is not empty, and all its items are different, some draws turn `xs` into its order `ys`
ends : (xs ys : List ℕ) → 0 < length xs → AreDifferent xs → IsPermutation xs ys →
    (ds : List ℕ) × Makes xs ds ys
ends xs ys some apart order =
    let n = length_permutation xs ys order in
    let found =
    some_draws (length xs - 1) xs ys (omega arith) (sym n)
    (IsPermutation-keeps xs AreDifferent apart (λ l i j p q h. different_swap l i j p q h) ys order)
    (λ k h. let found = Contains-permutation ys xs (get_or ys k 0) (IsPermutation-sym xs ys order)
    (Contains-get_or ys k 0 h) in
    let near : found.0 < length xs = found.1 in
    (found.0, near, sym (get_or_default_zero xs found.0 (get_or ys k 0) near) ∙ found.2))
    (λ k above h. absurd (omega arith)) in
    (found.0, (found.1, found.2, found.3))

no_items : (xs : List ℕ) → length xs ≡ 0 → xs ≡ []
no_items [] n = refl
no_items (x ∷ xs) n = absurd (omega arith)

pub each_order_has_its_draws : EachOrderHasItsDraws
each_order_has_its_draws [] ys apart order =
    ([], (refl, tt, sym (no_items ys (length_permutation [] ys order))), λ others made. no_items others made.0)
each_order_has_its_draws (x ∷ xs) ys apart order =
    let items : List ℕ = x ∷ xs in
    let found = ends items ys (omega arith) apart order in (
      found.0,
      found.1,
      λ others made. one_list (length items - 1) items others found.0 apart (omega arith) (omega (arith, made.0))
          (made.0 ∙ sym found.1.0) made.1 found.1.1 (made.2 ∙ sym found.1.2),
    )
