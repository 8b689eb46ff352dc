-- A caller's order begins with the steps of its ancestors (its start), and its own steps follow. To check a look, the
-- greatest generation seen in the earlier steps suffices.
use Rattle.std.proofs.Common.{◌≡◌, ◌⊎◌, inl, inr, ℕ, zero, suc, ◌<◌, List, [], ◌∷◌, ◌++◌, length, refl, sym, subst, ap, ◌∙◌, arith, length-append}
use Rattle.std.specs.List.{fold}
use Rattle.std.proofs.lemmas.List.Sums.{fold-append}
use mathlib.Core.Logic.{dite}
use native.Mathlib.Decide.{ℕ_discrete}
use Rattle.key_names.specs.declared.names.Step.{Step}
use Rattle.key_names.specs.Lanes.Book.{list_at}
use Rattle.key_names.specs.Callers.Calls.{Call}
use Rattle.key_names.specs.Callers.Effects.{Effect}
use Rattle.key_names.specs.Callers.History.{ancestors_steps, inherited_steps, orders_from, calls_steps, through_visit}
use Rattle.key_names.specs.Callers.History.{seen, seen_after, LooksConform}
use Rattle.key_names.specs.Callers.CallerOrders.{start_of, OrderIsStartAndOwn, StartIsAFront, LooksFrom, LooksAreCounted, LooksInParts}

-- A list of lists that grows at the end

pub list_front : {X : Type 0} (lists : List (List X)) (x : List X) (c : ℕ) → c < length lists →
    list_at (lists ++ x ∷ []) c ≡ list_at lists c
list_front [] x c low = absurd (omega arith)
list_front (l ∷ lists) x zero low = refl
list_front (l ∷ lists) x (suc c) low = list_front lists x c (omega arith)

pub list_last : {X : Type 0} (lists : List (List X)) (x : List X) → list_at (lists ++ x ∷ []) (length lists) ≡ x
list_last [] x = refl
list_last (l ∷ lists) x = list_last lists x

pub long_ancestors : (callers : List (List Call)) (n : ℕ) → length (ancestors_steps callers n) ≡ n
long_ancestors callers zero = refl
long_ancestors callers (suc n) =
    let rest : length (ancestors_steps callers n) ≡ n = long_ancestors callers n in
    let x : List Step = start_of callers n in
    omega (arith, length-append (ancestors_steps callers n) (x ∷ []))

-- The steps with which a caller's order starts (`start_of`)

pub below : (c n : ℕ) → c < suc n → (c < n) ⊎ (c ≡ n)
below c n low = dite (ℕ_discrete c n) (λ e. inr e) (λ ne. inl (omega arith))

start_at : (callers : List (List Call)) (n c : ℕ) → c < n → list_at (ancestors_steps callers n) c ≡ start_of callers c
start_at callers zero c low = absurd (omega arith)
start_at callers (suc n) c low =
    let earlier : List (List Step) = ancestors_steps callers n in
    let long : length earlier ≡ n = long_ancestors callers n in
    elim (below c n low) [
      | inl less ↦ list_front earlier (start_of callers n) c (omega arith) ∙ start_at callers n c less
      | inr same ↦ ap (list_at (earlier ++ start_of callers n ∷ [])) (same ∙ sym long)
          ∙ list_last earlier (start_of callers n) ∙ ap (start_of callers) (sym same)
    ]

order_at : (ancestors : List (List Step)) (callers : List (List Call)) (c : ℕ) → c < length callers →
    list_at (orders_from ancestors callers) c ≡ list_at ancestors c ++ calls_steps (list_at callers c)
order_at ancestors [] c low = absurd (omega arith)
order_at [] (calls ∷ rest) zero low = refl
order_at [] (calls ∷ rest) (suc c) low = order_at [] rest c (omega arith)
order_at (before ∷ ancestors) (calls ∷ rest) zero low = refl
order_at (before ∷ ancestors) (calls ∷ rest) (suc c) low = order_at ancestors rest c (omega arith)

pub order_is_start_and_own : OrderIsStartAndOwn
order_is_start_and_own callers c low =
    order_at (ancestors_steps callers (length callers)) callers c low
    ∙ ap (λ (start : List Step). start ++ calls_steps (list_at callers c)) (start_at callers (length callers) c low)

pub start_is_a_front : StartIsAFront
start_is_a_front callers c parent is low =
    ap (inherited_steps (ancestors_steps callers c)) is
    ∙ ap (λ (start : List Step). start ++ calls_steps parent.fork.before ++ through_visit parent.fork.line.steps)
    (start_at callers c parent.caller low)

-- Looks are checked with the greatest generation seen, in place of all earlier steps

looks_to_number : (reseeds : ℕ) (before effects : List Effect) → LooksConform reseeds before effects →
    LooksFrom reseeds (seen before) effects
looks_to_number reseeds before [] h = tt
looks_to_number reseeds before (d ∷ effects) h = (
  h.0,
  subst (λ (n : ℕ). LooksFrom reseeds n effects) (fold-append seen_after 0 before (d ∷ []))
      (looks_to_number reseeds (before ++ d ∷ []) effects h.1),
)

looks_from_number : (reseeds : ℕ) (before effects : List Effect) → LooksFrom reseeds (seen before) effects →
    LooksConform reseeds before effects
looks_from_number reseeds before [] h = tt
looks_from_number reseeds before (d ∷ effects) h = (
  h.0,
  looks_from_number reseeds (before ++ d ∷ []) effects
      (subst (λ (n : ℕ). LooksFrom reseeds n effects) (sym (fold-append seen_after 0 before (d ∷ []))) h.1),
)

pub looks_are_counted : LooksAreCounted
looks_are_counted reseeds before effects =
    (looks_to_number reseeds before effects, looks_from_number reseeds before effects)

apart : (reseeds seen : ℕ) (front back : List Effect) → LooksFrom reseeds seen (front ++ back) →
    LooksFrom reseeds seen front × LooksFrom reseeds (fold seen_after seen front) back
apart reseeds seen [] back h = (tt, h)
apart reseeds seen (d ∷ front) back h =
    let rest : LooksFrom reseeds (seen_after seen d) front
    × LooksFrom reseeds (fold seen_after (seen_after seen d) front) back = apart reseeds (seen_after seen d) front back h.1 in
    ((h.0, rest.0), rest.1)

together : (reseeds seen : ℕ) (front back : List Effect) → LooksFrom reseeds seen front →
    LooksFrom reseeds (fold seen_after seen front) back → LooksFrom reseeds seen (front ++ back)
together reseeds seen [] back f b = b
together reseeds seen (d ∷ front) back f b = (f.0, together reseeds (seen_after seen d) front back f.1 b)

pub looks_in_parts : LooksInParts
looks_in_parts reseeds seen front back = (apart reseeds seen front back, together reseeds seen front back)
