-- The steps that the acts at a point made are steps of their caller (`Part`).
use Rattle.std.proofs.Common.{◌≡◌, Bool, true, false, not, List, [], ◌∷◌, ◌++◌, refl, sym, ap, ◌∙◌, subst}
use Rattle.std.specs.Prelude.{MatchBool, ◌&&◌, ⊤, if◌then◌else◌}
use Rattle.std.specs.List.{AllByRecursion}
use Rattle.key_names.specs.declared.names.Step.{Step}
use Rattle.key_names.specs.declared.point.Point.{Point}
use Rattle.key_names.specs.declared.point.Point.TheVariants.{Start, Written, Serve, End}
use Rattle.key_names.specs.Kernel.Points.{is_same_point}
use Rattle.key_names.proofs.Points.{same_point}
use Rattle.lane_table.specs.declared.view.View.{View}
use Rattle.rng_core.specs.declared.setting.Setting.{Setting}
use Rattle.rng_core.specs.Acts.{Ask, ActOutcome, ActRan, ActsAt}
use Rattle.rng_core.specs.InsideMakes.{act_line, bound_acts}
use Rattle.rng_core.proofs.InsideCalls.{IsUndone}
use Rattle.caller_run.specs.Items.{Item, items_from, line_items, items_at_point}
use Rattle.caller_run.proofs.Orders.PartItems.{Part, part_nothing, part_then, part_went}

-- p and q are different points
abbrev pub Apart : Point → Point → Type 0
Apart p q = is_same_point p q ≡ false

-- in the outcomes `xs` of the acts `asks`, no act at point p is done
abbrev pub Untouched : Point → List Ask → List ActOutcome → Type 0
Untouched p [] xs = ⊤
Untouched p (a ∷ asks) [] = ⊤
Untouched p (a ∷ asks) (x ∷ xs) = MatchBool (is_same_point a.point p) (IsUndone x) ⊤ × Untouched p asks xs

pub all_untouched : (p : Point) (asks : List Ask) (xs : List ActOutcome) → AllByRecursion IsUndone xs →
    Untouched p asks xs
all_untouched p [] xs all = tt
all_untouched p (a ∷ asks) [] all = tt
all_untouched p (a ∷ asks) (x ∷ xs) all = (go (is_same_point a.point p), all_untouched p asks xs all.1)
  where
    go : (b : Bool) → MatchBool b (IsUndone x) ⊤
    go true = all.0
    go false = tt

-- whether two points are the same does not depend on their order
same_test : (p q : Point) → is_same_point p q ≡ is_same_point q p
same_test Start Start = refl
same_test Written Written = refl
same_test Serve Serve = refl
same_test End End = refl
same_test p q = refl

module _ (set : Setting) where
  -- the items (numbered steps) of the acts at point p; `xs` are the outcomes of the acts `asks`
  abbrev pub act_items : List Ask → List ActOutcome → Point → List Item
  act_items asks xs p = items_at_point (bound_acts set asks xs) p

  -- if no act at point p was done, the acts at p have no items
  pub untouched_items : (p : Point) (asks : List Ask) (xs : List ActOutcome) → Untouched p asks xs →
      act_items asks xs p ≡ []
  untouched_items p [] xs k = refl
  untouched_items p (a ∷ asks) [] k = refl
  untouched_items p (a ∷ asks) (x ∷ xs) k = go (is_same_point a.point p) k.0 (untouched_items p asks xs k.1)
    where
      go : (b : Bool) → MatchBool b (IsUndone x) ⊤ → act_items asks xs p ≡ [] →
          (if b then line_items (act_line set a x) ++ act_items asks xs p else act_items asks xs p) ≡ []
      go true h rest = ap (λ (l : List Step). items_from a.event 0 l ++ act_items asks xs p) h.empty ∙ rest
      go false h rest = rest

  -- if act `a` took the pass's view from v to w (`ActRan`), the pass made exactly the steps of the act's line
  act_part : (a : Ask) (v w : View) (y : ActOutcome) → ActRan set a v w y →
      Part set.caller v w (line_items (act_line set a y))
  act_part a v w y k =
      subst (λ (l : List Step). Part set.caller v w (items_from a.event 0 l)) (sym k.did.recorded.trace)
      (part_went set.caller a.event 0 v w k.did.made_steps k.did.recorded.went)

  module _ (point : Point) where
    -- suppose that the acts at `point` took the pass's view from v to w, and that none of them was done before. Then
    -- the pass made exactly the steps of these acts
    pub acts_part : (asks : List Ask) (v w : View) (xs ys : List ActOutcome) → ActsAt set point asks v w xs ys →
        Untouched point asks xs → Part set.caller v w (act_items asks ys point)
    acts_part [] v w [] [] k untouched = part_nothing set.caller v w k
    acts_part [] v w [] (y ∷ ys) k untouched = absurd k
    acts_part [] v w (x ∷ xs) ys k untouched = absurd k
    acts_part (a ∷ asks) v w [] ys k untouched = absurd k
    acts_part (a ∷ asks) v w (x ∷ xs) [] k untouched = absurd k
    acts_part (a ∷ asks) v w (x ∷ xs) (y ∷ ys) k untouched =
        go (is_same_point point a.point) (is_same_point a.point point) (same_test point a.point) k.1 untouched.0
        (acts_part asks k.0 w xs ys k.2 untouched.1)
      where
        go : (b c : Bool) → b ≡ c → MatchBool (b && not x.done) (ActRan set a v k.0 y) ((y ≡ x) × (k.0 ≡ v)) →
            MatchBool c (IsUndone x) ⊤ → Part set.caller k.0 w (act_items asks ys point) →
            Part set.caller v w (if c then line_items (act_line set a y) ++ act_items asks ys point
            else act_items asks ys point)
        go true true same h u rest =
            let ran : ActRan set a v k.0 y =
            subst (λ (d : Bool). MatchBool (not d) (ActRan set a v k.0 y) ((y ≡ x) × (k.0 ≡ v))) u.idle h in
            part_then set.caller v k.0 w (line_items (act_line set a y)) (act_items asks ys point)
            (act_part a v k.0 y ran) rest
        go true false same h u rest = absurd (cc same)
        go false true same h u rest = absurd (cc same)
        go false false same h u rest = subst (λ (z : View). Part set.caller z w (act_items asks ys point))
            h.1 rest

    -- if the acts at `point` ran, the acts at another point q keep their steps; if no act at q was done before, none is
    -- done after
    pub acts_elsewhere : (q : Point) → Apart point q →
        (asks : List Ask) (v w : View) (xs ys : List ActOutcome) →
        ActsAt set point asks v w xs ys →
        (act_items asks ys q ≡ act_items asks xs q) × (Untouched q asks xs → Untouched q asks ys)
    acts_elsewhere q other [] v w [] [] k = (refl, λ u. u)
    acts_elsewhere q other [] v w [] (y ∷ ys) k = absurd k
    acts_elsewhere q other [] v w (x ∷ xs) ys k = absurd k
    acts_elsewhere q other (a ∷ asks) v w [] ys k = absurd k
    acts_elsewhere q other (a ∷ asks) v w (x ∷ xs) [] k = absurd k
    acts_elsewhere q other (a ∷ asks) v w (x ∷ xs) (y ∷ ys) k =
        go (is_same_point point a.point) (is_same_point a.point q) refl refl k.1
        (acts_elsewhere q other asks k.0 w xs ys k.2)
      where
        apart : (p : Point) → is_same_point point p ≡ true → is_same_point p q ≡ true → ⊥
        apart p here there = let same = same_point p q there in cc

        go : (b c : Bool) → is_same_point point a.point ≡ b → is_same_point a.point q ≡ c →
            MatchBool (b && not x.done) (ActRan set a v k.0 y) ((y ≡ x) × (k.0 ≡ v)) →
            (act_items asks ys q ≡ act_items asks xs q) × (Untouched q asks xs → Untouched q asks ys) →
            ((if c then line_items (act_line set a y) ++ act_items asks ys q else act_items asks ys q)
            ≡ (if c then line_items (act_line set a x) ++ act_items asks xs q else act_items asks xs q))
            × (MatchBool c (IsUndone x) ⊤ × Untouched q asks xs → MatchBool c (IsUndone y) ⊤ × Untouched q asks ys)
        go true true at_a at_q h rest = absurd (apart a.point at_a at_q)
        go false true at_a at_q h rest = (
          (λ i. line_items (act_line set a (h.0 i)) ++ rest.0 i),
          λ u. (subst IsUndone (sym h.0) u.0, rest.1 u.1),
        )
        go b false at_a at_q h rest = (rest.0, λ u. (tt, rest.1 u.1))
