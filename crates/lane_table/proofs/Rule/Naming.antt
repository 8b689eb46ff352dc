-- References between a lane and its parent lane still hold when lists and views grow.
use Rattle.std.proofs.Common.{◌≡◌, ◌<◌, ◌≤◌, ◌≢◌, true, false, cond, eqb, eq-eqb, ne_eqb, List, [], ◌∷◌, ◌++◌, length, sym, ap, subst, ◌∙◌, inl, inr, ⊎_elim, arith, Option, Some, None, ℕ, suc}
use mathlib.Core.Option.{some, some-ne-none}
use mathlib.Core.Logic.{dite}
use native.Mathlib.Decide.{dec_le}
use lib.ListN.{get_elem?}
use Rattle.atomic_table.proofs.Lists.{at_longer, at_last}
use Rattle.lane_table.specs.declared.view.Visit.{Visit}
use Rattle.lane_table.specs.declared.view.LaneView.{LaneView}
use Rattle.lane_table.specs.declared.view.View.{View}
use Rattle.lane_table.specs.declared.view.TicketStage.TheVariants.{Holding}
use Rattle.lane_table.specs.Meaning.{after_of, ahead_of, replay, parent}
use Rattle.lane_table.specs.References.{Pointed, HalfAnswered}
use Rattle.lane_table.specs.WorldRule.{Begins, OwedAt, Owes, Pending}
use Rattle.lane_table.specs.Steps.{longer}
use Rattle.lane_table.proofs.Lists.Lists.{at_push, bool_cases}
use Rattle.lane_table.proofs.Lists.VisitLists.{at_begun, at_begun_back, begins_length, longer_left, longer_right, longer_is}

-- the parent lane of the lane `l` has a lower number than `l`
pub parent_below : (l : ℕ) → 1 ≤ l → parent l < l
parent_below l h = bool_cases (eqb l 1) (λ b. cond b 0 1 < l) (λ e. omega arith)
    (λ e. let ne : l ≢ 1 = λ q. (let g : true ≡ false = sym (eq-eqb l 1 q) ∙ e in cc g) in omega arith)

pub parent_within : (l n : ℕ) → 2 ≤ n → parent l < n
parent_within l n two = bool_cases (eqb l 1) (λ b. cond b 0 1 < n) (λ e. omega arith) (λ e. omega arith)

pub parent_cpu : (l : ℕ) → 2 ≤ l → parent l ≡ 1
parent_cpu l two = ap (λ b. cond b 0 1) (ne_eqb l 1 (λ e. omega arith))

pub same_pair : (p q : ℕ × ℕ) → ◌≡◌ {A = Option (ℕ × ℕ)} (Some p) (Some q) → p ≡ q
same_pair p q e = cc e

module _ (l : ℕ) where
  pub none_pointed : Pointed l [] []
  none_pointed b p x e n = absurd (some-ne-none x (sym e))

  pub pointed_after : (following here : List Visit) (x : Visit) → Pointed l following here →
      Pointed l (following ++ x ∷ []) here
  pointed_after following here x h b p y e n = let t = h b p y e n in (t.0, at_longer following (x ∷ []) p t.0 t.1, t.2, t.3)

  pub pointed_here : (following here : List Visit) (x : Visit) → Pointed l following here →
      ((p : ℕ) → (after_of x.entry) ≡ Some p → (y : Visit) × (get_elem? following p ≡ some y)
      × ((ahead_of y.entry) ≡ Some (l, length here)) × (x.got ≡ y.gave)) → Pointed l following (here ++ x ∷ [])
  pointed_here following here x h k b p y e n = ⊎_elim (λ (o : get_elem? here b ≡ some y). h b p y o n)
      (λ (o : (b ≡ length here) × (x ≡ y)). let t = k p (ap (λ (z : Visit). (after_of z.entry)) o.1 ∙ n) in
      (t.0, t.1, t.2 ∙ ap (λ (q : ℕ). Some (l, q)) (sym o.0), ap (λ (z : Visit). z.got) (sym o.1) ∙ t.3))
      (at_push here x y b e)

  pub pointed_longer : (a a' following b b' : List Visit) → Begins a following → Begins a' following → Pointed l a b →
      Pointed l a' b' → Pointed l (longer a a') (longer b b')
  pointed_longer a a' following b b' h h' m m' i p x e n = ⊎_elim
      (λ (o : longer b b' ≡ b). let t = m i p x (ap (λ (l : List Visit). get_elem? l i) (sym o) ∙ e) n in
      (t.0, longer_left a a' following h h' p t.0 t.1, t.2, t.3))
      (λ (o : longer b b' ≡ b'). let t = m' i p x (ap (λ (l : List Visit). get_elem? l i) (sym o) ∙ e) n in
      (t.0, longer_right a a' following h h' p t.0 t.1, t.2, t.3)) (longer_is b b')

  pub owed_none : (a : LaneView) (following : List Visit) → a.owes ≡ None → OwedAt l a following
  owed_none a following none' p e = let g : None ≡ Some p = sym none' ∙ e in absurd (cc g)

  pub owed_more : (a b : LaneView) (following following' : List Visit) → OwedAt l a following → b.stage ≡ a.stage →
      b.owes ≡ a.owes → ((t : ℕ) → a.stage ≡ Holding t → b.known ≡ a.known) → Begins following following' → OwedAt l b following'
  owed_more a b following following' h stage owes same more p e = let o = h p (sym owes ∙ e) in (
    (o.0.0, stage ∙ o.0.1),
    (
      o.1.0,
      at_begun following following' p o.1.0 more o.1.1,
      o.1.2
          ∙ ap (λ (q : List Visit). Some (l, length q)) (sym (same o.0.0 o.0.1)),
    ),
    subst (λ (q : List Visit). (replay q).least ≤ p) (sym (same o.0.0 o.0.1)) o.2,
  )

  -- a pass that does not hold the lane `l` owes no answer at that lane
  pub owed_out : (a b : LaneView) (following following' : List Visit) → OwedAt l a following →
      ((t : ℕ) → ¬ (a.stage ≡ Holding t)) → b.owes ≡ a.owes → OwedAt l b following'
  owed_out a b following following' h out owes p e = let o = h p (sym owes ∙ e) in absurd (out o.0.0 o.0.1)

  pub pending_views : (following here : List Visit) (views views' : List View) → Pending l following here views →
      ((p : ℕ) → Owes l p views → Owes l p views') → Pending l following here views'
  pending_views following here views views' h k p b x e n =
      ⊎_elim (λ t. inl t) (λ (t : (b ≡ length here) × Owes l p views). inr (t.0, k p t.1)) (h p b x e n)

  pub pending_after : (following here : List Visit) (views : List View) (x : Visit) → Pending l following here views →
      ((b : ℕ) → ¬ ((ahead_of x.entry) ≡ Some (l, b))) → Pending l (following ++ x ∷ []) here views
  pending_after following here views x h other p b y e n = ⊎_elim (λ (o : get_elem? following p ≡ some y). h p b y o n)
      (λ (o : (p ≡ length following) × (x ≡ y)). absurd (other b (ap (λ (z : Visit). (ahead_of z.entry)) o.1 ∙ n)))
      (at_push following x y p e)

  pub pending_named : (following here : List Visit) (views : List View) (x : Visit) → Pending l following here views →
      (ahead_of x.entry) ≡ Some (l, length here) → Owes l (length following) views → Pending l (following ++ x ∷ []) here views
  pending_named following here views x h names owes p b y e n = ⊎_elim (λ (o : get_elem? following p ≡ some y). h p b y o n)
      (λ (o : (p ≡ length following) × (x ≡ y)). let is : b ≡ length here = ap (λ (z : ℕ × ℕ). z.1)
      (same_pair (l, b) (l, length here) (sym n ∙ ap (λ (z : Visit). (ahead_of z.entry)) (sym o.1) ∙ names)) in
      inr (is, (owes.0, owes.1, owes.2, owes.3 ∙ ap Some (sym o.0)))) (at_push following x y p e)

  pub pending_here : (following here : List Visit) (views views' : List View) (x : Visit) → Pending l following here views →
      ((p : ℕ) → Owes l p views → (after_of x.entry) ≡ Some p) → Pending l following (here ++ x ∷ []) views'
  pending_here following here views views' x h k p b y e n =
      ⊎_elim (λ (t : (z : Visit) × (get_elem? here b ≡ some z) × ((after_of z.entry) ≡ Some p)). inl
      (t.0, at_longer here (x ∷ []) b t.0 t.1, t.2))
      (λ (t : (b ≡ length here) × Owes l p views). inl (x, at_last here x b (sym t.0), k p t.1)) (h p b y e n)

  -- a reference that is answered or owed (`Pending`) is half answered in the lists that a view knows
  pub half_known : (following here xs ys : List Visit) (views : List View) → Pending l following here views →
      Begins xs following → Begins ys here → HalfAnswered l xs ys
  half_known following here xs ys views h f g p b x e n = ⊎_elim
      (λ (t : (y : Visit) × (get_elem? here b ≡ some y) × (after_of y.entry ≡ Some p)). dite
      (dec_le (suc b) (length ys))
      (λ low. inl (t.0, at_begun_back ys here b t.0 g low t.1, t.2)) (λ high. inr (omega arith)))
      (λ (t : (b ≡ length here) × Owes l p views). inr (let k = begins_length ys here g in let q = t.0 in omega arith))
      (h p b x (at_begun xs following p x f e) n)
