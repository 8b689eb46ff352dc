-- The rule holds for a new table.
use Rattle.std.proofs.Common.{◌≡◌, ℕ, zero, suc, ◌+◌, ◌<◌, ◌≤◌, List, [], ◌∷◌, ◌++◌, length-append, map, length, get_or, set, replicate, sym, refl, ap, ◌∙◌, subst, inl, ⊎_elim, arith, Option, Some}
use Rattle.std.specs.Prelude.{slice_get}
use Rattle.std.proofs.lemmas.List.{length-set, length-map, get_or-replicate, get_or-set_same, get_or-set_other}
use Rattle.std.proofs.Math.ListN.{length-replicate}
use mathlib.Core.Option.{some, some-ne-none}
use mathlib.Core.Logic.{dite}
use native.Mathlib.Decide.{ℕ_discrete}
use lib.ListN.{get_elem?}
use Rattle.atomic_table.specs.Table.{opening}
use Rattle.atomic_table.proofs.Lists.{at_snoc}
use Rattle.lane_table.specs.declared.view.LaneView.{LaneView}
use Rattle.lane_table.specs.declared.view.View.{View}
use Rattle.lane_table.specs.declared.view.Content.{Content}
use Rattle.lane_table.specs.Meaning.{parent}
use Rattle.lane_table.specs.References.{Pointed}
use Rattle.lane_table.specs.WorldRule.{Home, LaneOk, PassOk, RaisedOk, Replays, ViewOk, WorldRule, at, blank, known_of, ticket_word, serving_word, words_of}
use Rattle.lane_table.specs.Steps.{first_view}
use Rattle.lane_table.specs.Calls.{AreStarts, plan_of}
use Rattle.lane_table.proofs.Lists.VisitLists.{none_below}
use Rattle.lane_table.proofs.Rule.Naming.{none_pointed, owed_none, parent_within}

get_some : {A : Type 0} (l : List A) (i : ℕ) (x : A) → slice_get l i ≡ Some x → get_elem? (map some l) i ≡ some (some x)
get_some [] i x e = absurd (cc e)
get_some (y ∷ ys) zero x e = (let f : y ≡ x = cc e in ap (λ (z : _). some (some z)) f)
get_some (y ∷ ys) (suc i) x e = get_some ys i x e

get_push : {A : Type 0} (l : List A) (x : A) (i : ℕ) (y : A) → slice_get l i ≡ Some y →
    slice_get (l ++ x ∷ []) i ≡ Some y
get_push [] x i y e = absurd (cc e)
get_push (z ∷ zs) x zero y e = e
get_push (z ∷ zs) x (suc i) y e = get_push zs x i y e

get_last : {A : Type 0} (l : List A) (x : A) (i : ℕ) → length l ≡ i → slice_get (l ++ x ∷ []) i ≡ Some x
get_last [] x zero e = refl
get_last [] x (suc i) e = absurd (omega arith)
get_last (z ∷ zs) x zero e = absurd (omega arith)
get_last (z ∷ zs) x (suc i) e = get_last zs x i (omega arith)

-- a list of `n` starting slots, extended by the starting slot of lane `n`, is a list of `n + 1` starting slots
pub starts_push : (first n : ℕ) (contents : List (Option Content)) (c : Content) → AreStarts first n contents →
    Replays n first [] c → AreStarts first (n + 1) (contents ++ Some c ∷ [])
starts_push first n contents c h plays = (
  (let e = length-append contents (Some c ∷ []) in let f = h.0 in omega arith),
  (λ i low. dite (ℕ_discrete i n)
      (λ e. (c, get_last contents (Some c) i (h.0 ∙ sym e), subst (λ (z : ℕ). Replays z first [] c) (sym e) plays))
      (λ ne. let t = h.1 i (omega arith) in (t.0, get_push contents (Some c) i (Some t.0) t.1, t.2))),
)

module _ (first count : ℕ) (two : 2 ≤ count) where
  abbrev words : List ℕ
  words = set (replicate (words_of count) first) 0 0

  abbrev new : View
  new = first_view (plan_of count first)

  -- each word of a new table is `first`, except word 0 (the generation)
  word_at : (k : ℕ) → k < words_of count → ¬ (k ≡ 0) → get_or words k 0 ≡ first
  word_at k low ne = get_or-set_other (replicate (words_of count) first) 0 k 0 0 ne
      ∙ get_or-replicate (words_of count) k first 0 low

  blank_at : (i : ℕ) → i < count → at i new ≡ blank
  blank_at i low = get_or-replicate count i blank blank low

  first_lane : (i : ℕ) (c : Content) → Replays i first [] c →
      LaneOk i first first first (some (some (Some c))) (blank ∷ []) [] (λ _. 0)
  first_lane i c plays = record {
    ordered = omega arith;
    counted = omega arith;
    drawn = omega arith;
    passes = λ j a e. ⊎_elim (λ (h : get_elem? [] j ≡ some a). absurd (some-ne-none a (sym h)))
        (λ (h : blank ≡ a). subst (PassOk first first (λ _. 0) (some (some (Some c))) [] j) h
        record { begins = ([], refl); heard = tt; conforms = tt; loaded = omega arith; found = omega arith })
        (at_snoc [] blank a j e);
    whereabouts = inl (c, refl, plays);
    made = refl;
    placed = λ q. sym (none_below q);
    known = (0, blank, refl, refl);
    rising = tt;
  }

  -- the view of the new table's pass is the only view
  only : (P : View → Type 0) (j : ℕ) (u : View) → P new → get_elem? (new ∷ []) j ≡ some u → P u
  only P j u mine e = ⊎_elim (λ (h : get_elem? [] j ≡ some u). absurd (some-ne-none u (sym h)))
      (λ (h : new ≡ u). subst P h mine) (at_snoc [] new u j e)

  starts : (contents : List (Option Content)) → AreStarts first count contents →
      WorldRule first (opening words contents new)
  starts contents at_start = let n : ℕ = length (map some contents) in let size : n ≡ count =
      length-map contents some ∙ at_start.0 in let wide' : length words ≡ words_of count =
      length-set (replicate (words_of count) first) 0 0 ∙ length-replicate (words_of count) first in
      let zero' : get_or words 0 0 ≡ 0 = get_or-set_same (replicate (words_of count) first) 0 0 0
      (omega (arith, length-replicate (words_of count) first)) in record {
        wide = omega arith;
        two = omega arith;
        logs = λ _. [];
        owners = λ _ _. 0;
        lawful = λ i near. tt;
        carried = λ _ _. [];
        carries = λ i near. record { begins = λ j low. ([], refl); own = refl; closed = λ l lo hi. none_pointed l };
        pending = λ l lo hi p b x e. absurd (some-ne-none x (sym e));
        lane = λ i near. (let low : i < count = omega arith in let here = at_start.1 i low in
            subst (λ (z : ℕ × ℕ × Home × List LaneView). LaneOk i first z.0 z.1 z.2 z.3 [] (λ _. 0))
            (λ k. (
              sym (word_at (ticket_word i) (omega arith) (λ e. omega arith)) k,
              sym (word_at (serving_word i) (omega arith) (λ e. omega arith)) k,
              sym (get_some contents i (Some here.0) here.1) k,
              sym (blank_at i low) k ∷ [],
            ))
            (first_lane i here.0 here.2));
        generation = (let e = ap (λ (a : LaneView). a.raised) (blank_at 1 (omega arith)) in omega arith);
        small = omega arith;
        seen = λ j v e. only (λ (z : View). (z.seen ≤ get_or words 0 0) × RaisedOk (at 1 z)) j v
            (omega arith, inl (ap (λ (a : LaneView). a.raised) (blank_at 1 (omega arith)))) e;
        top = 0;
        views = λ j v e. only (ViewOk first n 0) j v record {
          sized = λ _. (length-replicate count blank ∙ sym size, refl);
          spent = λ z. absurd (omega arith);
          below = omega arith;
          stamped = (λ k d low. absurd (omega arith));
          closed = λ l lo hi. (let low = parent_within l count two in
              subst (λ (z : LaneView × LaneView). Pointed l z.0.known z.1.known)
              (λ k. (sym (blank_at (parent l) low) k, sym (blank_at l (omega arith)) k)) (none_pointed l));
          owed = λ l hi. owed_none l (at l new) (known_of new (parent l))
              (ap (λ (a : LaneView). a.owes) (blank_at l (omega arith)));
        } e;
        whole = refl;
      }

  pub starts_with : (ws : List ℕ) (contents : List (Option Content)) → ws ≡ words → AreStarts first count contents →
      WorldRule first (opening ws contents new)
  starts_with ws contents is at_start = subst (λ (z : List ℕ). WorldRule first (opening z contents new)) (sym is)
      (starts contents at_start)
