-- The split of a pass keeps the rule of the table.
use Rattle.std.proofs.Common.{◌≡◌, ℕ, ◌+◌, ◌*◌, ◌-◌, ◌^◌, ◌<◌, ◌≤◌, ◌≢◌, List, [], ◌∷◌, ◌++◌, length, get_or, set, sym, ap, ◌∙◌, subst, inl, ⊎_elim, arith}
use Rattle.std.proofs.lemmas.List.{map-set, map-append, length-map}
use Rattle.std.proofs.Math.ListN.{get_or-map}
use Rattle.std.proofs.lemmas.Nat.{pow-add}
use Rattle.std.specs.List.{sum_by}
use Rattle.std.proofs.lemmas.List.Sums.{sum_by_push}
use mathlib.Core.Option.{some, some-injective}
use mathlib.Core.Logic.{dite}
use native.Mathlib.Decide.{ℕ_discrete}
use lib.ListN.{get_elem?}
use Rattle.atomic_table.specs.Table.{Splits}
use Rattle.atomic_table.proofs.Lists.{at_set, set_again, set_here, at_snoc, at_longer, set_else}
use Rattle.lane_table.specs.declared.view.LaneView.{LaneView}
use Rattle.lane_table.specs.declared.view.View.{View}
use Rattle.lane_table.specs.Meaning.{parent}
use Rattle.lane_table.specs.References.{Pointed}
use Rattle.lane_table.specs.WorldRule.{LaneOk, RaisedOk, ViewOk, WorldRule, at, blank, column, known_of, ticket_word, serving_word, weight}
use Rattle.lane_table.specs.Steps.{recorded, halved, child}
use Rattle.lane_table.proofs.Lists.Lists.{at_below, sum_at_set}
use Rattle.lane_table.proofs.Rule.Naming.{owed_none, pending_views}
use Rattle.lane_table.proofs.Rule.Shares.{weight_up, weights_up}
use Rattle.lane_table.proofs.Rule.OneLane as lane
use Rattle.lane_table.proofs.Rule.World.{Here}
use Rattle.lane_table.proofs.Rule.World as world

pub splits : (first id : ℕ) (v : View) → 0 < v.share → Splits (WorldRule first) id v (halved v) (child v)
splits first id v share s r is = let h : Here first s id v = record { rule = r; is = is; share = share } in
    let views₁ : List View = set s.views id (halved v) in let views' : List View = views₁ ++ child v ∷ [] in
    let top : ℕ = r.top in let ov = r.views id v is in let n : ℕ = length s.homes in
    let below : v.halvings ≤ top = ov.below in
    let recorded_at : (j : ℕ) → at j (child v) ≡ recorded (at j v) = λ j. get_or-map recorded v.lanes j blank in
    let col : (j : ℕ) → column j views' ≡ column j s.views ++ recorded (at j v) ∷ [] =
    λ j. map-append (at j) views₁ (child v ∷ [])
    ∙ ap (λ (l : List LaneView). l ++ at j (child v) ∷ [])
    (map-set (at j) s.views id (halved v) ∙ set_again (column j s.views) id (at j v) (world.here h j))
    ∙ ap (λ (a : LaneView). column j s.views ++ a ∷ []) (recorded_at j) in
    let cases : (P : View → Type 0) (j : ℕ) (u : View) → P (halved v) →
    ((w : View) → get_elem? s.views j ≡ some w → P w) → P (child v) → get_elem? views' j ≡ some u → P u =
    λ P j u mine others new e. ⊎_elim
    (λ (q : get_elem? views₁ j ≡ some u). ⊎_elim (λ (t : (j ≡ id) × (halved v ≡ u)). subst P t.1 mine)
    (λ (t : (j ≢ id) × (get_elem? s.views j ≡ some u)). others u t.1) (at_set s.views id j (halved v) u q))
    (λ (q : child v ≡ u). subst P q new) (at_snoc views₁ (child v) u j e) in
    record {
      wide = r.wide;
      two = r.two;
      logs = r.logs;
      lawful = r.lawful;
      carried = r.carried;
      carries = r.carries;
      small = r.small;
      pending = λ l lo hi. pending_views l (r.logs (parent l)) (r.logs l) s.views views' (r.pending l lo hi)
          (λ p o. dite (ℕ_discrete o.0 id)
          (λ e. let u : o.1 ≡ v = some-injective o.1 v (sym o.2 ∙ ap (λ (k : ℕ). get_elem? s.views k) e ∙ is) in (
            id,
            halved v,
            at_longer views₁ (child v ∷ []) id (halved v)
                (set_here s.views id (halved v) (at_below s.views id v is)),
            ap (λ (z : View). (at l z).owes) (sym u)
                ∙ o.3,
          ))
          (λ ne. (
            o.0,
            o.1,
            at_longer views₁ (child v ∷ []) o.0 o.1 (set_else s.views id o.0 (halved v) ne ∙ o.2),
            o.3,
          )));
      owners = r.owners;
      lane = λ i near. subst (λ (l : List LaneView). LaneOk i first (get_or s.words (ticket_word i) 0)
          (get_or s.words (serving_word i) 0) (get_elem? s.homes i) l (r.logs i) (r.owners i)) (sym (col i))
          (lane.enters (r.lane i near) id (world.here h i));
      generation = (let e = ap (sum_by (λ (a : LaneView). a.raised)) (col 1) in
          let f = sum_by_push (λ (a : LaneView). a.raised) (column 1 s.views) (recorded (at 1 v)) in let g = r.generation in
          omega arith);
      seen = λ j u e. cases (λ (z : View). (z.seen ≤ get_or s.words 0 0) × RaisedOk (at 1 z)) j u (r.seen id v is)
          (λ w q. r.seen j w q) ((r.seen id v is).0, inl (ap (λ (a : LaneView). a.raised) (recorded_at 1))) e;
      top = top + 1;
      views = λ j u e. cases (ViewOk first n (top + 1)) j u
          record {
            sized = ov.sized;
            spent = ov.spent;
            below = omega arith;
            stamped = ov.stamped;
            closed = ov.closed;
            owed = ov.owed;
          }
          (λ w q. let o = r.views j w q in let b = o.below in
          record {
            sized = o.sized;
            spent = o.spent;
            below = omega arith;
            stamped = o.stamped;
            closed = o.closed;
            owed = o.owed;
          })
          record {
            sized = λ p. (let z = ov.sized p in (length-map v.lanes recorded ∙ z.0, z.1));
            spent = λ p. absurd (omega arith);
            below = omega arith;
            stamped = ov.stamped;
            closed = λ l lo hi. subst (λ (z : LaneView × LaneView). Pointed l z.0.known z.1.known)
                (λ k. (sym (recorded_at (parent l)) k, sym (recorded_at l) k)) (ov.closed l lo hi);
            owed = λ l hi. owed_none l (at l (child v)) (known_of (child v) (parent l))
                (ap (λ (a : LaneView). a.owes) (recorded_at l));
          } e;
      whole =
          (let up = weights_up top s.views (λ j u e. (r.views j u e).below) in
          let a = sum_at_set (weight (top + 1)) s.views id v (halved v) is in let b =
          sum_by_push (weight (top + 1)) views₁ (child v) in let c = weight_up top v below in
          let same : weight (top + 1) (halved v) ≡ weight top v =
          (let e : top + 1 - (v.halvings + 1) ≡ top - v.halvings = omega arith in ap (λ (k : ℕ). v.share * 2 ^ k) e)
          in
          let s₀ : ℕ = sum_by (weight top) s.views in let s₁ : ℕ = sum_by (weight (top + 1)) s.views in let s₂ : ℕ =
          sum_by (weight (top + 1)) views₁ in let s₃ : ℕ = sum_by (weight (top + 1)) views' in
          let x : ℕ = weight top v in let y : ℕ = weight (top + 1) v in let z : ℕ = weight (top + 1) (halved v) in
          let p : ℕ = 2 ^ top in let p' : ℕ = 2 ^ (top + 1) in
          let pp : p' ≡ p * 2 = pow-add 2 top 1 in let w₀ : s₀ ≡ p = r.whole in let up' : s₁ ≡ 2 * s₀ = up in
          let a' : s₂ + y ≡ s₁ + z = a in let b' : s₃ ≡ s₂ + z = b in let c' : y ≡ 2 * x = c in let same' : z ≡ x =
          same in
          let g : s₃ ≡ p' = omega arith in g);
    }
