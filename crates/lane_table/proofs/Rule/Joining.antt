-- The join of two passes keeps the rule of the table.
use Rattle.std.proofs.Common.{◌≡◌, ℕ, ◌+◌, ◌<◌, ◌≤◌, ◌≢◌, List, [], ◌++◌, max, length, get_or, set, sym, refl, ap, ◌∙◌, subst, inl, ⊎_elim, arith}
use Rattle.std.specs.Prelude.{All}
use Rattle.std.proofs.lemmas.List.{map-set}
use Rattle.std.proofs.lemmas.List.Elements.{All-append}
use Rattle.std.specs.List.{sum_by}
use mathlib.Core.Option.{some, some-injective}
use mathlib.Core.Logic.{dite}
use native.Mathlib.Decide.{ℕ_discrete}
use lib.ListN.{get_elem?}
use Rattle.atomic_table.specs.Table.{Joins}
use Rattle.atomic_table.proofs.Lists.{at_set, set_here, at_map, set_else}
use Rattle.lane_table.specs.declared.view.LaneView.{LaneView}
use Rattle.lane_table.specs.declared.view.View.{View}
use Rattle.lane_table.specs.declared.view.TicketStage.TheVariants.{Away, Holding}
use Rattle.lane_table.specs.Meaning.{parent}
use Rattle.lane_table.specs.WorldRule.{Begins, IsHolding, LaneOk, Owes, RaisedOk, St, ViewOk, WorldRule, at, blank, column, known_of, ticket_word, serving_word, weight}
use Rattle.lane_table.specs.Steps.{longer, merged, both_of, nobody}
use Rattle.lane_table.specs.Calls.{IsIdle}
use Rattle.lane_table.proofs.Lists.Lists.{at_below, sum_at_set}
use Rattle.lane_table.proofs.Lists.VisitLists.{longer_begun}
use Rattle.lane_table.proofs.Rule.Naming.{none_pointed, owed_none, owed_more, parent_within, pending_views, pointed_longer}
use Rattle.lane_table.proofs.Rule.Shares.{weight_both, merged_at, length_merged, both_share}
use Rattle.lane_table.proofs.Rule.OneLane as lane
use Rattle.lane_table.proofs.Rule.World.{Here}
use Rattle.lane_table.proofs.Rule.World as world

stamped_both : (m n : ℕ) (xs ys : List ℕ) → All (λ k. k ≤ m) xs → All (λ k. k ≤ n) ys →
    All (λ k. k ≤ max m n) (xs ++ ys)
stamped_both m n xs ys a b = All-append (λ k. k ≤ max m n) xs ys (λ k d low. let q = a k d low in omega arith)
    (λ k d low. let q = b k d low in omega arith)

module _ {first : ℕ} {s : St} {id : ℕ} {v : View} (h : Here first s id v) (other : ℕ) (w : View)
    (at_other : get_elem? s.views other ≡ some w) (share' : 0 < w.share) (apart : ¬ (other ≡ id)) (idle : IsIdle w)
  where
    abbrev r : WorldRule first s
    r = h.rule

    abbrev k : Here first s other w
    k = record { rule = r; is = at_other; share = share' }

    abbrev b : View
    b = both_of v w

    abbrev views₁ : List View
    views₁ = set s.views id b

    abbrev views' : List View
    views' = set views₁ other nobody

    is' : get_elem? views₁ other ≡ some w
    is' = set_else s.views id other b apart ∙ k.is

    is_b : get_elem? views' id ≡ some b
    is_b = set_else views₁ other id nobody (λ e. apart (sym e)) ∙ set_here s.views id b (at_below s.views id v h.is)

    both_at : (j : ℕ) → at j b ≡ merged (at j v) (at j w)
    both_at j = merged_at v.lanes w.lanes j ((world.sized h).0 ∙ sym (world.sized k).0)

    known_both : (j : ℕ) → known_of b j ≡ longer (known_of v j) (known_of w j)
    known_both j = ap (λ (a : LaneView). a.known) (both_at j)

    not_holding : (j t : ℕ) → ¬ ((at j w).stage ≡ Holding t)
    not_holding j t hold = let g : Away ≡ Holding t = sym (idle j) ∙ hold in absurd (cc g)

    -- after a join each seat has its old view, the joined view, or the blank view of the pass that was taken in
    cases : (P : View → Type 0) (j : ℕ) (u : View) → P b → ((z : View) → get_elem? s.views j ≡ some z → P z) → P nobody →
        get_elem? views' j ≡ some u → P u
    cases P j u both others none e = ⊎_elim (λ (t : (j ≡ other) × (nobody ≡ u)). subst P t.1 none)
        (λ (t : (j ≢ other) × (get_elem? views₁ j ≡ some u)). ⊎_elim (λ (q : (j ≡ id) × (b ≡ u)). subst P q.1 both)
        (λ (q : (j ≢ id) × (get_elem? s.views j ≡ some u)). others u q.1) (at_set s.views id j b u t.1))
        (at_set views₁ other j nobody u e)

    owes_both : (l p : ℕ) → l < length s.homes → Owes l p s.views → Owes l p views'
    owes_both l p hi o = dite (ℕ_discrete o.0 id)
        (λ e. let u : o.1 ≡ v = some-injective o.1 v (sym o.2 ∙ ap (λ (k : ℕ). get_elem? s.views k) e ∙ h.is) in
        (id, b, is_b, ap (λ (a : LaneView). a.owes) (both_at l) ∙ ap (λ (z : View). (at l z).owes) (sym u) ∙ o.3))
        (λ ne. dite (ℕ_discrete o.0 other)
        (λ e. let u : o.1 ≡ w = some-injective o.1 w (sym o.2 ∙ ap (λ (k : ℕ). get_elem? s.views k) e ∙ k.is) in
        let owed = (r.views other w k.is).owed l hi p (ap (λ (z : View). (at l z).owes) (sym u) ∙ o.3) in
        absurd (not_holding l owed.0.0 owed.0.1))
        (λ ne'. (o.0, o.1, set_else views₁ other o.0 nobody ne' ∙ set_else s.views id o.0 b ne ∙ o.2, o.3)))

    col : (j : ℕ) → column j views' ≡ set (set (column j s.views) id (merged (at j v) (at j w))) other blank
    col j = map-set (at j) views₁ other nobody ∙ ap (λ (l : List LaneView). set l other blank)
        (map-set (at j) s.views id b ∙ ap (set (column j s.views) id) (both_at j))

    both_lane : (i : ℕ) → i < length s.homes → LaneOk i first (get_or s.words (ticket_word i) 0)
        (get_or s.words (serving_word i) 0) (get_elem? s.homes i) (column i views') (r.logs i) (r.owners i)
    both_lane i near = let one = map-set (at i) s.views id b ∙ ap (set (column i s.views) id) (both_at i) in
        let there : get_elem? (set (column i s.views) id (merged (at i v) (at i w))) other ≡ some (at i w) =
        ap (λ (l : List LaneView). get_elem? l other) (sym one) ∙ at_map (at i) views₁ other w is' in
        subst (λ (l : List LaneView). LaneOk i first (get_or s.words (ticket_word i) 0)
        (get_or s.words (serving_word i) 0) (get_elem? s.homes i) l (r.logs i) (r.owners i)) (sym (col i))
        (lane.merges (r.lane i near) id (world.here h i) other (at i w) apart there (idle i))

    both_grows : (j : ℕ) → j < length s.homes → Begins (known_of v j) (known_of b j)
    both_grows j low = longer_begun (known_of v j) (known_of w j) (r.logs j) (known_of b j) (world.begun h j low)
        (world.begun k j low) (known_both j)

    both_view : ViewOk first (length s.homes) r.top b
    both_view = let ov = r.views id v h.is in let ow = r.views other w k.is in let x = ov.below in let y = ow.below in
        record {
          sized = λ _. (
            length_merged v.lanes w.lanes ((world.sized h).0 ∙ sym (world.sized k).0) ∙ (world.sized h).0,
            (world.sized h).1,
          );
          spent = λ p. (let q = both_share v w h.share in absurd (omega arith));
          below = omega arith;
          stamped = stamped_both v.stamp w.stamp v.stamps w.stamps ov.stamped ow.stamped;
          closed = λ l lo hi. (let low = parent_within l (length s.homes) r.two in rw (known_both (parent l), known_both l)
              (pointed_longer l (known_of v (parent l)) (known_of w (parent l)) (r.logs (parent l)) (known_of v l)
              (known_of w l) (world.begun h (parent l) low) (world.begun k (parent l) low) (ov.closed l lo hi)
              (ow.closed l lo hi)));
          owed = λ l hi. (let low = parent_within l (length s.homes) r.two in
              owed_more l (at l v) (at l b) (known_of v (parent l)) (known_of b (parent l)) (ov.owed l hi)
              (ap (λ (a : LaneView). a.stage) (both_at l)) (ap (λ (a : LaneView). a.owes) (both_at l))
              (λ u hold. let ok = r.lane l hi in let full = (lane.holds_turn ok id (world.here h l) u hold).3 in
              known_both l ∙ lane.longer_kept ok id (world.here h l) (known_of w l) (world.begun k l hi) full ∙ sym full)
              (both_grows (parent l) low));
        }

    raised_free : (at 1 w).raised ≡ 0
    raised_free = ⊎_elim (λ z. z) (λ (q : ((at 1 w).raised ≡ 1) × IsHolding (at 1 w)). absurd
        (not_holding 1 q.1.0 q.1.1)) (r.seen other w k.is).1

    pub joined : WorldRule first record { words = s.words; homes = s.homes; views = views' }
    joined = let top : ℕ = r.top in record {
      wide = r.wide;
      two = r.two;
      logs = r.logs;
      lawful = r.lawful;
      carried = r.carried;
      carries = r.carries;
      small = r.small;
      pending = λ l lo hi. pending_views l (r.logs (parent l)) (r.logs l) s.views views' (r.pending l lo hi)
          (λ p o. owes_both l p hi o);
      owners = r.owners;
      lane = both_lane;
      generation =
          (let m = merged (at 1 v) (at 1 w) in let one = map-set (at 1) s.views id b
          ∙ ap (set (column 1 s.views) id) (both_at 1) in
          let there : get_elem? (set (column 1 s.views) id m) other ≡ some (at 1 w) =
          ap (λ (l : List LaneView). get_elem? l other) (sym one) ∙ at_map (at 1) views₁ other w is' in
          let a = sum_at_set (λ (x : LaneView). x.raised) (column 1 s.views) id (at 1 v) m (world.here h 1) in let c =
          sum_at_set (λ (x : LaneView). x.raised) (set (column 1 s.views) id m) other (at 1 w) blank there in
          let e = ap (sum_by (λ (x : LaneView). x.raised)) (col 1) in let f = raised_free in let g = r.generation in
          omega arith);
      seen = λ j u e. cases (λ (z : View). (z.seen ≤ get_or s.words 0 0) × RaisedOk (at 1 z)) j u (
        (let x = (r.seen id v h.is).0 in let y = (r.seen other w k.is).0 in omega arith),
        subst RaisedOk (sym (both_at 1)) (r.seen id v h.is).1,
      ) (λ z q. r.seen j z q) (omega arith, inl refl) e;
      top = top;
      views = λ j u e. cases (ViewOk first (length s.homes) top) j u both_view (λ z q. r.views j z q)
          record {
            sized = λ p. absurd (omega arith);
            spent = λ _. refl;
            below = omega arith;
            stamped = (λ n d low. absurd (omega arith));
            closed = λ l lo hi. none_pointed l;
            owed = λ l hi. owed_none l blank [] refl;
          } e;
      whole =
          (let bv = (r.views id v h.is).below in let bw = (r.views other w k.is).below in
          let a = sum_at_set (weight top) s.views id v b h.is in let c =
          sum_at_set (weight top) views₁ other w nobody is' in let d = weight_both top v w bv bw in
          let s₀ : ℕ = sum_by (weight top) s.views in let s₁ : ℕ = sum_by (weight top) views₁ in let s₂ : ℕ =
          sum_by (weight top) views' in let x : ℕ = weight top v in let y : ℕ = weight top w in let z : ℕ =
          weight top b in
          let a' : s₁ + x ≡ s₀ + z = a in let none : weight top nobody ≡ 0 = omega arith in let o : ℕ =
          weight top nobody in let none' : o ≡ 0 = none in let c' : s₂ + y ≡ s₁ + o = c in let d' : z ≡ x + y = d in
          let e : s₂ ≡ s₀ = omega arith in e ∙ r.whole);
    }

pub joins : (first id : ℕ) (v : View) (other : ℕ) (w : View) → 0 < v.share → 0 < w.share → IsIdle w →
    Joins (WorldRule first) id v other w (both_of v w) nobody
joins first id v other w share share' idle s r is apart is' =
    joined record { rule = r; is = is; share = share } other w
    (sym (set_else s.views id other (both_of v w) apart) ∙ is') share' apart idle
