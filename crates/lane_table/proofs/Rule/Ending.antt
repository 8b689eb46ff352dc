-- An idle pass that has the whole share knows all lists, and made all visits. The pass of a new table has drawn no
-- ticket.
use Rattle.std.proofs.Common.{◌≡◌, ℕ, zero, suc, ◌+◌, ◌*◌, ◌-◌, ◌^◌, ◌<◌, ◌≤◌, ◌≢◌, List, [], length, get_or, replicate, refl, sym, ap, ◌∙◌, subst, ⊎_elim, arith, Option, Some}
use Rattle.std.proofs.Math.Nat.{mul-pos}
use Rattle.std.proofs.lemmas.Nat.{pow-add, pow_pos}
use Rattle.std.specs.List.{sum_by}
use mathlib.Core.Option.{some, some-injective}
use mathlib.Core.Logic.{dite}
use native.Mathlib.Decide.{ℕ_discrete}
use lib.ListN.{get_elem?}
use Rattle.atomic_table.specs.Table.{Seen, Final}
use Rattle.lane_table.specs.declared.view.Visit.{Visit}
use Rattle.lane_table.specs.declared.view.LaneView.{LaneView}
use Rattle.lane_table.specs.declared.view.View.{View}
use Rattle.lane_table.specs.declared.view.Content.{Content}
use Rattle.lane_table.specs.declared.view.TableSize.{TableSize}
use Rattle.lane_table.specs.declared.view.TicketStage.TheVariants.{Away, Holding}
use Rattle.lane_table.specs.Meaning.{after_of, parent}
use Rattle.lane_table.specs.References.{Answered}
use Rattle.lane_table.specs.WorldRule.{AllBegin, Owes, Replays, Rising, St, WorldRule, at, blank, column, has_ticket, known_of, times, once_below, serving_word, ticket_word, weight}
use Rattle.lane_table.specs.Steps.{first_view}
use Rattle.lane_table.specs.Calls.{Ended, IsIdle}
use Rattle.lane_table.specs.RuleLaws.{NumbersAre}
use Rattle.lane_table.proofs.Lists.Lists.{all_zero, at_below, at_unmap, sum_by-map, two_below, only_one}
use Rattle.lane_table.proofs.Lists.VisitLists.{begins_whole}
use Rattle.lane_table.proofs.Rule.Naming.{parent_within}
use Rattle.lane_table.proofs.Rule.World.{Here}
use Rattle.lane_table.proofs.Rule.World as world

module _ {first : ℕ} {s : St} {id : ℕ} {v : View} (h : Here first s id v) (share : v.share ≡ 2 ^ v.halvings)
    (idle : IsIdle v) where
  -- the view of every other pass knows nothing about any lane (`blank`)
  others : (i j : ℕ) (u : View) → j ≢ id → get_elem? s.views j ≡ some u → at i u ≡ blank
  others i j u ne e = let top : ℕ = h.rule.top in let below = (h.rule.views id v h.is).below in
      let mine : weight top v ≡ 2 ^ top = (let e : v.halvings + (top - v.halvings) ≡ top = omega arith in
      ap (λ (k : ℕ). k * 2 ^ (top - v.halvings)) share ∙ sym (pow-add 2 v.halvings (top - v.halvings))
      ∙ ap (λ (k : ℕ). 2 ^ k) e) in
      let t = two_below (weight top) s.views id j v u ne h.is e in let f = h.rule.whole in
      let a : ℕ = weight top v in let b : ℕ = weight top u in let c : ℕ = sum_by (weight top) s.views in let p : ℕ =
      2 ^ top in let t' : a + b ≤ c = t in let f' : c ≡ p = f in let m' : a ≡ p = mine in
      let none' : b ≡ 0 = omega arith in
      let zero' : u.share ≡ 0 = dite (ℕ_discrete u.share 0) (λ z. z)
      (λ z. let q : 0 < u.share * 2 ^ (top - u.halvings) = mul-pos (let g : 0 < u.share = omega arith in g)
      (pow_pos (top - u.halvings)) in absurd (omega (arith, none'))) in
      ap (λ (l : List LaneView). get_or l i blank) ((h.rule.views j u e).spent zero')

  -- no pass waits for a lane or holds one
  all_away : (i j : ℕ) (u : View) → get_elem? s.views j ≡ some u → (at i u).stage ≡ Away
  all_away i j u e = dite (ℕ_discrete j id) (λ hit. ap (λ (z : View). (at i z).stage)
      (some-injective u v (sym e ∙ ap (λ (k : ℕ). get_elem? s.views k) hit ∙ h.is)) ∙ idle i)
      (λ miss. ap (λ (a : LaneView). a.stage) (others i j u miss e))

  module _ (i : ℕ) (near : i < length s.homes) where
    made_all : (at i v).made ≡ length (h.rule.logs i)
    made_all = sym (only_one (λ (u : View). (at i u).made) s.views id v h.is
        (λ j u ne e. ap (λ (a : LaneView). a.made) (others i j u ne e)))
        ∙ sym (sum_by-map (λ (a : LaneView). a.made) (at i) s.views) ∙ (h.rule.lane i near).made

    -- the pass drew all tickets of the lane `i`, and none of them is in use
    pub numbers : (get_or s.words (ticket_word i) 0 ≡ first + (at i v).tickets)
        × (get_or s.words (serving_word i) 0 ≡ first + (at i v).tickets)
    numbers = let ok = h.rule.lane i near in
        let own : sum_by (λ (a : LaneView). a.tickets) (column i s.views) ≡ (at i v).tickets =
        sum_by-map (λ (a : LaneView). a.tickets) (at i) s.views
        ∙ only_one (λ (u : View). (at i u).tickets) s.views id v h.is
        (λ j u ne e. ap (λ (a : LaneView). a.tickets) (others i j u ne e)) in
        let out : sum_by (λ (a : LaneView). has_ticket a.stage) (column i s.views) ≡ 0 =
        sum_by-map (λ (a : LaneView). has_ticket a.stage) (at i) s.views
        ∙ all_zero (λ (u : View). has_ticket (at i u).stage) s.views (λ j u e. ap has_ticket (all_away i j u e)) in
        let d = ok.drawn in let c = ok.counted in (omega arith, omega arith)

    -- the value of lane `i` is in its slot
    ends : (c : Content) × (get_elem? s.homes i ≡ some (some (Some c))) × (c.place ≡ (at i v).made)
    ends = ⊎_elim (λ (x : (c : Content) × (get_elem? s.homes i ≡ some (some (Some c)))
        × Replays i first (h.rule.logs i) c). (x.0, x.1, x.2.place ∙ sym made_all))
        (λ (x : (j : ℕ) × (a : LaneView) × (get_elem? (column i s.views) j ≡ some a)
        × (a.stage ≡ Holding (get_or s.words (serving_word i) 0))).
        let u = at_unmap (at i) s.views x.0 x.1 x.2 in
        let stage : (at i u.0).stage ≡ Holding (get_or s.words (serving_word i) 0) =
        ap (λ (a : LaneView). a.stage) u.2 ∙ x.3 in
        absurd (cc (all_away i x.0 u.0 u.1, stage))) (h.rule.lane i near).whereabouts

    knows_all : known_of v i ≡ h.rule.logs i
    knows_all = let log = h.rule.logs i in let k = (h.rule.lane i near).known in let u =
        at_unmap (at i) s.views k.0 k.1 k.2 in
        dite (ℕ_discrete k.0 id) (λ hit. ap (λ (z : View). known_of z i)
        (sym (some-injective u.0 v (sym u.1 ∙ ap (λ (q : ℕ). get_elem? s.views q) hit ∙ h.is)))
        ∙ ap (λ (a : LaneView). a.known) u.2 ∙ k.3)
        (λ miss. let none' : log ≡ [] = sym k.3 ∙ ap (λ (a : LaneView). a.known) (sym u.2)
        ∙ ap (λ (a : LaneView). a.known) (others i k.0 u.0 miss u.1) in
        begins_whole (known_of v i) log (world.begun h i near) (let e = ap length none' in omega arith))

    placed_all : (p : ℕ) → times p (at i v).places ≡ once_below p (length (known_of v i))
    placed_all p = sym (only_one (λ (u : View). times p (at i u).places) s.views id v h.is
        (λ j u ne e. ap (λ (a : LaneView). times p a.places) (others i j u ne e)))
        ∙ sym (sum_by-map (λ (a : LaneView). times p a.places) (at i) s.views) ∙ (h.rule.lane i near).placed p
        ∙ ap (λ (l : List Visit). once_below p (length l)) (sym knows_all)

  -- if an entry of the parent lane names a place of the lane `l`, the visit at that place answers the entry
  answered : (l : ℕ) → 1 ≤ l → l < length s.homes → Answered l (known_of v (parent l)) (known_of v l)
  answered l lo hi p b x e n = let low = parent_within l (length s.homes) h.rule.two in let k =
      knows_all (parent l) low in let k' = knows_all l hi in
      ⊎_elim (λ (t : (y : Visit) × (get_elem? (h.rule.logs l) b ≡ some y) × (after_of y.entry ≡ Some p)).
      (t.0, ap (λ (z : List Visit). get_elem? z b) k' ∙ t.1, t.2))
      (λ (t : (b ≡ length (h.rule.logs l)) × Owes l p s.views). let o = t.1 in
      let owed = (h.rule.views o.0 o.1 o.2).owed l hi p o.3 in absurd (cc (all_away l o.0 o.1 o.2, owed.0.1)))
      (h.rule.pending l lo hi p b x (ap (λ (z : List Visit). get_elem? z p) (sym k) ∙ e) n)

  pub ends_all : Ended (length s.homes) v
  ends_all = let all = world.consistent h h.rule.logs s.views v h.rule.lawful h.rule.pending (world.sized h).0
      (λ j low. world.begun h j low) (h.rule.views id v h.is).closed in let f = world.sized h in record {
        lawful = λ i near. rw (knows_all i near) (h.rule.lawful i near);
        closed = (h.rule.views id v h.is).closed;
        answered = answered;
        rising = λ i near. subst (λ (z : ℕ × List Visit). Rising z.0 z.1) (λ q. (sym f.1 q, sym (knows_all i near) q))
            (h.rule.lane i near).rising;
        heard = λ i near. subst (AllBegin (at i v).heard) (sym (knows_all i near))
            ((h.rule.lane i near).passes id (at i v) (world.here h i)).heard;
        made = λ i near. made_all i near ∙ ap length (sym (knows_all i near));
        placed = λ i p near. placed_all i near p;
      }

-- the view of a new table's pass has a blank part for each lane
blank_in : (n i : ℕ) → get_or (replicate n blank) i blank ≡ blank
blank_in zero i = refl
blank_in (suc n) zero = refl
blank_in (suc n) (suc i) = blank_in n i

pub numbers_begin : (plan : TableSize) → NumbersAre plan.first (first_view plan)
numbers_begin plan s j i r is near = let v : View = first_view plan in let new = blank_in plan.count i in
    let none' : (at i v).tickets ≡ 0 = ap (λ (a : LaneView). a.tickets) new in
    let n = numbers {first = plan.first} {s = s} {id = j} {v = v} record { rule = r; is = is; share = omega arith } refl
    (λ k. ap (λ (a : LaneView). a.stage) (blank_in plan.count k)) i near in (
      (let t = n.0 in omega arith),
      (let t = n.1 in omega arith),
    )

module _ (first id : ℕ) (v : View) (words : List ℕ) (contents : List (Option Content))
    (final : Final (Seen (WorldRule first) id v) words contents) (some_share : 0 < v.share)
    (share : v.share ≡ 2 ^ v.halvings) (idle : IsIdle v) where
  abbrev h : Here first final.0 id v
  h = record { rule = final.1.0; is = final.1.1; share = some_share }

  -- each lane's value is in its slot
  pub stored : (i : ℕ) → i < length contents → (c : Content) × (get_elem? contents i ≡ some (Some c))
      × (c.place ≡ (at i v).made)
  stored i near = let long = final.3 in let e = ends h share idle i (omega arith) in
      (e.0, final.4 i (Some e.0) e.1, e.2)

  pub stored_in : (ys : List (Option Content)) → ys ≡ contents → (i : ℕ) (y : Option Content) →
      get_elem? ys i ≡ some y → (c : Content) × (y ≡ Some c) × (c.place ≡ (at i v).made)
  stored_in ys same i y e = let e' : get_elem? contents i ≡ some y =
      ap (λ (l : List (Option Content)). get_elem? l i) (sym same) ∙ e in
      let t = stored i (at_below contents i y e') in (t.0, some-injective y (Some t.0) (sym e' ∙ t.1), t.2)

  pub ended : Ended (length contents) v
  ended = subst (λ (n : ℕ). Ended n v) final.3 (ends_all h share idle)
