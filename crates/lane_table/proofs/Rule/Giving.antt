-- Lanes after one more visit: each lane's part of the view, and the references between lanes.
use Rattle.std.proofs.Common.{◌≤◌, ◌≡◌, ℕ, ◌+◌, ◌<◌, ◌≢◌, List, [], ◌∷◌, ◌++◌, length, get_or, set, sym, refl, ap, ◌∙◌, subst, inl, ⊎_elim, arith, Option, Some, None}
use Rattle.std.proofs.lemmas.List.{length-set}
use Rattle.std.proofs.lemmas.List.Sums.{sum_by_push}
use mathlib.Core.Option.{some, none, some-injective}
use mathlib.Core.Logic.{dite}
use native.Mathlib.Decide.{ℕ_discrete}
use lib.ListN.{get_elem?}
use Rattle.atomic_table.proofs.Lists.{at_map}
use Rattle.lane_table.specs.declared.view.Visit.{Visit}
use Rattle.lane_table.specs.declared.view.LaneView.{LaneView}
use Rattle.lane_table.specs.declared.view.View.{View}
use Rattle.lane_table.specs.declared.view.TicketStage.TheVariants.{Holding}
use Rattle.lane_table.specs.Meaning.{after_of, ahead_of, raise_of, parent, replay, start_model, model_step, gave_of, got_of, no_visit, IsOf, IsLater, Fits, NamesWithin, MayCome, LawfulLane}
use Rattle.lane_table.specs.References.{Closed, Pointed}
use Rattle.lane_table.specs.WorldRule.{Begins, Owed, Owes, Pending, RaisedOk, St, at, known_of, raises, serving_word, ticket_word}
use Rattle.lane_table.specs.Steps.{MayName, NamesHeld, handed, visited, with_at, with_stamp}
use Rattle.lane_table.proofs.Lists.Lists.{at_or}
use Rattle.lane_table.proofs.Lists.VisitLists.{begins_push, begins_refl}
use Rattle.lane_table.proofs.Lists.LawfulLists.{lawful_more}
use Rattle.lane_table.proofs.Rule.Naming.{parent_below, pointed_after, pointed_here, owed_none, owed_more, pending_views, pending_after, pending_here}
use Rattle.lane_table.proofs.Rule.OneLane as lane
use Rattle.lane_table.proofs.Rule.World.{Here, pick, pick_here, pick_else}
use Rattle.lane_table.proofs.Rule.World as world
use Rattle.lane_table.proofs.Rule.Plain as plain

-- the visit `x` may be made in the lane `i`: the entry of `x` is one of this lane and fits the lane's model (the value
-- in the proofs), and `x` receives the key that the entry names
pub record Enters (i : ℕ) (x : Visit) (v : View) : Type 0 where
  pub kind : IsOf i x.entry
  pub got_is : x.got ≡ handed i x.entry v
  pub gave_is : x.gave ≡ gave_of (replay (known_of v i)) x.entry x.got
  pub fits : Fits (replay (known_of v i)) x.got x.entry
  pub names : MayName i x.entry v

later_owed : (least : ℕ) (o : Option ℕ) → ((p : ℕ) → o ≡ Some p → least ≤ p) → IsLater least o
later_owed least None h = tt
later_owed least (Some p) h = h p refl

-- a pass that holds the lane `i` with the ticket `t`
module _ {first : ℕ} {s : St} {id : ℕ} {v : View} (h : Here first s id v) (i t : ℕ) (near : i < length s.homes)
    (hold : (at i v).stage ≡ Holding t) where
  pub turn : (t ≡ get_or s.words (serving_word i) 0) × (t < get_or s.words (ticket_word i) 0)
      × (h.rule.owners i t ≡ id) × (known_of v i ≡ h.rule.logs i) × (get_elem? s.homes i ≡ some none)
  turn = lane.holds_turn (h.rule.lane i near) id (world.here h i) t hold

  module _ (x : Visit) (enters : Enters i x v) where
    abbrev pub log' : List Visit
    log' = known_of v i ++ x ∷ []

    abbrev pub mine : LaneView
    mine = visited x (at i v)

    -- the view after the visit `x`, except that `owes` is not set yet at the lane that takes the visit's key
    abbrev pub own : View
    own = with_at i mine (with_stamp x.stamp v)

    pub whole : known_of v i ≡ h.rule.logs i
    whole = turn.3

    pub own_long : length own.lanes ≡ length v.lanes
    own_long = length-set v.lanes i mine

    pub own_here : at i own ≡ mine
    own_here = plain.at_here h i near mine

    pub own_there : (j : ℕ) → j ≢ i → at j own ≡ at j v
    own_there j ne = plain.at_there h i near mine j ne

    pub known_here : (j : ℕ) → j ≡ i → known_of own j ≡ known_of v j ++ x ∷ []
    known_here j e = ap (known_of own) e ∙ ap (λ (a : LaneView). a.known) own_here
        ∙ ap (λ (k : ℕ). known_of v k ++ x ∷ []) (sym e)

    pub known_there : (j : ℕ) → j ≢ i → known_of own j ≡ known_of v j
    known_there j ne = ap (λ (a : LaneView). a.known) (own_there j ne)

    within : (o : Option (ℕ × ℕ)) → ((l b : ℕ) → o ≡ Some (l, b) → l < length s.homes) → NamesWithin (length s.homes) o
    within None k = tt
    within (Some z) k = k z.0 z.1 refl

    ahead_within : NamesWithin (length s.homes) (ahead_of x.entry)
    ahead_within = ⊎_elim (λ (e : ahead_of x.entry ≡ None). subst (NamesWithin (length s.homes)) (sym e) tt)
        (λ (a : (l : ℕ) × (b : ℕ) × (ahead_of x.entry ≡ Some (l, b)) × NamesHeld i v l b). subst
        (NamesWithin (length s.homes)) (sym a.2) (let n = a.3.near in let f = (world.sized h).0 in omega arith))
        enters.names.ahead

    -- the entry of `x` receives the key of the visit that it names
    handed_is : (l : ℕ) → l ≡ i → (p : ℕ) → after_of x.entry ≡ Some p → (y : Visit) →
        get_elem? (known_of v (parent l)) p ≡ some y → x.got ≡ y.gave
    handed_is l e p n y has = enters.got_is ∙ ap (λ (q : Option ℕ). got_of q (known_of v (parent i))) n
        ∙ ap (λ (z : ℕ). (get_or (known_of v (parent z)) p no_visit).gave) (sym e)
        ∙ ap (λ (z : Visit). z.gave) (at_or (known_of v (parent l)) p y no_visit has)

    pub lawful_here : LawfulLane (length s.homes) i log'
    lawful_here = let n : ℕ = length s.homes in lawful_more (MayCome n i) model_step start_model (known_of v i) x
        (subst (LawfulLane n i) (sym whole) (h.rule.lawful i near)) record {
          kind = enters.kind;
          within = ahead_within;
          gave_is = enters.gave_is;
          later = subst (IsLater (replay (known_of v i)).least) (sym enters.names.following)
              (later_owed (replay (known_of v i)).least (at i v).owes (λ p e. ((h.rule.views id v h.is).owed i near p e).2));
          fits = enters.fits;
        }

    pub own_closed : Closed (length s.homes) (known_of own)
    own_closed l lo hi = let o = h.rule.views id v h.is in let k = o.closed l lo hi in let low = parent_below l lo in
        let P : List Visit × List Visit → Type 0 = λ z. Pointed l z.0 z.1 in
        dite (ℕ_discrete l i)
        (λ e. subst P (λ q. (sym (known_there (parent l) (λ f. omega arith)) q, sym (known_here l e) q))
        (pointed_here l (known_of v (parent l)) (known_of v l) x k
        (λ p n. let ow = o.owed l hi p (ap (λ (z : ℕ). (at z v).owes) e ∙ sym enters.names.following ∙ n) in
        (ow.1.0, ow.1.1, ow.1.2, handed_is l e p n ow.1.0 ow.1.1))))
        (λ ne. dite (ℕ_discrete (parent l) i)
        (λ e. subst P (λ q. (sym (known_here (parent l) e) q, sym (known_there l ne) q))
        (pointed_after l (known_of v (parent l)) (known_of v l) x k))
        (λ ne'. subst P (λ q. (sym (known_there (parent l) ne') q, sym (known_there l ne) q)) k))

    own_grows : (j : ℕ) → Begins (known_of v j) (known_of own j)
    own_grows j = dite (ℕ_discrete j i) (λ e. subst (Begins (known_of v j)) (sym (known_here j e))
        (begins_push (known_of v j) x)) (λ ne. subst (Begins (known_of v j)) (sym (known_there j ne))
        (begins_refl (known_of v j)))

    pub own_owed : Owed (length s.homes) own
    own_owed l hi = dite (ℕ_discrete l i)
        (λ e. owed_none l (at l own) (known_of own (parent l))
        (ap (λ (z : ℕ). (at z own).owes) e ∙ ap (λ (a : LaneView). a.owes) own_here))
        (λ ne. let a = own_there l ne in owed_more l (at l v) (at l own) (known_of v (parent l))
        (known_of own (parent l)) ((h.rule.views id v h.is).owed l hi) (ap (λ (z : LaneView). z.stage) a)
        (ap (λ (z : LaneView). z.owes) a) (λ _ _. ap (λ (z : LaneView). z.known) a) (own_grows (parent l)))

    -- if some view owes an answer at the lane `i`, it is the view `v`, and the entry of `x` is that answer
    answers : (p : ℕ) → Owes i p s.views → after_of x.entry ≡ Some p
    answers p q = let o = (h.rule.views q.0 q.1 q.2).owed i near p q.3 in
        let there = lane.holds_turn (h.rule.lane i near) q.0 (at_map (at i) s.views q.0 q.1 q.2) o.0.0 o.0.1 in
        let same : q.0 ≡ id = sym there.2 ∙ ap (h.rule.owners i) (there.0 ∙ sym turn.0) ∙ turn.2 in let is' : q.1 ≡ v =
        some-injective q.1 v (sym q.2 ∙ ap (λ (k : ℕ). get_elem? s.views k) same ∙ h.is) in
        enters.names.following ∙ ap (λ (z : View). (at i z).owes) (sym is') ∙ q.3

    pub log_here : (j : ℕ) → j ≡ i → pick i log' h.rule.logs j ≡ h.rule.logs j ++ x ∷ []
    log_here j e = ap (pick i log' h.rule.logs) e ∙ pick_here i log' h.rule.logs
        ∙ ap (λ (l : List Visit). l ++ x ∷ []) whole ∙ ap (λ (k : ℕ). h.rule.logs k ++ x ∷ []) (sym e)

    -- if the entry of `x` names no place of the lane `l`, the references to `l` are answered or owed as before
    pub pending_at : (w : View) (l : ℕ) → 1 ≤ l → l < length s.homes → (l ≢ i → (at l w).owes ≡ (at l v).owes) →
        (parent l ≡ i → (b : ℕ) → ¬ (ahead_of x.entry ≡ Some (l, b)))
        → Pending l (pick i log' h.rule.logs (parent l)) (pick i log' h.rule.logs l) (set s.views id w)
    pending_at w l lo hi owes other = let logs = h.rule.logs in let views' = set s.views id w in let low =
        parent_below l lo in let f = h.rule.pending l lo hi in
        let P : List Visit × List Visit → Type 0 = λ z. Pending l z.0 z.1 views' in
        dite (ℕ_discrete l i)
        (λ e. subst P (λ q. (sym (pick_else i (parent l) log' logs (λ g. omega arith)) q, sym (log_here l e) q))
        (pending_here l (logs (parent l)) (logs l) s.views views' x f
        (λ p o. answers p (subst (λ (z : ℕ). Owes z p s.views) e o))))
        (λ ne. let base = pending_views l (logs (parent l)) (logs l) s.views views' f (world.owes_kept h l w (owes ne))
        in
        dite (ℕ_discrete (parent l) i)
        (λ e. subst P (λ q. (sym (log_here (parent l) e) q, sym (pick_else i l log' logs ne) q))
        (pending_after l (logs (parent l)) (logs l) views' x base (other e)))
        (λ ne'. subst P (λ q. (sym (pick_else i (parent l) log' logs ne') q, sym (pick_else i l log' logs ne) q)) base))

    -- the visit `x` raises the generation as much as the pass did while it held the lane
    pub raised_count : raises (h.rule.logs 1) + (at 1 v).raised ≡ raises (pick i log' h.rule.logs 1) + (at 1 own).raised
    raised_count = dite (ℕ_discrete 1 i)
        (λ e. let a = ap raises (log_here 1 e) in let p = sum_by_push (λ (z : Visit). raise_of z.entry) (h.rule.logs 1)
        x in let f = enters.names.raise (sym e) in
        let z : (at 1 own).raised ≡ 0 = ap (λ (k : ℕ). (at k own).raised) e
        ∙ ap (λ (a : LaneView). a.raised) own_here in omega arith)
        (λ ne. λ k. raises (sym (pick_else i 1 log' h.rule.logs ne) k) + (sym (own_there 1 ne) k).raised)

    pub raised_fine : RaisedOk (at 1 own)
    raised_fine = dite (ℕ_discrete 1 i) (λ e. inl (ap (λ (k : ℕ). (at k own).raised) e
        ∙ ap (λ (a : LaneView). a.raised) own_here)) (λ ne. subst RaisedOk (sym (own_there 1 ne))
        (h.rule.seen id v h.is).1)
