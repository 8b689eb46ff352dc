-- A step that changes a view's part of one lane keeps the rule, if it does not change the fields that references use.
use Rattle.std.proofs.Common.{inr, ◌≡◌, ℕ, ◌+◌, ◌<◌, ◌≤◌, ◌≢◌, ◌⊎◌, zero, suc, List, [], ◌∷◌, length, get_or, set, sym, refl, ap, ◌∙◌, subst, inl, ⊎_elim, arith, Option, Some, None}
use Rattle.std.specs.Prelude.{All}
use Rattle.std.proofs.lemmas.List.{get_or-set_other, get_or-set_same, set-get_or, length-set}
use Rattle.std.specs.List.{sum_by}
use mathlib.Core.Option.{some, some-injective}
use mathlib.Core.Option as maybe
use mathlib.Core.Logic.{dite}
use native.Mathlib.Decide.{ℕ_discrete}
use lib.ListN.{get_elem?}
use Rattle.atomic_table.proofs.Lists.{at_map}
use Rattle.lane_table.specs.declared.view.LaneView.{LaneView}
use Rattle.lane_table.specs.declared.view.View.{View}
use Rattle.lane_table.specs.declared.view.Content.{Content}
use Rattle.lane_table.specs.declared.view.TicketStage.TheVariants.{Holding}
use Rattle.lane_table.specs.Meaning.{parent}
use Rattle.lane_table.specs.References.{Closed}
use Rattle.lane_table.specs.WorldRule.{Begins, Consistent, IsHolding, LaneOk, Owed, OwedAt, RaisedOk, St, WorldRule, at, blank, column, known_of, raises, ticket_word, serving_word}
use Rattle.lane_table.specs.Steps.{with_at, OwesNothing}
use Rattle.lane_table.proofs.Lists.Lists.{all_zero, at_unmap}
use Rattle.lane_table.proofs.Lists.VisitLists.{begins_refl}
use Rattle.lane_table.proofs.Rule.Naming.{owed_none, owed_more}
use Rattle.lane_table.proofs.Rule.OneLane as lane
use Rattle.lane_table.proofs.Rule.World.{Here, same_at, WordStep, pick_same}
use Rattle.lane_table.proofs.Rule.World as world

none_if : (o : Option ℕ) → ((p : ℕ) → o ≡ Some p → ⊥) → o ≡ None
none_if None h = refl
none_if (Some p) h = absurd (h p refl)

-- `w` is `v` with the part `a'` at the lane `i`. The known list and the owed answer are unchanged, and the stage
-- changes only if no answer is owed
pub record Plain (i : ℕ) (v w : View) (a' : LaneView) : Type 0 where
  pub lanes : w.lanes ≡ set v.lanes i a'
  pub known : a'.known ≡ known_of v i
  pub owes : a'.owes ≡ (at i v).owes
  pub stage : (a'.stage ≡ (at i v).stage) ⊎ OwesNothing i v
  pub share : w.share ≡ v.share
  pub halvings : w.halvings ≡ v.halvings
  pub first : w.first ≡ v.first
  pub stamp : w.stamp ≡ v.stamp
  pub stamps : w.stamps ≡ v.stamps

set_self : {A : Type 0} (l : List A) (i : ℕ) (d : A) → set l i (get_or l i d) ≡ l
set_self [] i d = refl
set_self (x ∷ xs) zero d = refl
set_self (x ∷ xs) (suc i) d = ap (λ (l : List _). x ∷ l) (set_self xs i d)

-- if a view's part of a lane is set to itself, nothing changes
pub set_at : (i : ℕ) (v : View) → set v.lanes i (at i v) ≡ v.lanes
set_at i v = set_self v.lanes i blank

module _ {first : ℕ} {s : St} {id : ℕ} {v : View} (h : Here first s id v) (i : ℕ) (near : i < length s.homes) where
  pub at_here : (a : LaneView) → at i (with_at i a v) ≡ a
  at_here a = get_or-set_same v.lanes i a blank (let e = (world.sized h).0 in omega arith)

  pub at_there : (a : LaneView) (j : ℕ) → j ≢ i → at j (with_at i a v) ≡ at j v
  at_there a j ne = get_or-set_other v.lanes i j a blank ne

  -- a pass that does not hold the lane `i` owes no answer at that lane
  pub owes_nothing : ((t : ℕ) → ¬ ((at i v).stage ≡ Holding t)) → OwesNothing i v
  owes_nothing away = (
    none_if (at i v).owes (λ p e. let o = (h.rule.views id v h.is).owed i near p e in away o.0.0 o.0.1),
    (λ one. ⊎_elim (λ z. z) (λ (k : ((at 1 v).raised ≡ 1) × IsHolding (at 1 v)). absurd
        (away k.1.0 (ap (λ (z : ℕ). (at z v).stage) one ∙ k.1.1))) (h.rule.seen id v h.is).1),
  )

  module _ {w : View} {a' : LaneView} (p : Plain i v w a') where
    pub w_here : at i w ≡ a'
    w_here = ap (λ (l : List LaneView). get_or l i blank) p.lanes ∙ at_here a'

    pub w_there : (j : ℕ) → j ≢ i → at j w ≡ at j v
    w_there j ne = ap (λ (l : List LaneView). get_or l j blank) p.lanes ∙ at_there a' j ne

    pub w_long : length w.lanes ≡ length v.lanes
    w_long = ap length p.lanes ∙ length-set v.lanes i a'

    field : {X : Type 0} (f : LaneView → X) → f a' ≡ f (at i v) → (j : ℕ) → f (at j w) ≡ f (at j v)
    field f e j = dite (ℕ_discrete j i) (λ q. ap (λ (k : ℕ). f (at k w)) q ∙ ap f w_here ∙ e
        ∙ ap (λ (k : ℕ). f (at k v)) (sym q)) (λ ne. ap f (w_there j ne))

    pub w_known : (j : ℕ) → known_of w j ≡ known_of v j
    w_known = field (λ (a : LaneView). a.known) p.known

    pub w_owes : (j : ℕ) → (at j w).owes ≡ (at j v).owes
    w_owes = field (λ (a : LaneView). a.owes) p.owes

    pub w_consistent : Consistent w
    w_consistent = world.consistent_as h w w_known w_long

    w_closed : Closed (length s.homes) (known_of w)
    w_closed l lo hi = rw (w_known (parent l), w_known l) ((h.rule.views id v h.is).closed l lo hi)

    w_owed : Owed (length s.homes) w
    w_owed l hi = let was = (h.rule.views id v h.is).owed l hi in let more =
        subst (Begins (known_of v (parent l))) (sym (w_known (parent l))) (begins_refl (known_of v (parent l))) in
        let keeps : (at l w).stage ≡ (at l v).stage → OwedAt l (at l w) (known_of w (parent l)) =
        λ st. owed_more l (at l v) (at l w) (known_of v (parent l)) (known_of w (parent l)) was st (w_owes l)
        (λ _ _. w_known l) more in
        dite (ℕ_discrete l i)
        (λ e. ⊎_elim (λ (st : a'.stage ≡ (at i v).stage). keeps
        (ap (λ (k : ℕ). (at k w).stage) e ∙ ap (λ (a : LaneView). a.stage) w_here ∙ st
        ∙ ap (λ (k : ℕ). (at k v).stage) (sym e)))
        (λ (none : OwesNothing i v). owed_none l (at l w) (known_of w (parent l))
        (w_owes l ∙ ap (λ (k : ℕ). (at k v).owes) e ∙ none.0)) p.stage)
        (λ ne. keeps (ap (λ (a : LaneView). a.stage) (w_there l ne)))

    pub w_raised : a'.raised ≡ (at i v).raised → (at 1 w).raised ≡ (at 1 v).raised
    w_raised e = field (λ (a : LaneView). a.raised) e 1

    -- `RaisedOk` still holds if the step does not change `raised`
    pub w_raised_ok : a'.raised ≡ (at i v).raised → RaisedOk (at 1 w)
    w_raised_ok e = let was = (h.rule.seen id v h.is).1 in let keeps : (at 1 w).stage ≡ (at 1 v).stage →
        RaisedOk (at 1 w) = λ st. ⊎_elim (λ (z : (at 1 v).raised ≡ 0). inl (w_raised e ∙ z))
        (λ (z : ((at 1 v).raised ≡ 1) × IsHolding (at 1 v)). inr (w_raised e ∙ z.0, (z.1.0, st ∙ z.1.1))) was in
        dite (ℕ_discrete 1 i)
        (λ one. ⊎_elim (λ (st : a'.stage ≡ (at i v).stage). keeps
        (ap (λ (k : ℕ). (at k w).stage) one ∙ ap (λ (a : LaneView). a.stage) w_here ∙ st
        ∙ ap (λ (k : ℕ). (at k v).stage) (sym one)))
        (λ (none : OwesNothing i v). inl (w_raised e ∙ none.1 (sym one))) p.stage)
        (λ ne. keeps (ap (λ (a : LaneView). a.stage) (w_there 1 ne)))

    -- if the lane's rule holds, and the generation word rises exactly as `raised` does, the rule of the table holds
    pub plainly : {k y : ℕ} (homes' : List (maybe.Option (Option Content))) (owner' : ℕ → ℕ) → WordStep h i k y →
        length homes' ≡ length s.homes → ((j : ℕ) → j ≢ i → get_elem? homes' j ≡ get_elem? s.homes j)
        → LaneOk i first (get_or (set s.words k y) (ticket_word i) 0) (get_or (set s.words k y) (serving_word i) 0)
        (get_elem? homes' i) (set (column i s.views) id a') (h.rule.logs i) owner'
        → get_or (set s.words k y) 0 0 + (at 1 v).raised ≡ get_or s.words 0 0 + (at 1 w).raised →
        w.seen ≤ get_or (set s.words k y) 0 0 → RaisedOk (at 1 w)
        → WorldRule first record { words = set s.words k y; homes = homes'; views = set s.views id w }
    plainly {k} {y} homes' owner' word long apart ok count saw raised' =
        world.moved h {log' = h.rule.logs i} {lists' = h.rule.carried i} record {
          word = word;
          long = long;
          apart = apart;
          lanes = w_long;
          here = w_here;
          others = λ j below ne. same_at (h.rule.logs j) (at j v) (at j w) (w_there j ne) (world.begun h j below);
          share = p.share;
          halvings = p.halvings;
          firsts = p.first;
          stamped = subst (λ (z : ℕ × List ℕ). All (λ n. n ≤ z.0) z.1) (λ q. (sym p.stamp q, sym p.stamps q))
              (h.rule.views id v h.is).stamped;
          more = begins_refl (h.rule.logs i);
          lane = ok;
          lawful = h.rule.lawful i near;
          carries = world.carries_same h i near;
          closed = w_closed;
          owed = w_owed;
          pending = world.pending_same h i w (λ l _. w_owes l);
          generation = (let e = ap raises (pick_same i 1 h.rule.logs) in omega arith);
          seen = saw;
          raised = raised';
        }

    -- a load that keeps the lane's rule keeps the rule of the table
    pub reads : (k : ℕ) → WordStep h i k (get_or s.words k 0)
        → LaneOk i first (get_or s.words (ticket_word i) 0) (get_or s.words (serving_word i) 0) (get_elem? s.homes i)
        (set (column i s.views) id a') (h.rule.logs i) (h.rule.owners i)
        → a'.raised ≡ (at i v).raised → w.seen ≡ v.seen →
        WorldRule first record {
          words = set s.words k (get_or s.words k 0);
          homes = s.homes;
          views = set s.views id w;
        }
    reads k word ok same saw = let e = set-get_or s.words k 0 in let e₀ = ap (λ (ws : List ℕ). get_or ws 0 0) e in
        plainly s.homes (h.rule.owners i) word refl (λ _ _. refl)
        (subst (λ (ws : List ℕ). LaneOk i first (get_or ws (ticket_word i) 0) (get_or ws (serving_word i) 0)
        (get_elem? s.homes i) (set (column i s.views) id a') (h.rule.logs i) (h.rule.owners i)) (sym e) ok)
        (let r = w_raised same in omega arith) (let o = (h.rule.seen id v h.is).0 in omega arith) (w_raised_ok same)

  -- if the pass with the base's served ticket has not raised the generation, no pass has raised it
  pub none_raised : (t : ℕ) → i ≡ 1 → t ≡ get_or s.words (serving_word 1) 0 → h.rule.owners 1 t ≡ id →
      (at 1 v).raised ≡ 0 → sum_by (λ (a : LaneView). a.raised) (column 1 s.views) ≡ 0
  none_raised t one now mine none' = all_zero (λ (a : LaneView). a.raised) (column 1 s.views) (λ j a e.
      let u = at_unmap (at 1) s.views j a e in
      let zero' : (at 1 u.0).raised ≡ 0 = ⊎_elim (λ z. z)
      (λ (k : ((at 1 u.0).raised ≡ 1) × IsHolding (at 1 u.0)).
      let there = lane.holds_turn (h.rule.lane 1 (let n = near in omega arith)) j (at_map (at 1) s.views j u.0 u.1)
      k.1.0 k.1.1 in
      let same : j ≡ id = sym there.2 ∙ ap (h.rule.owners 1) (there.0 ∙ sym now) ∙ mine in let is' : u.0 ≡ v =
      some-injective u.0 v (sym u.1 ∙ ap (λ (q : ℕ). get_elem? s.views q) same ∙ h.is) in
      ap (λ (z : View). (at 1 z).raised) is' ∙ none') (h.rule.seen j u.0 u.1).1 in
      ap (λ (z : LaneView). z.raised) (sym u.2) ∙ zero')
