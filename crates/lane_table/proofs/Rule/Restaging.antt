-- Steps that change a pass's view only at one lane, and there only the pass's stage and the numbers that the pass
-- drew or read.
use Rattle.std.proofs.Common.{◌≡◌, ◌≢◌, ℕ, zero, suc, ◌<◌, List, [], ◌∷◌, length, get_or, set, sym, refl, ap, ◌∙◌, subst, inl, arith}
use Rattle.std.proofs.lemmas.List.{get_or-set_other, get_or-set_same, length-set}
use mathlib.Core.Logic.{dite}
use native.Mathlib.Decide.{ℕ_discrete}
use Rattle.lane_table.specs.declared.view.Visit.{Visit}
use Rattle.lane_table.specs.declared.view.LaneView.{LaneView}
use Rattle.lane_table.specs.declared.view.View.{View}
use Rattle.lane_table.specs.declared.lanes.Lanes.{Lanes}
use Rattle.lane_table.specs.declared.lanes.Pass.{Pass}
use Rattle.lane_table.specs.References.{ConsistentLists}
use Rattle.lane_table.specs.WorldRule.{Begins, Consistent, at, blank, known_of}
use Rattle.lane_table.specs.Steps.{Grows, Seated, with_at, finding, loaded, found, waiting, queued, queued_found}
use Rattle.lane_table.specs.Calls.{IsPassOf, IsSamePass, SameView, Tried, view}
use Rattle.lane_table.proofs.Lists.VisitLists.{begins_refl}

pub at_with : (i : ℕ) (a : LaneView) (v : View) → i < length v.lanes → at i (with_at i a v) ≡ a
at_with i a v near = get_or-set_same v.lanes i a blank near

set_twice : {A : Type 0} (l : List A) (i : ℕ) (a b : A) → set (set l i a) i b ≡ set l i b
set_twice [] i a b = refl
set_twice (x ∷ xs) zero a b = refl
set_twice (x ∷ xs) (suc i) a b = ap (λ (l : List _). x ∷ l) (set_twice xs i a b)

-- if `v` is consistent and `w` has the same known lists, `w` is consistent
pub consistent_same : (v w : View) → length w.lanes ≡ length v.lanes → ((j : ℕ) → known_of w j ≡ known_of v j) →
    Consistent v → Consistent w
consistent_same v w long same ok = let lists : known_of w ≡ known_of v = λ k j. same j k in
    subst (λ (z : ℕ × (ℕ → List Visit)). ConsistentLists z.0 z.1) (λ k. (sym long k, sym lists k)) ok

pub grows_same : (v w : View) → ((j : ℕ) → known_of w j ≡ known_of v j) → Grows v w
grows_same v w e j low = subst (Begins (known_of v j)) (sym (e j)) (begins_refl (known_of v j))

-- the view's part of the lane `i` becomes `to`; the known list, the owed answer and the visits are unchanged
pub record Restages (i : ℕ) (m m' : Seated) : Type 0 where
  pub to : LaneView
  pub lanes : m'.0.lanes ≡ set m.0.lanes i to
  pub known : to.known ≡ known_of m.0 i
  pub owed : to.owes ≡ (at i m.0).owes
  pub raise : to.raised ≡ (at i m.0).raised
  pub made : to.made ≡ (at i m.0).made
  pub places : to.places ≡ (at i m.0).places
  pub heard : to.heard ≡ (at i m.0).heard
  pub slots : m'.1 ≡ m.1
  pub first : m'.0.first ≡ m.0.first
  pub share : m'.0.share ≡ m.0.share
  pub halvings : m'.0.halvings ≡ m.0.halvings
  pub stamp : m'.0.stamp ≡ m.0.stamp
  pub stamps : m'.0.stamps ≡ m.0.stamps
  pub seen : m'.0.seen ≡ m.0.seen
  pub looks : m'.0.looks ≡ m.0.looks

module _ {i : ℕ} {m m' : Seated} (r : Restages i m m') (near : i < length m.0.lanes) where
  pub to_here : at i m'.0 ≡ r.to
  to_here = ap (λ (l : List LaneView). get_or l i blank) r.lanes ∙ get_or-set_same m.0.lanes i r.to blank near

  pub to_there : (j : ℕ) → j ≢ i → at j m'.0 ≡ at j m.0
  to_there j ne = ap (λ (l : List LaneView). get_or l j blank) r.lanes ∙ get_or-set_other m.0.lanes i j r.to blank ne

  pub to_long : length m'.0.lanes ≡ length m.0.lanes
  to_long = ap length r.lanes ∙ length-set m.0.lanes i r.to

  field : {X : Type 0} (f : LaneView → X) → f r.to ≡ f (at i m.0) → (j : ℕ) → f (at j m'.0) ≡ f (at j m.0)
  field f e j = dite (ℕ_discrete j i) (λ q. ap (λ (k : ℕ). f (at k m'.0)) q ∙ ap f to_here ∙ e
      ∙ ap (λ (k : ℕ). f (at k m.0)) (sym q)) (λ ne. ap f (to_there j ne))

  pub to_known : (j : ℕ) → known_of m'.0 j ≡ known_of m.0 j
  to_known = field (λ (a : LaneView). a.known) r.known

  pub to_same : SameView m.0 m'.0
  to_same = record { first = r.first; share = r.share; halvings = r.halvings; sized = to_long }

  -- if the step from `m` to `m'` restages a lane, the pass still belongs to the table
  pub to_pass : (t : Lanes) (p q : Pass) → IsPassOf t p → p.seat.me ≡ m → q.seat.me ≡ m' →
      q.seat.table_id ≡ p.seat.table_id → q.stamp ≡ p.stamp → q.caller ≡ p.caller → IsSamePass t p q
  to_pass t p q h is is' table stamp caller = let v₀ : view p ≡ m.0 = ap (λ (z : Seated). z.0) is in
      let v₁ : view q ≡ m'.0 = ap (λ (z : Seated). z.0) is' in record {
        pass = record {
          table = table ∙ h.table;
          share = (let a = h.share in let b = ap (λ (z : View). z.share) v₀ in let c = ap (λ (z : View). z.share) v₁ in
              let d = r.share in omega arith);
          stamp = stamp ∙ h.stamp ∙ ap (λ (z : View). z.stamp) v₀ ∙ sym r.stamp ∙ ap (λ (z : View). z.stamp) (sym v₁);
          sized = ap (λ (z : View). length z.lanes) v₁ ∙ to_long ∙ ap (λ (z : View). length z.lanes) (sym v₀) ∙ h.sized;
          first = ap (λ (z : View). z.first) v₁ ∙ r.first ∙ ap (λ (z : View). z.first) (sym v₀) ∙ h.first;
        };
        caller = caller;
      }

  -- if the stage at the lane and the number of drawn tickets are unchanged, the pass did not get the lane (`Tried`)
  pub to_tried : (at i m'.0).stage ≡ (at i m.0).stage → m'.0.drawn ≡ m.0.drawn → Tried i m m'
  to_tried stage drawn = record {
    consistent = consistent_same m.0 m'.0 to_long to_known;
    same = to_same;
    keeps = λ j u low ne hold. to_there j ne;
    aside = λ j low. record {
      stage = field (λ (a : LaneView). a.stage) (ap (λ (a : LaneView). a.stage) (sym to_here) ∙ stage) j;
      owed = field (λ (a : LaneView). a.owes) r.owed j;
      raise = field (λ (a : LaneView). a.raised) r.raise j;
      still = record {
        made = field (λ (a : LaneView). a.made) r.made j;
        places = field (λ (a : LaneView). a.places) r.places j;
        heard = field (λ (a : LaneView). a.heard) r.heard j;
      };
    };
    grows = grows_same m.0 m'.0 to_known;
    slots = r.slots;
    looks = r.looks;
    seen = r.seen;
    stamp = r.stamp;
    stamps = r.stamps;
    drawn = inl drawn;
  }

abbrev pub restages_loaded : (i n : ℕ) (m : Seated) → Restages i m (loaded i n m)
restages_loaded i n m = record {
  to = record (at i m.0) { loaded = n };
  lanes = refl;
  known = refl;
  owed = refl;
  raise = refl;
  made = refl;
  places = refl;
  heard = refl;
  slots = refl;
  first = refl;
  share = refl;
  halvings = refl;
  stamp = refl;
  stamps = refl;
  seen = refl;
  looks = refl;
}

abbrev pub restages_found : (i n : ℕ) (m : Seated) → Restages i m (found i n m)
restages_found i n m = record {
  to = record (at i m.0) { found = n };
  lanes = refl;
  known = refl;
  owed = refl;
  raise = refl;
  made = refl;
  places = refl;
  heard = refl;
  slots = refl;
  first = refl;
  share = refl;
  halvings = refl;
  stamp = refl;
  stamps = refl;
  seen = refl;
  looks = refl;
}

abbrev pub restages_queued : (i t : ℕ) (m : Seated) → Restages i m (queued i t m)
restages_queued i t m = record {
  to = waiting t (at i m.0);
  lanes = refl;
  known = refl;
  owed = refl;
  raise = refl;
  made = refl;
  places = refl;
  heard = refl;
  slots = refl;
  first = refl;
  share = refl;
  halvings = refl;
  stamp = refl;
  stamps = refl;
  seen = refl;
  looks = refl;
}

abbrev pub restages_queued_found : (i t : ℕ) (m : Seated) → Restages i m (queued_found i t m)
restages_queued_found i t m = record {
  to = waiting t (finding t (at i m.0));
  lanes = refl;
  known = refl;
  owed = refl;
  raise = refl;
  made = refl;
  places = refl;
  heard = refl;
  slots = refl;
  first = refl;
  share = refl;
  halvings = refl;
  stamp = refl;
  stamps = refl;
  seen = refl;
  looks = refl;
}

-- two successive steps that restage one lane restage it together
pub restages_both : {i : ℕ} {m m' m'' : Seated} → i < length m.0.lanes → Restages i m m' → Restages i m' m'' →
    Restages i m m''
restages_both {i} {m} {m'} {m''} near r q = let here = to_here r near in record {
  to = q.to;
  lanes = q.lanes ∙ ap (λ (l : List LaneView). set l i q.to) r.lanes ∙ set_twice m.0.lanes i r.to q.to;
  known = q.known ∙ ap (λ (a : LaneView). a.known) here ∙ r.known;
  owed = q.owed ∙ ap (λ (a : LaneView). a.owes) here ∙ r.owed;
  raise = q.raise ∙ ap (λ (a : LaneView). a.raised) here ∙ r.raise;
  made = q.made ∙ ap (λ (a : LaneView). a.made) here ∙ r.made;
  places = q.places ∙ ap (λ (a : LaneView). a.places) here ∙ r.places;
  heard = q.heard ∙ ap (λ (a : LaneView). a.heard) here ∙ r.heard;
  slots = q.slots ∙ r.slots;
  first = q.first ∙ r.first;
  share = q.share ∙ r.share;
  halvings = q.halvings ∙ r.halvings;
  stamp = q.stamp ∙ r.stamp;
  stamps = q.stamps ∙ r.stamps;
  seen = q.seen ∙ r.seen;
  looks = q.looks ∙ r.looks;
}

-- if `m''` equals `m'`, and the step from `m` to `m'` restages lane `i`, so does the step from `m` to `m''`
pub restages_to : {i : ℕ} {m m' m'' : Seated} → Restages i m m' → m'' ≡ m' → Restages i m m''
restages_to {i} {m} r e = subst (Restages i m) (sym e) r
