-- How a caller at a site (a call's table, pass, trace and setting) takes a lane, holds it with others, and gives it
-- back with a visit.
use Rattle.std.proofs.Common.{◌≡◌, ◌≢◌, ℕ, ◌<◌, ◌≤◌, ◌++◌, List, [], ◌∷◌, length, Option, Some, None, sym, ap, subst, inr, ◌∙◌, arith}
use Rattle.std.proofs.Math.Seq.{get_or-append_seam}
use Rattle.atomic_table.specs.Table.{rest}
use Rattle.lane_table.specs.declared.lanes.Held.{Held}
use Rattle.lane_table.specs.declared.lanes.Lanes.{Lanes}
use Rattle.lane_table.specs.declared.lanes.TakenTurn.{TakenTurn}
use Rattle.lane_table.specs.declared.view.Content.{Content}
use Rattle.lane_table.specs.declared.view.LaneView.{LaneView}
use Rattle.lane_table.specs.declared.view.LaneEntry.{LaneEntry}
use Rattle.lane_table.specs.declared.view.Visit.{Visit}
use Rattle.lane_table.specs.declared.view.Handed.{Handed}
use Rattle.lane_table.specs.Calls.{CanPut, IsPassOf, IsSamePass, Taken, Tried, view, visit_by}
use Rattle.lane_table.specs.Hands.{HeldLane, HoldsLanes, NotIn, hand}
use Rattle.lane_table.specs.Meaning.{Model, Fits, IsOf, ahead_of, after_of, gave_of, got_of, no_visit, parent, raise_of, replay}
use Rattle.lane_table.specs.Steps.{filled, handed}
use Rattle.lane_table.specs.WorldRule.{known_of}
use Rattle.lane_table.specs.Advances.{maker}
use Rattle.lane_table.proofs.Calls.AdvanceLemmas.{went_tried, went_taken}
use Rattle.lane_table.proofs.Calls.HandLemmas.{has_put_naming}
use Rattle.lane_table.proofs.Rule.Floors.{agrees_lawful}
use Rattle.rng_core.specs.declared.setting.Setting.{Setting}
use Rattle.rng_core.specs.declared.site.Site.{Site}
use Rattle.rng_core.specs.Traces.{Visited}
use Rattle.rng_core.specs.Sites.{at, HasInHands, HoldsWith, IsMade, Same, Took, Visits, Walked, lane_of, last_stamp}
use Rattle.rng_core.proofs.TellLemmas.{recorded_idly, visited_after}
use Rattle.rng_core.proofs.SiteLemmas.{walked_then}

-- if `Same` holds for `m` and `n`, and the pass of `n` holds the lanes `hands` of the table of `m` for its caller,
-- `HasInHands` holds for `n`
pub held_at : (hands : List HeldLane) (m n : Site) → Same m n → HoldsLanes m.lanes.now m.set.caller hands n.pass.now →
    HasInHands hands n
held_at hands m n same k = subst (λ (t : Lanes). HoldsLanes t n.set.caller hands n.pass.now) (sym same.lanes)
    (subst (λ (s : Setting). HoldsLanes m.lanes.now s.caller hands n.pass.now) (sym same.set) k)

-- if the pass took the lane and nothing else of the site changed, the record `Took` holds
pub took : (lane : ℕ) (h : Held) (m n : Site) → Same m n → n.trace.now ≡ m.trace.now →
    IsPassOf m.lanes.now m.pass.now → IsSamePass m.lanes.now m.pass.now n.pass.now →
    Taken lane h m.pass.now.seat.me n.pass.now.seat.me → n.pass.now.stamp < last_stamp →
    ((hands : List HeldLane) → NotIn lane hands → HasInHands hands m → HasInHands (hand h.turn None 0 ∷ hands) n) →
    Took lane h m n
took lane h m n same trace is has taken early hands = record {
  walked = record {
    same = same;
    recorded = recorded_idly _ _ _ trace (went_taken _ _ _ _ _ (let a = is.sized in omega arith) _ _ taken);
  };
  trace = trace;
  hands = hands;
  lane_is = taken.of_lane;
  value = taken.conforms.value;
  early = early;
  seen = taken.seen;
  kept = λ j ticket near other holding. ap (λ (a : LaneView). replay a.known) (taken.keeps j ticket near other holding);
  low = λ e. record { seen = (let a = taken.fresh e in let b = taken.seen in omega arith); low = taken.early e };
  agrees = λ _. agrees_lawful _ _ (taken.consistent.lawful 1 (let a = has.pass.sized in omega arith));
}

-- if `try_take` did not get the lane, and the lane was taken after that, the record `Took` holds
pub took_later : (lane : ℕ) (h : Held) (l m n : Site) → Same l m → m.trace.now ≡ l.trace.now →
    IsPassOf l.lanes.now l.pass.now → Tried lane l.pass.now.seat.me m.pass.now.seat.me →
    ((hands : List HeldLane) → NotIn lane hands → HasInHands hands l → HasInHands hands m) → Took lane h m n →
    Took lane h l n
took_later lane h l m n same trace is tried hands k = record {
  walked = walked_then l m n [] [] (record {
    same = same;
    recorded = recorded_idly _ _ _ trace (went_tried _ _ _ _ _ (let a = is.sized in omega arith) _ tried);
  }) k.walked;
  trace = k.trace ∙ trace;
  hands = λ held not has. k.hands held not (hands held not has);
  lane_is = k.lane_is;
  value = k.value;
  early = k.early;
  seen = k.seen ∙ tried.seen;
  kept = λ j ticket near other holding. let e = tried.keeps j ticket near other holding in
      k.kept j ticket (let s = tried.same.sized in omega arith) other (ap (λ (a : LaneView). a.stage) e ∙ holding)
      ∙ ap (λ (a : LaneView). replay a.known) e;
  low = k.low;
  agrees = k.agrees;
}

-- if a lane was taken while the lane `outer` was held, it may be put back with an entry that names the place of `outer`
pub can_put_naming : (lane : ℕ) (h : Held) (outer : HeldLane) (e : LaneEntry) (s : Site) →
    HasInHands (hand h.turn (after_of e) (raise_of e) ∷ outer ∷ []) s → h.turn.lane ≡ lane → IsOf lane e →
    ahead_of e ≡ Some (outer.lane, outer.place) → 1 ≤ outer.lane → parent outer.lane ≡ lane → outer.owes ≡ None →
    IsMade lane h e s → Fits (lane_of s lane) (handed lane e (view s.pass.now)) e → CanPut s.lanes.now s.pass.now h e
can_put_naming lane h outer e s has on kind names above parent_is owes makes fits = record {
  holds = record {
    near = (let a = has.held.0.near in let b = has.pass.sized in omega arith);
    stage = has.held.0.stage;
    last = has.out ∙ ap (λ (l : List (ℕ × Option Content)). (h.turn.lane, None) ∷ l) (sym (ap rest has.out));
    place = has.held.0.next;
    stamp = has.held.0.last;
  };
  kind = subst (λ (l : ℕ). IsOf l e) (sym on) kind;
  makes = subst (λ (l : ℕ). IsMade l h e s) (sym on) makes;
  fits = subst (λ (l : ℕ). Fits (lane_of s l) (handed l e (view s.pass.now)) e) (sym on) fits;
  names = record {
    ahead = inr (
      outer.lane,
      outer.place,
      names,
      record {
        above = above;
        near = has.held.2.0.near;
        parent = parent_is ∙ sym on;
        next = has.held.2.0.next;
        holding = (outer.ticket, has.held.2.0.stage);
        free = has.held.2.0.owed ∙ owes;
      },
    );
    following = sym has.held.0.owed;
    raise = has.held.0.raise;
  };
}

-- a visit of `lane` with the entry `e` was made, and `e` names the place at which the other lane `outer` is held
pub record Named (lane : ℕ) (h : Held) (outer : TakenTurn) (e : LaneEntry) (m n : Site) : Type 0 where
  pub has : HasInHands (hand outer (Some h.turn.place) 0 ∷ []) n
  pub early : n.pass.now.stamp ≤ last_stamp
  pub kept : lane_of n outer.lane ≡ lane_of m outer.lane
  pub gave : got_of (Some h.turn.place) (known_of (view n.pass.now) lane)
      ≡ gave_of (lane_of m lane) e (handed lane e (view m.pass.now))
  pub seen : (view n.pass.now).seen ≡ (view m.pass.now).seen
  pub visited : Visited m.set (at m) (at n) lane h.turn.place (lane_of m lane) e (handed lane e (view m.pass.now))

last_is : (xs : List Visit) (x : Visit) (p : ℕ) → p ≡ length xs → got_of (Some p) (xs ++ x ∷ []) ≡ x.gave
last_is xs x p e = ap (λ (q : ℕ). got_of (Some q) (xs ++ x ∷ [])) e
    ∙ ap (λ (y : Visit). y.gave) (get_or-append_seam xs x [] no_visit)

pub named : (lane : ℕ) (h : Held) (outer : TakenTurn) (e : LaneEntry) (m n : Site) →
    HasInHands (hand h.turn (after_of e) (raise_of e) ∷ hand outer None 0 ∷ []) m → h.turn.lane ≡ lane →
    ahead_of e ≡ Some (outer.lane, outer.place) → m.pass.now.stamp < last_stamp → Visits h e m n →
    Named lane h outer e m n
named lane h outer e m n has on names early v =
    let x : Visit = filled h.turn.lane (visit_by (maker m.set.caller m.set.event (length m.trace.now)) v.stamp e)
    (view m.pass.now) in record {
      has = held_at _ m n v.same
          (has_put_naming m.lanes.now m.set.caller (hand h.turn (after_of e) (raise_of e)) (hand outer None 0) [] x
          outer.place m.pass.now n.pass.now names has v.pass v.added);
      early = (let a = v.pass.pass.stamp in let b = v.added.stamp in let c = v.low early in omega arith);
      kept = ap (λ (a : LaneView). replay a.known) (v.added.ahead outer.lane outer.place names has.held.2.0.near);
      gave = subst (λ (l : ℕ). got_of (Some h.turn.place) (known_of (view n.pass.now) l)
          ≡ gave_of (lane_of m l) e (handed l e (view m.pass.now))) on
          (ap (λ (a : LaneView). got_of (Some h.turn.place) a.known) v.added.here
          ∙ last_is (known_of (view m.pass.now) h.turn.lane) x h.turn.place has.held.0.next);
      seen = v.added.seen;
      visited = v.visited lane on;
    }

-- if no step was made from `l` to `m`, a visit from `m` to `n` is a visit from `l` to `n`; its entry may depend on the
-- setting
pub visited_later : (F : Setting → LaneEntry) (lane place : ℕ) (s : Model) (got : Handed) (l m n : Site) →
    Walked [] l m →
    Visited m.set (at m) (at n) lane place s (F m.set) got → Visited l.set (at l) (at n) lane place s (F l.set) got
visited_later F lane place s got l m n a v = visited_after _ _ _ _ _ _ _ _ _ a.recorded
    (subst (λ (x : Setting). Visited x (at m) (at n) lane place s (F x) got) a.same.set v)

-- if a lane is taken while another lane is held, the model of the held lane does not change
pub kept_under : (lane outer : ℕ) (h o : Held) (owes : Option ℕ) (raised : ℕ) (l m : Site) →
    HoldsWith owes raised outer o l → outer ≢ lane → Took lane h l m → lane_of m outer ≡ lane_of l outer
kept_under lane outer h o owes raised l m holds other k = let in_hand = holds.has.held.0 in
    subst (λ (j : ℕ). lane_of m j ≡ lane_of l j) holds.lane_is
    (k.kept o.turn.lane o.turn.ticket in_hand.near (λ e. other (sym holds.lane_is ∙ e)) in_hand.stage)
