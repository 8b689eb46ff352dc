-- The lanes that a pass holds after each call of the table.
use Rattle.std.proofs.Common.{◌≡◌, ◌≢◌, ℕ, zero, suc, ◌+◌, ◌<◌, ◌≤◌, List, [], ◌∷◌, Option, Some, None, length, sym, refl, ap, ◌∙◌, subst, arith, get_or}
use Rattle.std.proofs.lemmas.List.{get_or-replicate}
use Rattle.std.proofs.Math.ListN.{get_or-map, length-replicate}
use mathlib.Core.Logic.{dite}
use native.Mathlib.Decide.{dec_le, ℕ_discrete}
use Rattle.atomic_table.specs.Table.{rest}
use Rattle.lane_table.specs.declared.view.Visit.{Visit}
use Rattle.lane_table.specs.declared.view.LaneView.{LaneView}
use Rattle.lane_table.specs.declared.view.View.{View}
use Rattle.lane_table.specs.declared.view.Content.{Content}
use Rattle.lane_table.specs.declared.view.TableSize.{TableSize}
use Rattle.lane_table.specs.declared.view.TicketStage.TheVariants.{Holding}
use Rattle.lane_table.specs.declared.lanes.Lanes.{Lanes}
use Rattle.lane_table.specs.declared.lanes.Pass.{Pass}
use Rattle.lane_table.specs.declared.lanes.Held.{Held}
use Rattle.lane_table.specs.WorldRule.{at, blank, last_stamp}
use Rattle.lane_table.specs.Meaning.{ahead_of}
use Rattle.lane_table.specs.Steps.{Seated, both_of, child, halved, first_view, recorded}
use Rattle.lane_table.specs.Calls.{view, slots, count_of, IsPassOf, IsSamePass, IsAway, IsIdle, SameView, Taken, Tried, Added, Left, Looked, Raised}
use Rattle.lane_table.specs.Hands.{HeldLane, hand, IsInHand, NotIn, AllInHand, HoldsLanes}
use Rattle.lane_table.proofs.Rule.Shares.{merged_at}

-- if the view's part of a held lane does not change, the pass still holds the lane
held_same : (v w : View) (h : HeldLane) → at h.lane w ≡ at h.lane v → SameView v w → IsInHand v h → IsInHand w h
held_same v w h e same k = record {
  near = (let n = k.near in let s = same.sized in omega arith);
  stage = ap (λ (a : LaneView). a.stage) e ∙ k.stage;
  owed = ap (λ (a : LaneView). a.owes) e ∙ k.owed;
  raise = λ one. subst (λ (l : ℕ). at l w ≡ at l v → (at 1 w).raised ≡ (at 1 v).raised) (sym one)
      (λ q. ap (λ (a : LaneView). a.raised) q) e ∙ k.raise one;
  next = k.next ∙ ap (λ (a : LaneView). length a.known) (sym e);
  last = k.last ∙ (λ q. last_stamp (sym same.first q) (sym e q).known);
}

-- if the parts of all held lanes other than `lane` are unchanged, and `lane` is not in `hands`, the pass still holds
-- the lanes of `hands`
all_same : (lane : ℕ) (v w : View) (hands : List HeldLane) →
    ((j u : ℕ) → j < length v.lanes → j ≢ lane → (at j v).stage ≡ Holding u → at j w ≡ at j v)
    → SameView v w → NotIn lane hands → AllInHand v hands → AllInHand w hands
all_same lane v w [] keeps same not all = tt
all_same lane v w (h ∷ hands) keeps same not all = (
  held_same v w h (keeps h.lane h.ticket all.0.near (λ e. not.0 (sym e)) all.0.stage) same all.0,
  all.1,
  all_same lane v w hands keeps same not.1 all.2,
)

-- if only the lanes `one` and `two` can have changed, and neither is in `hands`, the pass still holds the lanes of
-- `hands`
all_but : (one two : ℕ) (v w : View) (hands : List HeldLane) → ((j : ℕ) → j ≢ one → j ≢ two → at j w ≡ at j v) →
    SameView v w → NotIn one hands → NotIn two hands → AllInHand v hands → AllInHand w hands
all_but one two v w [] keeps same not₁ not₂ all = tt
all_but one two v w (h ∷ hands) keeps same not₁ not₂ all = (
  held_same v w h (keeps h.lane (λ e. not₁.0 (sym e)) (λ e. not₂.0 (sym e))) same all.0,
  all.1,
  all_but one two v w hands keeps same not₁.1 not₂.1 all.2,
)

-- an entry cannot both name a place of another lane and name none
pub names_none : (e : Option (ℕ × ℕ)) (l b : ℕ) → e ≡ None → e ≡ Some (l, b) → ⊥
names_none e l b none some = let f : ◌≡◌ {A = Option (ℕ × ℕ)} None (Some (l, b)) = sym none ∙ some in cc f

pub names_one : (e : Option (ℕ × ℕ)) (l b l' b' : ℕ) → e ≡ Some (l, b) → e ≡ Some (l', b') → l' ≡ l
names_one e l b l' b' first second = let f : ◌≡◌ {A = Option (ℕ × ℕ)} (Some (l', b')) (Some (l, b)) =
    sym second ∙ first in let g : (l', b') ≡ (l, b) = cc f in ap (λ (z : ℕ × ℕ). z.0) g

pub has_taken : (t : Lanes) (caller : ℕ) (hands : List HeldLane) (lane : ℕ) (h : Held) (p p' : Pass) →
    lane < count_of t →
    NotIn lane hands → HoldsLanes t caller hands p → IsSamePass t p p' → Taken lane h p.seat.me p'.seat.me
    → HoldsLanes t caller (hand h.turn None 0 ∷ hands) p'
has_taken t caller hands lane h p p' near not k is taken =
    subst (λ (l : ℕ). HoldsLanes t caller (record {
      lane = l;
      ticket = h.turn.ticket;
      place = h.turn.place;
      stamp = h.turn.stamp;
      owes = None;
      raised = 0;
    } ∷ hands) p') (sym taken.of_lane) record {
      pass = is.pass;
      own = is.caller ∙ k.own;
      out = taken.slots ∙ ap (λ (l : List (ℕ × Option Content)). (lane, None) ∷ l) k.out;
      held = (
        record {
          near = (let a = k.pass.sized in let b = taken.same.sized in omega arith);
          stage = taken.holding;
          owed = taken.free.0;
          raise = taken.free.1;
          next = taken.conforms.place;
          last = taken.conforms.stamp;
        },
        not,
        all_same lane (view p) (view p') hands taken.keeps taken.same not k.held,
      );
      away = λ j low no. (taken.aside j (let a = k.pass.sized in omega arith) no.0).stage ∙ k.away j low no.1;
    }

pub has_tried : (t : Lanes) (caller : ℕ) (hands : List HeldLane) (lane : ℕ) (p p' : Pass) → NotIn lane hands →
    HoldsLanes t caller hands p → IsSamePass t p p' → Tried lane p.seat.me p'.seat.me → HoldsLanes t caller hands p'
has_tried t caller hands lane p p' not k is tried = record {
  pass = is.pass;
  own = is.caller ∙ k.own;
  out = tried.slots ∙ k.out;
  held = all_same lane (view p) (view p') hands tried.keeps tried.same not k.held;
  away = λ j low no. (tried.aside j (let a = k.pass.sized in omega arith)).stage ∙ k.away j low no;
}

pub has_looked : (t : Lanes) (caller : ℕ) (hands : List HeldLane) (g : ℕ) (p p' : Pass) → HoldsLanes t caller hands p →
    IsSamePass t p p' → Looked g p.seat.me p'.seat.me → HoldsLanes t caller hands p'
has_looked t caller hands g p p' k is looked = let same : (j : ℕ) → at j (view p') ≡ at j (view p) =
    λ j. ap (λ (l : List LaneView). get_or l j blank) looked.lanes in record {
      pass = is.pass;
      own = is.caller ∙ k.own;
      out = looked.slots ∙ k.out;
      held = every same hands k.held;
      away = λ j low no. ap (λ (a : LaneView). a.stage) (same j) ∙ k.away j low no;
    }
  where
    every : ((j : ℕ) → at j (view p') ≡ at j (view p)) → (hs : List HeldLane) → AllInHand (view p) hs →
        AllInHand (view p') hs
    every same [] all = tt
    every same (x ∷ xs) all = (
      held_same (view p) (view p') x (same x.lane) looked.same all.0,
      all.1,
      every same xs all.2,
    )

-- let `h` be the lane taken last. If the entry of a visit of `h` names no place of another lane, the pass still holds
-- its other lanes after the visit
pub has_put : (t : Lanes) (caller : ℕ) (h : HeldLane) (hands : List HeldLane) (x : Visit) (p p' : Pass) →
    ahead_of x.entry ≡ None → HoldsLanes t caller (h ∷ hands) p → IsSamePass t p p' →
    Added h.lane x p.seat.me p'.seat.me → HoldsLanes t caller hands p'
has_put t caller h hands x p p' none k is added = let others : (j : ℕ) → j ≢ h.lane → at j (view p') ≡ at j (view p) =
    λ j ne. added.others j ne (λ l b e. absurd (names_none (ahead_of x.entry) l b none e)) in record {
      pass = is.pass;
      own = is.caller ∙ k.own;
      out = added.slots ∙ ap rest k.out;
      held = all_but h.lane h.lane (view p) (view p') hands (λ j ne _. others j ne) added.same k.held.1 k.held.1 k.held.2;
      away = λ j low no. dite (ℕ_discrete j h.lane) (λ e. subst (λ (l : ℕ). IsAway l (view p')) (sym e)
          (ap (λ (a : LaneView). a.stage) added.here)) (λ ne. ap (λ (a : LaneView). a.stage) (others j ne)
          ∙ k.away j low (ne, no));
    }

-- let `h` be the lane taken last, and `o` the lane taken before `h`. If the entry of a visit of `h` names a place of
-- `o`, the pass still holds its other lanes after the visit, and owes an answer at `o`
pub has_put_naming : (t : Lanes) (caller : ℕ) (h o : HeldLane) (hands : List HeldLane) (x : Visit) (b : ℕ)
    (p p' : Pass) → ahead_of x.entry ≡ Some (o.lane, b) → HoldsLanes t caller (h ∷ o ∷ hands) p → IsSamePass t p p' →
    Added h.lane x p.seat.me p'.seat.me
    → HoldsLanes t caller (record o { owes = Some h.place } ∷ hands) p'
has_put_naming t caller h o hands x b p p' names k is added =
    let others : (j : ℕ) → j ≢ h.lane → j ≢ o.lane → at j (view p') ≡ at j (view p) =
    λ j ne no. added.others j ne (λ l z e q. no (q ∙ names_one (ahead_of x.entry) o.lane b l z names e)) in
    let outer = k.held.2.0 in let here = added.ahead o.lane b names outer.near in record {
      pass = is.pass;
      own = is.caller ∙ k.own;
      out = added.slots ∙ ap rest k.out;
      held = (
        record {
          near = (let n = outer.near in let e = added.same.sized in omega arith);
          stage = ap (λ (z : LaneView). z.stage) here ∙ outer.stage;
          owed = ap (λ (z : LaneView). z.owes) here ∙ ap Some (sym k.held.0.next);
          raise = λ one. subst (λ (l : ℕ). (at l (view p')).raised ≡ (at l (view p)).raised →
              (at 1 (view p')).raised ≡ (at 1 (view p)).raised) (sym one) (λ q. q) (ap (λ (z : LaneView). z.raised) here)
              ∙ outer.raise one;
          next = outer.next ∙ ap (λ (z : LaneView). length z.known) (sym here);
          last = outer.last ∙ (λ q. last_stamp (sym added.same.first q) (sym here q).known);
        },
        k.held.2.1,
        all_but h.lane o.lane (view p) (view p') hands others added.same k.held.1.1 k.held.2.1 k.held.2.2,
      );
      away = λ j low no. dite (ℕ_discrete j h.lane) (λ e. subst (λ (l : ℕ). IsAway l (view p')) (sym e)
          (ap (λ (a : LaneView). a.stage) added.here)) (λ ne. ap (λ (a : LaneView). a.stage) (others j ne no.0)
          ∙ k.away j low (ne, no));
    }

-- if a pass holds only the base and raises the generation, it still holds only the base
pub has_raised : (t : Lanes) (caller : ℕ) (h : HeldLane) (g : ℕ) (p p' : Pass) → h.lane ≡ 1 →
    HoldsLanes t caller (h ∷ []) p →
    IsSamePass t p p' → Raised g p.seat.me p'.seat.me → HoldsLanes t caller (record h { raised = 1 } ∷ []) p'
has_raised t caller h g p p' base k is raised =
    let here : at h.lane (view p') ≡ record (at h.lane (view p)) { raised = 1 } =
    subst (λ (z : ℕ). at z (view p') ≡ record (at z (view p)) { raised = 1 }) (sym base) raised.here in let outer =
    k.held.0 in record {
      pass = is.pass;
      own = is.caller ∙ k.own;
      out = raised.slots ∙ k.out;
      held = (
        record {
          near = (let n = outer.near in let e = raised.same.sized in omega arith);
          stage = ap (λ (z : LaneView). z.stage) here ∙ outer.stage;
          owed = ap (λ (z : LaneView). z.owes) here ∙ outer.owed;
          raise = λ _. ap (λ (z : LaneView). z.raised) raised.here;
          next = outer.next ∙ ap (λ (z : LaneView). length z.known) (sym here);
          last = outer.last ∙ (λ q. last_stamp (sym raised.same.first q) (sym here q).known);
        },
        tt,
        tt,
      );
      away = λ j low no. ap (λ (a : LaneView). a.stage) (raised.others j (λ e. no.0 (e ∙ sym base))) ∙ k.away j low no;
    }

pub has_left : (t : Lanes) (caller : ℕ) (h : HeldLane) (hands : List HeldLane) (p p' : Pass) →
    HoldsLanes t caller (h ∷ hands) p →
    IsSamePass t p p' → Left h.lane p.seat.me p'.seat.me → HoldsLanes t caller hands p'
has_left t caller h hands p p' k is left = record {
  pass = is.pass;
  own = is.caller ∙ k.own;
  out = left.slots ∙ ap rest k.out;
  held = all_but h.lane h.lane (view p) (view p') hands (λ j ne _. left.others j ne) left.same k.held.1 k.held.1
      k.held.2;
  away = λ j low no. dite (ℕ_discrete j h.lane) (λ e. subst (λ (l : ℕ). IsAway l (view p')) (sym e) left.stage)
      (λ ne. ap (λ (a : LaneView). a.stage) (left.others j ne) ∙ k.away j low (ne, no));
}

-- Passes that begin, are split and are joined

-- a new table's pass holds no lane
pub has_new : (t : Lanes) (caller : ℕ) (plan : TableSize) (p : Pass) → IsPassOf t p → p.caller ≡ caller →
    p.seat.me ≡ (first_view plan, []) → HoldsLanes t caller [] p
has_new t caller plan p is own e = let long : length (view p).lanes ≡ plan.count =
    ap (λ (m : Seated). length m.0.lanes) e ∙ length-replicate plan.count blank in record {
      pass = is;
      own = own;
      out = ap (λ (m : Seated). m.1) e;
      held = tt;
      away = λ j low _. ap (λ (m : Seated). (at j m.0).stage) e
          ∙ ap (λ (a : LaneView). a.stage) (get_or-replicate plan.count j blank blank (let s = is.sized in omega arith));
    }

-- a pass that holds no lane still holds none after another pass was split off from it
pub has_halved : (t : Lanes) (caller : ℕ) (p p' : Pass) → HoldsLanes t caller [] p → IsSamePass t p p' →
    p'.seat.me ≡ (halved (view p), slots p) → HoldsLanes t caller [] p'
has_halved t caller p p' k is e = record {
  pass = is.pass;
  own = is.caller ∙ k.own;
  out = ap (λ (m : Seated). m.1) e ∙ k.out;
  held = tt;
  away = λ j low no. ap (λ (m : Seated). (at j m.0).stage) e ∙ k.away j low no;
}

-- the pass that was split off holds no lane
pub has_child : (t : Lanes) (caller : ℕ) (v : View) (p : Pass) → IsPassOf t p → p.caller ≡ caller →
    p.seat.me ≡ (child v, []) → HoldsLanes t caller [] p
has_child t caller v p is own e = record {
  pass = is;
  own = own;
  out = ap (λ (m : Seated). m.1) e;
  held = tt;
  away = λ j low _. ap (λ (m : Seated). (at j m.0).stage) e
      ∙ ap (λ (a : LaneView). a.stage) (get_or-map recorded v.lanes j blank);
}

-- a pass that holds no lane still holds none after it took in another pass
pub has_joined : (t : Lanes) (caller : ℕ) (w : View) (p p' : Pass) → length (view p).lanes ≡ length w.lanes →
    HoldsLanes t caller [] p → IsSamePass t p p' → p'.seat.me ≡ (both_of (view p) w, slots p) →
    HoldsLanes t caller [] p'
has_joined t caller w p p' long k is e = record {
  pass = is.pass;
  own = is.caller ∙ k.own;
  out = ap (λ (m : Seated). m.1) e ∙ k.out;
  held = tt;
  away = λ j low no. ap (λ (m : Seated). (at j m.0).stage) e
      ∙ ap (λ (a : LaneView). a.stage) (merged_at (view p).lanes w.lanes j long) ∙ k.away j low no;
}

-- beyond the last lane, a view's part of a lane is blank
beyond : (l : List LaneView) (j : ℕ) → length l ≤ j → get_or l j blank ≡ blank
beyond [] j h = refl
beyond (x ∷ xs) zero h = absurd (omega arith)
beyond (x ∷ xs) (suc j) h = beyond xs j (omega arith)

-- a pass without held lanes is idle
pub idle_of : (t : Lanes) (caller : ℕ) (p : Pass) → HoldsLanes t caller [] p → IsIdle (view p)
idle_of t caller p k j = dite (dec_le (j + 1) (count_of t)) (λ low. k.away j (omega arith) tt)
    (λ high. ap (λ (a : LaneView). a.stage) (beyond (view p).lanes j (let s = k.pass.sized in omega arith)))
