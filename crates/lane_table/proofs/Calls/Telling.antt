-- The effect of each call of the table, as `Calls` defines it, follows from the effects of the call's atomic steps.
use Rattle.std.proofs.Common.{◌≡◌, ◌≢◌, ℕ, ◌+◌, ◌^◌, ◌<◌, ◌≤◌, zero, suc, List, [], ◌∷◌, ◌++◌, length-append, Option, Some, None, length, get_or, set, sym, refl, ap, ◌∙◌, subst, ⊎_elim, inr, arith}
use Rattle.std.proofs.lemmas.List.{get_or-set_other, get_or-set_same, length-set}
use mathlib.Core.Logic.{dite}
use native.Mathlib.Decide.{ℕ_discrete}
use Rattle.atomic_table.specs.Table.{rest}
use Rattle.lane_table.specs.declared.view.Visit.{Visit}
use Rattle.lane_table.specs.declared.view.LaneView.{LaneView}
use Rattle.lane_table.specs.declared.view.View.{View}
use Rattle.lane_table.specs.declared.view.Content.{Content}
use Rattle.lane_table.specs.declared.view.TicketStage.TheVariants.{Away, Holding}
use Rattle.lane_table.specs.declared.lanes.Held.{Held}
use Rattle.lane_table.specs.declared.lanes.Lanes.{Lanes}
use Rattle.lane_table.specs.declared.lanes.Pass.{Pass}
use Rattle.lane_table.specs.declared.values.LaneState.{LaneState}
use Rattle.lane_table.specs.Meaning.{replay, model_step, ahead_of, ValueRepresents}
use Rattle.lane_table.specs.References.{Pointed}
use Rattle.lane_table.specs.WorldRule.{Begins, Consistent, Replays, at, blank, known_of, last_stamp, raises}
use Rattle.lane_table.specs.Steps.{Got, Grows, KeepsHeld, MayName, NamesHeld, Seated, after, holder, learn, learn_from, learned, left, owing, raised, raising, saw, staged, visited, with_at, with_stamp}
use Rattle.lane_table.specs.Calls.{Added, SameOtherLane, SameHeldLane, IsPassOf, IsSamePass, Left, Looked, Raised, SameView, Taken, Tried, view}
use Rattle.lane_table.proofs.Lists.VisitLists.{begins_push, begins_refl, last_push, place_below, raises_few}
use Rattle.lane_table.proofs.Lists.LawfulLists.{base_generation, cpu_below, replay_push}
use Rattle.lane_table.proofs.Rule.Naming.{parent_below, parent_cpu, same_pair}
use Rattle.lane_table.proofs.Rule.Serving.{length_learn, learn_at}
use Rattle.lane_table.proofs.Rule.Restaging.{Restages, at_with, consistent_same, grows_same, to_here, to_there, to_known, to_long}

-- The value that a pass gets when it takes a lane

same_value : (i : ℕ) (c d : Content) (xs ys : List (ℕ × Option Content)) → (i, Some c) ∷ xs ≡ (i, Some d) ∷ ys → c ≡ d
same_value i c d xs ys e = let X : Type 0 = ℕ × Option Content in let p : X = (i, Some c) in let q : X = (i, Some d) in
    let h : p ≡ q = cc e in let k : Some c ≡ Some d = ap (λ (z : X). z.1) h in cc k

-- the pass drew a ticket of lane `i` (`m₁`), the turn of ticket `t` came (`m₂`), and the pass took the value out of the
-- slot (`m₃`)
module _ {i t : ℕ} {m m₁ m₂ m₃ : Seated} {c : Content} (near : i < length m.0.lanes) (r : Restages i m m₁)
    (got : Got i t m₁ m₂) (has : m₂.1 ≡ (i, Some c) ∷ rest m₂.1) (taken_out : m₃ ≡ (m₂.0, (i, None) ∷ rest m₂.1)) where
  content_is : got.content ≡ c
  content_is = same_value i got.content c m₁.1 (rest m₂.1) (sym (ap (λ (z : Seated). z.1) got.is) ∙ has)

  pub got_replays : Replays i m₁.0.first got.log c
  got_replays = subst (Replays i m₁.0.first got.log) content_is got.replays

  -- the value's next place is at most its last stamp
  pub got_early : c.place ≤ c.stamp
  got_early = let p = place_below m₁.0.first got.log got.rising in let a = got_replays.place in let b =
      got_replays.stamp in omega arith

  got_view : m₃.0 ≡ with_at i (holder got.log t (at i m₁.0)) (learned got.lists m₁.0)
  got_view = ap (λ (z : Seated). z.0) taken_out ∙ ap (λ (z : Seated). z.0) got.is

  got_here : at i m₃.0 ≡ holder got.log t (at i m₁.0)
  got_here = ap (at i) got_view ∙ get_or-set_same (learn_from got.lists 0 m₁.0.lanes) i (holder got.log t (at i m₁.0))
      blank (let e = length_learn got.lists 0 m₁.0.lanes in let f = to_long r near in omega arith)

  pub got_known : known_of m₃.0 i ≡ got.log
  got_known = ap (λ (a : LaneView). a.known) got_here

  got_there : (j : ℕ) → j < length m.0.lanes → j ≢ i → at j m₃.0 ≡ learn (got.lists (0 + j)) (at j m.0)
  got_there j low ne = ap (at j) got_view ∙ get_or-set_other (learn_from got.lists 0 m₁.0.lanes) i j
      (holder got.log t (at i m₁.0)) blank ne
      ∙ learn_at got.lists 0 m₁.0.lanes j (let f = to_long r near in omega arith)
      ∙ ap (learn (got.lists (0 + j))) (to_there r near j ne)

  got_long : length m₃.0.lanes ≡ length m.0.lanes
  got_long = ap (λ (v : View). length v.lanes) got_view
      ∙ length-set (learn_from got.lists 0 m₁.0.lanes) i (holder got.log t (at i m₁.0))
      ∙ length_learn got.lists 0 m₁.0.lanes ∙ to_long r near

  got_first : m₃.0.first ≡ m₁.0.first
  got_first = ap (λ (v : View). v.first) got_view

  -- the value's last stamp is the last stamp of the list that the pass knows
  pub got_stamp : c.stamp ≡ last_stamp m₃.0.first (known_of m₃.0 i)
  got_stamp = got_replays.stamp ∙ (λ q. last_stamp (sym got_first q) (sym got_known q))

  got_same : SameView m.0 m₃.0
  got_same = record {
    first = got_first ∙ r.first;
    share = ap (λ (v : View). v.share) got_view ∙ r.share;
    halvings = ap (λ (v : View). v.halvings) got_view ∙ r.halvings;
    sized = got_long;
  }

  got_grows : Grows m.0 m₃.0
  got_grows j low = subst (λ (z : List Visit × List Visit). Begins z.0 z.1)
      (λ q. (to_known r near j q, known_of (sym taken_out q).0 j)) (got.grows j (let f = to_long r near in omega arith))

  got_keeps : KeepsHeld i m.0 m₃.0
  got_keeps j u low ne hold = ap (λ (z : Seated). at j z.0) taken_out
      ∙ got.keeps j u (let f = to_long r near in omega arith) ne
      (ap (λ (a : LaneView). a.stage) (to_there r near j ne) ∙ hold) ∙ to_there r near j ne

  got_seen : m₃.0.seen ≡ m.0.seen
  got_seen = ap (λ (v : View). v.seen) got_view ∙ r.seen

  got_consistent : Consistent m₃.0
  got_consistent = subst Consistent (ap (λ (z : Seated). z.0) (sym taken_out)) got.consistent

  pub got_drawn : m₁.0.drawn ≡ m.0.drawn + 1 → m₃.0.drawn ≡ m.0.drawn + 1
  got_drawn e = ap (λ (v : View). v.drawn) got_view ∙ e

  pub taken_is : (h : Held) → m₁.0.drawn ≡ m.0.drawn + 1 → c.stamp < 2 ^ 62 → (h.turn.lane ≡ i) × (h.turn.ticket ≡ t) →
      (h.turn.place ≡ c.place) × (h.turn.stamp ≡ c.stamp) → h.state ≡ c.state → Taken i h m m₃
  taken_is h drawn early turn list state = let mine : at i m₁.0 ≡ r.to = to_here r near in record {
    of_lane = turn.0;
    consistent = got_consistent;
    same = got_same;
    conforms = record {
      value = subst (λ (z : LaneState × List Visit). ValueRepresents i z.0 (replay z.1))
          (λ q. (sym state q, sym got_known q)) got_replays.value;
      place = list.0 ∙ got_replays.place ∙ ap length (sym got_known);
      stamp = list.1 ∙ got_stamp;
    };
    holding = ap (λ (a : LaneView). a.stage) got_here ∙ (λ q. Holding (sym turn.1 q));
    free = (
      ap (λ (a : LaneView). a.owes) got_here ∙ got.free.0,
      (λ one. ap (λ (k : ℕ). (at k m₃.0).raised) (sym one) ∙ ap (λ (a : LaneView). a.raised) got_here
          ∙ ap (λ (k : ℕ). (at k m₁.0).raised) one ∙ got.free.1 one),
    );
    still = record {
      made = ap (λ (a : LaneView). a.made) (got_here ∙ ap (holder got.log t) mine) ∙ r.made;
      places = ap (λ (a : LaneView). a.places) (got_here ∙ ap (holder got.log t) mine) ∙ r.places;
      heard = ap (λ (a : LaneView). a.heard) (got_here ∙ ap (holder got.log t) mine) ∙ r.heard;
    };
    keeps = got_keeps;
    aside = λ j low ne. (let e = got_there j low ne in record {
      stage = ap (λ (a : LaneView). a.stage) e;
      owed = ap (λ (a : LaneView). a.owes) e;
      raise = ap (λ (a : LaneView). a.raised) e;
      still = record {
        made = ap (λ (a : LaneView). a.made) e;
        places = ap (λ (a : LaneView). a.places) e;
        heard = ap (λ (a : LaneView). a.heard) e;
      };
    });
    grows = got_grows;
    fresh = λ one. (let e = base_generation (known_of m₃.0 1) in
        let f = ap raises (ap (known_of m₃.0) (sym one) ∙ got_known) in let g = got.fresh one in let z = r.seen in
        omega arith);
    early = λ one. (let e = base_generation (known_of m₃.0 1) in
        let f = ap raises (ap (known_of m₃.0) (sym one) ∙ got_known) in let few = raises_few got.log in let a =
        got_early in let b = got_replays.place in omega arith);
    slots = ap (λ (z : Seated). z.1) taken_out ∙ ap (λ (l : List (ℕ × Option Content)). (i, None) ∷ rest l)
        (ap (λ (z : Seated). z.1) got.is) ∙ ap (λ (l : List (ℕ × Option Content)). (i, None) ∷ l) r.slots;
    looks = ap (λ (v : View). v.looks) got_view ∙ r.looks;
    seen = got_seen;
    stamp = ap (λ (v : View). v.stamp) got_view ∙ r.stamp;
    stamps = ap (λ (v : View). v.stamps) got_view ∙ r.stamps;
    drawn = got_drawn drawn;
  }

  -- if the lane's last stamp is 2^62 or more and the pass gave the lane back at once, the effect of the call is `Tried`
  pub left_tried : (at i m.0).stage ≡ Away → m₁.0.drawn ≡ m.0.drawn + 1 → 2 ^ 62 ≤ c.stamp → (m₄ : Seated) →
      m₄ ≡ left i m₃ → Tried i m m₄
  left_tried away drawn late m₄ e = let w : View = with_at i (staged Away (at i m₃.0)) m₃.0 in let v₄ : m₄.0 ≡ w =
      ap (λ (z : Seated). z.0) e in let mine : at i m₁.0 ≡ r.to = to_here r near in
      let here : at i m₄.0 ≡ staged Away (at i m₃.0) =
      ap (at i) v₄ ∙ at_with i (staged Away (at i m₃.0)) m₃.0 (let f = got_long in omega arith) in
      let there : (j : ℕ) → j ≢ i → at j m₄.0 ≡ at j m₃.0 =
      λ j ne. ap (at j) v₄ ∙ get_or-set_other m₃.0.lanes i j (staged Away (at i m₃.0)) blank ne in
      let known : (j : ℕ) → known_of m₄.0 j ≡ known_of m₃.0 j =
      λ j. dite (ℕ_discrete j i) (λ q. ap (known_of m₄.0) q ∙ ap (λ (a : LaneView). a.known) here
      ∙ ap (known_of m₃.0) (sym q)) (λ ne. ap (λ (a : LaneView). a.known) (there j ne)) in
      let long : length m₄.0.lanes ≡ length m₃.0.lanes =
      ap (λ (v : View). length v.lanes) v₄ ∙ length-set m₃.0.lanes i (staged Away (at i m₃.0)) in record {
        consistent = λ _. consistent_same m₃.0 m₄.0 long known got_consistent;
        same = record {
          first = ap (λ (v : View). v.first) v₄ ∙ got_same.first;
          share = ap (λ (v : View). v.share) v₄ ∙ got_same.share;
          halvings = ap (λ (v : View). v.halvings) v₄ ∙ got_same.halvings;
          sized = long ∙ got_long;
        };
        keeps = λ j u low ne hold. there j ne ∙ got_keeps j u low ne hold;
        aside = λ j low. dite (ℕ_discrete j i)
            (λ q. subst (λ (k : ℕ). SameOtherLane k m.0 m₄.0) (sym q) record {
              stage = ap (λ (a : LaneView). a.stage) here ∙ sym away;
              owed = ap (λ (a : LaneView). a.owes) (here ∙ ap (staged Away) (got_here ∙ ap (holder got.log t) mine))
                  ∙ r.owed;
              raise = ap (λ (a : LaneView). a.raised) (here ∙ ap (staged Away) (got_here ∙ ap (holder got.log t) mine))
                  ∙ r.raise;
              still = record {
                made = ap (λ (a : LaneView). a.made) (here ∙ ap (staged Away) (got_here ∙ ap (holder got.log t) mine))
                    ∙ r.made;
                places = ap (λ (a : LaneView). a.places) (here
                    ∙ ap (staged Away) (got_here ∙ ap (holder got.log t) mine)) ∙ r.places;
                heard = ap (λ (a : LaneView). a.heard) (here ∙ ap (staged Away)
                    (got_here ∙ ap (holder got.log t) mine)) ∙ r.heard;
              };
            })
            (λ ne. let z = there j ne ∙ got_there j low ne in record {
              stage = ap (λ (a : LaneView). a.stage) z;
              owed = ap (λ (a : LaneView). a.owes) z;
              raise = ap (λ (a : LaneView). a.raised) z;
              still = record {
                made = ap (λ (a : LaneView). a.made) z;
                places = ap (λ (a : LaneView). a.places) z;
                heard = ap (λ (a : LaneView). a.heard) z;
              };
            });
        grows = λ j low. subst (Begins (known_of m.0 j)) (sym (known j)) (got_grows j low);
        slots = ap (λ (z : Seated). z.1) e ∙ ap (λ (z : Seated). rest z.1) taken_out
            ∙ ap (λ (z : Seated). rest z.1) got.is ∙ r.slots;
        looks = ap (λ (v : View). v.looks) (v₄ ∙ refl) ∙ ap (λ (v : View). v.looks) got_view ∙ r.looks;
        seen = ap (λ (v : View). v.seen) v₄ ∙ got_seen;
        stamp = ap (λ (v : View). v.stamp) v₄ ∙ ap (λ (v : View). v.stamp) got_view ∙ r.stamp;
        stamps = ap (λ (v : View). v.stamps) v₄ ∙ ap (λ (v : View). v.stamps) got_view ∙ r.stamps;
        drawn = inr (
          ap (λ (v : View). v.drawn) v₄ ∙ got_drawn drawn,
          (let s = got_stamp ∙ (λ q. last_stamp (sym v₄ q).first (sym (known i) q)) in omega arith),
        );
      }

-- after the turn of a pass came, the pass still belongs to the table
pub got_pass : {i t : ℕ} {m m' : Seated} → Got i t m m' → (lanes : Lanes) (p q : Pass) → IsPassOf lanes p →
    p.seat.me ≡ m → q.seat.me ≡ m' → q.seat.table_id ≡ p.seat.table_id → q.stamp ≡ p.stamp → q.caller ≡ p.caller →
    IsSamePass lanes p q
got_pass {i} {t} {m} {m'} got lanes p q h is is' table stamp caller = let v₀ : view p ≡ m.0 =
    ap (λ (z : Seated). z.0) is in let v₁ = ap (λ (z : Seated). z.0) (is' ∙ got.is) in record {
      pass = record {
        table = table ∙ h.table;
        share = (let a = h.share in let b = ap (λ (z : View). z.share) v₀ in let c = ap (λ (z : View). z.share) v₁ in
            omega arith);
        stamp = stamp ∙ h.stamp ∙ ap (λ (z : View). z.stamp) v₀ ∙ ap (λ (z : View). z.stamp) (sym v₁);
        sized = ap (λ (z : View). length z.lanes) v₁ ∙ length-set (learn_from got.lists 0 m.0.lanes) i
            (holder got.log t (at i m.0)) ∙ length_learn got.lists 0 m.0.lanes ∙ ap (λ (z : View). length z.lanes) (sym v₀)
            ∙ h.sized;
        first = ap (λ (z : View). z.first) v₁ ∙ ap (λ (z : View). z.first) (sym v₀) ∙ h.first;
      };
      caller = caller;
    }

-- The view of a pass after its visit of a lane

owing_other : (o : Option (ℕ × ℕ)) (place : ℕ) (u : View) (j : ℕ) → ((l b : ℕ) → o ≡ Some (l, b) → j ≢ l) →
    at j (owing o place u) ≡ at j u
owing_other None place u j h = refl
owing_other (Some z) place u j h = get_or-set_other u.lanes z.0 j (record (at z.0 u) { owes = Some place }) blank
    (h z.0 z.1 refl)

owing_there : (place : ℕ) (u : View) (l b : ℕ) → l < length u.lanes →
    at l (owing (Some (l, b)) place u) ≡ record (at l u) { owes = Some place }
owing_there place u l b low = get_or-set_same u.lanes l (record (at l u) { owes = Some place }) blank low

-- `owing` changes only the field `lanes` of a view
owing_rest : (o : Option (ℕ × ℕ)) (place : ℕ) (u : View) →
    owing o place u ≡ record u { lanes = (owing o place u).lanes }
owing_rest None place u = refl
owing_rest (Some z) place u = refl

owing_long : (o : Option (ℕ × ℕ)) (place : ℕ) (u : View) → length (owing o place u).lanes ≡ length u.lanes
owing_long None place u = refl
owing_long (Some z) place u = length-set u.lanes z.0 (record (at z.0 u) { owes = Some place })

-- if `f` does not depend on `owes`, then setting `owes` at one lane does not change `f` at any lane
owes_set : {X : Type 0} (f : LaneView → X) → ((a : LaneView) (o : Option ℕ) → f (record a { owes = o }) ≡ f a) →
    (l : List LaneView) (i j : ℕ) (o : Option ℕ)
    → f (get_or (set l i (record (get_or l i blank) { owes = o })) j blank) ≡ f (get_or l j blank)
owes_set f same [] i j o = refl
owes_set f same (x ∷ xs) zero zero o = same x o
owes_set f same (x ∷ xs) zero (suc j) o = refl
owes_set f same (x ∷ xs) (suc i) zero o = refl
owes_set f same (x ∷ xs) (suc i) (suc j) o = owes_set f same xs i j o

owing_field : {X : Type 0} (f : LaneView → X) → ((a : LaneView) (o : Option ℕ) → f (record a { owes = o }) ≡ f a) →
    (o : Option (ℕ × ℕ)) (place : ℕ) (u : View) (j : ℕ) → f (at j (owing o place u)) ≡ f (at j u)
owing_field f same None place u j = refl
owing_field f same (Some z) place u j = owes_set f same u.lanes z.0 j (Some place)

pub added_is : (i : ℕ) (x : Visit) (m m' : Seated) → i < length m.0.lanes → MayName i x.entry m.0 →
    m.0.stamp < x.stamp → m' ≡ (after i x m.0, rest m.1) → Consistent m'.0 → Added i x m m'
added_is i x m m' near names later e consistent = let v : View = m.0 in let a = visited x (at i v) in let u : View =
    with_at i a (with_stamp x.stamp v) in let o : Option (ℕ × ℕ) = ahead_of x.entry in let place : ℕ =
    length (known_of v i) in
    let apart : (l b : ℕ) → ahead_of x.entry ≡ Some (l, b) → i ≢ l =
    λ l b is. ⊎_elim (λ (h : ahead_of x.entry ≡ None). let g : ◌≡◌ {A = Option (ℕ × ℕ)} None (Some (l, b)) = sym h
    ∙ is in absurd (cc g))
    (λ (h : (l : ℕ) × (b : ℕ) × (ahead_of x.entry ≡ Some (l, b)) × NamesHeld i v l b). λ q. let p = ap
    (λ (z : ℕ × ℕ). z.0) (same_pair (h.0, h.1) (l, b) (sym h.2 ∙ is)) in let low = parent_below h.0 h.3.above in
    let par = h.3.parent in omega arith) names.ahead in
    let view' : m'.0 ≡ record u { lanes = (owing o place u).lanes } =
    ap (λ (z : Seated). z.0) e ∙ owing_rest o place u in
    let at' : (j : ℕ) → at j m'.0 ≡ at j (owing o place u) = λ j. ap (λ (z : Seated). at j z.0) e in
    let here : at i m'.0 ≡ a = at' i ∙ owing_other o place u i apart ∙ get_or-set_same v.lanes i a blank near in
    let beside : (j : ℕ) → j ≢ i → SameHeldLane j v m'.0 = λ j ne. let e' = get_or-set_other v.lanes i j a blank ne in
    record {
      known = ap (λ (z : LaneView). z.known) (at' j)
          ∙ owing_field (λ (z : LaneView). z.known) (λ z q. refl) o place u j ∙ ap (λ (z : LaneView). z.known) e';
      stage = ap (λ (z : LaneView). z.stage) (at' j)
          ∙ owing_field (λ (z : LaneView). z.stage) (λ z q. refl) o place u j ∙ ap (λ (z : LaneView). z.stage) e';
      raise = ap (λ (z : LaneView). z.raised) (at' j)
          ∙ owing_field (λ (z : LaneView). z.raised) (λ z q. refl) o place u j ∙ ap (λ (z : LaneView). z.raised) e';
      still = record {
        made = ap (λ (z : LaneView). z.made) (at' j) ∙ owing_field (λ (z : LaneView). z.made) (λ z q. refl) o place u j
            ∙ ap (λ (z : LaneView). z.made) e';
        places = ap (λ (z : LaneView). z.places) (at' j)
            ∙ owing_field (λ (z : LaneView). z.places) (λ z q. refl) o place u j ∙ ap (λ (z : LaneView). z.places) e';
        heard = ap (λ (z : LaneView). z.heard) (at' j)
            ∙ owing_field (λ (z : LaneView). z.heard) (λ z q. refl) o place u j ∙ ap (λ (z : LaneView). z.heard) e';
      };
    } in record {
      consistent = consistent;
      same = record {
        first = ap (λ (z : View). z.first) view';
        share = ap (λ (z : View). z.share) view';
        halvings = ap (λ (z : View). z.halvings) view';
        sized = ap (λ (z : Seated). length z.0.lanes) e ∙ owing_long o place u ∙ length-set v.lanes i a;
      };
      here = here;
      ahead = λ l b is low. at' l ∙ ap (λ (q : Option (ℕ × ℕ)). at l (owing q place u)) is
          ∙ owing_there place u l b (let h = length-set v.lanes i a in omega arith)
          ∙ ap (λ (z : LaneView). record z { owes = Some place })
          (get_or-set_other v.lanes i l a blank (λ q. apart l b is (sym q)));
      beside = beside;
      others = λ j ne not. at' j ∙ owing_other o place u j not ∙ get_or-set_other v.lanes i j a blank ne;
      grows = λ j low. dite (ℕ_discrete j i) (λ q. subst (λ (z : ℕ). Begins (known_of v z) (known_of m'.0 z)) (sym q)
          (subst (λ (z : LaneView). Begins (known_of v i) z.known) (sym here) (begins_push (known_of v i) x)))
          (λ ne. subst (Begins (known_of v j)) (sym (beside j ne).known) (begins_refl (known_of v j)));
      slots = ap (λ (z : Seated). z.1) e;
      looks = ap (λ (z : View). z.looks) view';
      seen = ap (λ (z : View). z.seen) view';
      later = later;
      stamp = ap (λ (z : View). z.stamp) view';
      stamps = ap (λ (z : View). z.stamps) view';
      drawn = ap (λ (z : View). z.drawn) view';
    }

-- after a visit, the pass still belongs to the table
pub after_pass : (i : ℕ) (x : Visit) (lanes : Lanes) (p q : Pass) → IsPassOf lanes p → view q ≡ after i x (view p) →
    q.seat.table_id ≡ p.seat.table_id → q.stamp ≡ x.stamp → q.caller ≡ p.caller → IsSamePass lanes p q
after_pass i x lanes p q h e table stamp caller = let u =
    with_at i (visited x (at i (view p))) (with_stamp x.stamp (view p)) in let o = ahead_of x.entry in let place : ℕ =
    length (known_of (view p) i) in
    let v₁ : view q ≡ record u { lanes = (owing o place u).lanes } = e ∙ owing_rest o place u in record {
      pass = record {
        table = table ∙ h.table;
        share = (let a = h.share in let c = ap (λ (z : View). z.share) v₁ in omega arith);
        stamp = stamp ∙ ap (λ (z : View). z.stamp) (sym v₁);
        sized = ap (λ (z : View). length z.lanes) e ∙ owing_long o place u
            ∙ length-set (view p).lanes i (visited x (at i (view p))) ∙ h.sized;
        first = ap (λ (z : View). z.first) v₁ ∙ h.first;
      };
      caller = caller;
    }

-- if the content `c` has the value, the next place and the last stamp after the visit `x`, it represents the list `xs`
-- with `x` at its end
pub replays_push : (i first : ℕ) (xs : List Visit) (x : Visit) (c : Content) →
    ValueRepresents i c.state (model_step (replay xs) x) → c.place ≡ length xs + 1 → c.stamp ≡ x.stamp →
    Replays i first (xs ++ x ∷ []) c
replays_push i first xs x c value place stamp = record {
  value = subst (ValueRepresents i c.state) (sym (replay_push xs x)) value;
  place = place ∙ (let e = length-append xs (x ∷ []) in omega arith);
  stamp = stamp ∙ sym (last_push first xs x);
}

-- The effects of the calls that neither take a lane nor make a visit

pub left_is : (i : ℕ) (m m' : Seated) → i < length m.0.lanes → m' ≡ left i m → Left i m m'
left_is i m m' near e = let v : View = m.0 in let a = staged Away (at i v) in let w : View = with_at i a v in
    let view' : m'.0 ≡ w = ap (λ (z : Seated). z.0) e in
    let here : at i m'.0 ≡ a = ap (at i) view' ∙ at_with i a v near in
    let there : (j : ℕ) → j ≢ i → at j m'.0 ≡ at j v =
    λ j ne. ap (at j) view' ∙ get_or-set_other v.lanes i j a blank ne in
    let known : (j : ℕ) → known_of m'.0 j ≡ known_of v j =
    λ j. dite (ℕ_discrete j i) (λ q. ap (known_of m'.0) q ∙ ap (λ (z : LaneView). z.known) here
    ∙ ap (known_of v) (sym q)) (λ ne. ap (λ (z : LaneView). z.known) (there j ne)) in
    let long = ap (λ (z : View). length z.lanes) view' ∙ length-set v.lanes i a in record {
      consistent = consistent_same v m'.0 long known;
      same = record {
        first = ap (λ (z : View). z.first) view';
        share = ap (λ (z : View). z.share) view';
        halvings = ap (λ (z : View). z.halvings) view';
        sized = long;
      };
      stage = ap (λ (z : LaneView). z.stage) here;
      known = known i;
      still = record {
        made = ap (λ (z : LaneView). z.made) here;
        places = ap (λ (z : LaneView). z.places) here;
        heard = ap (λ (z : LaneView). z.heard) here;
      };
      others = there;
      grows = grows_same v m'.0 known;
      slots = ap (λ (z : Seated). z.1) e;
      looks = ap (λ (z : View). z.looks) view';
      seen = ap (λ (z : View). z.seen) view';
      stamp = ap (λ (z : View). z.stamp) view';
      stamps = ap (λ (z : View). z.stamps) view';
      drawn = ap (λ (z : View). z.drawn) view';
    }

pub looked_is : (g : ℕ) (m m' : Seated) → 1 < length m.0.lanes → m.0.seen ≤ g → raises (known_of m.0 1) ≤ g →
    g < 2 ^ 63 → m' ≡ saw g m → Consistent m'.0 → Looked g m m'
looked_is g m m' near low base small e consistent = let v : View = m.0 in let view' = ap (λ (z : Seated). z.0) e in
    let same : (j : ℕ) → known_of v j ≡ known_of m'.0 j = λ j. ap (λ (z : View). known_of z j) (sym view') in
    let ok = consistent_same m'.0 v (ap (λ (z : View). length z.lanes) (sym view')) same consistent in record {
      consistent = consistent;
      same = record {
        first = ap (λ (z : View). z.first) view';
        share = ap (λ (z : View). z.share) view';
        halvings = ap (λ (z : View). z.halvings) view';
        sized = ap (λ (z : View). length z.lanes) view';
      };
      lanes = ap (λ (z : View). z.lanes) view';
      looks = ap (λ (z : View). z.looks) view';
      seen = ap (λ (z : View). z.seen) view';
      not_less = low;
      base = (let b = base_generation (known_of v 1) in omega arith);
      cpus = λ i two near'. (let b = cpu_below (length v.lanes) i (known_of v 1) (known_of v i) (ok.lawful 1 near)
          (subst (λ (z : ℕ). Pointed i (known_of v z) (known_of v i)) (parent_cpu i two)
          (ok.closed i (omega arith) near')) in omega arith);
      small = small;
      slots = ap (λ (z : Seated). z.1) e;
      stamp = ap (λ (z : View). z.stamp) view';
      stamps = ap (λ (z : View). z.stamps) view';
      drawn = ap (λ (z : View). z.drawn) view';
    }

pub raised_is : (g : ℕ) (m m' : Seated) → 1 < length m.0.lanes → m' ≡ raised g m → Consistent m'.0 → Raised g m m'
raised_is g m m' near e consistent = let v : View = m.0 in let a = raising (at 1 v) in let view' =
    ap (λ (z : Seated). z.0) e in
    let here : at 1 m'.0 ≡ a = ap (at 1) view' ∙ at_with 1 a v near in
    let there : (j : ℕ) → j ≢ 1 → at j m'.0 ≡ at j v =
    λ j ne. ap (at j) view' ∙ get_or-set_other v.lanes 1 j a blank ne in
    let known : (j : ℕ) → known_of m'.0 j ≡ known_of v j =
    λ j. dite (ℕ_discrete j 1) (λ q. ap (known_of m'.0) q ∙ ap (λ (z : LaneView). z.known) here
    ∙ ap (known_of v) (sym q)) (λ ne. ap (λ (z : LaneView). z.known) (there j ne)) in record {
      consistent = consistent;
      same = record {
        first = ap (λ (z : View). z.first) view';
        share = ap (λ (z : View). z.share) view';
        halvings = ap (λ (z : View). z.halvings) view';
        sized = ap (λ (z : View). length z.lanes) view' ∙ length-set v.lanes 1 a;
      };
      here = here;
      others = there;
      grows = grows_same v m'.0 known;
      looks = ap (λ (z : View). z.looks) view';
      seen = ap (λ (z : View). z.seen) view';
      slots = ap (λ (z : Seated). z.1) e;
      stamp = ap (λ (z : View). z.stamp) view';
      stamps = ap (λ (z : View). z.stamps) view';
      drawn = ap (λ (z : View). z.drawn) view';
    }
