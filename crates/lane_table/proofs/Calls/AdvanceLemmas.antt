-- The steps that a pass makes in each call of the table. Two successive calls make the steps of the first call, and
-- then the steps of the second.
use Rattle.std.proofs.Common.{◌≡◌, ◌≢◌, ℕ, suc, ◌+◌, ◌<◌, ◌≤◌, List, [], ◌∷◌, ◌++◌, Option, Some, None, length, sym, refl, ap, ◌∙◌, subst, arith, append_assoc, append-nil, length-append, Bool, true, false, cond, eqb, get_or}
use mathlib.Core.Logic.{dite}
use native.Mathlib.Decide.{ℕ_discrete}
use Rattle.key_names.specs.declared.names.Mark.{Mark}
use Rattle.key_names.specs.declared.names.Who.{Who}
use Rattle.atomic_table.proofs.Lists.{at_last, at_longer}
use Rattle.lane_table.specs.declared.view.Visit.{Visit}
use Rattle.lane_table.specs.declared.view.LaneView.{LaneView}
use Rattle.lane_table.specs.declared.view.View.{View}
use Rattle.lane_table.specs.declared.view.LaneEntry.{LaneEntry}
use Rattle.lane_table.specs.declared.lanes.Held.{Held}
use Rattle.lane_table.specs.LaneNumbers.{index_of}
use Rattle.lane_table.specs.Meaning.{ahead_of}
use lib.ListN.{get_elem?}
use Rattle.lane_table.specs.WorldRule.{at, blank, known_of}
use Rattle.lane_table.specs.Steps.{Seated, Grows}
use Rattle.lane_table.specs.Calls.{SameView, SameHistory, Taken, Tried, Added, Left, Looked, Raised}
use Rattle.lane_table.specs.Advances.{MadeStep, looked, visited, IsMarkOf, maker, AllConform, looks_in, places_in, stamps_in, Climbs, floor, Advances}
use Rattle.lane_table.proofs.Rule.Floors.{floor_grown}
use Rattle.lane_table.proofs.Rule.Sights.{sees_looked, sees_put, sees_append, sees_grown, conform_known}
use Rattle.lane_table.proofs.Calls.HandLemmas.{names_none, names_one}

-- a call with neither a look nor a visit makes no step
pub went_idly : (caller event n : ℕ) (v w : View) → SameView v w → Grows v w → w.looks ≡ v.looks →
    w.stamps ≡ v.stamps → w.stamp ≡ v.stamp → 1 < length v.lanes → v.seen ≤ w.seen →
    ((lane : ℕ) → lane < length v.lanes → SameHistory lane v w) → Advances caller event n v w []
went_idly caller event n v w same grows looks stamps stamp two seen still = record {
  same = same;
  grows = grows;
  looks = looks ∙ sym (append-nil v.looks);
  places = λ lane low. (still lane low).places ∙ sym (append-nil (at lane v).places);
  made = λ lane low. let e = (still lane low).made in omega arith;
  heard = λ lane low. (still lane low).heard;
  stamps = stamps ∙ sym (append-nil v.stamps);
  climbs = sym stamp;
  sees = floor_grown v w two grows seen;
  conform = tt;
}

still_same : (j : ℕ) (v w : View) → at j w ≡ at j v → SameHistory j v w
still_same j v w e = record {
  made = ap (λ (a : LaneView). a.made) e;
  places = ap (λ (a : LaneView). a.places) e;
  heard = ap (λ (a : LaneView). a.heard) e;
}

still_but : (lane : ℕ) (v w : View) → SameHistory lane v w →
    ((j : ℕ) → j < length v.lanes → j ≢ lane → SameHistory j v w) →
    (j : ℕ) → j < length v.lanes → SameHistory j v w
still_but lane v w here others j low = dite (ℕ_discrete j lane) (λ e. subst (λ (z : ℕ). SameHistory z v w) (sym e) here)
    (λ ne. others j low ne)

module _ (caller event n : ℕ) (m m' : Seated) (two : 1 < length m.0.lanes) where
  pub went_taken : (lane : ℕ) (h : Held) → Taken lane h m m' → Advances caller event n m.0 m'.0 []
  went_taken lane h k = went_idly caller event n m.0 m'.0 k.same k.grows k.looks k.stamps k.stamp two
      (let e = k.seen in omega arith) (still_but lane m.0 m'.0 k.still (λ j low ne. (k.aside j low ne).still))

  pub went_tried : (lane : ℕ) → Tried lane m m' → Advances caller event n m.0 m'.0 []
  went_tried lane k = went_idly caller event n m.0 m'.0 k.same k.grows k.looks k.stamps k.stamp two
      (let e = k.seen in omega arith) (λ j low. (k.aside j low).still)

  pub went_raised : (g : ℕ) → m.0.seen ≤ g → Raised g m m' → Advances caller event n m.0 m'.0 []
  went_raised g above k = went_idly caller event n m.0 m'.0 k.same k.grows k.looks k.stamps k.stamp two
      (let e = k.seen in omega arith)
      (still_but 1 m.0 m'.0 (let e = k.here in record {
        made = ap (λ (a : LaneView). a.made) e;
        places = ap (λ (a : LaneView). a.places) e;
        heard = ap (λ (a : LaneView). a.heard) e;
      })
      (λ j low ne. still_same j m.0 m'.0 (k.others j ne)))

  pub went_left : (lane : ℕ) → Left lane m m' → Advances caller event n m.0 m'.0 []
  went_left lane k = went_idly caller event n m.0 m'.0 k.same k.grows k.looks k.stamps k.stamp two
      (let e = k.seen in omega arith) (still_but lane m.0 m'.0 k.still
      (λ j low ne. still_same j m.0 m'.0 (k.others j ne)))

  pub went_looked : (g : ℕ) → Looked g m m' → Advances caller event n m.0 m'.0 (looked g ∷ [])
  went_looked g k = let same : (j : ℕ) → at j m'.0 ≡ at j m.0 =
      λ j. ap (λ (l : List LaneView). get_or l j blank) k.lanes in record {
        same = k.same;
        grows = λ j low. ([], ap (λ (a : LaneView). a.known) (same j) ∙ sym (append-nil (known_of m.0 j)));
        looks = k.looks;
        places = λ lane low. ap (λ (a : LaneView). a.places) (same lane) ∙ sym (append-nil (at lane m.0).places);
        made = λ lane low. let e = ap (λ (a : LaneView). a.made) (same lane) in omega arith;
        heard = λ lane low. ap (λ (a : LaneView). a.heard) (same lane);
        stamps = k.stamps ∙ sym (append-nil m.0.stamps);
        climbs = sym k.stamp;
        sees = sees_looked m m' two g k;
        conform = tt;
      }

-- a single visit, with the mark `mark`, has one place in the mark's lane, and none in another lane
places_here : (mark : Mark) (e : LaneEntry) → places_in (index_of mark.lane) (visited mark e ∷ []) ≡ mark.place ∷ []
places_here mark e = by_test (eqb (index_of mark.lane) (index_of mark.lane)) (same (index_of mark.lane))
  where
    same : (j : ℕ) → eqb j j ≡ true
    same j = grind arith

    by_test : (b : Bool) → b ≡ true → cond b (mark.place ∷ []) [] ≡ mark.place ∷ []
    by_test b e = ap (λ (z : Bool). cond z (mark.place ∷ []) []) e

places_elsewhere : (lane : ℕ) (mark : Mark) (e : LaneEntry) → lane ≢ index_of mark.lane →
    places_in lane (visited mark e ∷ []) ≡ []
places_elsewhere lane mark e ne = ap (λ (z : Bool). cond z (mark.place ∷ []) [])
    (differs (index_of mark.lane) lane (λ q. ne (sym q)))
  where
    differs : (i j : ℕ) → i ≢ j → eqb i j ≡ false
    differs i j other = grind arith

-- a visit of `lane` does not change the pass's history (`SameHistory`) in another lane
added_still : (lane : ℕ) (x : Visit) (m m' : Seated) → Added lane x m m' → (j : ℕ) → j < length m.0.lanes → j ≢ lane →
    SameHistory j m.0 m'.0
added_still lane x m m' k j low ne = either (ahead_of x.entry) refl
  where
    either : (o : Option (ℕ × ℕ)) → ahead_of x.entry ≡ o → SameHistory j m.0 m'.0
    either None e = still_same j m.0 m'.0 (k.others j ne (λ l b q. absurd (names_none (ahead_of x.entry) l b e q)))
    either (Some named) e = dite (ℕ_discrete j named.0)
        (λ here. subst (λ (z : ℕ). SameHistory z m.0 m'.0) (sym here)
        (let q = k.ahead named.0 named.1 e (omega arith) in
        record {
          made = ap (λ (a : LaneView). a.made) q;
          places = ap (λ (a : LaneView). a.places) q;
          heard = ap (λ (a : LaneView). a.heard) q;
        }))
        (λ there. still_same j m.0 m'.0 (k.others j ne
        (λ l b q here. there (here ∙ names_one (ahead_of x.entry) named.0 named.1 l b e q))))

module _ (caller event n : ℕ) (m m' : Seated) (two : 1 < length m.0.lanes) where
  pub went_put : (x : Visit) (mark : Mark) (e : LaneEntry) → index_of mark.lane < length m.0.lanes →
      mark.place ≡ length (known_of m.0 (index_of mark.lane)) → x.stamp ≡ mark.stamp → x.who ≡ maker caller event n →
      x.entry ≡ e
      → Added (index_of mark.lane) x m m' → Advances caller event n m.0 m'.0 (visited mark e ∷ [])
  went_put x mark e near there stamp who is k = let lane : ℕ = index_of mark.lane in let here = k.here in record {
    same = k.same;
    grows = k.grows;
    looks = k.looks ∙ sym (append-nil m.0.looks);
    places = λ j low. dite (ℕ_discrete j lane)
        (λ q. subst (λ (z : ℕ). (at z m'.0).places ≡ (at z m.0).places ++ places_in z (visited mark e ∷ [])) (sym q)
        (ap (λ (z : LaneView). z.places) here ∙ (λ i. (at lane m.0).places ++ sym there i ∷ [])
        ∙ ap (λ (l : List ℕ). (at lane m.0).places ++ l) (sym (places_here mark e))))
        (λ ne. (added_still lane x m m' k j low ne).places ∙ sym (append-nil (at j m.0).places)
        ∙ ap (λ (l : List ℕ). (at j m.0).places ++ l) (sym (places_elsewhere j mark e ne)));
    made = λ j low. dite (ℕ_discrete j lane)
        (λ q. subst (λ (z : ℕ). (at z m'.0).made ≡ (at z m.0).made + length (places_in z (visited mark e ∷ [])))
        (sym q) (ap (λ (z : LaneView). z.made) here ∙ ap (λ (l : List ℕ). (at lane m.0).made + length l)
        (sym (places_here mark e))))
        (λ ne. let a = (added_still lane x m m' k j low ne).made in let b = ap length (places_elsewhere j mark e ne) in
        omega arith);
    heard = λ j low. dite (ℕ_discrete j lane) (λ q. subst (λ (z : ℕ). (at z m'.0).heard ≡ (at z m.0).heard) (sym q)
        (ap (λ (z : LaneView). z.heard) here)) (λ ne. (added_still lane x m m' k j low ne).heard);
    stamps = k.stamps ∙ ap (λ (z : ℕ). m.0.stamps ++ z ∷ []) stamp;
    climbs = (let a = k.later in omega arith, sym stamp ∙ sym k.stamp);
    sees = sees_put m m' two x mark e near there k;
    conform = (
      record {
        near = (let s = k.same.sized in omega arith);
        visit = x;
        there = ap (λ (z : LaneView). get_elem? z.known mark.place) here
            ∙ at_last (known_of m.0 lane) x mark.place (sym there);
        by = who;
        stamped = stamp;
        is = is;
      },
      tt,
    );
  }

pub mark_grown : (v w : View) (mark : Mark) (who : Who) (e : LaneEntry) → length w.lanes ≡ length v.lanes → Grows v w →
    IsMarkOf v mark who e → IsMarkOf w mark who e
mark_grown v w mark who e sized grows k = let more = grows (index_of mark.lane) k.near in record {
  near = (let n = k.near in omega arith);
  visit = k.visit;
  there = ap (λ (l : List Visit). get_elem? l mark.place) more.1
      ∙ at_longer (known_of v (index_of mark.lane)) more.0 mark.place k.visit k.there;
  by = k.by;
  stamped = k.stamped;
  is = k.is;
}

conform_grown : (v w : View) (caller event n : ℕ) (made_steps : List MadeStep) → length w.lanes ≡ length v.lanes →
    Grows v w → AllConform v caller event n made_steps → AllConform w caller event n made_steps
conform_grown v w caller event n [] sized grows k = tt
conform_grown v w caller event n (looked g ∷ made_steps) sized grows k =
    conform_grown v w caller event (suc n) made_steps sized grows k
conform_grown v w caller event n (visited mark e ∷ made_steps) sized grows k = (
  mark_grown v w mark (maker caller event n) e sized grows k.0,
  conform_grown v w caller event (suc n) made_steps sized grows k.1,
)

conform_append : (v : View) (caller event n : ℕ) (xs ys : List MadeStep) → AllConform v caller event n xs →
    AllConform v caller event (n + length xs) ys → AllConform v caller event n (xs ++ ys)
conform_append v caller event n [] ys h k = subst (λ (z : ℕ). AllConform v caller event z ys)
    (let e : n + 0 ≡ n = omega arith in e) k
conform_append v caller event n (looked g ∷ xs) ys h k =
    conform_append v caller event (suc n) xs ys h (subst (λ (z : ℕ). AllConform v caller event z ys)
    (let e : n + suc (length xs) ≡ suc n + length xs = omega arith in e) k)
conform_append v caller event n (visited mark e ∷ xs) ys h k = (
  h.0,
  conform_append v caller event (suc n) xs ys h.1
      (subst (λ (z : ℕ). AllConform v caller event z ys)
      (let e : n + suc (length xs) ≡ suc n + length xs = omega arith in e) k),
)

pub looks_append : (xs ys : List MadeStep) → looks_in (xs ++ ys) ≡ looks_in xs ++ looks_in ys
looks_append [] ys = refl
looks_append (looked g ∷ xs) ys = ap (λ (l : List ℕ). g ∷ l) (looks_append xs ys)
looks_append (visited mark e ∷ xs) ys = looks_append xs ys

pub stamps_append : (xs ys : List MadeStep) → stamps_in (xs ++ ys) ≡ stamps_in xs ++ stamps_in ys
stamps_append [] ys = refl
stamps_append (looked g ∷ xs) ys = stamps_append xs ys
stamps_append (visited mark e ∷ xs) ys = ap (λ (l : List ℕ). mark.stamp ∷ l) (stamps_append xs ys)

front_put : (b : Bool) (x : ℕ) (whole xs ys : List ℕ) → whole ≡ xs ++ ys →
    cond b (x ∷ whole) whole ≡ cond b (x ∷ xs) xs ++ ys
front_put true x whole xs ys e = ap (λ (l : List ℕ). x ∷ l) e
front_put false x whole xs ys e = e

pub places_append : (lane : ℕ) (xs ys : List MadeStep) →
    places_in lane (xs ++ ys) ≡ places_in lane xs ++ places_in lane ys
places_append lane [] ys = refl
places_append lane (looked g ∷ xs) ys = places_append lane xs ys
places_append lane (visited mark e ∷ xs) ys = front_put (eqb (index_of mark.lane) lane) mark.place
    (places_in lane (xs ++ ys)) (places_in lane xs) (places_in lane ys) (places_append lane xs ys)

pub climbs_append : (low mid high : ℕ) (xs ys : List ℕ) → Climbs low xs mid → Climbs mid ys high →
    Climbs low (xs ++ ys) high
climbs_append low mid high [] ys h k = subst (λ (z : ℕ). Climbs z ys high) (sym h) k
climbs_append low mid high (x ∷ xs) ys h k = (h.0, climbs_append x mid high xs ys h.1 k)

-- two successive calls advance a pass by the steps of both
pub went_then : (caller event n k : ℕ) (u v w : View) (xs ys : List MadeStep) → k ≡ n + length xs →
    Advances caller event n u v xs → Advances caller event k v w ys → Advances caller event n u w (xs ++ ys)
went_then caller event n k u v w xs ys next a b = record {
  same = record {
    first = b.same.first ∙ a.same.first;
    share = b.same.share ∙ a.same.share;
    halvings = b.same.halvings ∙ a.same.halvings;
    sized = b.same.sized ∙ a.same.sized;
  };
  grows = λ j low. let f = a.grows j low in let g = b.grows j (let s = a.same.sized in omega arith) in
      (f.0 ++ g.0, g.1 ∙ ap (λ (l : List Visit). l ++ g.0) f.1 ∙ append_assoc (known_of u j) f.0 g.0);
  looks = b.looks ∙ ap (λ (l : List ℕ). l ++ looks_in ys) a.looks ∙ append_assoc u.looks (looks_in xs) (looks_in ys)
      ∙ ap (λ (l : List ℕ). u.looks ++ l) (sym (looks_append xs ys));
  places = λ j low. b.places j (let s = a.same.sized in omega arith)
      ∙ ap (λ (l : List ℕ). l ++ places_in j ys) (a.places j low)
      ∙ append_assoc (at j u).places (places_in j xs) (places_in j ys)
      ∙ ap (λ (l : List ℕ). (at j u).places ++ l) (sym (places_append j xs ys));
  made = λ j low. let e = a.made j low in let f = b.made j (let s = a.same.sized in omega arith) in let g =
      ap length (places_append j xs ys) in omega (arith, length-append (places_in j xs) (places_in j ys));
  heard = λ j low. b.heard j (let s = a.same.sized in omega arith) ∙ a.heard j low;
  stamps = b.stamps ∙ ap (λ (l : List ℕ). l ++ stamps_in ys) a.stamps
      ∙ append_assoc u.stamps (stamps_in xs) (stamps_in ys)
      ∙ ap (λ (l : List ℕ). u.stamps ++ l) (sym (stamps_append xs ys));
  climbs = subst (λ (l : List ℕ). Climbs u.stamp l w.stamp) (sym (stamps_append xs ys))
      (climbs_append u.stamp v.stamp w.stamp (stamps_in xs) (stamps_in ys) a.climbs b.climbs);
  sees = sees_append w (floor u) (floor v) (floor w) xs ys
      (sees_grown v w (floor u) (floor v) xs b.grows (conform_known v caller event n xs a.conform) a.sees) b.sees;
  conform = conform_append w caller event n xs ys (conform_grown v w caller event n xs b.same.sized b.grows a.conform)
      (subst (λ (z : ℕ). AllConform w caller event z ys) next b.conform);
}
