-- Two parts of a caller's steps, one after another, make one part (`RanBy`).
use Rattle.std.proofs.Common.{◌≡◌, ℕ, suc, ◌+◌, ◌<◌, List, [], ◌∷◌, ◌++◌, length, map, refl, sym, ap, ◌∙◌, subst, arith, append_assoc, append-nil, length-append}
use Rattle.std.proofs.lemmas.List.{map-append}
use Rattle.std.specs.List.{AllByRecursion}
use Rattle.caller_run.specs.Items.{Item, items_from}
use Rattle.key_names.proofs.Lists.Each.{each_append, each_weaker}
use Rattle.lane_table.specs.declared.view.Visit.{Visit}
use Rattle.lane_table.specs.declared.view.View.{View}
use Rattle.lane_table.specs.WorldRule.{at, known_of}
use Rattle.lane_table.specs.Steps.{Grows}
use Rattle.lane_table.specs.Advances.{MadeStep, looked, visited, step_of, maker, AllConform, places_in, stamps_in, Climbs, Sees, Advances, floor}
use Rattle.lane_table.specs.LaneNumbers.{index_of}
use Rattle.lane_table.proofs.Lists.Lists.{at_below}
use Rattle.lane_table.proofs.Rule.Sights.{AllKnown, sees_append, sees_grown}
use Rattle.lane_table.proofs.Calls.AdvanceLemmas.{mark_grown, stamps_append, places_append, climbs_append}
use Rattle.caller_run.specs.NumberedSteps.{NumberedStep, numbered_steps_from, made_step_of, made_steps_of, items_of}
use Rattle.lane_table.specs.Calls.{SameView}
use Rattle.caller_run.specs.Ran.{Stood, SplitView, RanBy, Ran}

-- ---- the numbered steps of one event ----

pub deals_from : (event n : ℕ) (made_steps : List MadeStep) →
    made_steps_of (numbered_steps_from event n made_steps) ≡ made_steps
deals_from event n [] = refl
deals_from event n (made_step ∷ made_steps) =
    ap (λ (l : List MadeStep). made_step ∷ l) (deals_from event (suc n) made_steps)

pub items_from_doings : (event n : ℕ) (made_steps : List MadeStep) →
    items_of (numbered_steps_from event n made_steps) ≡ items_from event n (map step_of made_steps)
items_from_doings event n [] = refl
items_from_doings event n (made_step ∷ made_steps) =
    ap (λ (l : List Item). record { event = event; number = n; step = step_of made_step } ∷ l)
    (items_from_doings event (suc n) made_steps)

stood_from : (w : View) (caller event n : ℕ) (made_steps : List MadeStep) → AllConform w caller event n made_steps →
    AllByRecursion (Stood w caller) (numbered_steps_from event n made_steps)
stood_from w caller event n [] conform = tt
stood_from w caller event n (looked g ∷ made_steps) conform = (tt, stood_from w caller event (suc n) made_steps conform)
stood_from w caller event n (visited mark e ∷ made_steps) conform =
    (conform.0, stood_from w caller event (suc n) made_steps conform.1)

pub unsplit : (v w : View) → SameView v w → SplitView 0 v w
unsplit v w k =
    record { first = k.first; share = k.share; halvings = (let e = k.halvings in omega arith); sized = k.sized }

pub ran_went : (caller event n : ℕ) (v w : View) (made_steps : List MadeStep) → Advances caller event n v w made_steps →
    Ran caller v w (numbered_steps_from event n made_steps)
ran_went caller event n v w made_steps went = let same = deals_from event n made_steps in record {
  same = unsplit v w went.same;
  grows = went.grows;
  places = λ lane low. went.places lane low
      ∙ ap (λ (l : List MadeStep). (at lane v).places ++ places_in lane l) (sym same);
  made = λ lane low. went.made lane low
      ∙ ap (λ (l : List MadeStep). (at lane v).made + length (places_in lane l)) (sym same);
  heard = went.heard;
  climbs = subst (λ (l : List MadeStep). Climbs v.stamp (stamps_in l) w.stamp) (sym same) went.climbs;
  sees = subst (λ (l : List MadeStep). Sees w (floor v) l (floor w)) (sym same) went.sees;
  stood = stood_from w caller event n made_steps went.conform;
}

-- with no step, a pass goes from a view to the same view
pub ran_nothing : (caller : ℕ) (v : View) → Ran caller v v []
ran_nothing caller v = record {
  same = record { first = refl; share = refl; halvings = omega arith; sized = refl };
  grows = λ lane low. ([], sym (append-nil (known_of v lane)));
  places = λ lane low. sym (append-nil (at lane v).places);
  made = λ lane low. omega arith;
  heard = λ lane low. refl;
  climbs = refl;
  sees = omega arith;
  stood = tt;
}

-- ---- two parts of a caller's steps, one after another ----

pub stood_grown : (v w : View) (caller : ℕ) (numbered_steps : List NumberedStep) → length w.lanes ≡ length v.lanes →
    Grows v w → AllByRecursion (Stood v caller) numbered_steps → AllByRecursion (Stood w caller) numbered_steps
stood_grown v w caller numbered_steps sized grows stood =
    each_weaker (Stood v caller) (Stood w caller) numbered_steps (λ d here. go d d.made_step here) stood
  where
    go : (d : NumberedStep) (made_step : MadeStep) →
        Stood v caller (record { event = d.event; number = d.number; made_step = made_step }) →
        Stood w caller (record { event = d.event; number = d.number; made_step = made_step })
    go d (looked g) here = tt
    go d (visited mark e) here = mark_grown v w mark (maker caller d.event d.number) e sized grows here

pub stood_known : (v : View) (caller : ℕ) (numbered_steps : List NumberedStep) →
    AllByRecursion (Stood v caller) numbered_steps → AllKnown v (made_steps_of numbered_steps)
stood_known v caller [] stood = tt
stood_known v caller (d ∷ numbered_steps) stood = go d.made_step stood.0 (stood_known v caller numbered_steps stood.1)
  where
    go : (made_step : MadeStep) →
        Stood v caller (record { event = d.event; number = d.number; made_step = made_step }) →
        AllKnown v (made_steps_of numbered_steps) → AllKnown v (made_step ∷ made_steps_of numbered_steps)
    go (looked g) here rest = rest
    go (visited mark e) here rest =
        (here.near, at_below (known_of v (index_of mark.lane)) mark.place here.visit here.there, rest)

module _ (caller m n : ℕ) (u v w : View) (xs ys : List NumberedStep) (a : RanBy caller m u v xs)
    (b : RanBy caller n v w ys)
  where
    both : made_steps_of (xs ++ ys) ≡ made_steps_of xs ++ made_steps_of ys
    both = map-append made_step_of xs ys

    near : (lane : ℕ) → lane < length u.lanes → lane < length v.lanes
    near lane low = let s = a.same.sized in omega arith

    known : (lane : ℕ) (low : lane < length u.lanes) →
        (more : List Visit) × (known_of w lane ≡ known_of u lane ++ more)
    known lane low =
        let f = a.grows lane low in
        let g = b.grows lane (near lane low) in
        (f.0 ++ g.0, g.1 ∙ ap (λ (l : List Visit). l ++ g.0) f.1 ∙ append_assoc (known_of u lane) f.0 g.0)

    places_both : (lane : ℕ) →
        places_in lane (made_steps_of (xs ++ ys)) ≡ places_in lane (made_steps_of xs)
        ++ places_in lane (made_steps_of ys)
    places_both lane = ap (places_in lane) both ∙ places_append lane (made_steps_of xs) (made_steps_of ys)

    placed : (lane : ℕ) → lane < length u.lanes →
        (at lane w).places ≡ (at lane u).places ++ places_in lane (made_steps_of (xs ++ ys))
    placed lane low =
        b.places lane (near lane low)
        ∙ ap (λ (l : List ℕ). l ++ places_in lane (made_steps_of ys)) (a.places lane low)
        ∙ append_assoc (at lane u).places (places_in lane (made_steps_of xs)) (places_in lane (made_steps_of ys))
        ∙ ap (λ (l : List ℕ). (at lane u).places ++ l) (sym (places_both lane))

    counted : (lane : ℕ) → lane < length u.lanes →
        (at lane w).made ≡ (at lane u).made + length (places_in lane (made_steps_of (xs ++ ys)))
    counted lane low =
        let e = a.made lane low in
        let f = b.made lane (near lane low) in
        let g = ap length (places_both lane) in
        omega (arith, length-append (places_in lane (made_steps_of xs)) (places_in lane (made_steps_of ys)))

    climbed : Climbs u.stamp (stamps_in (made_steps_of (xs ++ ys))) w.stamp
    climbed =
        subst (λ (l : List ℕ). Climbs u.stamp l w.stamp)
        (sym (ap stamps_in both ∙ stamps_append (made_steps_of xs) (made_steps_of ys)))
        (climbs_append u.stamp v.stamp w.stamp (stamps_in (made_steps_of xs)) (stamps_in (made_steps_of ys)) a.climbs
        b.climbs)

    seen : Sees w (floor u) (made_steps_of (xs ++ ys)) (floor w)
    seen =
        subst (λ (l : List MadeStep). Sees w (floor u) l (floor w)) (sym both)
        (sees_append w (floor u) (floor v) (floor w) (made_steps_of xs) (made_steps_of ys)
        (sees_grown v w (floor u) (floor v) (made_steps_of xs) b.grows (stood_known v caller xs a.stood) a.sees) b.sees)

    pub ran_then : RanBy caller (m + n) u w (xs ++ ys)
    ran_then = record {
      same = record {
        first = b.same.first ∙ a.same.first;
        share = b.same.share ∙ a.same.share;
        halvings = (let e = a.same.halvings in let f = b.same.halvings in omega arith);
        sized = b.same.sized ∙ a.same.sized;
      };
      grows = known;
      places = placed;
      made = counted;
      heard = λ lane low. b.heard lane (near lane low) ∙ a.heard lane low;
      climbs = climbed;
      sees = seen;
      stood = each_append (Stood w caller) xs ys (stood_grown v w caller xs b.same.sized b.grows a.stood) b.stood;
    }
