-- After successive calls on a table of three lanes, the marks of the calls' steps in each lane are the visits of that
-- lane's list, in order.
use Rattle.std.proofs.Common.{zero, lit<, ◌+◌, ◌≡◌, ℕ, suc, ◌<◌, ◌≤◌, ◌^◌, List, [], ◌∷◌, ◌++◌, length, refl, sym, ap, ◌∙◌, subst, arith, Bool, true, false, nat_eq, Some}
use Rattle.std.specs.Prelude.{slice_get}
use Rattle.std.specs.List.{AllByRecursion}
use Rattle.std.proofs.lemmas.Bool.{eqb-true, ne_eqb}
use Rattle.std.proofs.lemmas.Bool.Decides.{nat_tests}
use Rattle.key_names.specs.declared.names.LaneId.{LaneId}
use Rattle.key_names.specs.declared.names.LaneId.TheVariants.{Pool as PoolLane, Base as BaseLane, Cpu as CpuLane}
use Rattle.key_names.specs.declared.names.Mark.{Mark}
use Rattle.key_names.specs.declared.names.Step.{Step}
use Rattle.key_names.specs.Transcripts.IsTranscript.{MarkBy, PlacesConform, VisitsAre, is_same_lane, lane_marks, marks_from}
use Rattle.key_names.specs.Transcripts.PlacesInOrder.{ByStamp, InOrder}
use Rattle.key_names.proofs.Lists.Each.{each_weaker}
use Rattle.key_names.proofs.Transcripts.PlacesInOrder.{places_count_up}
use Rattle.lane_table.specs.declared.view.View.{View}
use Rattle.lane_table.specs.Advances.{Climbs}
use Rattle.lane_table.specs.BookLists.{book_of}
use Rattle.lane_table.specs.Calls.{Ended}
use Rattle.lane_table.specs.LaneNumbers.{index_of}
use Rattle.lane_table.specs.WorldRule.{at, known_of, times}
use Rattle.lane_table.proofs.Book.BookEnds.{ended_places}
use Rattle.lane_table.proofs.Book.BookMarks.{MarksPlace}
use Rattle.lane_table.proofs.Lists.Places.{conforms_at}
use Rattle.rng_core.specs.Settings.{first_setting}
use Rattle.rng_core.proofs.Paths.{Path, IsKnown, path_none, path_then, path_recorded, path_visits, either, lane_of, places, stamps_of, start}
use Rattle.irq_feed.specs.declared.samples.Sample.{Sample}
use Rattle.irq_feed.specs.Mixing.{Mixes, in_event}
use Rattle.irq_feed.specs.TableFeed.{marks_of}

-- the steps of each call that made an interrupt of a sample in `xs`
abbrev pub calls_in : (event : ℕ) (xs : List Sample) (v w : View) → Mixes (first_setting 0) event xs v w → List (List Step)
calls_in event [] v w m = []
calls_in event (x ∷ xs) v w m = m.1.steps ∷ calls_in (suc event) xs m.0 w m.2

pub path_in : (event : ℕ) (xs : List Sample) (v w : View) (m : Mixes (first_setting 0) event xs v w) →
    Path v w (marks_of event (calls_in event xs v w m))
path_in event [] v w m = subst (λ (z : View). Path v z []) (sym m) (path_none v)
path_in event (x ∷ xs) v w (u, one, more) =
    path_then v u w (marks_from 0 event 0 one.steps) (marks_of (suc event) (calls_in (suc event) xs u w more))
    (path_recorded (in_event (first_setting 0) event) v u one.steps one.did.made_steps one.did.recorded)
    (path_in (suc event) xs u w more)

-- ---- A table of three lanes, after all its visits

-- if the stamps of marks climb, the marks are sorted by stamp, and so are the marks of each lane
all_above : (low high : ℕ) (marks : List MarkBy) → Climbs low (stamps_of marks) high →
    AllByRecursion (λ by. low ≤ by.mark.stamp) marks
all_above low high [] climbs = tt
all_above low high (by ∷ marks) climbs = (
  (let first = climbs.0 in omega arith),
  each_weaker (λ other. by.mark.stamp ≤ other.mark.stamp) (λ other. low ≤ other.mark.stamp) marks
      (λ other above. let first = climbs.0 in omega arith) (all_above by.mark.stamp high marks climbs.1),
)

of_lane : (lane : ℕ) (P : Mark → Type 0) (marks : List MarkBy) → AllByRecursion (λ by. P by.mark) marks →
    AllByRecursion P (lane_of lane marks)
of_lane lane P [] all = tt
of_lane lane P (by ∷ marks) all = go (nat_eq (index_of by.mark.lane) lane) (of_lane lane P marks all.1)
  where
    go : (b : Bool) → AllByRecursion P (lane_of lane marks) → AllByRecursion P (either b by.mark (lane_of lane marks))
    go true rest = (all.0, rest)
    go false rest = rest

sorted : (lane low high : ℕ) (marks : List MarkBy) → Climbs low (stamps_of marks) high → ByStamp (lane_of lane marks)
sorted lane low high [] climbs = tt
sorted lane low high (by ∷ marks) climbs =
    go (nat_eq (index_of by.mark.lane) lane) (sorted lane by.mark.stamp high marks climbs.1)
  where
    go : (b : Bool) → ByStamp (lane_of lane marks) → ByStamp (either b by.mark (lane_of lane marks))
    go true rest = (
      of_lane lane (λ m. by.mark.stamp ≤ m.stamp) marks (all_above by.mark.stamp high marks climbs.1),
      rest,
    )
    go false rest = rest

-- let the visit of each mark be known in the view `w`. Then each mark of the lane `lane` has the place and the stamp of
-- a visit in that lane's list
in_lane : (w : View) (lane : ℕ) (marks : List MarkBy) → AllByRecursion (IsKnown w) marks →
    AllByRecursion (MarksPlace (known_of w lane)) (lane_of lane marks)
in_lane w lane [] all = tt
in_lane w lane (by ∷ marks) all = go (nat_eq (index_of by.mark.lane) lane) refl (in_lane w lane marks all.1)
  where
    go : (b : Bool) → nat_eq (index_of by.mark.lane) lane ≡ b →
        AllByRecursion (MarksPlace (known_of w lane)) (lane_of lane marks) →
        AllByRecursion (MarksPlace (known_of w lane)) (either b by.mark (lane_of lane marks))
    go true is rest =
        let m = all.0.1 in
        let same : index_of by.mark.lane ≡ lane = eqb-true (index_of by.mark.lane) lane is in
        let there : slice_get (known_of w lane) by.mark.place ≡ Some m.visit =
        subst (λ (i : ℕ). slice_get (known_of w i) by.mark.place ≡ Some m.visit) same
        (conforms_at (known_of w (index_of by.mark.lane)) by.mark.place m.visit m.there) in
        ((m.visit, there, m.stamped), rest)
    go false is rest = rest

-- two lanes are the same if and only if their numbers are the same
same_lane : (a b : LaneId) → is_same_lane a b ≡ nat_eq (index_of a) (index_of b)
same_lane PoolLane PoolLane = refl
same_lane PoolLane BaseLane = refl
same_lane PoolLane (CpuLane d) = grind (arith, nat_tests)
same_lane BaseLane PoolLane = refl
same_lane BaseLane BaseLane = refl
same_lane BaseLane (CpuLane d) = grind (arith, nat_tests)
same_lane (CpuLane c) PoolLane = grind (arith, nat_tests)
same_lane (CpuLane c) BaseLane = grind (arith, nat_tests)
same_lane (CpuLane c) (CpuLane d) = grind (arith, nat_tests)

numbered : (lane : LaneId) (marks : List MarkBy) → lane_marks lane marks ≡ lane_of (index_of lane) marks
numbered lane [] = refl
numbered lane (by ∷ marks) = λ i. either (same_lane by.mark.lane lane i) by.mark (numbered lane marks i)

none_beyond : (w : View) (lane : ℕ) (marks : List MarkBy) → length w.lanes ≤ lane → AllByRecursion (IsKnown w) marks →
    lane_of lane marks ≡ []
none_beyond w lane [] beyond known = refl
none_beyond w lane (by ∷ marks) beyond known =
    let near = known.0.1.near in
    ap (λ b. either b by.mark (lane_of lane marks)) (ne_eqb (index_of by.mark.lane) lane (λ e. absurd (omega arith)))
    ∙ none_beyond w lane marks beyond known.1

module _ (w : View) (marks : List MarkBy) (path : Path start w marks) where
  pub wide : length w.lanes ≡ 3
  wide = path.same.sized

  pub share_is : w.share ≡ 2 ^ w.halvings
  share_is = path.same.share ∙ ap (λ (n : ℕ). 2 ^ n) (sym path.same.halvings)

  module _ (ended : Ended (length w.lanes) w) where
    pub visits_made : VisitsAre (book_of (length w.lanes) (known_of w) []) marks
    visits_made = path_visits w marks path ended

    -- the marks of each lane are the visits of the lane's list, in order
    module _ (lane : ℕ) (low : lane < 3) (was_none : ((at lane start).made ≡ 0) × ((at lane start).places ≡ [])) where
      made_here : length (lane_of lane marks) ≡ (at lane w).made
      made_here = (let m = path.made lane low in let n = was_none.0 in omega arith)

      pub all_here : length (lane_of lane marks) ≡ length (known_of w lane)
      all_here = made_here ∙ ended.made lane (let n = wide in omega arith)

      conform : PlacesConform (lane_of lane marks)
      conform =
          ended_places w [] (let n = wide in omega arith) ended lane (let n = wide in omega arith) (lane_of lane marks)
          (in_lane w lane marks path.known) made_here
          (λ place. ap (times place) (sym (path.placed lane low ∙ ap (λ (l : List ℕ). l ++ places (lane_of lane marks))
          was_none.1)))

      pub in_order : InOrder 0 (lane_of lane marks)
      in_order =
          (places_count_up (lane_of lane marks)).1 (sorted lane start.stamp w.stamp marks path.climbs) conform

    by_number : (lane : LaneId) → PlacesConform (lane_of (index_of lane) marks)
    by_number PoolLane = conform 0 (lit< tt) (refl, refl)
    by_number BaseLane = conform 1 (lit< tt) (refl, refl)
    by_number (CpuLane zero) = conform 2 (lit< tt) (refl, refl)
    by_number (CpuLane (suc c)) =
        subst PlacesConform (sym (none_beyond w (suc c + 2) marks (let n = wide in omega arith) path.known))
        (record { once = tt; rise = tt })

    pub places_conform : (lane : LaneId) → PlacesConform (lane_marks lane marks)
    places_conform lane = subst PlacesConform (sym (numbered lane marks)) (by_number lane)
