-- The marks of a caller's lines are the marks of its visits: a sum over the marks equals the sum over the visits, in
-- each lane and in all lanes together.
use Rattle.std.proofs.Common.{◌≡◌, ℕ, suc, ◌+◌, Bool, true, false, cond, List, [], ◌∷◌, ◌++◌, map, refl, sym, ap, ◌∙◌, arith, append-nil}
use Rattle.std.specs.Prelude.{◌==◌, if◌then◌else◌}
use Rattle.std.specs.List.{AllByRecursion, flat_map, sum_by}
use Rattle.std.proofs.lemmas.List.Sums.{sum_by-cons}
use Rattle.std.proofs.lemmas.Grind.{flat_map-append}
use Rattle.std.proofs.lemmas.Bool.Decides.{nat_tests}
use Rattle.key_names.specs.declared.events.Event.{Event}
use Rattle.key_names.specs.declared.names.LaneId.{LaneId}
use Rattle.key_names.specs.declared.names.LaneId.TheVariants.{Pool as PoolLane, Base as BaseLane, Cpu as CpuLane}
use Rattle.key_names.specs.declared.names.Mark.{Mark}
use Rattle.key_names.specs.declared.names.Step.{Step}
use Rattle.key_names.specs.declared.names.Step.TheVariants.{Look, Visit as Marked}
use Rattle.caller_run.specs.Items.{Item, items_from, line_items}
use Rattle.key_names.specs.Transcripts.SeenLine.{SeenLine}
use Rattle.key_names.specs.Transcripts.IsTranscript.{LinesFit, MarkBy, marks_from, line_marks, all_marks, is_same_lane, lane_marks}
use Rattle.lane_table.specs.LaneNumbers.{index_of}
use Rattle.lane_table.specs.Advances.{MadeStep, looked, visited, step_of, maker, places_in}
use Rattle.caller_run.specs.NumberedSteps.{NumberedStep, made_steps_of, item_of, items_of}
use Rattle.caller_run.proofs.Orders.CallSteps.{lines_items}
use Rattle.caller_run.proofs.Planning.Sums.{sum_flat, sum_one}

-- the mark of a caller's step, if it has one
abbrev mark_by : ℕ → ℕ → ℕ → Step → List MarkBy
mark_by caller event number (Look g) = []
mark_by caller event number (Marked mark) = record { mark = mark; who = maker caller event number } ∷ []

abbrev pub mark_of : ℕ → Item → List MarkBy
mark_of caller item = mark_by caller item.event item.number item.step

-- the line is one of this caller's lines

abbrev pub IsOfCaller : ℕ → SeenLine → Type 0
IsOfCaller caller line = line.caller ≡ caller

marks_items : (caller event i : ℕ) (steps : List Step) →
    marks_from caller event i steps ≡ flat_map (mark_of caller) (items_from event i steps)
marks_items caller event i [] = refl
marks_items caller event i (Look g ∷ steps) = marks_items caller event (suc i) steps
marks_items caller event i (Marked mark ∷ steps) =
    ap (λ (l : List MarkBy). record { mark = mark; who = maker caller event i } ∷ l)
    (marks_items caller event (suc i) steps)

lines_marks : (caller : ℕ) (lines : List SeenLine) → AllByRecursion (IsOfCaller caller) lines →
    flat_map line_marks lines ≡ flat_map (mark_of caller) (lines_items lines)
lines_marks caller [] own = refl
lines_marks caller (line ∷ lines) own =
    (λ i. (ap (λ c. marks_from c line.event 0 line.steps) own.0 ∙ marks_items caller line.event 0 line.steps) i
    ++ lines_marks caller lines own.1 i)
    ∙ sym (flat_map-append (mark_of caller) (line_items line) (lines_items lines))

pub fit_own : (c n : ℕ) (events : List Event) (lines : List SeenLine) → LinesFit c n events lines →
    AllByRecursion (IsOfCaller c) lines
fit_own c n [] [] fit = absurd fit
fit_own c n [] (line ∷ []) fit = (fit.caller, tt)
fit_own c n [] (line ∷ more ∷ lines) fit = absurd fit
fit_own c n (event ∷ events) [] fit = absurd fit
fit_own c n (event ∷ events) (line ∷ lines) fit = (fit.0.caller, fit_own c (suc n) events lines fit.1)

-- the marks of a transcript with one caller are the marks of that caller's lines
pub marks_are : (caller : ℕ) (lines : List SeenLine) → AllByRecursion (IsOfCaller caller) lines →
    all_marks (lines ∷ []) ≡ flat_map (mark_of caller) (lines_items lines)
marks_are caller lines own = append-nil (flat_map line_marks lines) ∙ lines_marks caller lines own

-- ---- two lanes are the same exactly if their numbers are equal ----

same_lane_number : (c d : ℕ) → (c == d) ≡ (c + 2 == d + 2)
same_lane_number c d = grind (arith, nat_tests)

pub same_lane : (a b : LaneId) → is_same_lane a b ≡ (index_of a == index_of b)
same_lane PoolLane PoolLane = refl
same_lane PoolLane BaseLane = refl
same_lane PoolLane (CpuLane d) = grind (arith, nat_tests)
same_lane BaseLane PoolLane = refl
same_lane BaseLane BaseLane = refl
same_lane BaseLane (CpuLane d) = grind (arith, nat_tests)
same_lane (CpuLane c) PoolLane = grind (arith, nat_tests)
same_lane (CpuLane c) BaseLane = grind (arith, nat_tests)
same_lane (CpuLane c) (CpuLane d) = same_lane_number c d

-- suppose that place p of a lane has the weight `w p`
module _ (w : ℕ → ℕ) where
  abbrev pub place_of : Mark → ℕ
  place_of mark = mark.place

  -- the weight that the mark `by` adds to the sum over `lane`
  abbrev pub in_lane : LaneId → MarkBy → ℕ
  in_lane lane by = cond (index_of by.mark.lane == index_of lane) (w by.mark.place) 0

  pub lane_sum : (lane : LaneId) (marks : List MarkBy) →
      sum_by w (map place_of (lane_marks lane marks)) ≡ sum_by (in_lane lane) marks
  lane_sum lane [] = refl
  lane_sum lane (by ∷ marks) =
      go (is_same_lane by.mark.lane lane) (lane_sum lane marks)
      ∙ ap (λ b. cond b (w by.mark.place) 0 + sum_by (in_lane lane) marks) (same_lane by.mark.lane lane)
      ∙ sym (sum_by-cons (in_lane lane) by marks)
    where
      go : (b : Bool) → sum_by w (map place_of (lane_marks lane marks)) ≡ sum_by (in_lane lane) marks →
          sum_by w (map place_of (if b then by.mark ∷ lane_marks lane marks else lane_marks lane marks))
          ≡ cond b (w by.mark.place) 0 + sum_by (in_lane lane) marks
      go true rest = sum_by-cons w by.mark.place (map place_of (lane_marks lane marks))
          ∙ ap (λ n. w by.mark.place + n) rest
      go false rest = omega arith

  deals_sum : (lane : LaneId) (caller : ℕ) (numbered_steps : List NumberedStep) →
      sum_by w (places_in (index_of lane) (made_steps_of numbered_steps))
      ≡ sum_by (λ item. sum_by (in_lane lane) (mark_of caller item)) (items_of numbered_steps)
  deals_sum lane caller [] = refl
  deals_sum lane caller (d ∷ numbered_steps) =
      go d.made_step (deals_sum lane caller numbered_steps)
      ∙ sym (sum_by-cons (λ item. sum_by (in_lane lane) (mark_of caller item)) (item_of d) (items_of numbered_steps))
    where
      here : (b : Bool) (place : ℕ) (more : List ℕ) →
          sum_by w (cond b (place ∷ more) more) ≡ cond b (w place) 0 + sum_by w more
      here true place more = sum_by-cons w place more
      here false place more = omega arith

      go : (made_step : MadeStep) → sum_by w (places_in (index_of lane) (made_steps_of numbered_steps))
          ≡ sum_by (λ item. sum_by (in_lane lane) (mark_of caller item)) (items_of numbered_steps) →
          sum_by w (places_in (index_of lane) (made_step ∷ made_steps_of numbered_steps))
          ≡ sum_by (in_lane lane) (mark_by caller d.event d.number (step_of made_step))
          + sum_by (λ item. sum_by (in_lane lane) (mark_of caller item)) (items_of numbered_steps)
      go (looked g) same = same ∙ omega arith
      go (visited mark e) same =
          here (index_of mark.lane == index_of lane) mark.place
          (places_in (index_of lane) (made_steps_of numbered_steps))
          ∙ (λ i. sym (sum_one (in_lane lane) (record { mark = mark; who = maker caller d.event d.number })) i + same i)

  -- the sum of w over the places of a lane's marks in the lines equals the sum over the caller's own steps
  pub lane_weight : (lane : LaneId) (caller : ℕ) (lines : List SeenLine) (numbered_steps : List NumberedStep) →
      AllByRecursion (IsOfCaller caller) lines →
      ((f : Item → ℕ) → sum_by f (items_of numbered_steps) ≡ sum_by f (lines_items lines)) →
      sum_by w (map place_of (lane_marks lane (all_marks (lines ∷ []))))
      ≡ sum_by w (places_in (index_of lane) (made_steps_of numbered_steps))
  lane_weight lane caller lines numbered_steps own same =
      lane_sum lane (all_marks (lines ∷ []))
      ∙ ap (sum_by (in_lane lane)) (marks_are caller lines own)
      ∙ sum_flat (in_lane lane) (mark_of caller) (lines_items lines)
      ∙ sym (same (λ item. sum_by (in_lane lane) (mark_of caller item)))
      ∙ sym (deals_sum lane caller numbered_steps)
