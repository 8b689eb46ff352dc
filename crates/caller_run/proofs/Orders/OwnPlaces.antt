-- A sum over the places of the visits that a caller's pass made equals the sum over the places of the marks in the
-- caller's lines.
use Rattle.std.proofs.Common.{◌≡◌, ℕ, ◌<◌, List, [], ◌∷◌, ◌++◌, length, sym, ap, ◌∙◌, arith}
use Rattle.std.specs.List.{sum_by}
use Rattle.std.proofs.Math.ListN.{get_or-map}
use Rattle.key_names.specs.declared.events.Event.{Event}
use Rattle.key_names.specs.declared.names.LaneId.{LaneId}
use Rattle.key_names.specs.declared.names.Mark.{Mark}
use Rattle.key_names.specs.Transcripts.IsTranscript.{all_marks, lane_marks}
use Rattle.lane_table.specs.declared.view.LaneView.{LaneView}
use Rattle.lane_table.specs.declared.view.View.{View}
use Rattle.lane_table.specs.LaneNumbers.{index_of}
use Rattle.lane_table.specs.WorldRule.{at, blank}
use Rattle.lane_table.specs.Steps.{recorded, child as split_off}
use Rattle.lane_table.specs.Advances.{places_in}
use Rattle.lane_table.proofs.Lists.Lists.{sum_by-map}
use Rattle.caller_run.specs.NumberedSteps.{NumberedStep, made_steps_of, items_of}
use Rattle.caller_run.specs.Items.{Item}
use Rattle.caller_run.specs.Laws.{Run, HasRun}
use Rattle.caller_run.specs.Families.{marked_by}
use Rattle.caller_run.proofs.Orders.CallSteps.{lines_items}
use Rattle.caller_run.proofs.Orders.CallWeights.{calls_weight}
use Rattle.caller_run.proofs.Law.LineMarks.{fit_own, lane_weight}
use Rattle.caller_run.proofs.Forks.Joins.{OwnPlaces}
use Rattle.caller_run.proofs.Planning.Sums.{sum_ones}

-- v is the view of a pass that has made no visit yet
pub record MadeNothing (v : View) : Type 0 where
  pub places : (lane : ℕ) → (at lane v).places ≡ []
  pub made : (lane : ℕ) → (at lane v).made ≡ 0

pub made_nothing : (v : View) → MadeNothing (split_off v)
made_nothing v = record {
  places = λ lane. ap (λ (a : LaneView). a.places) (get_or-map recorded v.lanes lane blank);
  made = λ lane. ap (λ (a : LaneView). a.made) (get_or-map recorded v.lanes lane blank);
}

module _ (caller : ℕ) (events : List Event) (r : Run) (has : HasRun caller events r) (new : MadeNothing r.begun.view)
  where
    abbrev numbered_steps : List NumberedStep
    numbered_steps = has.ended.done.numbered_steps

    same : (f : Item → ℕ) → sum_by f (items_of numbered_steps) ≡ sum_by f (lines_items r.lines)
    same f = ap (sum_by f) has.ended.done.order
        ∙ calls_weight f r.begun.caller events r.lines has.ended.fit

    near : (lane : ℕ) → lane < length r.end.lanes → lane < length r.begun.view.lanes
    near lane low = let s = has.ended.done.ran.same.sized in omega arith

    in_marks : (f : ℕ → ℕ) (lane : LaneId) →
        marked_by f lane r ≡ sum_by f (places_in (index_of lane) (made_steps_of numbered_steps))
    in_marks f lane =
        sym (sum_by-map f (λ (mark : Mark). mark.place) (lane_marks lane (all_marks (r.lines ∷ []))))
        ∙ lane_weight f lane r.begun.caller r.lines numbered_steps
        (fit_own r.begun.caller 0 events r.lines has.ended.fit) same

    pub own_places : OwnPlaces r
    own_places = record {
      placed = λ f lane low.
          ap (sum_by f) (has.ended.done.ran.places (index_of lane) (near (index_of lane) low)
          ∙ ap (λ (l : List ℕ). l ++ places_in (index_of lane) (made_steps_of numbered_steps))
          (new.places (index_of lane))) ∙ sym (in_marks f lane);
      made = λ lane low.
          (let a = has.ended.done.ran.made (index_of lane) (near (index_of lane) low) in
          let b = new.made (index_of lane) in let c = in_marks (λ p. 1) lane in
          let d = sum_ones (places_in (index_of lane) (made_steps_of numbered_steps)) in omega arith);
    }
