-- The lists that a pass knows make half-finished lanes at any moment, and lawful lanes at the table's end.
use Rattle.std.proofs.Common.{◌≡◌, ℕ, ◌≤◌, ◌<◌, List, length, map, sym, ◌∙◌, arith}
use Rattle.std.specs.List.{AllByRecursion, sum_by}
use Rattle.key_names.specs.declared.names.Mark.{Mark}
use Rattle.key_names.specs.Lanes.Book.{HalfFinishedLanes, LawfulLanes}
use Rattle.key_names.specs.Transcripts.IsTranscript.{MarkBy, PlacesConform, VisitsAre}
use Rattle.lane_table.specs.declared.view.View.{View}
use Rattle.lane_table.specs.declared.view.Visit.{Visit}
use Rattle.lane_table.specs.WorldRule.{Consistent, times, at, known_of}
use Rattle.lane_table.specs.Steps.{Grows}
use Rattle.lane_table.specs.Calls.{Ended, made_in}
use Rattle.lane_table.specs.BookLists.{StateLists, book_of, book_lists}
use Rattle.lane_table.specs.BookLaws.{ClosedLanes, Continues}
use Rattle.lane_table.proofs.Lists.VisitLists.{begins_trans}
use Rattle.lane_table.proofs.Book.BookAnswers.{half_finished, lawful_lanes}
use Rattle.lane_table.proofs.Book.BookMarks.{MarksVisit, MarksPlace, visits_are, places_conform, all_made}

-- if lists continue the view `w`, and `w` continues the view `v`, then the lists continue `v`
pub continues_before : (lanes : ℕ) (v w : View) (visits : ℕ → List Visit) → length w.lanes ≡ length v.lanes →
    Grows v w →
    Continues lanes w visits → Continues lanes v visits
continues_before lanes v w visits sized grows c = record {
  long = sym sized ∙ c.long;
  begins = λ lane low. begins_trans (known_of v lane) (known_of w lane) (visits lane)
      (grows lane (let l = c.long in omega arith)) (c.begins lane low);
  closed = c.closed;
}

-- at any moment the lists that a pass with the view `v` knows make half-finished lanes
module _ (v : View) (callers : StateLists) (low : 2 ≤ length v.lanes) (ok : Consistent v) where
  pub known_lanes : ClosedLanes (length v.lanes) (known_of v)
  known_lanes = record { low = low; closed = ok.closed; lawful = ok.lawful }

  pub known_half_finished : HalfFinishedLanes (book_lists (length v.lanes) (known_of v) callers)
  known_half_finished = half_finished (length v.lanes) (known_of v) callers known_lanes ok.half

-- at the table's end (`Ended`) the lists that a pass with the view `v` knows make lawful lanes
module _ (v : View) (callers : StateLists) (low : 2 ≤ length v.lanes) (ended : Ended (length v.lanes) v) where
  abbrev lanes : ℕ
  lanes = length v.lanes

  pub ended_lanes : ClosedLanes lanes (known_of v)
  ended_lanes = record { low = low; closed = ended.closed; lawful = ended.lawful }

  pub ended_lawful : LawfulLanes (book_lists lanes (known_of v) callers)
  ended_lawful = lawful_lanes lanes (known_of v) callers ended_lanes ended.answered

  -- if each mark belongs to a visit (`MarksVisit`), and there are as many marks as visits made, the marks are exactly
  -- the marks of the book's visits
  pub ended_visits : (marks : List MarkBy) → AllByRecursion (MarksVisit lanes (known_of v)) marks →
      length marks ≡ sum_by made_in v.lanes → VisitsAre (book_of lanes (known_of v) callers) marks
  ended_visits marks all many =
      visits_are lanes (known_of v) callers ended_lanes marks all (many ∙ all_made v ended.made)

  -- if the marks of a lane's visits have the places that the pass counts for the lane, `PlacesConform` holds for them
  pub ended_places : (lane : ℕ) → lane < lanes → (marks : List Mark) →
      AllByRecursion (MarksPlace (known_of v lane)) marks → length marks ≡ (at lane v).made →
      ((place : ℕ) → times place (map (λ mark. mark.place) marks) ≡ times place (at lane v).places) → PlacesConform marks
  ended_places lane below marks all many placed =
      places_conform (known_of v lane) v.first marks (ended.rising lane below) all (many ∙ ended.made lane below)
      (λ place. placed place ∙ ended.placed lane place below)
