-- The lanes that a pass holds, the last one first.
use Rattle.std.specs.Prelude.{◌≡◌, ◌≢◌, ℕ, ◌<◌, ⊤, List, [], ◌∷◌, map, Option, None, length}
use Rattle.lane_table.specs.declared.view.View.{View}
use Rattle.lane_table.specs.declared.view.Content.{Content}
use Rattle.lane_table.specs.declared.view.TicketStage.TheVariants.{Holding}
use Rattle.lane_table.specs.declared.lanes.Lanes.{Lanes}
use Rattle.lane_table.specs.declared.lanes.Pass.{Pass}
use Rattle.lane_table.specs.declared.lanes.TakenTurn.{TakenTurn}
use Rattle.lane_table.specs.Meaning.{Model, replay}
use Rattle.lane_table.specs.WorldRule.{at, known_of, last_stamp}
use Rattle.lane_table.specs.Calls.{IsPassOf, IsAway, count_of, slots, view}

-- a held lane, with its next place and its last stamp when it was taken
pub record HeldLane : Type 0 where
  pub lane : ℕ
  pub ticket : ℕ
  pub place : ℕ
  pub stamp : ℕ
  -- the place of the parent lane's entry that names the held place, if there is one
  pub owes : Option ℕ
  -- 1 if the pass raised the generation while it held this lane, else 0
  pub raised : ℕ

abbrev pub hand : TakenTurn → Option ℕ → ℕ → HeldLane
hand turn owes raised = record {
  lane = turn.lane;
  ticket = turn.ticket;
  place = turn.place;
  stamp = turn.stamp;
  owes = owes;
  raised = raised;
}

pub record IsInHand (v : View) (h : HeldLane) : Type 0 where
  pub near : h.lane < length v.lanes
  pub stage : (at h.lane v).stage ≡ Holding h.ticket
  pub owed : (at h.lane v).owes ≡ h.owes
  pub raise : h.lane ≡ 1 → (at 1 v).raised ≡ h.raised
  pub next : h.place ≡ length (known_of v h.lane)
  pub last : h.stamp ≡ last_stamp v.first (known_of v h.lane)

abbrev pub NotIn : ℕ → List HeldLane → Type 0
NotIn lane [] = ⊤
NotIn lane (h ∷ hands) = (lane ≢ h.lane) × NotIn lane hands

-- the pass holds each lane of the list, and no lane is in the list twice
abbrev pub AllInHand : View → List HeldLane → Type 0
AllInHand v [] = ⊤
AllInHand v (h ∷ hands) = IsInHand v h × NotIn h.lane hands × AllInHand v hands

abbrev pub slot_of : HeldLane → ℕ × Option Content
slot_of h = (h.lane, None)

-- `p` is a pass of the table `t` and of the caller `caller`, holds exactly the lanes `hands`, and waits for no lane
pub record HoldsLanes (t : Lanes) (caller : ℕ) (hands : List HeldLane) (p : Pass) : Type 0 where
  pub pass : IsPassOf t p
  pub own : p.caller ≡ caller
  pub out : slots p ≡ map slot_of hands
  pub held : AllInHand (view p) hands
  pub away : (lane : ℕ) → lane < count_of t → NotIn lane hands → IsAway lane (view p)

-- the model of a lane (its value in the proofs), from the lane's list as the pass knows it
abbrev pub model : Pass → ℕ → Model
model p lane = replay (known_of (view p) lane)
