-- The preconditions and effects of the table's calls: what a pass knows about each lane before a call and after it.
-- Code that makes these calls does not need the rule.
use Rattle.std.specs.Prelude.{◌≡◌, ◌≢◌, ◌⊎◌, ℕ, ◌+◌, ◌^◌, ◌<◌, ◌≤◌, List, [], ◌∷◌, ◌++◌, length, Option, Some, None, slice_get}
use Rattle.atomic_table.specs.Table.{rest, Step}
use Rattle.key_names.specs.declared.names.Who.{Who}
use Rattle.lane_table.specs.declared.view.Visit.{Visit}
use Rattle.lane_table.specs.declared.view.LaneEntry.{LaneEntry}
use Rattle.lane_table.specs.declared.view.LaneView.{LaneView}
use Rattle.lane_table.specs.declared.view.View.{View}
use Rattle.lane_table.specs.declared.view.TableSize.{TableSize}
use Rattle.lane_table.specs.declared.view.Content.{Content}
use Rattle.lane_table.specs.declared.view.TicketStage.TheVariants.{Away, Holding}
use Rattle.lane_table.specs.declared.lanes.Lanes.{Lanes}
use Rattle.lane_table.specs.declared.lanes.Pass.{Pass}
use Rattle.lane_table.specs.declared.lanes.Held.{Held}
use Rattle.lane_table.specs.declared.lanes.TakeFault.{TakeFault}
use Rattle.lane_table.specs.declared.lanes.TakeFault.TheVariants.{Spent, Busy}
use Rattle.lane_table.specs.Meaning.{nothing, replay, made_of, ahead_of, IsOf, Fits, ValueRepresents}
use Rattle.lane_table.specs.References.{LawfulLists, AllAnswered, Closed}
use Rattle.lane_table.specs.WorldRule.{Replays, AllBegin, Rising, Consistent, last_stamp, times, once_below, at, known_of}
use Rattle.lane_table.specs.Steps.{Seated, Grows, KeepsHeld, OwesNothing, MayName, handed, raising, visited}

-- Tables and passes

abbrev pub count_of : Lanes → ℕ
count_of t = t.cpus + 2

-- a number below the stamps of all visits of the table
abbrev pub first_of : Lanes → ℕ
first_of t = t.table.shared.key.first

abbrev pub view : Pass → View
view p = p.seat.me.0

-- the slots that a pass has taken out, the last one first
abbrev pub slots : Pass → List (ℕ × Option Content)
slots p = p.seat.me.1

pub record IsPassOf (t : Lanes) (p : Pass) : Type 0 where
  pub table : p.seat.table_id ≡ t.table.shared.table_id
  pub share : 0 < (view p).share
  pub stamp : p.stamp ≡ (view p).stamp
  pub sized : length (view p).lanes ≡ count_of t
  pub first : (view p).first ≡ first_of t

abbrev pub plan_of : ℕ → ℕ → TableSize
plan_of count first = record { count = count; first = first }

-- `q` is a pass of the table, and has the same caller as `p`
pub record IsSamePass (t : Lanes) (p q : Pass) : Type 0 where
  pub pass : IsPassOf t q
  pub caller : q.caller ≡ p.caller

-- the pass neither waits for the lane nor holds it
abbrev pub IsAway : ℕ → View → Type 0
IsAway lane v = (at lane v).stage ≡ Away

-- the pass neither waits for any lane nor holds one
abbrev pub IsIdle : View → Type 0
IsIdle v = (lane : ℕ) → IsAway lane v

-- A lane that a pass holds

-- the value represents the replay of the lane's known list, and the hold has the next place and the last stamp of
-- that list
pub record MatchesList (lane : ℕ) (h : Held) (v : View) : Type 0 where
  pub value : ValueRepresents lane h.state (replay (known_of v lane))
  pub place : h.turn.place ≡ length (known_of v lane)
  pub stamp : h.turn.stamp ≡ last_stamp v.first (known_of v lane)

-- the pass holds the lane, and took it after all other lanes that it holds
pub record Holds (t : Lanes) (p : Pass) (h : Held) : Type 0 where
  pub near : h.turn.lane < count_of t
  pub stage : (at h.turn.lane (view p)).stage ≡ Holding h.turn.ticket
  pub last : slots p ≡ (h.turn.lane, None) ∷ rest (slots p)
  pub place : h.turn.place ≡ length (known_of (view p) h.turn.lane)
  pub stamp : h.turn.stamp ≡ last_stamp (view p).first (known_of (view p) h.turn.lane)

-- the entry may come at the held place, and the held value represents the model after the entry
pub record CanPut (t : Lanes) (p : Pass) (h : Held) (e : LaneEntry) : Type 0 where
  pub holds : Holds t p h
  pub kind : IsOf h.turn.lane e
  pub makes : ValueRepresents h.turn.lane h.state
      (made_of (replay (known_of (view p) h.turn.lane)) e (handed h.turn.lane e (view p)))
  pub fits : Fits (replay (known_of (view p) h.turn.lane)) (handed h.turn.lane e (view p)) e
  pub names : MayName h.turn.lane e (view p)

-- the hold `h` changed nothing: the value is the one that was taken, no entry of the parent lane waits for an answer at
-- the held place, and the generation was not raised
pub record CanLeave (t : Lanes) (p : Pass) (h : Held) : Type 0 where
  pub holds : Holds t p h
  pub value : ValueRepresents h.turn.lane h.state (replay (known_of (view p) h.turn.lane))
  pub free : OwesNothing h.turn.lane (view p)

-- The parts of a view that a call leaves unchanged

-- these fields of a view are as before; only split and join change them
pub record SameView (v w : View) : Type 0 where
  pub first : w.first ≡ v.first
  pub share : w.share ≡ v.share
  pub halvings : w.halvings ≡ v.halvings
  pub sized : length w.lanes ≡ length v.lanes

-- the pass's visits of lane `j`, and the lists of `j` kept at the pass's joins (`heard`), are as before
pub record SameHistory (j : ℕ) (v w : View) : Type 0 where
  pub made : (at j w).made ≡ (at j v).made
  pub places : (at j w).places ≡ (at j v).places
  pub heard : (at j w).heard ≡ (at j v).heard

-- at lane `j` the stage, `owes`, `raised`, the visits and the heard lists are as before
pub record SameOtherLane (j : ℕ) (v w : View) : Type 0 where
  pub stage : (at j w).stage ≡ (at j v).stage
  pub owed : (at j w).owes ≡ (at j v).owes
  pub raise : (at j w).raised ≡ (at j v).raised
  pub still : SameHistory j v w

-- at lane `j` the known list, the stage, `raised`, the visits and the heard lists are as before; `owes` may change, so
-- that the pass owes an answer there
pub record SameHeldLane (j : ℕ) (v w : View) : Type 0 where
  pub known : known_of w j ≡ known_of v j
  pub stage : (at j w).stage ≡ (at j v).stage
  pub raise : (at j w).raised ≡ (at j v).raised
  pub still : SameHistory j v w

-- The effects of the calls

-- the pass took the lane `lane`, and `h` is the hold
pub record Taken (lane : ℕ) (h : Held) (m m' : Seated) : Type 0 where
  pub of_lane : h.turn.lane ≡ lane
  pub consistent : Consistent m'.0
  pub same : SameView m.0 m'.0
  pub conforms : MatchesList lane h m'.0
  pub holding : (at lane m'.0).stage ≡ Holding h.turn.ticket
  pub free : OwesNothing lane m'.0
  pub still : SameHistory lane m.0 m'.0
  pub keeps : KeepsHeld lane m.0 m'.0
  pub aside : (j : ℕ) → j < length m.0.lanes → j ≢ lane → SameOtherLane j m.0 m'.0
  pub grows : Grows m.0 m'.0
  -- the base's generation is at least each one that the pass has seen
  pub fresh : lane ≡ 1 → m.0.seen ≤ (replay (known_of m'.0 1)).base.generation
  pub early : lane ≡ 1 → (replay (known_of m'.0 1)).base.generation < 2 ^ 62
  pub slots : m'.1 ≡ (lane, None) ∷ m.1
  pub looks : m'.0.looks ≡ m.0.looks
  pub seen : m'.0.seen ≡ m.0.seen
  pub stamp : m'.0.stamp ≡ m.0.stamp
  pub stamps : m'.0.stamps ≡ m.0.stamps
  pub drawn : m'.0.drawn ≡ m.0.drawn + 1

-- the pass drew a ticket and got the lane, but the lane's last stamp is 2^62 or more
abbrev pub DrewTooLate : ℕ → Seated → Seated → Type 0
DrewTooLate lane m m' = (m'.0.drawn ≡ m.0.drawn + 1) × (2 ^ 62 ≤ last_stamp m'.0.first (known_of m'.0 lane))

-- one of these is 2^62 or more: the pass's stamp, the ticket number that was read, or, if the pass got the lane, the
-- lane's last stamp
abbrev pub IsSpent : ℕ → Seated → Seated → Type 0
IsSpent lane m m' = (2 ^ 62 ≤ m.0.stamp) ⊎ (2 ^ 62 ≤ (at lane m'.0).found) ⊎ DrewTooLate lane m m'

-- the pass's stamp and the ticket that was read are below 2^62, and so is the lane's last stamp if a ticket was drawn
pub record Unspent (lane : ℕ) (m m' : Seated) : Type 0 where
  pub stamp : m.0.stamp < 2 ^ 62
  pub ticket : (at lane m'.0).found < 2 ^ 62
  pub last : m'.0.drawn ≡ m.0.drawn + 1 → last_stamp m'.0.first (known_of m'.0 lane) < 2 ^ 62

-- the ticket word was above the loaded serving number, and the pass drew no ticket
pub record IsBusy (lane serving ticket : ℕ) (m m' : Seated) : Type 0 where
  pub unspent : Unspent lane m m'
  pub above : serving < ticket
  pub loaded : (at lane m'.0).loaded ≡ serving
  pub found : (at lane m'.0).found ≡ ticket
  pub drawn : m'.0.drawn ≡ m.0.drawn

abbrev pub Refused : ℕ → Seated → Seated → TakeFault → Type 0
Refused lane m m' Spent = IsSpent lane m m'
Refused lane m m' (Busy serving ticket) = IsBusy lane serving ticket m m'

-- the pass did not get the lane. The pass's stage at each lane is as before, and the pass drew a ticket only if the
-- lane's last stamp is 2^62 or more
pub record Tried (lane : ℕ) (m m' : Seated) : Type 0 where
  pub consistent : Consistent m.0 → Consistent m'.0
  pub same : SameView m.0 m'.0
  pub keeps : KeepsHeld lane m.0 m'.0
  pub aside : (j : ℕ) → j < length m.0.lanes → SameOtherLane j m.0 m'.0
  pub grows : Grows m.0 m'.0
  pub slots : m'.1 ≡ m.1
  pub looks : m'.0.looks ≡ m.0.looks
  pub seen : m'.0.seen ≡ m.0.seen
  pub stamp : m'.0.stamp ≡ m.0.stamp
  pub stamps : m'.0.stamps ≡ m.0.stamps
  pub drawn : (m'.0.drawn ≡ m.0.drawn) ⊎ DrewTooLate lane m m'

-- a visit whose received key and handed-on key are not filled in yet
abbrev pub visit_by : Who → ℕ → LaneEntry → Visit
visit_by who stamp e = record { who = who; stamp = stamp; entry = e; got = nothing; gave = nothing }

-- the pass made the visit `x` of the lane
pub record Added (lane : ℕ) (x : Visit) (m m' : Seated) : Type 0 where
  pub consistent : Consistent m'.0
  pub same : SameView m.0 m'.0
  pub here : at lane m'.0 ≡ visited x (at lane m.0)
  -- if the entry of `x` names a place in another lane, the pass now owes the answer at that lane
  pub ahead : (l b : ℕ) → ahead_of x.entry ≡ Some (l, b) → l < length m.0.lanes
      → at l m'.0 ≡ record (at l m.0) { owes = Some (length (known_of m.0 lane)) }
  pub others : (j : ℕ) → j ≢ lane → ((l b : ℕ) → ahead_of x.entry ≡ Some (l, b) → j ≢ l) → at j m'.0 ≡ at j m.0
  pub beside : (j : ℕ) → j ≢ lane → SameHeldLane j m.0 m'.0
  pub grows : Grows m.0 m'.0
  pub slots : m'.1 ≡ rest m.1
  pub looks : m'.0.looks ≡ m.0.looks
  pub seen : m'.0.seen ≡ m.0.seen
  pub later : m.0.stamp < x.stamp
  pub stamp : m'.0.stamp ≡ x.stamp
  pub stamps : m'.0.stamps ≡ m.0.stamps ++ x.stamp ∷ []
  pub drawn : m'.0.drawn ≡ m.0.drawn

-- the pass gave the lane back without a visit
pub record Left (lane : ℕ) (m m' : Seated) : Type 0 where
  pub consistent : Consistent m.0 → Consistent m'.0
  pub same : SameView m.0 m'.0
  pub stage : (at lane m'.0).stage ≡ Away
  pub known : known_of m'.0 lane ≡ known_of m.0 lane
  pub still : SameHistory lane m.0 m'.0
  pub others : (j : ℕ) → j ≢ lane → at j m'.0 ≡ at j m.0
  pub grows : Grows m.0 m'.0
  pub slots : m'.1 ≡ rest m.1
  pub looks : m'.0.looks ≡ m.0.looks
  pub seen : m'.0.seen ≡ m.0.seen
  pub stamp : m'.0.stamp ≡ m.0.stamp
  pub stamps : m'.0.stamps ≡ m.0.stamps
  pub drawn : m'.0.drawn ≡ m.0.drawn

-- the pass looked and found the generation `g`. `g` is at least each generation that the pass knows from looks, from
-- the base or from the CPUs
pub record Looked (g : ℕ) (m m' : Seated) : Type 0 where
  pub consistent : Consistent m'.0
  pub same : SameView m.0 m'.0
  pub lanes : m'.0.lanes ≡ m.0.lanes
  pub looks : m'.0.looks ≡ m.0.looks ++ g ∷ []
  pub seen : m'.0.seen ≡ g
  pub not_less : m.0.seen ≤ g
  pub base : (replay (known_of m.0 1)).base.generation ≤ g
  pub cpus : (i : ℕ) → 2 ≤ i → i < length m.0.lanes → (replay (known_of m.0 i)).cpu.cpu.generation ≤ g
  pub small : g < 2 ^ 63
  pub slots : m'.1 ≡ m.1
  pub stamp : m'.0.stamp ≡ m.0.stamp
  pub stamps : m'.0.stamps ≡ m.0.stamps
  pub drawn : m'.0.drawn ≡ m.0.drawn

-- the pass holds the base, and stored `g` in the generation word
pub record Raised (g : ℕ) (m m' : Seated) : Type 0 where
  pub consistent : Consistent m'.0
  pub same : SameView m.0 m'.0
  pub here : at 1 m'.0 ≡ raising (at 1 m.0)
  pub others : (j : ℕ) → j ≢ 1 → at j m'.0 ≡ at j m.0
  pub grows : Grows m.0 m'.0
  pub looks : m'.0.looks ≡ m.0.looks
  pub seen : m'.0.seen ≡ g
  pub slots : m'.1 ≡ m.1
  pub stamp : m'.0.stamp ≡ m.0.stamp
  pub stamps : m'.0.stamps ≡ m.0.stamps
  pub drawn : m'.0.drawn ≡ m.0.drawn

-- at the table's end the pass knows each lane's whole list, and has counted each visit of the list once
pub record Ended (lanes : ℕ) (v : View) : Type 0 where
  pub lawful : LawfulLists lanes (known_of v)
  pub closed : Closed lanes (known_of v)
  pub answered : AllAnswered lanes (known_of v)
  pub rising : (i : ℕ) → i < lanes → Rising v.first (known_of v i)
  pub heard : (i : ℕ) → i < lanes → AllBegin (at i v).heard (known_of v i)
  pub made : (i : ℕ) → i < lanes → (at i v).made ≡ length (known_of v i)
  pub placed : (i p : ℕ) → i < lanes → times p (at i v).places ≡ once_below p (length (known_of v i))

-- a load that changes nothing; if the pass is idle and has the whole share, `Ended` holds for its view
abbrev pub settles : Step (Option Content) → Seated → ℕ → Seated → Type 0
settles st m r m' = (m' ≡ m) × (m.0.share ≡ 2 ^ m.0.halvings → IsIdle m.0 → Ended (length m.0.lanes) m.0)

abbrev pub made_in : LaneView → ℕ
made_in a = a.made

-- at the start the slots of the first `count` lanes have the values that empty lists give
abbrev pub AreStarts : ℕ → ℕ → List (Option Content) → Type 0
AreStarts first count contents = (length contents ≡ count)
    × ((lane : ℕ) → lane < count → (c : Content) × (slice_get contents lane ≡ Some (Some c)) × Replays lane first [] c)
