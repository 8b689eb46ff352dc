-- The rule of the lanes: the invariant over words, slots and the knowledge of all passes between any two atomic
-- steps. Word 0 is the generation. Each lane has a ticket word, a serving word, and a slot for its value.
use Rattle.std.specs.Prelude.{◌≡◌, ◌⊎◌, ℕ, ◌+◌, ◌*◌, ◌-◌, ◌^◌, ◌<◌, ◌≤◌, List, [], ◌∷◌, ◌++◌, All, map, length, Option, Some, None, slice_index_or, ◌==◌, nat_lt, if◌then◌else◌}
use Rattle.std.specs.List.{sum_by}
use mathlib.Core.Option.{some, none}
use mathlib.Core.Option as maybe
use lib.ListN.{get_elem?}
use Rattle.atomic_table.specs.Table.{State}
use Rattle.lane_table.specs.declared.view.Visit.{Visit}
use Rattle.lane_table.specs.declared.view.LaneView.{LaneView}
use Rattle.lane_table.specs.declared.view.View.{View}
use Rattle.lane_table.specs.declared.view.Content.{Content}
use Rattle.lane_table.specs.declared.view.TicketStage.{TicketStage}
use Rattle.lane_table.specs.declared.view.TicketStage.TheVariants.{Away, Queued, Holding}
use Rattle.lane_table.specs.Meaning.{after_of, ahead_of, raise_of, parent, replay, ValueRepresents}
use Rattle.lane_table.specs.References.{Closed, LawfulLists, ConsistentLists}

-- Words and slots. A lane's two words have their own 128 bytes, so that lanes share no cache line

abbrev pub ticket_word : ℕ → ℕ
ticket_word lane = 16 * lane + 16

abbrev pub serving_word : ℕ → ℕ
serving_word lane = 16 * lane + 17

abbrev pub words_of : ℕ → ℕ
words_of lanes = 16 * lanes + 16

-- a lane's slot in the table: it does not exist, a pass has it, or it is in the table
abbrev pub Home : Type 0
Home = maybe.Option (maybe.Option (Option Content))

abbrev pub St : Type 0
St = State (Option Content) View

-- Lists of visits: prefixes, stamps and raises

abbrev pub Begins : List Visit → List Visit → Type 0
Begins xs ys = (rest : List Visit) × (ys ≡ xs ++ rest)

abbrev pub AllBegin : List (List Visit) → List Visit → Type 0
AllBegin [] log = Unit {0}
AllBegin (xs ∷ lists) log = Begins xs log × AllBegin lists log

-- the stamp of the last visit, or `first` if the list is empty
abbrev pub last_stamp : ℕ → List Visit → ℕ
last_stamp first [] = first
last_stamp first (x ∷ xs) = last_stamp x.stamp xs

-- stamps rise along the list, and all are above `first`
abbrev pub Rising : ℕ → List Visit → Type 0
Rising first [] = Unit {0}
Rising first (x ∷ xs) = (first < x.stamp) × Rising x.stamp xs

-- how often the visits raised the generation
abbrev pub raises : List Visit → ℕ
raises xs = sum_by (λ x. raise_of x.entry) xs

-- the content `c` of a lane's slot has the value, the next place and the last stamp that the lane's list `log` gives
pub record Replays (lane first : ℕ) (log : List Visit) (c : Content) : Type 0 where
  pub value : ValueRepresents lane c.state (replay log)
  pub place : c.place ≡ length log
  pub stamp : c.stamp ≡ last_stamp first log

-- A view's part of a lane

abbrev pub blank : LaneView
blank = record {
  known = [];
  made = 0;
  places = [];
  tickets = 0;
  stage = Away;
  owes = None;
  raised = 0;
  loaded = 0;
  found = 0;
  heard = [];
}

-- a view's part of a lane
abbrev pub at : ℕ → View → LaneView
at lane v = slice_index_or v.lanes lane blank

abbrev pub known_of : View → ℕ → List Visit
known_of v lane = (at lane v).known

-- the part of one lane in each view
abbrev pub column : ℕ → List View → List LaneView
column lane views = map (at lane) views

abbrev pub IsHolding : LaneView → Type 0
IsHolding a = (t : ℕ) × (a.stage ≡ Holding t)

abbrev pub has_ticket : TicketStage → ℕ
has_ticket Away = 0
has_ticket (Queued t) = 1
has_ticket (Holding t) = 1

-- the lists that a view knows are consistent
abbrev pub Consistent : View → Type 0
Consistent v = ConsistentLists (length v.lanes) (known_of v)

-- The rule of one lane

-- the stage of pass number `j` fits the lane. `owner` maps each ticket to its pass. The pass that holds the lane has
-- the served ticket and the slot, and knows the whole list
module _ (ticket serving : ℕ) (owner : ℕ → ℕ) (home : Home) (log : List Visit) (j : ℕ) (known : List Visit) where
  abbrev pub Conforms : TicketStage → Type 0
  Conforms Away = Unit {0}
  Conforms (Queued t) = (serving ≤ t) × (t < ticket) × (owner t ≡ j)
  Conforms (Holding t) = (t ≡ serving) × (t < ticket) × (owner t ≡ j) × (known ≡ log) × (home ≡ some none)

pub record PassOk (ticket serving : ℕ) (owner : ℕ → ℕ) (home : Home) (log : List Visit) (j : ℕ) (a : LaneView)
    : Type 0 where
  pub begins : Begins a.known log
  pub heard : AllBegin a.heard log
  pub conforms : Conforms ticket serving owner home log j a.known a.stage
  pub loaded : a.loaded ≤ serving
  pub found : a.found ≤ ticket

-- the value is in its slot and represents the list, or the pass with the served ticket has the value
abbrev pub IsHomeOrHeld : ℕ → ℕ → ℕ → Home → List LaneView → List Visit → Type 0
IsHomeOrHeld lane first serving home col log =
    ((c : Content) × (home ≡ some (some (Some c))) × Replays lane first log c)
    ⊎ ((j : ℕ) × (a : LaneView) × (get_elem? col j ≡ some a) × (a.stage ≡ Holding serving))

-- `times`: how often a place is in a list of places. `once_below`: 1 if a place is below `n`, else 0
abbrev pub times : ℕ → List ℕ → ℕ
times place places = sum_by (λ p. if p == place then 1 else 0) places

abbrev pub once_below : ℕ → ℕ → ℕ
once_below place n = if nat_lt place n then 1 else 0

-- some view knows the whole list
abbrev pub KnownWhole : List LaneView → List Visit → Type 0
KnownWhole col log = (j : ℕ) × (a : LaneView) × (get_elem? col j ≡ some a) × (a.known ≡ log)

pub record LaneOk (lane first ticket serving : ℕ) (home : Home) (col : List LaneView) (log : List Visit)
    (owner : ℕ → ℕ) : Type 0 where
  -- each ticket from the served one on belongs to one pass
  pub ordered : serving ≤ ticket
  pub counted : serving + sum_by (λ a. has_ticket a.stage) col ≡ ticket
  -- the ticket number is `first` plus the number of tickets that the passes drew
  pub drawn : ticket ≡ first + sum_by (λ a. a.tickets) col
  pub passes : (j : ℕ) (a : LaneView) → get_elem? col j ≡ some a → PassOk ticket serving owner home log j a
  pub whereabouts : IsHomeOrHeld lane first serving home col log
  -- the passes made all visits of the list, each once
  pub made : sum_by (λ a. a.made) col ≡ length log
  pub placed : (p : ℕ) → sum_by (λ a. times p a.places) col ≡ once_below p (length log)
  pub known : KnownWhole col log
  pub rising : Rising first log

-- References between a lane and its parent lane

-- a pass that owes an answer holds the place that was named; the entry that names the place is in the parent lane's
-- list, and the answer may name that entry
abbrev pub OwedAt : ℕ → LaneView → List Visit → Type 0
OwedAt lane a following = (p : ℕ) → a.owes ≡ Some p → IsHolding a
    × ((y : Visit) × (get_elem? following p ≡ some y) × (ahead_of y.entry ≡ Some (lane, length a.known)))
    × ((replay a.known).least ≤ p)

abbrev pub Owed : ℕ → View → Type 0
Owed lanes v = (lane : ℕ) → lane < lanes → OwedAt lane (at lane v) (known_of v (parent lane))

-- some pass owes an answer at the lane, to the parent lane's entry at place `p`
abbrev pub Owes : ℕ → ℕ → List View → Type 0
Owes lane p views = (j : ℕ) × (v : View) × (get_elem? views j ≡ some v) × ((at lane v).owes ≡ Some p)

-- if an entry of the parent lane names a place of the lane, the visit at that place names the entry; or the place is
-- the lane's next one, and a pass owes the answer
abbrev pub Pending : ℕ → List Visit → List Visit → List View → Type 0
Pending lane following here views =
    (p b : ℕ) (x : Visit) → get_elem? following p ≡ some x → ahead_of x.entry ≡ Some (lane, b)
    → ((y : Visit) × (get_elem? here b ≡ some y) × (after_of y.entry ≡ Some p))
    ⊎ ((b ≡ length here) × Owes lane p views)

abbrev pub AllPending : ℕ → (ℕ → List Visit) → List View → Type 0
AllPending lanes logs views = (lane : ℕ) → 1 ≤ lane → lane < lanes
    → Pending lane (logs (parent lane)) (logs lane) views

-- a lane's value carries the lists that its last holder knew at the release: the whole list of this lane, and a prefix
-- of each other lane's list
pub record Carries (lanes : ℕ) (logs : ℕ → List Visit) (lane : ℕ) (lists : ℕ → List Visit) : Type 0 where
  pub begins : (j : ℕ) → j < lanes → Begins (lists j) (logs j)
  pub own : lists lane ≡ logs lane
  pub closed : Closed lanes lists

-- The rule of one pass

-- only the holder of the base can have raised the generation
abbrev pub RaisedOk : LaneView → Type 0
RaisedOk a = (a.raised ≡ 0) ⊎ ((a.raised ≡ 1) × IsHolding a)

-- the weight of a view's share, if the whole weighs 2 ^ top
abbrev pub weight : ℕ → View → ℕ
weight top v = v.share * 2 ^ (top - v.halvings)

-- the rule of a single view; a view without a share knows no lane
pub record ViewOk (first lanes top : ℕ) (v : View) : Type 0 where
  pub sized : 0 < v.share → (length v.lanes ≡ lanes) × (v.first ≡ first)
  pub spent : v.share ≡ 0 → v.lanes ≡ []
  pub below : v.halvings ≤ top
  pub stamped : All (λ n. n ≤ v.stamp) v.stamps
  pub closed : Closed lanes (known_of v)
  pub owed : Owed lanes v

-- The rule of the whole table

pub record WorldRule (first : ℕ) (s : St) : Type 0 where
  pub wide : length s.words ≡ words_of (length s.homes)
  pub two : 2 ≤ length s.homes
  pub logs : ℕ → List Visit
  pub owners : ℕ → ℕ → ℕ
  pub lane : (i : ℕ) → i < length s.homes → LaneOk i first
      (slice_index_or s.words (ticket_word i) 0) (slice_index_or s.words (serving_word i) 0)
      (get_elem? s.homes i) (column i s.views) (logs i) (owners i)
  pub lawful : LawfulLists (length s.homes) logs
  pub carried : ℕ → ℕ → List Visit
  pub carries : (i : ℕ) → i < length s.homes → Carries (length s.homes) logs i (carried i)
  pub pending : AllPending (length s.homes) logs s.views
  pub generation : slice_index_or s.words 0 0 ≡ raises (logs 1) + sum_by (λ a. a.raised) (column 1 s.views)
  pub small : slice_index_or s.words 0 0 < 2 ^ 63
  pub seen : (j : ℕ) (v : View) → get_elem? s.views j ≡ some v →
      (v.seen ≤ slice_index_or s.words 0 0) × RaisedOk (at 1 v)
  pub top : ℕ
  pub views : (j : ℕ) (v : View) → get_elem? s.views j ≡ some v → ViewOk first (length s.homes) top v
  pub whole : sum_by (weight top) s.views ≡ 2 ^ top
