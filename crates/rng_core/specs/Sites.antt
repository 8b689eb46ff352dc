-- The preconditions and effects of calls at a site (a call's table, pass, trace and setting).
use Rattle.std.specs.Prelude.{◌≡◌, ◌≢◌, ◌⊎◌, ℕ, ◌+◌, ◌<◌, ◌≤◌, ◌^◌, List, [], ◌∷◌, length, Option, Some, None, Bool, false}
use Rattle.key_names.specs.Callers.Effects.{Effect}
use Rattle.key_names.specs.declared.entries.PoolEntry.TheVariants.{Extract}
use Rattle.key_names.specs.declared.entries.BaseEntry.TheVariants.{Refill}
use Rattle.key_names.specs.declared.events.Event.{Event}
use Rattle.key_names.specs.declared.events.Answer.{Answer}
use Rattle.key_names.specs.Kernel.Batches.{must_fill}
use Rattle.key_names.specs.Transcripts.SeenLine.{Shown}
use Rattle.lane_table.specs.declared.lanes.Held.{Held}
use Rattle.lane_table.specs.declared.view.Visit.{Visit}
use Rattle.lane_table.specs.declared.view.LaneEntry.{LaneEntry}
use Rattle.lane_table.specs.declared.view.LaneEntry.TheVariants.{Pool, Base}
use Rattle.lane_table.specs.declared.view.TicketStage.TheVariants.{Holding}
use Rattle.lane_table.specs.Meaning.{Model, CpuModel, after_of, ahead_of, raise_of, made_of, IsOf, Fits, ValueRepresents, nothing, got_of, hand as handing}
use Rattle.lane_table.specs.WorldRule.{Consistent, known_of, at as standing}
use Rattle.lane_table.specs.Steps.{handed, filled}
use Rattle.lane_table.specs.Calls.{IsSamePass, Added, view, visit_by}
use Rattle.lane_table.specs.Hands.{HoldsLanes, HeldLane, NotIn, hand, model}
use Rattle.lane_table.specs.Advances.{MadeStep, Agrees, looked, maker, floor}
use Rattle.rng_core.specs.Traces.{Moment, TraceRecords, Visited, moment}
use Rattle.rng_core.specs.Makes.{MakesIn, Served, IsOutcomeOf, setting_of}
use Rattle.rng_core.specs.declared.crng.keys.ExtractedRoot.{ExtractedRoot}
use Rattle.rng_core.specs.declared.crng.keys.KeyHandoff.{KeyHandoff}
use Rattle.rng_core.specs.declared.site.Site.{Site}

-- the lane numbers of the pool and of the base
abbrev pub pool_lane : ℕ
pool_lane = 0

abbrev pub base_lane : ℕ
base_lane = 1

abbrev pub cpu_lane : ℕ → ℕ
cpu_lane c = c + 2

-- the most bytes that a read may ask for
abbrev pub most_bytes : ℕ
most_bytes = 2 ^ 20

-- a pass may make a visit only while its stamp is at most `last_stamp`
abbrev pub last_stamp : ℕ
last_stamp = 2 ^ 62

-- the moment of a site: the view of its pass, and the steps in its trace
abbrev pub at : Site → Moment
at s = moment s.pass.now s.trace.now

-- the model of a lane (its value in the proofs), from the lane's list as the caller knows it
abbrev pub lane_of : Site → ℕ → Model
lane_of s lane = model s.pass.now lane

-- the lane number of the CPU that the caller runs on, and the CPU's model
abbrev pub own_lane : Site → ℕ
own_lane s = s.set.cpu + 2

abbrev pub own_cpu : Site → CpuModel
own_cpu s = (lane_of s (own_lane s)).cpu

-- the greatest generation that the caller has seen
abbrev pub seen_by : Site → ℕ
seen_by s = floor (view s.pass.now)

-- the caller holds exactly the lanes `hands`; the lane taken last comes first
abbrev pub HasInHands : List HeldLane → Site → Type 0
HasInHands hands s = HoldsLanes s.lanes.now s.set.caller hands s.pass.now

-- the most steps that a trace can have
abbrev pub most_steps : ℕ
most_steps = 20

-- how many visits the caller knows in the list of the CPU that it runs on
abbrev pub own_places : Site → ℕ
own_places s = length (known_of (view s.pass.now) (own_lane s))

-- Conditions on the site before a call

-- the caller holds no lane, and its trace has no step yet
pub record IsNew (s : Site) : Type 0 where
  pub has : HasInHands [] s
  pub empty : length s.trace.now ≡ 0

-- the caller holds no lane, and its trace has room for `steps` more steps
pub record IsIdle (steps : ℕ) (s : Site) : Type 0 where
  pub has : HasInHands [] s
  pub room : length s.trace.now + steps ≤ 20

-- the CPU that the caller runs on is one of the table's
abbrev pub IsOnCpu : Site → Type 0
IsOnCpu s = s.set.cpu < s.lanes.now.cpus

-- the time of the setting is below 2^40 ms, so the timers can hold it
abbrev pub IsTimely : Site → Type 0
IsTimely s = s.set.now < 2 ^ 40

-- the trace has room for `steps` more steps
abbrev pub HasRoom : ℕ → Site → Type 0
HasRoom steps s = length s.trace.now + steps ≤ 20

-- the caller holds only `lane`, whose value in `h` is unchanged. The caller owes an answer to the parent lane's entry
-- at place `owes` (if any), and raised the generation `raised` times in this hold
pub record HoldsWith (owes : Option ℕ) (raised lane : ℕ) (h : Held) (s : Site) : Type 0 where
  pub has : HasInHands (hand h.turn owes raised ∷ []) s
  pub lane_is : h.turn.lane ≡ lane
  pub value : ValueRepresents lane h.state (lane_of s lane)
  pub early : s.pass.now.stamp ≤ last_stamp

-- the caller holds only `lane`, whose value in `h` is unchanged. The caller owes no answer, and did not raise the
-- generation
abbrev pub Holds : ℕ → Held → Site → Type 0
Holds lane h s = HoldsWith None 0 lane h s

-- the caller may raise the generation: it has seen no generation above the base's, and the base's is below 2^62
pub record IsLow (s : Site) : Type 0 where
  pub seen : (view s.pass.now).seen ≤ (lane_of s base_lane).base.generation
  pub low : (lane_of s base_lane).base.generation < 2 ^ 62

-- the CPU's key is of the generation `look`, which a look found
pub record IsFresh (look : ℕ) (s : Site) : Type 0 where
  pub known : 1 ≤ look
  pub fresh : look ≡ (own_cpu s).cpu.generation

-- the CPU's key is of an earlier generation, and the base handed over another key for the CPU
pub record IsRefill (look : ℕ) (base : KeyHandoff) (s : Site) : Type 0 where
  pub known : 1 ≤ look
  pub not_back : (own_cpu s).cpu.generation ≤ look
  pub stale : look ≢ (own_cpu s).cpu.generation
  pub handed : got_of (Some base.place) (known_of (view s.pass.now) base_lane) ≡ handing base.key base.generation
  pub reached : look ≤ base.generation

-- `filled` is true if and only if the batch of this width has to be filled. If so, the CPU's key is of the generation
-- that the look found
pub record IsFill (look width : ℕ) (filled : Bool) (s : Site) : Type 0 where
  pub known : 1 ≤ look
  pub not_back : (own_cpu s).cpu.generation ≤ look
  pub fills : filled ≡ must_fill look width ((own_cpu s).fills width)
  pub fresh : (filled ≡ false) ⊎ (look ≡ (own_cpu s).cpu.generation)

-- the caller holds only `lane`, and may put it back with the entry `e`
pub record CanVisit (lane : ℕ) (h : Held) (e : LaneEntry) (s : Site) : Type 0 where
  pub has : HasInHands (hand h.turn (after_of e) (raise_of e) ∷ []) s
  pub lane_is : h.turn.lane ≡ lane
  pub kind : IsOf lane e
  pub names : ahead_of e ≡ None
  pub fits : Fits (lane_of s lane) (handed lane e (view s.pass.now)) e
  pub room : HasRoom 1 s
  pub early : s.pass.now.stamp ≤ last_stamp

-- the value in `h` is the value of `lane` after the entry `e`
abbrev pub IsMade : ℕ → Held → LaneEntry → Site → Type 0
IsMade lane h e s = ValueRepresents lane h.state (made_of (lane_of s lane) e (handed lane e (view s.pass.now)))

-- The site after a call, compared with the site before it

-- the same table and setting, and the same references to the pass and the trace, whose contents may differ
pub record Same (m n : Site) : Type 0 where
  pub lanes : n.lanes.now ≡ m.lanes.now
  pub set : n.set ≡ m.set
  pub pass : n.pass.ghost_name ≡ m.pass.ghost_name
  pub trace : n.trace.ghost_name ≡ m.trace.ghost_name

-- from `m` to `n` exactly the steps `made_steps` were made
pub record Walked (made_steps : List MadeStep) (m n : Site) : Type 0 where
  pub same : Same m n
  pub recorded : TraceRecords m.set (at m) (at n) made_steps

-- the caller took `lane`, as `h`; it may hold other lanes
pub record Took (lane : ℕ) (h : Held) (m n : Site) : Type 0 where
  pub walked : Walked [] m n
  pub trace : n.trace.now ≡ m.trace.now
  pub hands : (hands : List HeldLane) → NotIn lane hands → HasInHands hands m →
      HasInHands (hand h.turn None 0 ∷ hands) n
  pub lane_is : h.turn.lane ≡ lane
  pub value : ValueRepresents lane h.state (lane_of n lane)
  pub early : n.pass.now.stamp < last_stamp
  pub seen : (view n.pass.now).seen ≡ (view m.pass.now).seen
  pub kept : (j ticket : ℕ) → j < length (view m.pass.now).lanes → j ≢ lane →
      (standing j (view m.pass.now)).stage ≡ Holding ticket → lane_of n j ≡ lane_of m j
  pub low : lane ≡ base_lane → IsLow n
  pub agrees : lane ≡ base_lane → Agrees (lane_of n base_lane).base

-- the caller took `lane`, as `h`, while it held no other lane
pub record Entered (lane : ℕ) (h : Held) (m n : Site) : Type 0 where
  pub walked : Walked [] m n
  pub trace : n.trace.now ≡ m.trace.now
  pub holds : Holds lane h n
  pub low : lane ≡ base_lane → IsLow n
  pub agrees : lane ≡ base_lane → Agrees (lane_of n base_lane).base

-- only the pass changed, and no lane is held
pub record KeepsTrace (m n : Site) : Type 0 where
  pub same : Same m n
  pub trace : n.trace.now ≡ m.trace.now
  pub has : HasInHands [] n

-- the caller gave back its lane without a visit, and with an unchanged value
pub record GaveBack (m n : Site) : Type 0 where
  pub walked : Walked [] m n
  pub trace : n.trace.now ≡ m.trace.now
  pub has : HasInHands [] n

-- one look was made, which found the generation `found`, and the same lanes are held as before
pub record Looked (found : ℕ) (m n : Site) : Type 0 where
  pub walked : Walked (looked found ∷ []) m n
  pub room : length n.trace.now ≡ length m.trace.now + 1
  pub above : seen_by m ≤ found
  pub known : found ≤ seen_by n
  pub small : found < 2 ^ 63
  pub seen : (view n.pass.now).seen ≡ found
  pub consistent : Consistent (view n.pass.now)
  pub stamp : n.pass.now.stamp ≡ m.pass.now.stamp
  pub lanes : (lane : ℕ) → lane_of n lane ≡ lane_of m lane
  pub cpus : (c : ℕ) → c < m.lanes.now.cpus → (lane_of m (cpu_lane c)).cpu.cpu.generation ≤ found
  pub hands : (hands : List HeldLane) → HasInHands hands m → HasInHands hands n

-- one look was made, which found the generation `found`, and no lane is held
pub record LookedIdly (found : ℕ) (m n : Site) : Type 0 where
  pub looked : Looked found m n
  pub has : HasInHands [] n

-- the caller took the CPU that it runs on, and then made one look
pub record EnteredCpu (cpu : Held) (found : ℕ) (m n : Site) : Type 0 where
  pub walked : Walked (looked found ∷ []) m n
  pub room : length n.trace.now ≡ length m.trace.now + 1
  pub holds : Holds (own_lane n) cpu n
  pub above : seen_by m ≤ found
  pub seen : (view n.pass.now).seen ≡ found
  pub small : found < 2 ^ 63
  pub not_back : (own_cpu n).cpu.generation ≤ found

-- a visit with the entry `e` was made; other lanes may be held
pub record Visits (h : Held) (e : LaneEntry) (m n : Site) : Type 0 where
  pub same : Same m n
  pub room : length n.trace.now ≡ length m.trace.now + 1
  pub pass : IsSamePass m.lanes.now m.pass.now n.pass.now
  pub stamp : ℕ
  pub low : m.pass.now.stamp < last_stamp → stamp ≤ last_stamp
  pub added : Added h.turn.lane (filled h.turn.lane
      (visit_by (maker m.set.caller m.set.event (length m.trace.now)) stamp e)
      (view m.pass.now)) m.pass.now.seat.me n.pass.now.seat.me
  pub visited : (lane : ℕ) → h.turn.lane ≡ lane → Visited m.set (at m) (at n) lane h.turn.place (lane_of m lane) e
      (handed lane e (view m.pass.now))

-- a visit of `lane` with the entry `e` was made, and no lane is held
pub record VisitedIdly (lane : ℕ) (h : Held) (e : LaneEntry) (m n : Site) : Type 0 where
  pub same : Same m n
  pub has : HasInHands [] n
  pub seen : (view n.pass.now).seen ≡ (view m.pass.now).seen
  pub room : length n.trace.now ≡ length m.trace.now + 1
  pub visited : Visited m.set (at m) (at n) lane h.turn.place (lane_of m lane) e (handed lane e (view m.pass.now))

-- a visit of `lane` with the entry `e` was made, and it served `bytes`
pub record VisitedServing (lane : ℕ) (h : Held) (e : LaneEntry) (bytes : List ℕ) (m n : Site) : Type 0 where
  pub same : Same m n
  pub has : HasInHands [] n
  pub room : length n.trace.now ≡ length m.trace.now + 1
  pub served : Served m.set (at m) (at n) lane h.turn.place e bytes

-- a root was extracted from the pool for the held base
pub record Extracted (base : Held) (root : ExtractedRoot) (m n : Site) : Type 0 where
  pub same : Same m n
  pub holds : HoldsWith (Some root.place) 0 base_lane base n
  pub kept : lane_of n base_lane ≡ lane_of m base_lane
  pub key : (got_of (Some root.place) (known_of (view n.pass.now) pool_lane)).key ≡ root.key
  pub seen : (view n.pass.now).seen ≡ (view m.pass.now).seen
  pub room : length n.trace.now ≡ length m.trace.now + 1
  pub visited : (s : Model) × Visited m.set (at m) (at n) pool_lane root.place s
      (Pool (Extract m.set.hw base.turn.place)) nothing

-- a root was extracted from the pool, and the generation was raised to that of the base's next reseed
pub record ExtractedRaising (base : Held) (root : ExtractedRoot) (m n : Site) : Type 0 where
  pub same : Same m n
  pub holds : HoldsWith (Some root.place) 1 base_lane base n
  pub kept : lane_of n base_lane ≡ lane_of m base_lane
  pub key : (got_of (Some root.place) (known_of (view n.pass.now) pool_lane)).key ≡ root.key
  pub room : length n.trace.now ≡ length m.trace.now + 1
  pub visited : (s : Model) × Visited m.set (at m) (at n) pool_lane root.place s
      (Pool (Extract m.set.hw base.turn.place)) nothing

-- the base handed over a key for the held CPU
pub record Refilled (cpu : Held) (base : KeyHandoff) (m n : Site) : Type 0 where
  pub same : Same m n
  pub holds : HoldsWith (Some base.place) 0 (own_lane n) cpu n
  pub kept : own_cpu n ≡ own_cpu m
  pub handed : got_of (Some base.place) (known_of (view n.pass.now) base_lane) ≡ handing base.key base.generation
  pub fresh : (view m.pass.now).seen ≤ base.generation
  pub room : length n.trace.now ≡ length m.trace.now + 1
  pub visited : (s : Model) × Visited m.set (at m) (at n) base_lane base.place s
      (Base (Refill m.set.cpu cpu.turn.place)) nothing

-- exactly one step was made
abbrev pub IsOneStep : Site → Site → Type 0
IsOneStep m n = length n.trace.now ≡ length m.trace.now + 1

-- a call of at most `steps` steps was made, and no lane is held; P holds for the lanes' lists of visits and the call's
-- effects
pub record DoesIn (steps : ℕ) (P : (ℕ → List Visit) → List Effect → Type 0) (m n : Site) : Type 0 where
  pub same : Same m n
  pub has : HasInHands [] n
  pub room : length n.trace.now ≤ length m.trace.now + steps
  pub did : MakesIn P m.set (at m) (at n)

-- a call of at most `steps` steps was made, and no lane is held; P holds for the call's effects
abbrev pub Does : ℕ → (List Effect → Type 0) → Site → Site → Type 0
Does steps P m n = DoesIn steps (λ visits. P) m n

-- the call completed the event `event`, in at most `steps` steps, with the answer `answer` and the data `shown`
abbrev pub Completes : ℕ → Event → Answer → Shown → Site → Site → Type 0
Completes steps event answer shown m n = Does steps (IsOutcomeOf (setting_of m.set) event answer shown) m n
