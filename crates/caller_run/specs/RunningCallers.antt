-- The preconditions and results of the run of a caller with all callers that it forks.
use Rattle.std.specs.Prelude.{◌≡◌, ℕ, ◌+◌, ◌*◌, ◌<◌, ◌≤◌, ◌^◌, List, [], ◌∷◌, ◌++◌, length, map, sum_by, All, vec_len, vec_capacity}
use Rattle.std.specs.List.{AllByRecursion}
use Rattle.std.specs.Global.{Vec as GlobalVec}
use Rattle.key_names.specs.declared.events.Event.{Event}
use Rattle.key_names.specs.declared.events.Event.TheVariants.{Fork}
use Rattle.key_names.specs.declared.names.Step.{Step}
use Rattle.key_names.specs.declared.entries.BaseEntry.TheVariants.{Stall, Unstall}
use Rattle.key_names.specs.Lanes.Book.{list_at}
use Rattle.key_names.specs.Callers.Forms.{BaseOnly}
use Rattle.key_names.specs.Texts.ScriptGrammar.{Script, WellFormed, IsForkAbove}
use Rattle.key_names.specs.Transcripts.SeenLine.{SeenLine}
use Rattle.key_names.specs.Texts.TranscriptGrammar.{StepFits}
use Rattle.lane_table.specs.declared.lanes.Lanes.{Lanes}
use Rattle.lane_table.specs.declared.lanes.Pass.{Pass}
use Rattle.lane_table.specs.declared.view.View.{View}
use Rattle.lane_table.specs.Calls.{view}
use Rattle.lane_table.specs.Hands.{HoldsLanes}
use Rattle.lane_table.specs.Meaning.{replay}
use Rattle.lane_table.specs.Steps.{halved, child as split_off}
use Rattle.lane_table.specs.WorldRule.{at, known_of}
use Rattle.lane_table.specs.Advances.{floor}
use Rattle.rng_core.specs.declared.setting.Setting.{Setting}
use Rattle.rng_core.specs.Makes.{Makes, setting_of}
use Rattle.rng_core.specs.Forks as cuts
use Rattle.rng_core.specs.Traces.{Moment, moment}
use Rattle.caller_run.specs.declared.making.caller.Caller.{Caller}
use Rattle.caller_run.specs.declared.forking.rooms.Room.{Room}
use Rattle.caller_run.specs.declared.forking.rooms.Buffers.{Buffers}
use Rattle.caller_run.specs.declared.forking.running_callers.RunningCaller.{RunningCaller}
use Rattle.caller_run.specs.Calling.{conform}
use Rattle.caller_run.specs.Families.{SameHalves, RanOn, RanSo}
use Rattle.caller_run.specs.Forest.{forks}
use Rattle.caller_run.specs.ForkTree.{ForkTree, cleared, planted, Layout, fork_tree_of, tree, emitted_in, emitted_by}
use Rattle.caller_run.specs.Laws.{Run, RanAll, LawfulRuns, lines_of_all}
use Rattle.caller_run.specs.Layouts.{layout}
use Rattle.caller_run.specs.Says.{most_shown}
use Rattle.caller_run.specs.Standing.{Start, CanAdvance, HasLogged, RunEnded, read_inside}
use Rattle.caller_run.specs.Took.{Took}

-- the buffers are empty, and have room for the lines of `events`
pub record IsNewBuffers (s : Buffers) (events : List Event) : Type 0 where
  pub lines : s.log.lines.lines ≡ []
  pub line_room : s.log.lines.line_room ≡ length events + 1
  pub step_room : s.log.lines.step_room ≡ 20 * (length events + 1)
  pub byte_room : s.log.lines.byte_room ≡ sum_by most_shown events
  pub acts : s.log.acts.items ≡ []
  pub act_room : 8 ≤ vec_capacity s.log.acts
  pub longest : All (λ event. most_shown event ≤ vec_len s.served) events
  pub inside_is : vec_len s.inside ≡ sum_by read_inside events

module _ (callers : List (List Event)) where
  -- the tree has rooms with new buffers for these callers, in the order of their forks, and for all their descendants
  abbrev pub ArePrepared : ForkTree → List ℕ → Type 0
  ArePrepared cleared [] = Unit {0}
  ArePrepared cleared (x ∷ xs) = ⊥
  ArePrepared (planted c s ks rest) [] = ⊥
  ArePrepared (planted c s ks rest) (x ∷ xs) =
      (c ≡ x) × (c < length callers) × IsNewBuffers s (list_at callers c) × ArePrepared ks (forks (list_at callers c))
      × ArePrepared rest xs

  -- a measure that shrinks with each recursion: it is smaller for the rooms of a caller's children than for a tree with
  -- the caller's room
  abbrev pub load : ForkTree → ℕ
  load cleared = 0
  load (planted c s ks rest) = length (list_at callers c) + 4 + (load ks + load rest)

-- the rooms of the callers that a running caller will fork
abbrev pub kids_of : RunningCaller → ForkTree
kids_of w = fork_tree_of (map layout w.kids.items)

-- a child's setting at its start
abbrev pub child_set : ℕ → Setting → Setting
child_set child set = record set { caller = child; event = 0 }

-- a start with this setting and this pass
abbrev pub start_of : Setting → Pass → Start
start_of set p = record { caller = set.caller; set = setting_of set; view = view p }

-- a running caller can make these events
abbrev pub CanAdvanceIn : Lanes → RunningCaller → List Event → Type 0
CanAdvanceIn t w events = CanAdvance t w.caller w.buffers.log (vec_len w.buffers.served) (vec_len w.buffers.inside) events

-- a running caller, which began as `begun`, has made all of `events` except the remaining `rest`
abbrev pub GoneIn : Start → List Event → List Event → Caller → RunningCaller → List Start → Type 0
GoneIn begun events rest c w kids = HasLogged begun events rest c w.buffers.log kids

-- each fork among these events names a caller with a number above c
abbrev pub AreAbove : ℕ → List Event → Type 0
AreAbove c events = AllByRecursion (IsForkAbove c) events

-- ---- preconditions of a running caller's functions ----

-- a caller can run from its start: its pass holds no lane, and its room is new
pub record CanRun (t : Lanes) (script : Script) (set : Setting) (p : Pass) (a : Layout) : Type 0 where
  pub has : HoldsLanes t set.caller [] p
  pub cpu : set.cpu < t.cpus
  pub now' : set.now < 2 ^ 40
  pub none_yet : set.event ≡ 0
  pub well : WellFormed script
  pub cpus : t.cpus ≡ script.cpus
  pub is : a.caller ≡ set.caller
  pub there : a.caller < length script.callers
  pub new : IsNewBuffers a.buffers (list_at script.callers a.caller)
  pub ready : ArePrepared script.callers a.kids (forks (list_at script.callers a.caller))

-- a running caller can make these events, and the rooms of the callers that the events fork are new
pub record CanAdvanceOn (t : Lanes) (script : Script) (events : List Event) (w : RunningCaller) : Type 0 where
  pub can : CanAdvanceIn t w events
  pub well : WellFormed script
  pub cpus : t.cpus ≡ script.cpus
  pub ready : ArePrepared script.callers (kids_of w) (forks events)

-- the visit of a fork was made, and the running caller can make the line of the fork
pub record CanTell (t : Lanes) (script : Script) (child : ℕ) (rest : List Event) (w : RunningCaller) (steps : List Step)
    : Type 0 where
  pub can : CanAdvanceIn t w (Fork child ∷ rest)
  pub well : WellFormed script
  pub cpus : t.cpus ≡ script.cpus
  pub ready : ArePrepared script.callers (kids_of w) (forks rest)
  pub long : length steps ≡ 1
  pub fits : AllByRecursion StepFits steps

-- a fork's visit was made: the child can run, and the parent can make the fork's line
pub record CanPart (t : Lanes) (script : Script) (child : ℕ) (rest : List Event) (w : RunningCaller) (steps : List Step)
    (theirs : Pass) (a : Layout) : Type 0 where
  pub child_can : CanRun t script (child_set child w.caller.set) theirs a
  pub parent_can : CanTell t script child rest w steps

-- ---- results of a running caller's functions ----

-- the running caller x made its events up to the next fork, or all if no fork is left, and is now y
pub record RanPlain (t : Lanes) (events : List Event) (x : RunningCaller) (rest : List Event) (y : RunningCaller) : Type 0 where
  pub can : CanAdvanceIn t y rest
  pub gone : (begun : Start) (all : List Event) (kids : List Start) → GoneIn begun all events x.caller x kids →
      GoneIn begun all rest y.caller y kids
  pub forks' : forks events ≡ forks rest
  pub above : (c : ℕ) → AreAbove c events → AreAbove c rest
  pub short : length rest ≤ length events
  pub kids : y.kids ≡ x.kids

-- the caller m made the visit that forks `child`, and is now w
pub record AtFork (m w : Caller) (steps : List Step) (child : ℕ) (theirs : Pass) : Type 0 where
  pub set : w.set ≡ m.set
  pub states : w.states ≡ m.states
  pub forked : cuts.Forked m.set (moment m.pass []) steps child w.pass theirs

-- from m to n the caller made two visits: with the first it stops running, and with the second it goes on
pub record RanHere (set : Setting) (m n : Moment) : Type 0 where
  pub middle : Moment
  pub stall : Makes (BaseOnly Stall) set m middle
  pub unstall : Makes (BaseOnly Unstall) set middle n

-- the caller m made all steps of the fork of `child`, and is now d; u is its pass's view after the fork's visit
pub record TookFrom (m d : Caller) (child : ℕ) (u : View) (steps : List Step) : Type 0 where
  pub set : d.set ≡ m.set
  pub states : d.states ≡ m.states
  pub took : Took m.set child (view m.pass) u (view d.pass) steps

-- the start of a child that m forks at the view u
abbrev pub kid_of : Caller → ℕ → View → Start
kid_of m child u = record { caller = child; set = (conform m).setting; view = split_off u }

-- the lines of a caller, with its number
abbrev pub numbered : Run → ℕ × List SeenLine
numbered r = (r.begun.caller, r.lines)

-- a caller ran from its start to its end, with all its descendants
pub record Returned (t : Lanes) (script : Script) (begun : Start) (a : Layout) (q : Pass) (b : Layout) : Type 0 where
  pub has : HoldsLanes t begun.caller [] q
  pub own : Run
  pub runs : List Run
  pub ran : RanSo script begun (view q) own runs
  pub recorded : emitted_by b ≡ map numbered (own ∷ runs)
  pub caller : b.caller ≡ a.caller
  pub shape : tree b.kids ≡ tree a.kids

-- a caller that began as `begun` ran from the view `v` to the view `end`, and is `y` after it has joined its children
pub record WentFrom (script : Script) (begun : Start) (events : List Event) (kids : List Start) (v : View) (y : RunningCaller)
    : Type 0 where
  pub own : y.caller.set.caller ≡ begun.caller
  pub end : View
  pub starts : List Start
  pub runs : List Run
  pub ran : RanOn script v end (view y.caller.pass) starts runs
  pub ended : RunEnded begun events end y.buffers.log.lines.lines (kids ++ starts)
  pub seen : floor end ≤ (replay (known_of end 1)).base.generation
  pub recorded : emitted_in (kids_of y) ≡ map numbered runs

-- the rooms `ks'` of the children form the same tree as the rooms `ks` before; only their buffers may differ
pub record SameKids (ks ks' : GlobalVec Room) : Type 0 where
  pub shape : tree (fork_tree_of (map layout ks'.items)) ≡ tree (fork_tree_of (map layout ks.items))
  pub many : vec_len ks' ≡ vec_len ks
  pub space : vec_capacity ks' ≡ vec_capacity ks

-- a running caller made these events, ended, and joined all callers that it forked
pub record WentOn (t : Lanes) (script : Script) (rest : List Event) (x y : RunningCaller) : Type 0 where
  pub has : HoldsLanes t y.caller.set.caller [] y.caller.pass
  pub same : SameKids x.kids y.kids
  pub goes : (begun : Start) (events : List Event) (kids : List Start) → AreAbove begun.caller rest →
      GoneIn begun events rest x.caller x kids → WentFrom script begun events kids (view x.caller.pass) y

-- after a fork, `WentFrom` holds for the remaining part of the run; u is the view after the fork's visit
pub record Past (script : Script) (begun : Start) (events : List Event) (kids : List Start) (u : View) (kid : Start)
    (y : RunningCaller) : Type 0 where
  pub following : View
  pub after : SameHalves (halved u) following
  pub went : WentFrom script begun events (kids ++ kid ∷ []) following y

-- a child ran to its end, in its own thread or in its parent's, and its parent went on to its own end
pub record WentBeside (t : Lanes) (script : Script) (child : ℕ) (rest : List Event) (w : RunningCaller) (steps : List Step)
    (theirs : Pass) (a : Layout) (y : RunningCaller) (q : Pass) (b : Layout) : Type 0 where
  pub has : HoldsLanes t y.caller.set.caller [] y.caller.pass
  pub same : SameKids w.kids y.kids
  pub of_child : Returned t script (start_of (child_set child w.caller.set) theirs) a q b
  pub goes : (begun : Start) (events : List Event) (kids : List Start) (m : Caller)
      (at : AtFork m w.caller steps child theirs) → begun.caller < child → AreAbove begun.caller rest →
      GoneIn begun events (Fork child ∷ rest) m w kids →
      Past script begun events kids at.forked.before (kid_of m child at.forked.before) y

-- all callers of the script ran, and `lines` are their lines
pub record WholeRan (script : Script) (lines : List (List SeenLine)) (w : View) : Type 0 where
  pub runs : List Run
  pub ran : RanAll script runs w
  pub recorded : lines ≡ lines_of_all runs
  pub lawful : LawfulRuns script lines w

-- the view of a pass that has made no visit
pub record IsFirst (v : View) : Type 0 where
  pub places : (lane : ℕ) → (at lane v).places ≡ []
  pub made : (lane : ℕ) → (at lane v).made ≡ 0
