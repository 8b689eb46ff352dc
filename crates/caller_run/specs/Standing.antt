-- The state of a caller between two of its events, and the preconditions of its next event.
use Rattle.std.specs.Prelude.{◌≡◌, ℕ, ◌+◌, ◌*◌, ◌<◌, ◌≤◌, true, Some, List, ◌∷◌, ◌++◌, length, slice_get, sum_by, vec_capacity}
use Rattle.std.specs.List.{AllByRecursion, fold}
use Rattle.key_names.specs.declared.events.Event.{Event}
use Rattle.key_names.specs.declared.events.Event.TheVariants.{Inside, Fork}
use Rattle.key_names.specs.declared.events.Word.TheVariants.{Inside as InsideWord}
use Rattle.key_names.specs.Callers.Calls.{Call, alone, Setting as CallSetting, setting_after_call, has_vread, calls_of}
use Rattle.key_names.specs.Callers.History.{calls_steps, through_visit}
use Rattle.key_names.specs.Transcripts.IsTranscript.{LineIs, LinesFit}
use Rattle.key_names.specs.Callers.Meaning.{CallerState, caller_start}
use Rattle.key_names.specs.Texts.ScriptGrammar.{InRange, FewActs}
use Rattle.key_names.specs.Transcripts.SeenLine.{SeenLine}
use Rattle.lane_table.specs.declared.lanes.Lanes.{Lanes}
use Rattle.lane_table.specs.declared.view.View.{View}
use Rattle.lane_table.specs.Calls.{view}
use Rattle.lane_table.specs.Steps.{Grows, child as split_off}
use Rattle.rng_core.specs.Acts.{Ask, wants, all_wanted, asks_of}
use Rattle.rng_core.specs.InsideMakes.{IsWaitingAct}
use Rattle.rng_core.specs.declared.vdso.acts.Bound.{Bound}
use Rattle.transcript_text.specs.Gathered.{Gathered}
use Rattle.caller_run.specs.Calling.{IsReady, StatesConform, conform}
use Rattle.caller_run.specs.Done.{CallsDone}
use Rattle.caller_run.specs.NumberedSteps.{NumberedStep, items_of}
use Rattle.caller_run.specs.Items.{steps_of}
use Rattle.caller_run.specs.Ran.{RanBy}
use Rattle.caller_run.specs.Says.{most_shown}
use Rattle.caller_run.specs.Waiting.{CallsSoFar}
use Rattle.caller_run.specs.declared.making.caller.Caller.{Caller}
use Rattle.caller_run.specs.declared.output.logs.Log.{Log}

-- how many bytes an event reads inside a vread
abbrev pub read_inside : Event → ℕ
read_inside (Inside point act) = wants act
read_inside _ = 0

-- the requests of the acts that wait for a vread
abbrev pub waiting_in : Log → List Ask
waiting_in log = asks_of log.acts.items

-- a caller with these lines and these waiting acts can make the events `rest`. It has a buffer of `served` bytes, and
-- one of `inside` bytes for the reads inside vreads
pub record CanAdvanceWith (t : Lanes) (c : Caller) (lines : Gathered) (acts : List Bound) (served inside : ℕ)
    (rest : List Event) : Type 0 where
  pub ready : IsReady t c
  pub states : StatesConform c
  pub range : (version : ℕ) × AllByRecursion (InRange version t.cpus) rest
  pub numbers : c.set.event + length rest ≤ 65536
  pub at : c.set.event ≡ length lines.lines
  pub line_room : length rest < lines.line_room
  pub step_room : 20 * (length rest + length acts + 1) ≤ lines.step_room
  pub byte_room : sum_by most_shown rest + all_wanted (asks_of acts) ≤ lines.byte_room
  pub longest : AllByRecursion (λ event. most_shown event ≤ served) rest
  pub wanted : sum_by read_inside rest + all_wanted (asks_of acts) ≤ inside
  pub few : (length acts ≤ 8) × FewActs (length acts) rest
  pub fresh : AllByRecursion IsWaitingAct acts
  pub recorded : AllByRecursion (λ a. a.event < length lines.lines) (asks_of acts)

-- a caller can make these events
pub record CanAdvance (t : Lanes) (c : Caller) (log : Log) (served inside : ℕ) (rest : List Event) : Type 0 where
  pub goes : CanAdvanceWith t c log.lines log.acts.items served inside rest
  pub act_room : 8 ≤ vec_capacity log.acts

-- `lines` has the line of the waiting act `a`
pub record HasLine (caller : ℕ) (lines : List SeenLine) (a : Ask) : Type 0 where
  pub line : SeenLine
  pub there : slice_get lines a.event ≡ Some line
  pub is : LineIs caller a.event InsideWord line

-- a caller at its start: its number, its setting, and its pass's view
pub record Start : Type 0 where
  pub caller : ℕ
  pub set : CallSetting
  pub view : View

-- a caller that began as `begun` and has the view w forked the child `child` in one of these calls
pub record Forked (begun : Start) (w : View) (calls : List Call) (child : Start) : Type 0 where
  pub before : List Call
  pub line : SeenLine
  pub after : List Call
  pub calls_are : calls ≡ before ++ alone (Fork child.caller) line ∷ after
  pub above : begun.caller < child.caller
  -- the steps of the caller's pass up to and including the fork's visit, and the pass's view after these steps
  pub splits : ℕ
  pub middle : View
  pub numbered_steps : List NumberedStep
  pub ran : RanBy begun.caller splits begun.view middle numbered_steps
  pub order : steps_of (items_of numbered_steps) ≡ calls_steps before ++ through_visit line.steps
  pub sized : length w.lanes ≡ length middle.lanes
  pub grows : Grows middle w
  pub view_is : child.view ≡ split_off middle
  pub set_is : child.set ≡ fold setting_after_call begun.set before

-- since its start a caller has made all of `events` except the remaining `rest`, and has these lines. Acts with the
-- requests `asks` wait. `kids` are the starts of the callers that it forked
pub record HasAdvanced (begun : Start) (events rest : List Event) (c : Caller) (lines : List SeenLine) (asks : List Ask)
    (kids : List Start) : Type 0 where
  pub own : c.set.caller ≡ begun.caller
  pub calls : List Call
  pub done : CallsDone begun.caller (length kids) begun.view (view c.pass) (caller_start begun.set) (conform c) calls
  pub settings : (conform c).setting ≡ fold setting_after_call begun.set calls
  pub forked : AllByRecursion (Forked begun (view c.pass) calls) kids
  pub waiting : List Ask
  pub waits : has_vread rest ≡ true → waiting ≡ asks
  pub so_far : CallsSoFar events rest lines waiting calls
  pub fit : (more : List SeenLine) → LinesFit begun.caller c.set.event rest more
      → LinesFit begun.caller 0 events (lines ++ more)
  pub idle : AllByRecursion (HasLine begun.caller lines) asks

-- `HasAdvanced` with the lines and the acts of a log
abbrev pub HasLogged : Start → List Event → List Event → Caller → Log → List Start → Type 0
HasLogged begun events rest c log kids = HasAdvanced begun events rest c log.lines.lines (waiting_in log) kids

-- the caller made this event: it was c and is now d, and its log was `log` and is now `after`. It has a buffer of
-- `served` bytes, and one of `inside` bytes for the reads inside vreads
pub record MadeEvent (t : Lanes) (served inside : ℕ) (event : Event) (c : Caller) (log : Log) (d : Caller) (after : Log)
    : Type 0 where
  pub can : (rest : List Event) → CanAdvance t c log served inside (event ∷ rest) → CanAdvance t d after served inside rest
  pub gone : (begun : Start) (events rest : List Event) (kids : List Start) →
      HasLogged begun events (event ∷ rest) c log kids → HasLogged begun events rest d after kids

-- the caller has made all of its events, and ended; at the end its pass has the view w
pub record RunEnded (begun : Start) (events : List Event) (w : View) (lines : List SeenLine) (kids : List Start)
    : Type 0 where
  pub fit : LinesFit begun.caller 0 events lines
  pub reached : CallerState
  pub done : CallsDone begun.caller (length kids) begun.view w (caller_start begun.set) reached (calls_of events lines)
  pub forked : AllByRecursion (Forked begun w (calls_of events lines)) kids
