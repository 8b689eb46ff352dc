-- One call of a caller is a call of the core, or a read out of a vgetrandom state. This module defines what the call
-- changes in the caller.
use Rattle.std.specs.Prelude.{◌≡◌, ℕ, ◌<◌, ◌≤◌, ◌^◌, List, [], length}
use Rattle.std.specs.List.{AllByRecursion}
use Rattle.key_names.specs.declared.events.Event.{Event}
use Rattle.key_names.specs.declared.entries.BaseEntry.TheVariants.{End}
use Rattle.key_names.specs.declared.events.Answer.{Answer}
use Rattle.key_names.specs.declared.events.Word.TheVariants.{Vread as VreadWord}
use Rattle.key_names.specs.declared.names.Step.{Step}
use Rattle.key_names.specs.Callers.Calls.{Setting as CallSetting, vread_call}
use Rattle.key_names.specs.Callers.Forms.{BaseOnly}
use Rattle.key_names.specs.Callers.Meaning.{CallerState, with_state}
use Rattle.key_names.specs.Texts.ScriptGrammar.{event_word}
use Rattle.key_names.specs.Transcripts.SeenLine.{Shown}
use Rattle.key_names.specs.Texts.TranscriptGrammar.{StepFits}
use Rattle.key_names.specs.Kernel.VgetrandomState.{VgetrandomState}
use Rattle.key_names.specs.Callers.VreadSteps.{published_by}
use Rattle.lane_table.specs.declared.lanes.Lanes.{Lanes}
use Rattle.lane_table.specs.Calls.{view}
use Rattle.lane_table.specs.Hands.{HoldsLanes, model}
use Rattle.lane_table.specs.Advances.{floor}
use Rattle.rng_core.specs.declared.setting.Setting.{Setting}
use Rattle.rng_core.specs.Traces.{Moment, moment}
use Rattle.rng_core.specs.Makes.{Makes, MakesIn, IsOutcomeOf, setting_of}
use Rattle.rng_core.specs.SampleEffects.{Sampled}
use Rattle.rng_core.specs.Acts.{Ask, ActOutcome}
use Rattle.rng_core.specs.Sites.{IsIdle, IsOnCpu, IsTimely, HasInHands, Same, at}
use Rattle.rng_core.specs.declared.site.Site.{Site}
use Rattle.rng_core.specs.InsideMakes.{bound_acts}
use Rattle.caller_run.specs.Done.{CallDone}
use Rattle.caller_run.specs.Says.{shown_by, line_of, ShowsFit, IsNoCount}
use Rattle.caller_run.specs.declared.making.caller.Caller.{Caller}
use Rattle.caller_run.specs.declared.output.reply.Reply.{Reply}
use Rattle.caller_run.specs.declared.making.states.States.{States}

-- a caller with this setting and these states, in the form that the meaning of calls uses
abbrev pub caller_at : CallSetting → States → CallerState
caller_at set states = record { setting = set; states = states.all; current = states.current }

abbrev pub conform : Caller → CallerState
conform c = caller_at (setting_of c.set) c.states.value

-- the caller has sixteen vgetrandom states, one of them current. Each state's generation is at most the generation that
-- the vDSO publishes if the core's generation is `found`
pub record Seen (found : ℕ) (s : CallerState) : Type 0 where
  pub many : length s.states ≡ 16
  pub current : s.current < 16
  pub published : AllByRecursion (λ st. st.generation ≤ published_by found) s.states

-- `Seen` holds for the caller's states, with the generation that the caller's pass has seen
abbrev pub StatesConform : Caller → Type 0
StatesConform c = Seen (floor (view c.pass)) (conform c)

-- from m to n the event was done with this answer and these data, and the samples of its visits match their definition
abbrev pub Does : Setting → Event → Answer → Shown → Moment → Moment → Type 0
Does set event answer shown m n = MakesIn (Sampled (IsOutcomeOf (setting_of set) event answer shown)) set m n

-- at the site `s` (a table, and a caller's pass, trace and setting) the call of any event can be made; the trace is
-- empty
pub record CanAsk (s : Site) : Type 0 where
  pub idle : IsIdle 20 s
  pub cpu : IsOnCpu s
  pub timely : IsTimely s

-- from site m to site n the call of `event` was made, with this reply and these bytes
pub record Asked (event : Event) (said : Reply) (served : List ℕ) (m n : Site) : Type 0 where
  pub same : Same m n
  pub has : HasInHands [] n
  pub does : Does m.set event said.answer (shown_by served said.shows) (at m) (at n)
  pub shows : ShowsFit (event_word event) said.shows

-- the caller's pass holds no lane, and its setting has a CPU of the table and a moment below 2^40
pub record IsReady (t : Lanes) (c : Caller) : Type 0 where
  pub has : HoldsLanes t c.set.caller [] c.pass
  pub cpu : c.set.cpu < t.cpus
  pub moment : c.set.now < 2 ^ 40

-- the caller, which was `c` and is now `d`, made the call of `event` with this reply, these bytes and these steps
pub record Called (t : Lanes) (event : Event) (c d : Caller) (said : Reply) (served : List ℕ) (steps : List Step)
    : Type 0 where
  pub has : HoldsLanes t d.set.caller [] d.pass
  pub set : d.set ≡ c.set
  pub states : d.states ≡ c.states
  pub does : Does c.set event said.answer (shown_by served said.shows) (moment c.pass []) (moment d.pass steps)
  pub shows : ShowsFit (event_word event) said.shows

-- the caller, which was `c` and is now `d`, made its last visit
pub record HasLeft (t : Lanes) (c d : Caller) (steps : List Step) : Type 0 where
  pub has : HoldsLanes t d.set.caller [] d.pass
  pub set : d.set ≡ c.set
  pub reached : floor (view d.pass) ≤ (model d.pass 1).base.generation
  pub did : Makes (BaseOnly End) c.set (moment c.pass []) (moment d.pass steps)

-- the caller, which was `c` and is now `d`, read `n` bytes out of its current state with these flags. `asks` are the
-- requests of the acts inside the read, and `zs` are the acts' outcomes
pub record StateRead (t : Lanes) (n flags : ℕ) (c d : Caller) (said : Reply) (served : List ℕ) (steps : List Step)
    (asks : List Ask) (zs : List ActOutcome) : Type 0 where
  pub has : HoldsLanes t d.set.caller [] d.pass
  pub set : d.set ≡ c.set
  pub left : VgetrandomState
  pub conforms : conform d ≡ with_state (conform c) left
  pub published : left.generation ≤ published_by (floor (view d.pass))
  pub done : CallDone c.set.caller (view c.pass) (view d.pass) (conform c) (conform d)
      (vread_call n flags (line_of c.set VreadWord served said steps) (bound_acts c.set asks zs))
  pub long : length zs ≡ length asks
  pub steps_fit : AllByRecursion StepFits steps
  pub acts_fit : AllByRecursion (λ z. AllByRecursion StepFits z.steps) zs
  pub shows : IsNoCount said.shows
