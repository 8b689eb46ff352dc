-- The answers and data of a call's lines, and the caller's vgetrandom states after the call.
use Rattle.std.specs.Prelude.{ℕ, ◌≡◌, Bool, true, false, Some, List, [], ◌∷◌, ◌++◌, map, replicate, slice_get}
use Rattle.std.specs.Prelude.{slice_set, unwrap_or}
use Rattle.std.specs.List.{AllByRecursion}
use Rattle.key_names.specs.declared.events.Event.{Event}
use Rattle.key_names.specs.declared.events.Event.TheVariants.{Drop, State}
use Rattle.key_names.specs.declared.events.Answer.TheVariants.{Ok as Done}
use Rattle.key_names.specs.Callers.Calls.{Setting, Call, alone, vread_call, unbound, ending, BoundAct}
use Rattle.key_names.specs.Transcripts.SeenLine.{SeenLine}
use Rattle.key_names.specs.Kernel.VgetrandomState.{VgetrandomState, wiped_state}
use Rattle.judge_log.specs.declared.kept.Lists.{Lists as KeptLists}
use Rattle.judge_vread.specs.declared.inside.Reached.{Reached}
use Rattle.judge_vread.specs.Path.{Followed, followed}
use Rattle.judge_vread.specs.Inside.{inside_of, includes}
use Rattle.judge_log.specs.declared.said.MadeLine.{MadeLine}
use Rattle.judge_log.specs.declared.said.ShownRecipe.TheVariants.{Nothing as ShowsNothing, Served}
use Rattle.judge_log.specs.Met.{met_in, seen_in}
use Rattle.judge_log.specs.EventSays.{AloneConforms, alone_says, ActConforms, act_says_at, EndConforms, unused}
use Rattle.judge_log.specs.Writes.{Write, Written}

-- the sixteen vgetrandom states of a caller, and the number of the current one
pub record VStates : Type 0 where
  pub states : List VgetrandomState
  pub current : ℕ

abbrev pub first_states : VStates
first_states = record { states = replicate 16 wiped_state; current = 0 }

abbrev pub state_of : VStates → VgetrandomState
state_of s = unwrap_or (slice_get s.states s.current) wiped_state

abbrev pub with_state : VStates → VgetrandomState → VStates
with_state s state = record s { states = slice_set s.states s.current state }

-- the caller's vgetrandom states after a single event
abbrev pub states_after : Event → VStates → VStates
states_after Drop s = with_state s wiped_state
states_after (State number) s = record s { current = number }
states_after _ s = s

abbrev pub write : SeenLine → MadeLine → Write
write line said = record { event = line.event; said = said }

module _ (kept : KeptLists) (set : Setting) where
  pub record AloneSaid (event : Event) (line : SeenLine) (old new : VStates) (writes : List Write) : Type 0 where
    pub conforms : AloneConforms kept set event line.steps
    pub new_is : new ≡ states_after event old
    pub writes_are : writes ≡ write line (alone_says kept set event line.steps) ∷ []

  -- if the `vread` reached the act's point, the act's steps match a form of the act; otherwise the act has no steps
  abbrev pub ActDone : Reached → BoundAct → Type 0
  ActDone reached bound = ActConforms kept set (includes reached bound.point) bound.act bound.line.steps

  abbrev pub act_write : Reached → BoundAct → Write
  act_write reached bound =
      write bound.line (act_says_at kept set (includes reached bound.point) bound.act bound.line.steps)

  pub record VreadSaid (n flags : ℕ) (line : SeenLine) (acts : List BoundAct) (old new : VStates)
      (writes : List Write) : Type 0 where
    pub f : Followed
    pub follows : followed n flags (inside_of acts) (state_of old) (seen_in set.cpu (met_in kept line.steps)) ≡ Some f
    pub done : AllByRecursion (ActDone f.path.reached) acts
    pub new_is : new ≡ with_state old f.state
    pub writes_are : writes ≡ map (act_write f.path.reached) acts
        ++ write line (record { answer = f.path.answer; shows = Served f.path.served }) ∷ []

  pub record UnboundSaid (bound : BoundAct) (old new : VStates) (writes : List Write) : Type 0 where
    pub no_steps : bound.line.steps ≡ []
    pub new_is : new ≡ old
    pub writes_are : writes ≡ write bound.line unused ∷ []

  pub record EndingSaid (line : SeenLine) (old new : VStates) (writes : List Write) : Type 0 where
    pub conforms : EndConforms kept set line.steps
    pub new_is : new ≡ old
    pub writes_are : writes ≡ write line (record { answer = Done; shows = ShowsNothing }) ∷ []

  abbrev pub CallSaid : Call → VStates → VStates → List Write → Type 0
  CallSaid (alone event line) old new writes = AloneSaid event line old new writes
  CallSaid (vread_call n flags line acts) old new writes = VreadSaid n flags line acts old new writes
  CallSaid (unbound bound) old new writes = UnboundSaid bound old new writes
  CallSaid (ending line) old new writes = EndingSaid line old new writes

-- if the bool is true, the call has answers and data, and `notes'` is `notes` with notes of them added. If it is false,
-- the call has no answers and data
module _ {Noted : Type 0} (IsNoted : ℕ → MadeLine → Noted → Type 0) (kept : KeptLists) (set : Setting) where
  abbrev pub IsCallSaid : Call → VStates → VStates → List Noted → List Noted → Bool → Type 0
  IsCallSaid call old new notes notes' true =
      (writes : List Write) × CallSaid kept set call old new writes × Written IsNoted writes notes notes'
  IsCallSaid call old new notes notes' false =
      (t : VStates) (writes : List Write) → CallSaid kept set call old t writes → ⊥

module _ (kept : KeptLists) where
  -- `writes` has the answers and data of the calls, in order; the setting of each call is taken from the list of
  -- settings; `s` and `t` are the vgetrandom states before and after the calls
  abbrev pub CallsSaid : List Setting → List Call → VStates → VStates → List Write → Type 0
  CallsSaid [] calls s t writes = (t ≡ s) × (writes ≡ [])
  CallsSaid (set ∷ sets) [] s t writes = (t ≡ s) × (writes ≡ [])
  CallsSaid (set ∷ sets) (call ∷ calls) s t writes =
      (mid : VStates) × (first : List Write) × (rest : List Write) × CallSaid kept set call s mid first
      × CallsSaid sets calls mid t rest × (writes ≡ first ++ rest)
