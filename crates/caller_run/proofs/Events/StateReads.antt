-- The contracts of the core's vreads give `StateRead`: a read out of the caller's current vgetrandom state.
use Rattle.std.proofs.Common.{Option, ◌≤◌, ◌≡◌, ℕ, ◌<◌, List, [], ◌++◌, length, map, get_or, sym, ap, ◌∙◌, subst, refl}
use Rattle.std.specs.Prelude.{Result, slice_get, unwrap_or}
use Rattle.std.specs.List.{AllByRecursion}
use Rattle.key_names.specs.declared.errno.Errno.{Errno}
use Rattle.key_names.specs.declared.events.Answer.{Answer}
use Rattle.key_names.specs.declared.events.Word.TheVariants.{Vread as VreadWord}
use Rattle.key_names.specs.declared.names.Step.{Step}
use Rattle.key_names.specs.Callers.Calls.{vread_call}
use Rattle.key_names.specs.Callers.Meaning.{current_state, with_state}
use Rattle.key_names.specs.Transcripts.SeenLine.{Shown, bytes_or_none}
use Rattle.key_names.specs.Texts.TranscriptGrammar.{StepFits}
use Rattle.key_names.specs.Kernel.VgetrandomState.{VgetrandomState, wiped_state}
use Rattle.lane_table.specs.Calls.{view}
use Rattle.lane_table.specs.Advances.{MadeStep, step_of, floor}
use Rattle.lane_table.specs.Hands.{HoldsLanes}
use Rattle.lane_table.specs.declared.lanes.Lanes.{Lanes}
use Rattle.lane_table.specs.declared.lanes.Pass.{Pass}
use Rattle.key_names.specs.Callers.Meaning.{CallerState}
use Rattle.key_names.specs.Callers.VreadSteps.{published_by}
use Rattle.std.proofs.lemmas.Option.{slice_get-get_or}
use Rattle.rng_core.specs.Acts.{ActOutcome}
use Rattle.rng_core.proofs.InsideCalls.{fresh_undone, outcomes_long}
use Rattle.caller_run.specs.Calling.{StateRead}
use Rattle.caller_run.specs.Says.{IsNoCount}
use Rattle.rng_core.specs.declared.vdso.acts.Bound.{Bound}
use Rattle.rng_core.specs.declared.vdso.attempt.Attempt.TheVariants.{Before}
use Rattle.rng_core.specs.Acting.{act_conform, InsideRan}
use Rattle.rng_core.specs.Acts.{Ask, asks_of, outcomes_of}
use Rattle.rng_core.specs.Makes.{result_answer, given}
use Rattle.rng_core.specs.Hosted as core
use Rattle.rng_core.specs.InsideMakes.{IsWaitingAct, bound_acts, InsideMakes}
use Rattle.rng_core.specs.Traces.{moment}
use Rattle.rng_core.specs.VreadMakes.{VreadMakes}
use Rattle.caller_run.specs.Calling.{conform}
use Rattle.caller_run.specs.Done.{CallDone}
use Rattle.caller_run.specs.Says.{shown_by, line_of}
use Rattle.caller_run.specs.declared.making.caller.Caller.{Caller}
use Rattle.caller_run.specs.declared.output.reply.Reply.{Reply}
use Rattle.caller_run.specs.declared.making.states.States.{States}
use Rattle.std.specs.Global.{Box}
use Rattle.rng_core.specs.declared.setting.Setting.{Setting}
use Rattle.caller_run.proofs.Events.InsideDone.{inside_done}
use Rattle.caller_run.proofs.Events.VreadDone.{vread_done}

-- the pass, the steps and the outcomes were lent to the read, and came back. If equal values replace them, `StateRead`
-- still holds
pub lent_read : {t : Lanes} {n flags : ℕ} {c : Caller} {set : Setting} {states : Box States} {said : Reply} {served : List ℕ}
    {asks : List Ask} {p q : Pass} {steps recorded : List Step} {zs left : List ActOutcome} → p ≡ q → steps ≡ recorded →
    zs ≡ left →
    StateRead t n flags c (record { pass = q; set = set; states = states }) said served recorded asks left →
    StateRead t n flags c (record { pass = p; set = set; states = states }) said served steps asks zs
lent_read pass trace outcomes read = rw pass (rw trace (rw outcomes read))

-- if i is below the number of states, both ways of looking up the current state, number i, give the same state
pub current_is : (states : List VgetrandomState) (i : ℕ) (other : VgetrandomState) → i < length states →
    get_or states i other ≡ unwrap_or (slice_get states i) wiped_state
current_is states i other low = sym (ap (λ (o : Option VgetrandomState). unwrap_or o wiped_state)
    (slice_get-get_or states i other low))

-- the caller c read out of the state `st`, which is `left` after the read; the caller is then d
pub record IsAfter (t : Lanes) (c d : Caller) (said : Reply) (served : List ℕ) (before : List Step)
    (st left : VgetrandomState)
    (ended : Result (Unit {0}) Errno) : Type 0 where
  pub has : HoldsLanes t d.set.caller [] d.pass
  pub set : d.set ≡ c.set
  pub conforms : conform d ≡ with_state (conform c) left
  pub published : left.generation ≤ published_by (floor (view d.pass))
  pub new : before ≡ []
  pub current : st ≡ current_state (conform c)
  pub answers : said.answer ≡ result_answer ended
  pub shows : shown_by served said.shows ≡ bytes_or_none (given ended served)
  pub bytes : IsNoCount said.shows

module _ {t : Lanes} {c d : Caller} {said : Reply} {served : List ℕ} {before : List Step} {st left : VgetrandomState}
    {ended : Result (Unit {0}) Errno} (b : IsAfter t c d said served before st left ended) where
  -- if P holds for `st` and the result of the read, P holds for the caller's current state and the reply `said`
  emitted_by : (P : VgetrandomState → Answer → Shown → List Step → Type 0) →
      P st (result_answer ended) (bytes_or_none (given ended served)) before →
      P (current_state (conform c)) said.answer (shown_by served said.shows) []
  emitted_by P here =
      subst (P (current_state (conform c)) said.answer (shown_by served said.shows)) b.new
      (subst (λ (s : VgetrandomState). P s said.answer (shown_by served said.shows) before) b.current
      (subst (λ (a : Answer). P st a (shown_by served said.shows) before) (sym b.answers)
      (subst (λ (x : Shown). P st (result_answer ended) x before) (sym b.shows) here)))

  steps_fit : {steps : List Step} (made_steps : List MadeStep) → steps ≡ before ++ map step_of made_steps →
      AllByRecursion StepFits (map step_of made_steps) → AllByRecursion StepFits steps
  steps_fit made_steps trace fits = subst (AllByRecursion StepFits)
      (sym (trace ∙ ap (λ (l : List Step). l ++ map step_of made_steps) b.new)) fits

  module _ {n flags : ℕ} {steps : List Step} where
    -- if `CallDone` holds for the vread, `StateRead` holds for the read
    read_by : (asks : List Ask) (zs : List ActOutcome) →
        CallDone c.set.caller (view c.pass) (view d.pass) (conform c) (with_state (conform c) left)
        (vread_call n flags (line_of c.set VreadWord served said steps) (bound_acts c.set asks zs)) →
        length zs ≡ length asks → AllByRecursion StepFits steps →
        AllByRecursion (λ z. AllByRecursion StepFits z.steps) zs →
        StateRead t n flags c d said served steps asks zs
    read_by asks zs done long steps_fit acts_fit = record {
      has = b.has;
      set = b.set;
      left = left;
      conforms = b.conforms;
      published = b.published;
      done = subst (λ (s : CallerState). CallDone c.set.caller (view c.pass) (view d.pass) (conform c) s
          (vread_call n flags (line_of c.set VreadWord served said steps) (bound_acts c.set asks zs))) (sym b.conforms)
          done;
      long = long;
      steps_fit = steps_fit;
      acts_fit = acts_fit;
      shows = b.bytes;
    }

    -- if `VreadMakes` holds for a read without acts, `StateRead` holds
    pub read_alone : (acts : List Bound) → acts ≡ [] →
        VreadMakes n flags st left (result_answer ended) (bytes_or_none (given ended served)) c.set
        (moment c.pass before) (moment d.pass steps) →
        StateRead t n flags c d said served steps (asks_of acts) []
    read_alone acts none did =
        subst (λ (bs : List Bound). StateRead t n flags c d said served steps (asks_of bs) []) (sym none)
        (read_by [] []
        (vread_done c.set (view c.pass) (view d.pass) (conform c) n flags left said.answer (shown_by served said.shows)
        VreadWord steps refl
        (emitted_by (λ s a x l. VreadMakes n flags s left a x c.set (moment c.pass l) (moment d.pass steps)) did))
        refl (steps_fit did.did.made_steps did.did.recorded.trace did.did.recorded.fits) tt)

    -- if `InsideMakes` and `InsideRan` hold for a read with the acts `acts` inside, `StateRead` holds; `after` are
    -- these acts at the end of the read
    pub read_inside : (acts after : List Bound) (out out_after : List ℕ) → AllByRecursion IsWaitingAct acts →
        1 < length (view c.pass).lanes →
        asks_of after ≡ asks_of acts →
        InsideMakes n flags st left (result_answer ended) (bytes_or_none (given ended served)) c.set
        (moment c.pass before)
        (moment d.pass steps)
        (asks_of acts) (outcomes_of after out_after) →
        InsideRan n flags st left (act_conform (core.conform c.set c.pass before) Before (asks_of acts)
        (outcomes_of acts out))
        (λ last. act_conform (core.conform c.set d.pass steps) last (asks_of after) (outcomes_of after out_after)) →
        StateRead t n flags c d said served steps (asks_of acts) (outcomes_of after out_after)
    read_inside acts after out out_after fresh two asks did ran =
        let zs = outcomes_of after out_after in
        read_by (asks_of acts) zs
        (inside_done c.set (view c.pass) (view d.pass) (conform c) n flags left said.answer (shown_by served said.shows)
        VreadWord steps
        (asks_of acts)
        (outcomes_of acts out) zs refl (fresh_undone acts out fresh) (outcomes_long acts out) two
        (emitted_by (λ s a x l. InsideMakes n flags s left a x c.set (moment c.pass l) (moment d.pass steps) (asks_of acts)
        zs) did)
        (emitted_by (λ s a x l. InsideRan n flags s left (act_conform (core.conform c.set c.pass l) Before (asks_of acts)
        (outcomes_of acts out))
        (λ last. act_conform (core.conform c.set d.pass steps) last (asks_of acts) zs))
        (subst (λ (l : List Ask). InsideRan n flags st left
        (act_conform (core.conform c.set c.pass before) Before (asks_of acts) (outcomes_of acts out))
        (λ last. act_conform (core.conform c.set d.pass steps) last l zs)) asks ran)))
        (outcomes_long after out_after ∙ ap length asks) (steps_fit did.made_steps did.trace did.fits) did.acts_fit
