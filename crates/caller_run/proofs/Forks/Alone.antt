-- The run of a script's only caller goes on after each event, and ends with a lawful transcript. No line is kept.
use Rattle.std.proofs.Common.{◌≡◌, ℕ, ◌+◌, ◌≤◌, ◌^◌, Some, List, [], ◌∷◌, ◌++◌, length, refl, sym, ap, ◌∙◌, subst, append_assoc, arith}
use Rattle.std.specs.Prelude.{slice_get, sum_by, take, vec_len}
use Rattle.std.specs.List.{AllByRecursion}
use Rattle.std.proofs.lemmas.List.Sums.{sum_by-cons}
use Rattle.key_names.specs.declared.events.Answer.TheVariants.{Ok as Done}
use Rattle.key_names.specs.declared.events.Event.{Event}
use Rattle.key_names.specs.declared.events.Event.TheVariants.{Read, Vread, Kread, Dread, Uread, Inside, Fork}
use Rattle.key_names.specs.declared.events.InsideAct.TheVariants.{Wipe, Vread as VreadAct, Reseed as ReseedAct}
use Rattle.key_names.specs.declared.events.Word.TheVariants.{Vread as VreadWord, End as EndWord}
use Rattle.key_names.specs.declared.names.Step.{Step}
use Rattle.key_names.specs.Transcripts.SeenLine.{SeenLine}
use Rattle.key_names.specs.Texts.ScriptGrammar.{Script, WellFormed, InRange, FewActs, event_word}
use Rattle.key_names.specs.Texts.TranscriptGrammar.{StepFits}
use Rattle.key_names.proofs.Lists.Each.{each_weaker}
use Rattle.key_names.proofs.Lists.ListFacts.{list_is}
use Rattle.lane_table.specs.declared.lanes.Lanes.{Lanes}
use Rattle.lane_table.specs.declared.lanes.Pass.{Pass}
use Rattle.lane_table.specs.Calls.{view, count_of, Ended, IsIdle}
use Rattle.lane_table.specs.Hands.{HoldsLanes, model}
use Rattle.lane_table.specs.Advances.{floor}
use Rattle.lane_table.proofs.Calls.HandLemmas.{idle_of}
use Rattle.rng_core.specs.Makes.{setting_of}
use Rattle.rng_core.specs.Settings.{first_setting}
use Rattle.caller_run.specs.Alone.{IsEmittedOnce, CalledOnce, GoesAlone, HasMade, HasRoom, IsGoing, IsLawful, as_kept, first_start, last_line}
use Rattle.caller_run.specs.Calling.{Called, HasLeft, Seen, StateRead, caller_at}
use Rattle.caller_run.specs.Families.{SameHalves, RanSo, RunsIn}
use Rattle.caller_run.specs.Forest.{Forest, no_more, more, forks, AreForked}
use Rattle.caller_run.specs.Kinds.{IsCall}
use Rattle.caller_run.specs.Laws.{Run, LawfulRuns}
use Rattle.caller_run.specs.Says.{line_of, most_shown, shown_by, ShowsFit}
use Rattle.caller_run.specs.Standing.{RunEnded, Start, read_inside}
use Rattle.caller_run.specs.RunningCallers.{IsFirst}
use Rattle.caller_run.specs.declared.alone.LoneRun.{LoneRun}
use Rattle.caller_run.specs.declared.making.caller.Caller.{Caller}
use Rattle.caller_run.specs.declared.output.reply.Reply.{Reply}
use Rattle.caller_run.specs.declared.output.reply.LineData.TheVariants.{Nothing}
use Rattle.caller_run.proofs.Events.CanAdvance.{GoesOn, can_next}
use Rattle.caller_run.proofs.Events.VreadGoes.{HasRead, can_read, gone_read}
use Rattle.caller_run.proofs.Forks.HasAdvanced.{gone_all, gone_call, gone_nothing}
use Rattle.caller_run.proofs.Forks.Runs.{once, ran_end, ran_so, whole}
use Rattle.caller_run.proofs.Forks.WentOn.{all_wiped, at_number, few_events, newly}
use Rattle.caller_run.specs.declared.making.states.States.{States}
use Rattle.std.specs.Global.{Box}
use Rattle.caller_run.proofs.Law.Seeing.{called_kept, read_kept, seen_start}
use Rattle.caller_run.proofs.Law.Whole.{lawful_runs}
use Rattle.caller_run.proofs.Orders.OwnPlaces.{MadeNothing}
use Rattle.caller_run.proofs.Planning.LogFills.{fills_call}
use Rattle.caller_run.proofs.Planning.Slots.{put_all}

-- ---- the run of a script's only caller, after one more event ----

module _ {t : Lanes} {m : ℕ} {begun : Start} {events rest : List Event} {c d e : Caller} {lines : List SeenLine}
    {said : Reply} {served : List ℕ} {steps : List Step} where
  -- if the only caller goes on (`GoesAlone`) and makes a call of the core, it goes on after this call
  call_goes : {event : Event} → IsCall event → Called t event c d said served steps → GoesOn event d e →
      GoesAlone t m begun events (event ∷ rest) c lines →
      GoesAlone t m begun events rest e (lines ++ line_of d.set (event_word event) served said steps ∷ [])
  call_goes {event = event} is k on g =
      let kept = called_kept k in let line : SeenLine = line_of d.set (event_word event) served said steps in record {
        inside = g.inside;
        can = can_next d kept.set kept.has (kept.states g.can.states) on
            (fills_call (as_kept lines (event ∷ rest)) (as_kept (lines ++ line ∷ []) rest) line refl
            (omega arith) is (omega arith) (omega (arith, sum_by-cons most_shown event rest)) tt tt) g.can;
        once = g.once.1;
        gone = gone_call is k on g.gone;
      }

  -- if the only caller goes on (`GoesAlone`) and reads out of its current state, it goes on after this read
  read_goes : {len flags : ℕ} → StateRead t len flags c d said served steps [] [] → GoesOn (Vread len flags) d e →
      GoesAlone t m begun events (Vread len flags ∷ rest) c lines →
      GoesAlone t m begun events rest e (lines ++ line_of d.set VreadWord served said steps ∷ [])
  read_goes {len = len} {flags = flags} k on g =
      let event : Event = Vread len flags in let line : SeenLine = line_of d.set VreadWord served said steps in
      let h : HasRead t event c d e (as_kept lines (event ∷ rest)) (as_kept (lines ++ line ∷ []) rest) [] [] = record {
        len = len;
        flags = flags;
        event_is = refl;
        said = said;
        served = served;
        steps = steps;
        zs = [];
        read = k;
        on = on;
        lines = refl;
        line_room = omega arith;
        step_room = omega arith;
        byte_room = omega (arith, sum_by-cons most_shown event rest);
        none = refl;
      } in record {
        inside = g.inside;
        can = can_read h g.can;
        once = g.once.1;
        gone = gone_read h begun events rest [] g.gone;
      }

pub event_goes : {t : Lanes} {m : ℕ} {begun : Start} {events rest : List Event} {c e : Caller} {lines : List SeenLine}
    (event : Event) (d : Caller) (said : Reply) (served : List ℕ) (steps : List Step) →
    CalledOnce t event c d said served steps → GoesOn event d e →
    GoesAlone t m begun events (event ∷ rest) c lines →
    GoesAlone t m begun events rest e (lines ++ line_of d.set (event_word event) served said steps ∷ [])
event_goes (Vread len flags) d said served steps k on g = read_goes k on g
event_goes (Inside point act) d said served steps k on g = absurd g.once.0
event_goes (Fork child) d said served steps k on g = absurd g.once.0
event_goes event d said served steps k on g = call_goes tt k on g

-- the event's call left the caller's setting as it was, and the steps and the data of the call fit a line
pub record HasCalled (event : Event) (c d : Caller) (said : Reply) (steps : List Step) : Type 0 where
  pub set : d.set ≡ c.set
  pub steps_fit : AllByRecursion StepFits steps
  pub shows : ShowsFit (event_word event) said.shows

call_called : {t : Lanes} {event : Event} {c d : Caller} {said : Reply} {served : List ℕ} {steps : List Step} →
    Called t event c d said served steps → HasCalled event c d said steps
call_called k = record {
  set = k.set;
  steps_fit = subst (AllByRecursion StepFits) (sym k.does.recorded.trace) k.does.recorded.fits;
  shows = k.shows;
}

pub once_called : (t : Lanes) {c d : Caller} (served : List ℕ) {said : Reply} {steps : List Step} (event : Event) →
    CalledOnce t event c d said served steps → HasCalled event c d said steps
once_called t served (Vread len flags) k = record { set = k.set; steps_fit = k.steps_fit; shows = (read_kept k).shows }
once_called t served event k = call_called k

-- the line of an event that is a call of the core is final: no later event replaces it
pub emitted_once : (event : Event) → IsCall event → IsEmittedOnce event
emitted_once (Inside point act) is = is
emitted_once (Fork child) is = is
emitted_once event is = tt

pub called_once : {t : Lanes} {c d : Caller} {said : Reply} {served : List ℕ} {steps : List Step} (event : Event) →
    IsCall event → CalledOnce t event c d said served steps → Called t event c d said served steps
called_once (Vread len flags) is k = absurd is
called_once event is k = k

-- ---- the start of the only caller's run ----

-- if the events contain no act and no fork, they fork no caller
pub forks_nobody : (events : List Event) → AllByRecursion IsEmittedOnce events → forks events ≡ []
forks_nobody [] all = refl
forks_nobody (event ∷ events) all = first event all.0 (forks_nobody events all.1)
  where
    first : (e : Event) → IsEmittedOnce e → forks events ≡ [] → forks (e ∷ events) ≡ []
    first (Fork child) is rest = absurd is
    first e is rest = rest

module _ (t : Lanes) (script : Script) (p : Pass) (events : List Event) (m : ℕ) (has : HoldsLanes t 0 [] p)
    (well : WellFormed script) (cpus : t.cpus ≡ script.cpus) (there : slice_get script.callers 0 ≡ Some events)
    (longest : AllByRecursion (λ event. most_shown event ≤ m) events) (all : AllByRecursion IsEmittedOnce events)
    (states : Box States) (wiped : states.value ≡ all_wiped) where
  pub starts_alone : GoesAlone t m (first_start p) events events (newly p (first_setting 0) states) []
  starts_alone = record {
    inside = sum_by read_inside events;
    can = record {
      ready = record {
        has = has;
        cpu = (let some = well.cpus.0 in omega arith);
        moment = omega arith;
      };
      states = subst (λ (s : States). Seen (floor (view p)) (caller_at (setting_of (first_setting 0)) s)) (sym wiped)
          (seen_start (floor (view p)) (setting_of (first_setting 0)));
      range = (
        script.version,
        subst (λ (n : ℕ). AllByRecursion (InRange script.version n) events) (sym cpus)
            (at_number (AllByRecursion (InRange script.version script.cpus)) script.callers 0 events there well.ranges),
      );
      numbers = (let q = few_events script.callers 0 events there in let b = well.events in omega arith);
      at = refl;
      line_room = omega arith;
      step_room = omega arith;
      byte_room = omega arith;
      longest = longest;
      wanted = omega arith;
      few = (omega arith, at_number (FewActs 0) script.callers 0 events there well.acts);
      fresh = tt;
      recorded = tt;
    };
    once = all;
    gone = gone_nothing (first_start p) events (newly p (first_setting 0) states) refl refl
        (ap (caller_at (setting_of (first_setting 0))) wiped) refl;
  }

-- ---- the end of the only caller's run ----

pub alone_ends : {t : Lanes} {m : ℕ} {begun : Start} {events : List Event} {c d : Caller} {lines : List SeenLine}
    {said : Reply} {steps : List Step} → said ≡ record { answer = Done; shows = Nothing } → HasLeft t c d steps →
    GoesAlone t m begun events [] c lines →
    RunEnded begun events (view d.pass) (lines ++ line_of d.set EndWord [] said steps ∷ []) []
alone_ends {d = d} {said = said} {steps = steps} is left g =
    rw is (gone_all d [] (record { answer = Done; shows = Nothing }) steps left.set refl refl left.did g.gone)

-- the lines of a script's only caller are a lawful transcript of the script
module _ (script : Script) (well : WellFormed script) (one : length script.callers ≡ 1) (events : List Event)
    (there : slice_get script.callers 0 ≡ Some events) (all : AllByRecursion IsEmittedOnce events) (p q : Pass)
    (lines : List SeenLine) (first : IsFirst (view p)) (ended : RunEnded (first_start p) events (view q) lines [])
    (seen : floor (view q) ≤ (model q 1).base.generation) (wide : length (view q).lanes ≡ script.cpus + 2)
    (ends : Ended (script.cpus + 2) (view q)) where
  abbrev own : Run
  own = record { begun = first_start p; end = view q; lines = lines; kids = [] }

  is_in : RunsIn script own
  is_in = record { events = events; there = there; has = record { own = refl; ended = ended; seen = seen } }

  halves : SameHalves (view p) (view q)
  halves = record {
    share = ended.done.ran.same.share;
    halvings = (let h = ended.done.ran.same.halvings in omega arith);
  }

  ran : RanSo script (first_start p) (view q) own []
  ran = ran_so script (first_start p) (view q) own [] refl is_in (ran_end script (view p) (view q) halves)

  abbrev tree_of : Forest
  tree_of = more 0 no_more no_more

  are : AreForked script.callers tree_of (0 ∷ [])
  are = (
    refl,
    subst (λ (l : List ℕ). AreForked script.callers no_more l)
        (sym (ap forks (list_is script.callers 0 events there) ∙ forks_nobody events all)) tt,
    tt,
  )

  none : MadeNothing (view p)
  none = record { places = first.places; made = first.made }

  pub alone_lawful : LawfulRuns script (lines ∷ []) (view q)
  alone_lawful =
      let is : lines ∷ [] ≡ _ = put_all (length script.callers) (own ∷ [])
      (once script well (first_start p) (view q) own [] ran none (refl, refl) tree_of are refl wide ends) ([] ∷ [])
      (sym one) in
      subst (λ (t : List (List SeenLine)). LawfulRuns script t (view q)) (sym is)
      (lawful_runs script _ (view q) well
      (whole script well (first_start p) (view q) own [] ran none (refl, refl) tree_of are refl wide ends))

-- ---- the line that the run of the only caller makes for one event ----

-- the line that the run `y` made last is the line of `event`; d is the caller after the event's call
pub record MadeLine (y : LoneRun) (event : Event) (d : Caller) (said : Reply) (served : List ℕ) (steps : List Step)
    : Type 0 where
  pub on : GoesOn event d y.caller
  pub number : y.recorded.event ≡ d.set.event
  pub word_is : y.recorded.word ≡ event_word event
  pub reply : y.recorded.said ≡ said
  pub trace : y.trace ≡ steps
  pub shown : take y.recorded.shown y.served.items ≡ served

line_is : {y : LoneRun} {event : Event} {d : Caller} {said : Reply} {served : List ℕ} {steps : List Step} →
    MadeLine y event d said served steps → last_line y ≡ line_of d.set (event_word event) served said steps
line_is m = (λ i. record {
  caller = m.on.caller i;
  event = m.number i;
  word = m.word_is i;
  answer = (m.reply i).answer;
  steps = m.trace i;
  shown = shown_by (m.shown i) (m.reply i).shows;
})

-- the run goes on after an event: it was x before `event`, and is y now
pub goes_on : {script : Script} {lines : List SeenLine} (x y : LoneRun) (event : Event) (rest : List Event) (d : Caller)
    (said : Reply) (served : List ℕ) (steps : List Step) → IsGoing script (event ∷ rest) x lines →
    CalledOnce x.lanes event x.caller d said served steps → MadeLine y event d said served steps → y.lanes ≡ x.lanes →
    vec_len y.served ≡ vec_len x.served → IsGoing script rest y (lines ++ last_line y ∷ [])
goes_on {lines = lines} x y event rest d said served steps g k m same long = record {
  well = g.well;
  cpus = ap (λ (t : Lanes). t.cpus) same ∙ g.cpus;
  alone = g.alone;
  events = g.events;
  there = g.there;
  once = g.once;
  pass = g.pass;
  first = g.first;
  whole = g.whole;
  goes = subst (λ (t : Lanes). GoesAlone t (vec_len y.served) (first_start g.pass) g.events rest y.caller
      (lines ++ last_line y ∷ [])) (sym same)
      (subst (λ (n : ℕ). GoesAlone x.lanes n (first_start g.pass) g.events rest y.caller
      (lines ++ last_line y ∷ [])) (sym long)
      (subst (λ (l : SeenLine). GoesAlone x.lanes (vec_len x.served) (first_start g.pass) g.events rest y.caller
      (lines ++ l ∷ [])) (sym (line_is m))
      (event_goes event d said served steps k m.on g.goes)));
}

-- suppose that in each script y can go on after `event` whenever x can go on with `event`. If x has made the events
-- `done`, y has made `done` and then `event`
pub made_one : {cpus : ℕ} {x y : LoneRun} {lines after : List SeenLine} (done : List Event) (event : Event) →
    ((script : Script) (rest : List Event) → IsGoing script (event ∷ rest) x lines → IsGoing script rest y after) →
    HasMade cpus done x lines → HasMade cpus (done ++ event ∷ []) y after
made_one done event goes made script rest well one same whole =
    goes script rest (made script (event ∷ rest) well one same
    (whole ∙ ap (λ (events : List Event). events ∷ []) (append_assoc done (event ∷ []) rest)))

-- ---- the run before the first event of a script that is still being written ----

few_shown : (version cpus : ℕ) (event : Event) → InRange version cpus event → most_shown event ≤ 2 ^ 20
few_shown version cpus (Read len flags) range = range.0
few_shown version cpus (Vread len flags) range = range.0
few_shown version cpus (Kread len) range = range
few_shown version cpus (Dread len flag) range = range.0
few_shown version cpus (Uread len) range = range
few_shown version cpus (Inside point (VreadAct len)) range = range
few_shown version cpus (Inside point Wipe) range = omega arith
few_shown version cpus (Inside point ReseedAct) range = omega arith
few_shown version cpus event range = omega arith

pub made_nothing : {cpus : ℕ} (run : LoneRun) → HasRoom cpus (2 ^ 20) run → HasMade cpus [] run []
made_nothing run room script rest well one same whole =
    room script rest well same one.one (ap (λ (callers : List (List Event)). slice_get callers 0) whole)
    (subst (AllByRecursion (AllByRecursion IsEmittedOnce)) whole one.once).0
    (each_weaker (InRange script.version script.cpus) (λ event. most_shown event ≤ 2 ^ 20) rest
    (few_shown script.version script.cpus)
    (subst (AllByRecursion (AllByRecursion (InRange script.version script.cpus))) whole well.ranges).0)

-- with the caller's last line, the lines are a lawful transcript of the script
pub ends_lawfully : {script : Script} {lines : List SeenLine} (x : LoneRun) (d : Caller) (said : Reply)
    (steps : List Step) → IsGoing script [] x lines → said ≡ record { answer = Done; shows = Nothing } →
    HasLeft x.lanes x.caller d steps →
    ((view d.pass).share ≡ 2 ^ (view d.pass).halvings → IsIdle (view d.pass) → Ended (count_of x.lanes) (view d.pass)) →
    IsLawful script (lines ++ line_of d.set EndWord [] said steps ∷ [])
ends_lawfully {script = script} {lines = lines} x d said steps g is left ends =
    let ended = alone_ends is left g.goes in
    let same = ended.done.ran.same in
    let whole : (view d.pass).share ≡ 2 ^ (view d.pass).halvings = same.share ∙ g.whole
    ∙ ap (λ (n : ℕ). 2 ^ n) (let h = same.halvings in let q : (view g.pass).halvings ≡ (view d.pass).halvings =
    omega arith in q) in
    let wide : length (view d.pass).lanes ≡ script.cpus + 2 = left.has.pass.sized ∙ ap (λ (n : ℕ). n + 2) g.cpus in (
      view d.pass,
      alone_lawful script g.well g.alone g.events g.there g.once g.pass d.pass
          (lines ++ line_of d.set EndWord [] said steps ∷ []) g.first ended left.reached wide
          (subst (λ (n : ℕ). Ended (n + 2) (view d.pass)) g.cpus
          (ends whole (idle_of x.lanes d.set.caller d.pass left.has))),
    )
