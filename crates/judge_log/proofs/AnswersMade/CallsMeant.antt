-- The code makes certain answers and data for a caller's calls exactly if the calls have meanings with the same answers
-- and data.
use Rattle.std.proofs.Common.{◌≡◌, ℕ, suc, List, [], ◌∷◌, ◌++◌, map, refl, sym, subst, ap, ◌∙◌}
use Rattle.std.specs.Prelude.{true, false, if◌then◌else◌, Option, Some, None, MatchOption, IfSome, IsSome}
use Rattle.std.specs.Global.{Vec}
use Rattle.std.specs.List.{AllByRecursion}
use Rattle.std.proofs.lemmas.List.{map-append}
use Rattle.key_names.specs.declared.events.Event.{Event}
use Rattle.key_names.specs.declared.events.Event.TheVariants.{Vread, Inside}
use Rattle.key_names.specs.Lanes.Book.{Lists, LawfulLanes}
use Rattle.key_names.specs.Callers.Calls.{Setting, Call, alone, vread_call, unbound, ending, BoundAct, has_vread, calls_from}
use Rattle.key_names.specs.Callers.Calls.{setting_after_call}
use Rattle.key_names.specs.Transcripts.IsTranscript.{CallerMeans, CallsMean, EachLine, LinesFit}
use Rattle.key_names.specs.Callers.Meaning.{CallerState, CallMeaning}
use Rattle.key_names.specs.Transcripts.SeenLine.{SeenLine}
use Rattle.key_names.specs.Texts.TranscriptGrammar.{StepFits}
use Rattle.key_names.proofs.Lists.Each.{each_parts}
use Rattle.judge_lines.specs.Settings.{settings_from}
use Rattle.judge_log.specs.declared.kept.Lists.{Lists as KeptLists}
use Rattle.judge_log.specs.Kept.{Keeps}
use Rattle.judge_log.specs.Filled.{CallsFill}
use Rattle.judge_vread.specs.declared.inside.Reached.{Reached}
use Rattle.judge_log.specs.declared.said.MadeLine.{MadeLine}
use Rattle.judge_log.specs.Said.{NotedAt, SaysIt, IsSaid, AreCallsOf}
use Rattle.judge_log.specs.Writes.{Write, Written}
use Rattle.judge_log.specs.CallSays.{VStates, first_states, act_write, CallSaid, CallsSaid}
use Rattle.judge_log.proofs.AnswersMade.CallMeant.{standing, CallLooks, IsSaidIn, HasEffects, call_meant}
use Rattle.judge_log.proofs.AnswersMade.MeantSaid.{meant_said}
use Rattle.judge_log.proofs.AnswersMade.Numbers.{act_number, call_numbers, numbers, Distinct, all_there, distinct_from}

-- ---- the event numbers of the answers and data

abbrev event_of : Write → ℕ
event_of w = w.event

acts_numbered : (kept : KeptLists) (set : Setting) (reached : Reached) (acts : List BoundAct) →
    map event_of (map (act_write kept set reached) acts) ≡ map act_number acts
acts_numbered kept set reached [] = refl
acts_numbered kept set reached (bound ∷ acts) =
    ap (λ ns. bound.line.event ∷ ns) (acts_numbered kept set reached acts)

call_numbered : (kept : KeptLists) (set : Setting) (call : Call) (s t : VStates) (writes : List Write) →
    CallSaid kept set call s t writes → map event_of writes ≡ call_numbers call
call_numbered kept set (alone event line) s t writes said = ap (map event_of) said.writes_are
call_numbered kept set (vread_call n flags line acts) s t writes said =
    ap (map event_of) said.writes_are
    ∙ map-append event_of (map (act_write kept set said.f.path.reached) acts) _
    ∙ ap (λ ns. ns ++ line.event ∷ []) (acts_numbered kept set said.f.path.reached acts)
call_numbered kept set (unbound bound) s t writes said = ap (map event_of) said.writes_are
call_numbered kept set (ending line) s t writes said = ap (map event_of) said.writes_are

calls_numbered : (kept : KeptLists) (set : Setting) (calls : List Call) (s t : VStates) (writes : List Write) →
    CallsSaid kept (settings_from set calls) calls s t writes → map event_of writes ≡ numbers calls
calls_numbered kept set [] s t writes said = ap (map event_of) said.1
calls_numbered kept set (call ∷ calls) s t writes said =
    ap (map event_of) said.5 ∙ map-append event_of said.1 said.2
    ∙ ap (λ ns. ns ++ map event_of said.2) (call_numbered kept set call s said.0 said.1 said.3)
    ∙ ap (λ ns. call_numbers call ++ ns) (calls_numbered kept (setting_after_call set call) calls said.0 t said.2 said.4)

-- ---- the meanings of calls

module _ (kept : KeptLists) (book : Lists) (keeps : Keeps kept book) (lawful : LawfulLanes book) where
  pub record CallsMeant (At : ℕ → MadeLine → Type 0) (set : Setting) (calls : List Call) (s : VStates) (writes : List Write) : Type 0 where
    pub ms : List CallMeaning
    pub follows : CallsMean (standing set s) calls ms
    pub effects : EachLine (HasEffects book) calls ms
    pub says : AllByRecursion (IsSaidIn At) writes → EachLine (SaysIt At) calls ms

  pub calls_meant : (At : ℕ → MadeLine → Type 0) (set : Setting) (calls : List Call) (s t : VStates) (writes : List Write) →
      AllByRecursion CallLooks calls → CallsFill book set calls →
      CallsSaid kept (settings_from set calls) calls s t writes → CallsMeant At set calls s writes
  calls_meant At set [] s t writes looks fill said = record { ms = []; follows = tt; effects = tt; says = λ all. tt }
  calls_meant At set (call ∷ calls) s t writes looks fill said =
      let one = call_meant kept book keeps lawful At set s said.0 said.1 call looks.0 fill.0 said.3 in
      let more = calls_meant At (setting_after_call set call) calls said.0 t said.2 looks.1 fill.1 said.4 in
      let P : CallerState → Type 0 = λ b. CallsMean b calls more.ms in
      let Q : List Write → Type 0 = λ ws. AllByRecursion (IsSaidIn At) ws in record {
        ms = one.m ∷ more.ms;
        follows = (one.before, one.means, subst P (sym one.after) more.follows);
        effects = (one.effects, more.effects);
        says = λ all.
            let parts = each_parts (IsSaidIn At) said.1 said.2 (subst Q said.5 all) in
            (one.says parts.0, more.says parts.1);
      }

  pub meant_calls : (set : Setting) (calls : List Call) (ms : List CallMeaning) (s : VStates) →
      AllByRecursion CallLooks calls → CallsMean (standing set s) calls ms → EachLine (HasEffects book) calls ms →
      (t : VStates) × (writes : List Write) × CallsSaid kept (settings_from set calls) calls s t writes
  meant_calls set [] [] s looks means effects = (s, [], (refl, refl))
  meant_calls set [] (m ∷ ms) s looks means effects = absurd means
  meant_calls set (call ∷ calls) [] s looks means effects = absurd means
  meant_calls set (call ∷ calls) (m ∷ ms) s looks means effects =
      let one = meant_said kept book keeps lawful set s m means.0 call looks.0 means.1 effects.0 in
      let P : CallerState → Type 0 = λ b. CallsMean b calls ms in
      let more = meant_calls (setting_after_call set call) calls ms one.t looks.1 (subst P one.after means.2) effects.1 in
      (more.0, one.writes ++ more.1, (one.t, one.writes, more.1, one.said, more.2, refl))

-- ---- the looks of lines, and of the calls that group these lines

looks_from : (c n : ℕ) (waiting : List BoundAct) (events : List Event) (lines : List SeenLine) →
    LinesFit c n events lines → AllByRecursion (λ line. AllByRecursion StepFits line.steps) lines →
    AllByRecursion CallLooks (calls_from waiting events lines)
looks_from c n waiting [] [] fit looks = absurd fit
looks_from c n waiting [] (line ∷ []) fit looks = (tt, tt)
looks_from c n waiting [] (line ∷ more ∷ lines) fit looks = absurd fit
looks_from c n waiting (event ∷ events) [] fit looks = absurd fit
looks_from c n waiting (Vread len flags ∷ events) (line ∷ lines) fit looks =
    (looks.0, looks_from c (suc n) [] events lines fit.1 looks.1)
looks_from c n waiting (Inside point act ∷ events) (line ∷ lines) fit looks =
    let bound : BoundAct = record { point = point; act = act; line = line } in
    let waits = looks_from c (suc n) (waiting ++ bound ∷ []) events lines fit.1 looks.1 in
    let goes_on = looks_from c (suc n) waiting events lines fit.1 looks.1 in
    elim (has_vread events) as (λ b. AllByRecursion CallLooks (if b then calls_from (waiting ++ bound ∷ []) events lines
    else unbound bound ∷ calls_from waiting events lines)) [ true ↦ waits | false ↦ (tt, goes_on) ]
looks_from c n waiting (event ∷ events) (line ∷ lines) fit looks =
    (tt, looks_from c (suc n) waiting events lines fit.1 looks.1)

calls_look : (events : List Event) (lines : List SeenLine) (calls : List Call) → AreCallsOf events lines calls →
    AllByRecursion CallLooks calls
calls_look events lines calls of =
    subst (AllByRecursion CallLooks) (sym of.are) (looks_from of.caller 0 [] events lines of.fit of.looks)

-- ---- all calls of a caller

module _ (kept : KeptLists) (book : Lists) (set : Setting) (events : List Event) (lines : List SeenLine)
    (calls : List Call) (settings : List Setting) (keeps : Keeps kept book) (lawful : LawfulLanes book)
    (of : AreCallsOf events lines calls) (found : settings ≡ settings_from set calls)
    {Noted : Type 0} (IsNoted : ℕ → MadeLine → Noted → Type 0) where
  said_is : (t : VStates) (writes : List Write) (notes : List Noted) → CallsFill book set calls →
      CallsSaid kept settings calls first_states t writes → Written IsNoted writes [] notes →
      IsSaid book set calls (NotedAt IsNoted notes)
  said_is t writes notes fill calls_said written =
      let here = subst (λ sets. CallsSaid kept sets calls first_states t writes) found calls_said in
      let meant = calls_meant kept book keeps lawful (NotedAt IsNoted notes) set calls first_states t writes (calls_look events lines calls of)
      fill here in
      let differ = distinct_from of.caller 0 [] events lines of.fit tt tt in
      let P : List Call → Type 0 = λ cs. Distinct (numbers cs) in
      let all_differ = subst Distinct (sym (calls_numbered kept set calls first_states t writes here))
      (subst P (sym of.are) differ) in record {
        meanings = meant.ms;
        mean = record { follows = meant.follows; effects = meant.effects };
        says = meant.says (all_there IsNoted writes [] notes written all_differ);
      }

  is_said : (ms : List CallMeaning) → CallerMeans book set calls ms →
      (t : VStates) × (writes : List Write) × CallsSaid kept settings calls first_states t writes
  is_said ms means =
      let said = meant_calls kept book keeps lawful set calls ms first_states (calls_look events lines calls of)
      means.follows means.effects in
      let P : List Setting → Type 0 = λ sets. (t : VStates) × (writes : List Write)
      × CallsSaid kept sets calls first_states t writes in subst P (sym found) said

  abbrev Said_ : Option (Vec Noted) → Type 0
  Said_ o = MatchOption o
      ((t : VStates) (writes : List Write) → CallsSaid kept settings calls first_states t writes → ⊥)
      (λ notes. (t : VStates) × (writes : List Write) × CallsSaid kept settings calls first_states t writes
      × Written IsNoted writes [] notes.items)

  pub option_said : CallsFill book set calls → (o : Option (Vec Noted)) → Said_ o →
      IfSome o (λ notes. IsSaid book set calls (NotedAt IsNoted notes.items))
  option_said fill None h = tt
  option_said fill (Some notes) h = said_is h.0 h.1 notes.items fill h.2 h.3

  pub option_is_said : (ms : List CallMeaning) → CallerMeans book set calls ms → (o : Option (Vec Noted)) → Said_ o →
      IsSome o
  option_is_said ms means None h = let said = is_said ms means in absurd (h said.0 said.1 said.2)
  option_is_said ms means (Some notes) h = refl
