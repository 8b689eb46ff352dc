-- If the code makes answers and data for a call, the call has a meaning with these answers and data.
use Rattle.std.proofs.Common.{◌≡◌, ℕ, Bool, true, false, List, [], ◌∷◌, map, refl, sym, subst, ap, ◌∙◌}
use Rattle.std.specs.Prelude.{⊤, MatchBool}
use Rattle.std.specs.List.{AllByRecursion}
use Rattle.key_names.specs.declared.events.Event.{Event}
use Rattle.key_names.specs.declared.events.Event.TheVariants.{Drop, State, Reseed}
use Rattle.key_names.specs.declared.events.InsideAct.{InsideAct}
use Rattle.key_names.specs.declared.events.InsideAct.TheVariants.{Wipe as WipeAct, Vread as VreadAct}
use Rattle.key_names.specs.declared.events.InsideAct.TheVariants.{Reseed as ReseedAct}
use Rattle.key_names.specs.declared.events.Answer.TheVariants.{Ok as Done}
use Rattle.key_names.specs.declared.names.Step.{Step}
use Rattle.key_names.specs.Callers.Answers.{answer_of, shown_of}
use Rattle.key_names.specs.Lanes.Book.{Lists, LawfulLanes}
use Rattle.key_names.specs.Callers.Calls.{Setting, Call, alone, vread_call, unbound, ending, BoundAct, setting_after_call}
use Rattle.key_names.specs.Callers.Effects.{Effect, effects_of}
use Rattle.key_names.specs.Transcripts.IsTranscript.{EachAct, EachOfCall}
use Rattle.key_names.specs.Callers.Meaning.{CallerState, caller_after, LineMeaning, CallMeaning, Means, ActMeans, ActsMean}
use Rattle.key_names.specs.Callers.Meaning.{event_entries, unused_line}
use Rattle.key_names.specs.Transcripts.SeenLine.{SeenLine, no_data}
use Rattle.key_names.specs.Texts.TranscriptGrammar.{StepFits}
use Rattle.judge_lines.specs.Kinds.{kinds_of}
use Rattle.judge_lines.specs.LaneFacts.{facts_of, AllFit}
use Rattle.judge_lines.specs.Laws.{ActForm}
use Rattle.judge_lines.specs.Rows.{IsRow, IsActRow, IsEnd, cpu_for}
use Rattle.judge_lines.specs.Inferred.{LineFills, act_telling}
use Rattle.judge_lines.proofs.ActLines.{lists_fit, act_row}
use Rattle.judge_lines.proofs.RowEvents.{row_form, end_row}
use Rattle.judge_log.specs.declared.kept.Lists.{Lists as KeptLists}
use Rattle.judge_log.specs.Kept.{Keeps}
use Rattle.judge_log.specs.Filled.{ActFills, CallFills}
use Rattle.judge_vread.specs.declared.inside.Reached.{Reached}
use Rattle.judge_vread.specs.Inside.{includes}
use Rattle.judge_vread.specs.Laws.{meaning_of}
use Rattle.judge_vread.proofs.Vreads.{vread_of_followed}
use Rattle.key_names.proofs.Lists.Each.{each_parts}
use Rattle.judge_log.specs.declared.met.KeptStep.{KeptStep}
use Rattle.judge_log.specs.declared.said.MadeLine.{MadeLine}
use Rattle.judge_log.specs.declared.said.ShownRecipe.TheVariants.{Nothing as ShowsNothing, Served}
use Rattle.judge_log.specs.Met.{met_in, seen_in, kinds_met}
use Rattle.judge_log.specs.EventSays.{first_crossing, act_says, unused, alone_says}
use Rattle.judge_log.specs.EventSays.{ActConforms, act_says_at}
use Rattle.judge_log.specs.Said.{shown_by, SaysIt}
use Rattle.judge_log.specs.Writes.{Write}
use Rattle.judge_log.specs.CallSays.{VStates, states_after, AloneSaid, ActDone, act_write, VreadSaid}
use Rattle.judge_log.specs.CallSays.{UnboundSaid, EndingSaid, CallSaid}
use Rattle.judge_log.proofs.AnswersMade.MetEffects.{AreMet, steps_are}
use Rattle.judge_log.proofs.AnswersMade.MetSays.{all_seen, kinds_are, looks_fit, crossing_is, crossings_known, event_said, system_said}

-- the state of a caller with this setting and these vgetrandom states
abbrev pub standing : Setting → VStates → CallerState
standing set s = record { setting = set; states = s.states; current = s.current }

-- if the call is a vread, the generations that its looks found are below 2^63
abbrev pub CallLooks : Call → Type 0
CallLooks (alone event line) = ⊤
CallLooks (vread_call n flags line acts) = AllByRecursion StepFits line.steps
CallLooks (unbound bound) = ⊤
CallLooks (ending line) = ⊤

-- `At` holds of the event number in the write `w`, with the answer and data in `w`
abbrev pub IsSaidIn : (ℕ → MadeLine → Type 0) → Write → Type 0
IsSaidIn At w = At w.event w.said

-- by the lists `book`, the steps of `line` have the effects in the meaning `m`
abbrev pub HasEffects : Lists → SeenLine → LineMeaning → Type 0
HasEffects book line m = effects_of book line.steps ≡ m.effects

pub conforms_after : (set : Setting) (s : VStates) (event : Event) (line : SeenLine) →
    caller_after (standing set s) event ≡ standing (setting_after_call set (alone event line)) (states_after event s)
conforms_after set s Drop line = refl
conforms_after set s (State number) line = refl
conforms_after set s event line = refl

module _ (kept : KeptLists) (book : Lists) (keeps : Keeps kept book) (lawful : LawfulLanes book) where
  pub all_fit : (steps : List Step) → AllFit (facts_of book) (effects_of book steps)
  all_fit steps = lists_fit book lawful.forward steps

  pub met_are : (steps : List Step) → AreMet (met_in kept steps) (effects_of book steps)
  met_are steps = steps_are kept book keeps (λ step. (all_fit (step ∷ [])).0) steps

  pub kinds_at : (cpu : ℕ) (steps : List Step) → kinds_met cpu (met_in kept steps) ≡ kinds_of cpu (effects_of book steps)
  kinds_at cpu steps = kinds_are cpu (met_in kept steps) (effects_of book steps) (met_are steps)

  module _ (At : ℕ → MadeLine → Type 0) where
    -- the call has a meaning with the answers and data `writes`; `s` and `t` are the vgetrandom states before and after
    -- the call
    pub record CallMeant (set : Setting) (call : Call) (s t : VStates) (writes : List Write) : Type 0 where
      pub m : CallMeaning
      pub before : m.before ≡ standing set s
      pub means : Means call m
      pub effects : EachOfCall (HasEffects book) call m
      pub after : m.after ≡ standing (setting_after_call set call) t
      pub says : AllByRecursion (IsSaidIn At) writes → EachOfCall (SaysIt At) call m

    module _ (set : Setting) (s t : VStates) (writes : List Write) where
      first_said : (w : Write) → writes ≡ w ∷ [] → AllByRecursion (IsSaidIn At) writes → IsSaidIn At w
      first_said w is all =
          let P : List Write → Type 0 = λ ws. AllByRecursion (IsSaidIn At) ws in (subst P is all).0

      -- ---- a call that is a single event

      alone_meant : (event : Event) (line : SeenLine) → CallFills book set (alone event line) →
          AloneSaid kept set event line s t writes → CallMeant set (alone event line) s t writes
      alone_meant event line fill said =
          let ds = effects_of book line.steps in
          let met = met_in kept line.steps in
          let row = subst (λ ks. IsRow event (first_crossing met) ks) (kinds_at (cpu_for set event) line.steps) said.conforms in
          let says = event_said met ds (met_are line.steps) event in record {
            m = record {
              own = record { effects = ds; answer = answer_of event ds; shown = shown_of event ds };
              acts = [];
              entries = event_entries event;
              before = standing set s;
              after = caller_after (standing set s) event;
            };
            before = refl;
            means = record {
              form = row_form (facts_of book) set event (first_crossing met) ds (crossing_is met ds (met_are line.steps))
                  (crossings_known (facts_of book) ds (all_fit line.steps)) fill row;
              answer = refl;
              shown = refl;
              no_acts = refl;
              entries = refl;
              after = refl;
            };
            effects = refl;
            after = conforms_after set s event line ∙ ap (standing (setting_after_call set (alone event line))) (sym said.new_is);
            says = λ all. record {
              one = alone_says kept set event line.steps;
              is = first_said _ said.writes_are all;
              answer = says.0;
              shown = says.1;
            };
          }

      -- ---- a caller's end, which is its last call

      ending_meant : (line : SeenLine) → CallFills book set (ending line) → EndingSaid kept set line s t writes →
          CallMeant set (ending line) s t writes
      ending_meant line fill said =
          let ds = effects_of book line.steps in record {
            m = record {
              own = record { effects = ds; answer = Done; shown = no_data };
              acts = [];
              entries = [];
              before = standing set s;
              after = standing set s;
            };
            before = refl;
            means = record {
              form = end_row (facts_of book) set ds fill (subst IsEnd (kinds_at set.cpu line.steps) said.conforms);
              answer = refl;
              shown = refl;
              no_acts = refl;
              entries = refl;
              after = refl;
            };
            effects = refl;
            after = ap (standing set) (sym said.new_is);
            says = λ all. record {
              one = record { answer = Done; shows = ShowsNothing };
              is = first_said _ said.writes_are all;
              answer = refl;
              shown = refl;
            };
          }

      -- ---- a call that is an act without a vread

      unbound_meant : (bound : BoundAct) → UnboundSaid kept set bound s t writes → CallMeant set (unbound bound) s t writes
      unbound_meant bound said = record {
        m = record {
          own = unused_line;
          acts = [];
          entries = [];
          before = standing set s;
          after = standing set s;
        };
        before = refl;
        means = record { own = refl; no_acts = refl; entries = refl; after = refl };
        effects = ap (effects_of book) said.no_steps;
        after = ap (standing set) (sym said.new_is);
        says = λ all. record {
          one = unused;
          is = first_said _ said.writes_are all;
          answer = refl;
          shown = refl;
        };
      }

    -- ---- the acts inside a vread

    module _ (set : Setting) (reached : Reached) where
      abbrev act_meaning : Bool → BoundAct → LineMeaning
      act_meaning true bound =
          let said = act_says bound.act (met_in kept bound.line.steps) in
          record { effects = effects_of book bound.line.steps; answer = said.answer; shown = shown_by said.shows }
      act_meaning false bound = unused_line

      abbrev meaning_at : BoundAct → LineMeaning
      meaning_at bound = act_meaning (includes reached bound.point) bound

      done_means : (act : InsideAct) (steps : List Step) →
          LineFills (facts_of book) set (act_telling act) (effects_of book steps) →
          IsActRow act (kinds_met set.cpu (met_in kept steps)) →
          ActMeans set act (record {
            effects = effects_of book steps;
            answer = (act_says act (met_in kept steps)).answer;
            shown = shown_by (act_says act (met_in kept steps)).shows;
          })
      done_means act steps fill row =
          by act (act_row (facts_of book) set act ds fill (subst (IsActRow act) (kinds_at set.cpu steps) row))
        where
          ds : List Effect
          ds = effects_of book steps

          met : List KeptStep
          met = met_in kept steps

          by : (act : InsideAct) → ActForm set act ds → ActMeans set act (record {
            effects = ds;
            answer = (act_says act met).answer;
            shown = shown_by (act_says act met).shows;
          })
          by WipeAct form = ap (λ x. record { effects = x; answer = Done; shown = no_data }) form
          by (VreadAct n) form =
              let says = system_said met ds (met_are steps) 0 in (form, sym says.0, sym says.1)
          by ReseedAct form = let says = event_said met ds (met_are steps) Reseed in (form, sym says.0, sym says.1)

      act_means : (bound : BoundAct) (b : Bool) → ActFills book set bound → ActConforms kept set b bound.act bound.line.steps →
          MatchBool b (ActMeans set bound.act (act_meaning b bound)) (act_meaning b bound ≡ unused_line)
      act_means bound true fill row = done_means bound.act bound.line.steps fill row
      act_means bound false fill row = refl

      acts_mean : (acts : List BoundAct) → AllByRecursion (ActFills book set) acts →
          AllByRecursion (ActDone kept set reached) acts →
          ActsMean set (λ act. includes reached act.point) acts (map meaning_at acts)
      acts_mean [] fill done = tt
      acts_mean (bound ∷ acts) fill done =
          (act_means bound (includes reached bound.point) fill.0 done.0, acts_mean acts fill.1 done.1)

      act_effects : (bound : BoundAct) (b : Bool) → ActConforms kept set b bound.act bound.line.steps →
          effects_of book bound.line.steps ≡ (act_meaning b bound).effects
      act_effects bound true row = refl
      act_effects bound false none = ap (effects_of book) none

      acts_effects : (acts : List BoundAct) → AllByRecursion (ActDone kept set reached) acts →
          EachAct (HasEffects book) acts (map meaning_at acts)
      acts_effects [] done = tt
      acts_effects (bound ∷ acts) done = (act_effects bound (includes reached bound.point) done.0, acts_effects acts done.1)

      act_says_it : (bound : BoundAct) (b : Bool) →
          At bound.line.event (act_says_at kept set b bound.act bound.line.steps) →
          SaysIt At bound.line (act_meaning b bound)
      act_says_it bound true is = record { one = _; is = is; answer = refl; shown = refl }
      act_says_it bound false is = record { one = _; is = is; answer = refl; shown = refl }

      acts_say : (acts : List BoundAct) →
          AllByRecursion (IsSaidIn At) (map (act_write kept set reached) acts) →
          EachAct (SaysIt At) acts (map meaning_at acts)
      acts_say [] all = tt
      acts_say (bound ∷ acts) all =
          (act_says_it bound (includes reached bound.point) all.0, acts_say acts all.1)

    -- ---- a call that is a vread

    vread_meant : (set : Setting) (s t : VStates) (writes : List Write) (n flags : ℕ) (line : SeenLine)
        (acts : List BoundAct) → AllByRecursion StepFits line.steps → CallFills book set (vread_call n flags line acts) →
        VreadSaid kept set n flags line acts s t writes → CallMeant set (vread_call n flags line acts) s t writes
    vread_meant set s t writes n flags line acts looks fill said =
        let ds = effects_of book line.steps in
        let met = met_in kept line.steps in
        let reached = said.f.path.reached in
        let ms = map (meaning_at set reached) acts in
        let v = vread_of_followed (facts_of book) n flags acts (standing set s) ds (seen_in set.cpu met) said.f ms
        (all_seen set.cpu met ds (met_are line.steps)) (looks_fit set.cpu kept line.steps looks) fill.0 said.follows
        (acts_mean set reached acts fill.1 said.done) in record {
          m = meaning_of (standing set s) ds ms v.0 said.f;
          before = refl;
          means = v.1;
          effects = (refl, acts_effects set reached acts said.done);
          after = ap (standing set) (sym said.new_is);
          says = λ all.
              let P : List Write → Type 0 = λ ws. AllByRecursion (IsSaidIn At) ws in
              let parts = each_parts (IsSaidIn At) (map (act_write kept set reached) acts) _ (subst P said.writes_are all) in (
                record {
                  one = record { answer = said.f.path.answer; shows = Served said.f.path.served };
                  is = parts.1.0;
                  answer = refl;
                  shown = refl;
                },
                acts_say set reached acts parts.0,
              );
        }

    pub call_meant : (set : Setting) (s t : VStates) (writes : List Write) (call : Call) → CallLooks call →
        CallFills book set call → CallSaid kept set call s t writes → CallMeant set call s t writes
    call_meant set s t writes (alone event line) looks fill said = alone_meant set s t writes event line fill said
    call_meant set s t writes (vread_call n flags line acts) looks fill said =
        vread_meant set s t writes n flags line acts looks fill said
    call_meant set s t writes (unbound bound) looks fill said = unbound_meant set s t writes bound said
    call_meant set s t writes (ending line) looks fill said = ending_meant set s t writes line fill said
