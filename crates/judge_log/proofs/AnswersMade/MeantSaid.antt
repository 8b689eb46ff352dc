-- If a call has a meaning, the code makes the meaning's answers and data for the call.
use Rattle.std.proofs.Common.{◌≡◌, ℕ, Bool, true, false, List, [], ◌∷◌, refl, sym, subst, ap, ◌∙◌}
use Rattle.std.specs.Prelude.{MatchBool}
use Rattle.std.specs.List.{AllByRecursion}
use Rattle.key_names.specs.declared.events.Event.{Event}
use Rattle.key_names.specs.declared.events.Answer.TheVariants.{Ok as Done}
use Rattle.key_names.specs.declared.names.Step.{Step}
use Rattle.key_names.specs.Lanes.Book.{Lists, LawfulLanes}
use Rattle.key_names.specs.Callers.Calls.{Setting, Call, alone, vread_call, unbound, ending, BoundAct, setting_after_call}
use Rattle.key_names.specs.Callers.Effects.{Effect, effects_of}
use Rattle.key_names.specs.Callers.Forms.{Form}
use Rattle.key_names.specs.Transcripts.IsTranscript.{EachAct, EachOfCall}
use Rattle.key_names.specs.Callers.Meaning.{CallerState, caller_after, LineMeaning, CallMeaning, Means, ActMeans, ActsMean}
use Rattle.key_names.specs.Callers.Meaning.{unused_line, current_state, AloneMeans, EndingMeans, UnboundMeans, VreadMeans, with_state as meant_with_state}
use Rattle.key_names.specs.Transcripts.SeenLine.{SeenLine}
use Rattle.key_names.specs.Texts.TranscriptGrammar.{StepFits}
use Rattle.judge_lines.specs.Kinds.{kinds_of}
use Rattle.judge_lines.specs.LaneFacts.{facts_of, AllFit}
use Rattle.judge_lines.specs.Laws.{ActForm}
use Rattle.judge_lines.specs.Rows.{IsRow, IsActRow, IsEnd, cpu_for}
use Rattle.judge_lines.proofs.ActLines.{act_form, act_is_row}
use Rattle.judge_lines.proofs.FormRows.{form_row, end_form}
use Rattle.judge_log.specs.declared.kept.Lists.{Lists as KeptLists}
use Rattle.judge_log.specs.Kept.{Keeps}
use Rattle.judge_vread.specs.declared.inside.Reached.{Reached}
use Rattle.judge_vread.specs.Inside.{includes, inside_of}
use Rattle.judge_vread.specs.Path.{followed}
use Rattle.judge_vread.specs.Seen.{AllSeen}
use Rattle.judge_vread.proofs.Vreads.{followed_of_vread}
use Rattle.judge_log.specs.declared.said.ShownRecipe.TheVariants.{Nothing as ShowsNothing}
use Rattle.judge_log.specs.Met.{met_in, seen_in}
use Rattle.judge_log.specs.EventSays.{first_crossing, alone_says, ActConforms, unused}
use Rattle.judge_log.specs.Writes.{Write}
use Rattle.judge_log.specs.CallSays.{VStates, states_after, with_state, write, ActDone}
use Rattle.judge_log.specs.CallSays.{CallSaid}
use Rattle.judge_log.proofs.AnswersMade.MetSays.{all_seen, looks_fit, crossing_is}
use Rattle.judge_log.proofs.AnswersMade.CallMeant.{standing, CallLooks, HasEffects, conforms_after, all_fit, met_are, kinds_at}

no_steps_of : (book : Lists) (steps : List Step) → effects_of book steps ≡ [] → steps ≡ []
no_steps_of book [] none = refl
no_steps_of book (step ∷ steps) none = cc

module _ (kept : KeptLists) (book : Lists) (keeps : Keeps kept book) (lawful : LawfulLanes book) where
  -- the code makes the answers and data `writes` for `call`; the vgetrandom states `t` after the call are those of the
  -- meaning `m`
  pub record MeantSaid (set : Setting) (call : Call) (s : VStates) (m : CallMeaning) : Type 0 where
    pub t : VStates
    pub writes : List Write
    pub said : CallSaid kept set call s t writes
    pub after : m.after ≡ standing (setting_after_call set call) t

  module _ (set : Setting) (s : VStates) (m : CallMeaning) (before : m.before ≡ standing set s) where
    alone_said : (event : Event) (line : SeenLine) → AloneMeans event m → effects_of book line.steps ≡ m.own.effects →
        MeantSaid set (alone event line) s m
    alone_said event line means effects =
        let ds = effects_of book line.steps in
        let met = met_in kept line.steps in
        let P : CallerState → Type 0 = λ b. Form b.setting event m.own.effects in
        let form = subst (Form set event) (sym effects) (subst P before means.form) in
        let row = form_row (facts_of book) set event (first_crossing met) ds
        (crossing_is met ds (met_are kept book keeps lawful line.steps)) form (all_fit kept book keeps lawful line.steps) in
        record {
          t = states_after event s;
          writes = write line (alone_says kept set event line.steps) ∷ [];
          said = record {
            conforms = subst (λ ks. IsRow event (first_crossing met) ks)
                (sym (kinds_at kept book keeps lawful (cpu_for set event) line.steps)) row;
            new_is = refl;
            writes_are = refl;
          };
          after = means.after ∙ ap (λ b. caller_after b event) before ∙ conforms_after set s event line;
        }

    ending_said : (line : SeenLine) → EndingMeans m → effects_of book line.steps ≡ m.own.effects →
        MeantSaid set (ending line) s m
    ending_said line means effects =
        let ds = effects_of book line.steps in
        let form = end_form set m.own.effects means.form in
        let P : List Effect → Type 0 = λ xs. IsEnd (kinds_of set.cpu xs) in
        let row = subst P (sym effects) form in record {
          t = s;
          writes = write line (record { answer = Done; shows = ShowsNothing }) ∷ [];
          said = record {
            conforms = subst IsEnd (sym (kinds_at kept book keeps lawful set.cpu line.steps)) row;
            new_is = refl;
            writes_are = refl;
          };
          after = means.after ∙ before;
        }

    unbound_said : (bound : BoundAct) → UnboundMeans m → effects_of book bound.line.steps ≡ m.own.effects →
        MeantSaid set (unbound bound) s m
    unbound_said bound means effects = record {
      t = s;
      writes = write bound.line unused ∷ [];
      said = record {
        no_steps = no_steps_of book bound.line.steps (effects ∙ ap (λ o. o.effects) means.own);
        new_is = refl;
        writes_are = refl;
      };
      after = means.after ∙ before;
    }

    module _ (reached : Reached) where
      act_done : (bound : BoundAct) (a : LineMeaning) (b : Bool) →
          MatchBool b (ActMeans set bound.act a) (a ≡ unused_line) → effects_of book bound.line.steps ≡ a.effects →
          ActConforms kept set b bound.act bound.line.steps
      act_done bound a true means effects =
          let ds = effects_of book bound.line.steps in
          let form = subst (ActForm set bound.act) (sym effects) (act_form set bound.act a means) in
          let row = act_is_row (facts_of book) set bound.act ds form (all_fit kept book keeps lawful bound.line.steps) in
          subst (IsActRow bound.act) (sym (kinds_at kept book keeps lawful set.cpu bound.line.steps)) row
      act_done bound a false none effects = no_steps_of book bound.line.steps (effects ∙ ap (λ x. x.effects) none)

      acts_done : (acts : List BoundAct) (ms : List LineMeaning) →
          ActsMean set (λ act. includes reached act.point) acts ms →
          EachAct (HasEffects book) acts ms → AllByRecursion (ActDone kept set reached) acts
      acts_done [] [] means effects = tt
      acts_done [] (a ∷ ms) means effects = absurd means
      acts_done (bound ∷ acts) [] means effects = absurd means
      acts_done (bound ∷ acts) (a ∷ ms) means effects =
          (act_done bound a (includes reached bound.point) means.0 effects.0, acts_done acts ms means.1 effects.1)

    vread_said : (n flags : ℕ) (line : SeenLine) (acts : List BoundAct) → AllByRecursion StepFits line.steps →
        VreadMeans n flags acts m → EachOfCall (HasEffects book) (vread_call n flags line acts) m →
        MeantSaid set (vread_call n flags line acts) s m
    vread_said n flags line acts looks means effects =
        let ds = effects_of book line.steps in
        let met = met_in kept line.steps in
        let seen = seen_in set.cpu met in
        let P : List Effect → Type 0 = λ xs. AllSeen set.cpu seen xs in
        let here = subst P effects.0 (all_seen set.cpu met ds (met_are kept book keeps lawful line.steps)) in
        let Q : CallerState → Type 0 = λ b. AllSeen b.setting.cpu seen m.own.effects in
        let fit = subst (AllFit (facts_of book)) effects.0 (all_fit kept book keeps lawful line.steps) in
        let f = followed_of_vread (facts_of book) n flags acts m seen means (subst Q (sym before) here)
        (looks_fit set.cpu kept line.steps looks) fit in
        let R : CallerState → Type 0 = λ b. ActsMean b.setting (λ act. includes f.f.path.reached act.point) acts m.acts in
        record {
          t = with_state s f.f.state;
          writes = _;
          said = record {
            f = f.f;
            follows = ap (λ (b : CallerState). followed n flags (inside_of acts) (current_state b) seen) (sym before) ∙ f.is;
            done = acts_done f.f.path.reached acts m.acts (subst R before f.inside) effects.1;
            new_is = refl;
            writes_are = refl;
          };
          after = f.after ∙ ap (λ b. meant_with_state b f.f.state) before;
        }

    pub meant_said : (call : Call) → CallLooks call → Means call m →
        EachOfCall (HasEffects book) call m → MeantSaid set call s m
    meant_said (alone event line) looks means effects = alone_said event line means effects
    meant_said (vread_call n flags line acts) looks means effects = vread_said n flags line acts looks means effects
    meant_said (unbound bound) looks means effects = unbound_said bound means effects
    meant_said (ending line) looks means effects = ending_said line means effects
