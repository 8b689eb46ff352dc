-- A call of the core is one of the caller's calls: `CallDone` holds for it.
use Rattle.std.proofs.Common.{◌≡◌, ℕ, List, [], map, refl, sym, subst}
use Rattle.key_names.specs.declared.events.Answer.{Answer}
use Rattle.key_names.specs.declared.events.Answer.TheVariants.{Ok as Done}
use Rattle.key_names.specs.declared.events.Event.{Event}
use Rattle.key_names.specs.declared.events.Word.{Word}
use Rattle.key_names.specs.declared.names.Step.{Step}
use Rattle.key_names.specs.declared.entries.BaseEntry.TheVariants.{End}
use Rattle.key_names.specs.Callers.Calls.{Setting as CallSetting, alone, ending}
use Rattle.key_names.specs.Callers.Effects.{effects_of}
use Rattle.key_names.specs.Callers.Forms.{Form, BaseOnly, EndForm}
use Rattle.key_names.specs.Callers.Meaning.{CallerState, caller_after}
use Rattle.key_names.specs.Transcripts.SeenLine.{Shown, no_data}
use Rattle.lane_table.specs.declared.view.View.{View}
use Rattle.lane_table.specs.declared.view.Visit.{Visit}
use Rattle.lane_table.specs.BookLists.{StateLists, book_lists}
use Rattle.lane_table.specs.BookLaws.{Continues}
use Rattle.lane_table.specs.Advances.{step_of}
use Rattle.rng_core.specs.declared.setting.Setting.{Setting}
use Rattle.rng_core.specs.Traces.{knowing}
use Rattle.rng_core.specs.Makes.{Makes, IsOutcomeOf, setting_of}
use Rattle.key_names.specs.Callers.LineSamples.{SamplesConform}
use Rattle.rng_core.specs.SampleEffects.{Sampled, fast_in}
use Rattle.caller_run.specs.Calling.{Does}
use Rattle.caller_run.specs.Done.{CallDone}
use Rattle.caller_run.proofs.Events.AloneDone.{alone_done, ending_done}
use Rattle.key_names.proofs.Transcripts.QuietForms.{end_samples}

-- if the event's call took the pass's view from v to w by these steps, `CallDone` holds for the event's call
module _ (set : Setting) (v w : View) (s : CallerState) where
  pub core_done : (event : Event) (word : Word) (answer : Answer) (shown : Shown) (steps : List Step) →
      s.setting ≡ setting_of set → Does set event answer shown (knowing v []) (knowing w steps) →
      CallDone set.caller v w s (caller_after s event) (alone event (record {
        caller = set.caller;
        event = set.event;
        word = word;
        answer = answer;
        steps = steps;
        shown = shown;
      }))
  core_done event word answer shown steps same d =
      alone_done set.caller v w s (record {
        caller = set.caller;
        event = set.event;
        word = word;
        answer = answer;
        steps = steps;
        shown = shown;
      })
      d.made_steps d.recorded.went d.recorded.trace event
      (λ lanes visits callers c. let h = (line_conforms lanes visits callers c).holds in (
        subst (λ (x : CallSetting). Form x event (effects_of (book_lists lanes visits callers) steps)) (sym same) h.form,
        h.answers,
        h.shows,
      ))
      (λ lanes visits callers c. (line_conforms lanes visits callers c).samples)
    where
      line_conforms : (lanes : ℕ) (visits : ℕ → List Visit) (callers : StateLists) → Continues lanes w visits →
          Sampled (IsOutcomeOf (setting_of set) event answer shown) visits
          (effects_of (book_lists lanes visits callers) steps)
      line_conforms lanes visits callers c =
          subst (λ (l : List Step). Sampled (IsOutcomeOf (setting_of set) event answer shown) visits
          (effects_of (book_lists lanes visits callers) l))
          (sym d.recorded.trace) (d.conforms lanes visits callers c)

  -- if the caller's last visit took the view from v to w by these steps, `CallDone` holds for the caller's end
  pub end_done : (word : Word) (steps : List Step) → Makes (BaseOnly End) set (knowing v []) (knowing w steps) →
      CallDone set.caller v w s s (ending (record {
        caller = set.caller;
        event = set.event;
        word = word;
        answer = Done;
        steps = steps;
        shown = no_data;
      }))
  end_done word steps d =
      ending_done set.caller v w s (record {
        caller = set.caller;
        event = set.event;
        word = word;
        answer = Done;
        steps = steps;
        shown = no_data;
      })
      d.made_steps d.recorded.went d.recorded.trace
      (λ lanes visits callers c.
      subst (λ (l : List Step). EndForm (effects_of (book_lists lanes visits callers) l)) (sym d.recorded.trace)
      (d.conforms lanes visits callers c))
      refl refl
      (λ lanes visits callers c.
      subst (λ (l : List Step). SamplesConform (fast_in visits) (effects_of (book_lists lanes visits callers) l))
      (sym d.recorded.trace)
      (end_samples (fast_in visits) (effects_of (book_lists lanes visits callers) (map step_of d.made_steps))
      (d.conforms lanes visits callers c)))
