-- `CallDone` holds for three kinds of calls: an event alone, an act that no vread follows, and the caller's end.
use Rattle.std.proofs.Common.{◌≡◌, ℕ, List, [], map, refl, sym, ap, ◌∙◌, subst, inl}
use Rattle.key_names.specs.declared.events.Answer.TheVariants.{Ok as Done, Unused}
use Rattle.key_names.specs.declared.events.Event.{Event}
use Rattle.key_names.specs.declared.names.Step.{Step}
use Rattle.key_names.specs.Callers.Answers.{answer_of, shown_of}
use Rattle.key_names.specs.Lanes.Book.{Lists}
use Rattle.key_names.specs.Callers.Calls.{alone, unbound, ending, BoundAct}
use Rattle.key_names.specs.Callers.Effects.{effects_of}
use Rattle.key_names.specs.Callers.Forms.{Form, EndForm}
use Rattle.caller_run.specs.Items.{items_from}
use Rattle.key_names.specs.Callers.Meaning.{CallerState, caller_after, event_entries, unused_line}
use Rattle.key_names.specs.Transcripts.SeenLine.{SeenLine, no_data}
use Rattle.lane_table.specs.declared.view.Visit.{Visit}
use Rattle.lane_table.specs.declared.view.View.{View}
use Rattle.lane_table.specs.BookLists.{StateLists, book_lists}
use Rattle.lane_table.specs.BookLaws.{Continues}
use Rattle.lane_table.specs.Advances.{MadeStep, step_of, Advances}
use Rattle.caller_run.specs.NumberedSteps.{numbered_steps_from, items_of}
use Rattle.key_names.specs.Callers.LineSamples.{SamplesConform}
use Rattle.rng_core.specs.SampleEffects.{fast_in}
use Rattle.caller_run.specs.Done.{CallDone}
use Rattle.caller_run.proofs.Orders.Chains.{items_from_doings, ran_nothing, ran_went}

-- suppose that the call of `line` took the pass's view from v to w, by exactly the steps of `line`
module _ (caller : ℕ) (v w : View) (s : CallerState) (line : SeenLine) (made_steps : List MadeStep)
    (went : Advances caller line.event 0 v w made_steps) (steps : line.steps ≡ map step_of made_steps) where
  order : items_of (numbered_steps_from line.event 0 made_steps) ≡ items_from line.event 0 line.steps
  order = items_from_doings line.event 0 made_steps ∙ ap (λ (l : List Step). items_from line.event 0 l) (sym steps)

  abbrev InTheEnd : ((ℕ → List Visit) → Lists → Type 0) → Type 0
  InTheEnd P = (lanes : ℕ) (visits : ℕ → List Visit) (callers : StateLists) → Continues lanes w visits →
      P visits (book_lists lanes visits callers)

  abbrev Sampled : Type 0
  Sampled = InTheEnd (λ visits lists. SamplesConform (fast_in visits) (effects_of lists line.steps))

  pub alone_done : (event : Event) →
      InTheEnd (λ visits lists. Form s.setting event (effects_of lists line.steps)
      × (line.answer ≡ answer_of event (effects_of lists line.steps))
      × (line.shown ≡ shown_of event (effects_of lists line.steps))) →
      Sampled → CallDone caller v w s (caller_after s event) (alone event line)
  alone_done event recorded sampled = record {
    numbered_steps = numbered_steps_from line.event 0 made_steps;
    ran = ran_went caller line.event 0 v w made_steps went;
    order = order;
    meant = λ lanes visits callers c. let t = recorded lanes visits callers c in record {
      meaning = record {
        own = record {
          effects = effects_of (book_lists lanes visits callers) line.steps;
          answer = line.answer;
          shown = line.shown;
        };
        acts = [];
        entries = event_entries event;
        before = s;
        after = caller_after s event;
      };
      before = refl;
      means = record { form = t.0; answer = t.1; shown = t.2; no_acts = refl; entries = refl; after = refl };
      after = refl;
      effects = refl;
      answers = refl;
      shown = refl;
    };
    samples = λ lanes visits callers c. (sampled lanes visits callers c, tt);
  }

  pub ending_done : InTheEnd (λ visits lists. EndForm (effects_of lists line.steps)) → line.answer ≡ Done →
      line.shown ≡ no_data → Sampled → CallDone caller v w s s (ending line)
  ending_done recorded answer shown sampled = record {
    numbered_steps = numbered_steps_from line.event 0 made_steps;
    ran = ran_went caller line.event 0 v w made_steps went;
    order = order;
    meant = λ lanes visits callers c. record {
      meaning = record {
        own = record {
          effects = effects_of (book_lists lanes visits callers) line.steps;
          answer = line.answer;
          shown = line.shown;
        };
        acts = [];
        entries = [];
        before = s;
        after = s;
      };
      before = refl;
      means = record {
        form = recorded lanes visits callers c;
        answer = answer;
        shown = shown;
        no_acts = refl;
        entries = refl;
        after = refl;
      };
      after = refl;
      effects = refl;
      answers = refl;
      shown = refl;
    };
    samples = λ lanes visits callers c. (sampled lanes visits callers c, tt);
  }

-- if the line of an act without a later vread has no steps, no data and the answer `Unused`, `CallDone` holds for the
-- act
pub unbound_done : (caller : ℕ) (v : View) (s : CallerState) (bound : BoundAct) → bound.line.steps ≡ [] →
    bound.line.answer ≡ Unused → bound.line.shown ≡ no_data → CallDone caller v v s s (unbound bound)
unbound_done caller v s bound none answer shown = record {
  numbered_steps = [];
  ran = ran_nothing caller v;
  order = ap (λ (l : List Step). items_from bound.line.event 0 l) (sym none);
  meant = λ lanes visits callers c. record {
    meaning = record { own = unused_line; acts = []; entries = []; before = s; after = s };
    before = refl;
    means = record { own = refl; no_acts = refl; entries = refl; after = refl };
    after = refl;
    effects = ap (effects_of (book_lists lanes visits callers)) none;
    answers = answer;
    shown = shown;
  };
  samples = λ lanes visits callers c. (
    subst (λ (l : List Step). SamplesConform (fast_in visits)
        (effects_of (book_lists lanes visits callers) l)) (sym none) (inl tt),
    tt,
  );
}
