-- If the core's call for an event fulfils its contract, the caller made the call of the event (`Asked`, `Called`).
use Rattle.std.proofs.Common.{◌≡◌, ℕ, List, [], map, refl, sym, ap, subst, arith, rules}
use Rattle.key_names.specs.declared.events.Answer.{Answer}
use Rattle.key_names.specs.declared.events.Answer.TheVariants.{Ok as Done}
use Rattle.key_names.specs.declared.events.Event.{Event}
use Rattle.key_names.specs.declared.events.Event.TheVariants.{At, Irq, Add, Credit}
use Rattle.key_names.specs.declared.events.Word.{Word}
use Rattle.key_names.specs.declared.events.Word.TheVariants.{Bits}
use Rattle.key_names.specs.declared.names.Step.{Step}
use Rattle.key_names.specs.Callers.Calls as calls
use Rattle.key_names.specs.Callers.Effects.{effects_of}
use Rattle.key_names.specs.Texts.ScriptGrammar.{event_word}
use Rattle.key_names.specs.Transcripts.SeenLine.{Shown, no_data}
use Rattle.lane_table.specs.declared.lanes.Pass.{Pass}
use Rattle.lane_table.specs.BookLists.{book_lists}
use Rattle.lane_table.specs.Advances.{step_of}
use Rattle.rng_core.specs.declared.setting.Setting.{Setting}
use Rattle.rng_core.specs.Traces.{Moment, moment}
use Rattle.rng_core.specs.Makes.{Makes, IsOutcomeOf, setting_of}
use Rattle.rng_core.specs.SampleEffects.{Sampled, fast_in}
use Rattle.rng_core.specs.Sites.{Completes, DoesIn, at}
use Rattle.rng_core.specs.declared.site.Site.{Site}
use Rattle.rng_core.proofs.Makings.{did_nothing}
use Rattle.caller_run.specs.Calling.{Does, CanAsk, Asked, Called}
use Rattle.caller_run.proofs.Events.OwnSites.{own_hands}
use Rattle.caller_run.specs.Kinds.{IsQuiet}
use Rattle.caller_run.specs.Says.{shown_by, ShowsFit, IsNoCount}
use Rattle.caller_run.specs.declared.making.states.States.{States}
use Rattle.std.specs.Global.{Box}
use Rattle.caller_run.specs.declared.output.reply.LineData.{LineData}
use Rattle.caller_run.specs.declared.output.reply.LineData.TheVariants.{Nothing, Served, Count}
use Rattle.caller_run.specs.declared.output.reply.Reply.{Reply}
use Rattle.key_names.proofs.Transcripts.QuietForms.{IsNoInterrupt, form_samples}

-- if an event is no interrupt, the samples of its visits match their definition, so `Makes` implies `Does`
pub quietly : (set : Setting) (event : Event) (answer : Answer) (shown : Shown) (m n : Moment) → IsNoInterrupt event →
    Makes (IsOutcomeOf (setting_of set) event answer shown) set m n → Does set event answer shown m n
quietly set event answer shown m n other did = record {
  made_steps = did.made_steps;
  recorded = did.recorded;
  conforms = λ lanes visits callers c. let h = did.conforms lanes visits callers c in record {
    holds = h;
    samples = form_samples (fast_in visits) (setting_of set) event
        (effects_of (book_lists lanes visits callers) (map step_of did.made_steps)) other h.form;
  };
}

-- if the core did the event with the answer and the data of the reply `said`, `Asked` holds from site m to site n
module _ {event e : Event} {m n : Site} {said : Reply} {served : List ℕ} {steps : ℕ} (is : event ≡ e) where
  pub by_does : {answer : Answer} (shown : Shown) → said.answer ≡ answer → shown_by served said.shows ≡ shown →
      ShowsFit (event_word e) said.shows →
      DoesIn steps (Sampled (IsOutcomeOf (setting_of m.set) e answer shown)) m n → Asked event said served m n
  by_does {answer = answer} shown answers shows fit done =
      subst (λ (x : Event). Asked x said served m n) (sym is) (record {
        same = done.same;
        has = done.has;
        does = subst (λ (a : Answer). Does m.set e a (shown_by served said.shows) (at m) (at n)) (sym answers)
            (subst (λ (x : Shown). Does m.set e answer x (at m) (at n)) (sym shows) done.did);
        shows = fit;
      })

  -- if the core completed an event other than an interrupt, with the answer and the data of the reply `said`, `Asked`
  -- holds
  pub by_shown : {answer : Answer} (shown : Shown) → said.answer ≡ answer → shown_by served said.shows ≡ shown →
      ShowsFit (event_word e) said.shows → IsNoInterrupt e → Completes steps e answer shown m n →
      Asked event said served m n
  by_shown {answer = answer} shown answers shows fit other done = by_does shown answers shows fit (record {
    same = done.same;
    has = done.has;
    room = done.room;
    did = quietly m.set e answer shown (at m) (at n) other done.did;
  })

  -- if the core completed an event other than an interrupt, and the reply `said` is only an answer, `Asked` holds
  pub by_answer : {answer : Answer} → said ≡ record { answer = answer; shows = Nothing } → IsNoInterrupt e →
      Completes steps e answer no_data m n → Asked event said served m n
  by_answer says other done =
      by_shown no_data (ap (λ (s : Reply). s.answer) says) (ap (λ (s : Reply). shown_by served s.shows) says)
      (subst (λ (s : Reply). ShowsFit (event_word e) s.shows) (sym says) tt) other done

-- if the event `Add` with no bytes and with `bits` is completed, the event `Credit` with `bits` is completed
pub as_credit : {steps bits : ℕ} {m n : Site} → Completes steps (Add [] bits) Done no_data m n →
    Completes steps (Credit bits) Done no_data m n
as_credit done = record {
  same = done.same;
  has = done.has;
  room = done.room;
  did = record {
    made_steps = done.did.made_steps;
    recorded = done.did.recorded;
    conforms = λ lanes visits callers c. let h = done.did.conforms lanes visits callers c in
        record { form = h.form; answers = h.answers; shows = h.shows };
  };
}

-- an event that makes no call of the core (`IsQuiet`) has the answer Ok, no data and no effects

quiet_fulfil : (set : calls.Setting) (event : Event) → IsQuiet event → IsOutcomeOf set event Done no_data []
quiet_fulfil set (At moment) is = record { form = refl; answers = refl; shows = refl }
quiet_fulfil set _ is = search rules

no_interrupt : (event : Event) → IsQuiet event → IsNoInterrupt event
no_interrupt (Irq v1 v2) is = absurd (is.1 tt)
no_interrupt event is = tt

pub asks_nothing : {event : Event} {m : Site} {said : Reply} {served : List ℕ} → CanAsk m → IsQuiet event →
    said ≡ record { answer = Done; shows = Nothing } → Asked event said served m m
asks_nothing {event = event} {m = m} can is says = by_answer {steps = 0} refl says (no_interrupt event is) (record {
  same = record { lanes = refl; set = refl; pass = refl; trace = refl };
  has = can.idle.has;
  room = omega arith;
  did = did_nothing m.set (at m) (let s = can.idle.has.pass.sized in let some = m.lanes.now.few.0 in omega arith)
      (quiet_fulfil (setting_of m.set) event is);
})

-- suppose that a caller makes a site from its pass and setting, and that the call of an event is made at this site.
-- Then the caller made the call (`Called`)
pub called : {event : Event} {m n : Site} {said : Reply} {served : List ℕ} {states : Box States} {p : Pass}
    {steps : List Step} → p ≡ n.pass.now → steps ≡ n.trace.now → m.trace.now ≡ [] → Asked event said served m n →
    Called m.lanes.now event (record { pass = m.pass.now; set = m.set; states = states })
    (record { pass = p; set = m.set; states = states }) said served steps
called {event = event} {m = m} {n = n} {said = said} {served = served} pass trace new asked = rw pass (rw trace (record {
  has = own_hands asked.same asked.has;
  set = refl;
  states = refl;
  does = subst (λ (l : List Step). Does m.set event said.answer (shown_by served said.shows) (moment m.pass.now l) (at n))
      new asked.does;
  shows = asked.shows;
}))

-- data without a count fit the line of each word other than `bits`
pub no_count : (word : Word) (shows : LineData) → (word ≡ Bits → ⊥) → IsNoCount shows → ShowsFit word shows
no_count word Nothing other is = tt
no_count word Served other is = other
no_count word (Count n) other is = absurd is
