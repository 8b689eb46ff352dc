-- If `HasAdvanced` holds, it holds again after one more event, with the event's line and its call or waiting act.
use Rattle.std.proofs.Common.{◌≡◌, ℕ, suc, true, List, [], ◌∷◌, ◌++◌, refl, sym, ap, ◌∙◌, subst, arith, append_assoc, length}
use Rattle.std.specs.List.{AllByRecursion}
use Rattle.key_names.specs.declared.events.Answer.TheVariants.{Ok as Done}
use Rattle.key_names.specs.declared.events.Event.{Event}
use Rattle.key_names.specs.declared.events.Event.TheVariants.{Vread, Inside}
use Rattle.key_names.specs.declared.events.Word.TheVariants.{End as EndWord}
use Rattle.key_names.specs.declared.names.Step.{Step}
use Rattle.key_names.specs.declared.entries.BaseEntry.TheVariants.{End}
use Rattle.key_names.specs.Callers.Calls.{Call, alone, ending, has_vread, setting_after, setting_after_call}
use Rattle.std.specs.List.{fold}
use Rattle.std.proofs.lemmas.List.Sums.{fold-append}
use Rattle.key_names.specs.Callers.Forms.{BaseOnly}
use Rattle.key_names.specs.Transcripts.IsTranscript.{LineIs, LinesFit}
use Rattle.key_names.specs.Callers.Meaning.{CallerState, caller_start, caller_after}
use Rattle.key_names.specs.Texts.ScriptGrammar.{event_word}
use Rattle.key_names.specs.Transcripts.SeenLine.{SeenLine, no_data}
use Rattle.key_names.proofs.Transcripts.Settings.{setting_moves}
use Rattle.lane_table.specs.declared.lanes.Lanes.{Lanes}
use Rattle.lane_table.specs.declared.lanes.Pass.{Pass}
use Rattle.lane_table.specs.declared.view.View.{View}
use Rattle.lane_table.specs.Calls.{view}
use Rattle.rng_core.specs.declared.setting.Setting.{Setting}
use Rattle.rng_core.specs.Acts.{Ask}
use Rattle.rng_core.specs.Traces.{moment}
use Rattle.rng_core.specs.Makes.{Makes}
use Rattle.caller_run.specs.declared.making.caller.Caller.{Caller}
use Rattle.caller_run.specs.declared.output.reply.Reply.{Reply}
use Rattle.caller_run.specs.Calling.{conform, Called}
use Rattle.caller_run.specs.Done.{CallDone, CallsDone}
use Rattle.caller_run.specs.Kinds.{IsCall}
use Rattle.caller_run.specs.Says.{shown_by, line_of}
use Rattle.caller_run.specs.Waiting.{IsAlone, CallsSoFar}
use Rattle.caller_run.specs.Standing.{HasLine, Start, Forked, HasAdvanced, RunEnded}
use Rattle.caller_run.proofs.Orders.CallChains.{calls_done_nothing, calls_done_plainly}
use Rattle.caller_run.proofs.Forks.HasForked.{forked_more}
use Rattle.caller_run.proofs.Events.CoreDone.{core_done, end_done}
use Rattle.caller_run.proofs.Orders.LoopCalls.{alone_follows, so_far_nothing, so_far_alone, so_far_end}
use Rattle.caller_run.proofs.Law.Seeing.{same_conform}
use Rattle.caller_run.proofs.Events.CanAdvance.{GoesOn}
use Rattle.caller_run.proofs.Orders.EmittedAnew.{idle_more}

call_alone : (event : Event) → IsCall event → IsAlone event
call_alone (Vread len flags) is = absurd is
call_alone (Inside point act) is = absurd is
call_alone event is = tt

-- if `lines` fit the events so far, and `line` is the line of the next event, `lines` and `line` together fit
pub fit_more : (caller n : ℕ) (events : List Event) (event : Event) (rest : List Event) (lines : List SeenLine)
    (line : SeenLine) →
    LineIs caller n (event_word event) line →
    ((more : List SeenLine) → LinesFit caller n (event ∷ rest) more → LinesFit caller 0 events (lines ++ more)) →
    (more : List SeenLine) → LinesFit caller (suc n) rest more → LinesFit caller 0 events ((lines ++ line ∷ []) ++ more)
fit_more caller n events event rest lines line is fit more f =
    subst (LinesFit caller 0 events) (sym (append_assoc lines (line ∷ []) more)) (fit (line ∷ more) (is, f))

-- suppose that the caller is c before the call of `event`, and d after it
module _ {begun : Start} {events rest : List Event} {event : Event} {c : Caller} {lines : List SeenLine}
    {asks : List Ask} {kids : List Start}
    (d : Caller) (g : HasAdvanced begun events (event ∷ rest) c lines asks kids) (set : d.set ≡ c.set) where
  -- the line of the call is a line of `event` (`LineIs`)
  pub own_line : (said : Reply) (served : List ℕ) (steps : List Step) →
      LineIs begun.caller c.set.event (event_word event) (line_of d.set (event_word event) served said steps)
  own_line said served steps =
      record {
        caller = ap (λ (s : Setting). s.caller) set ∙ g.own;
        event = ap (λ (s : Setting). s.event) set;
        word_is = refl;
      }

-- suppose that the caller made an event. The caller is c before the event, d after the event's call, and e when it goes
-- on
module _ {begun : Start} {events rest : List Event} {event : Event} {c e : Caller} {lines : List SeenLine}
    {asks : List Ask} {kids : List Start}
    (d : Caller) (g : HasAdvanced begun events (event ∷ rest) c lines asks kids) (set : d.set ≡ c.set)
    (on : GoesOn event d e) where
  -- after the event, `HasAdvanced` holds: `calls` are the calls so far, and `more` the starts of the forked callers
  pub gone_on : (calls : List Call) (after : List SeenLine) (left waiting : List Ask) (more : List Start) →
      CallsDone begun.caller (length more) begun.view (view d.pass) (caller_start begun.set)
      (caller_after (conform d) event) calls →
      (caller_after (conform d) event).setting ≡ fold setting_after_call begun.set calls →
      AllByRecursion (Forked begun (view d.pass) calls) more →
      (has_vread rest ≡ true → waiting ≡ left) → CallsSoFar events rest after waiting calls →
      ((more : List SeenLine) → LinesFit begun.caller (suc c.set.event) rest more →
      LinesFit begun.caller 0 events (after ++ more)) →
      AllByRecursion (HasLine begun.caller after) left → HasAdvanced begun events rest e after left more
  gone_on calls after left waiting more done settings forked waits so_far fit idle = record {
    own = on.caller ∙ ap (λ (s : Setting). s.caller) set ∙ g.own;
    calls = calls;
    done = subst (λ (s : CallerState). CallsDone begun.caller (length more) begun.view (view e.pass)
        (caller_start begun.set) s calls)
        (sym on.conform)
        (subst (λ (p : Pass). CallsDone begun.caller (length more) begun.view (view p) (caller_start begun.set)
        (caller_after (conform d) event) calls)
        (sym on.pass) done);
    settings = ap (λ (s : CallerState). s.setting) on.conform ∙ settings;
    forked = subst (λ (p : Pass). AllByRecursion (Forked begun (view p) calls) more) (sym on.pass) forked;
    waiting = waiting;
    waits = waits;
    so_far = so_far;
    fit = subst (λ (n : ℕ). (more : List SeenLine) → LinesFit begun.caller n rest more →
        LinesFit begun.caller 0 events (after ++ more))
        (let a = on.event in let b = ap (λ (s : Setting). s.event) set in
        let q : suc c.set.event ≡ e.set.event = omega arith in q) fit;
    idle = idle;
  }

  -- if the event's call forks no caller, `HasAdvanced` holds with this call added
  pub gone_by : (call : Call) (after : List SeenLine) (left waiting : List Ask) →
      CallDone c.set.caller (view c.pass) (view d.pass) (conform c) (caller_after (conform d) event) call →
      (caller_after (conform d) event).setting ≡ setting_after_call (conform c).setting call →
      (has_vread rest ≡ true → waiting ≡ left) → CallsSoFar events rest after waiting (g.calls ++ call ∷ []) →
      ((more : List SeenLine) → LinesFit begun.caller (suc c.set.event) rest more →
      LinesFit begun.caller 0 events (after ++ more)) →
      AllByRecursion (HasLine begun.caller after) left → HasAdvanced begun events rest e after left kids
  gone_by call after left waiting done sets =
      gone_on (g.calls ++ call ∷ []) after left waiting kids
      (calls_done_plainly begun.caller (length kids) begun.view (view c.pass) (view d.pass) (caller_start begun.set)
      (conform c) (caller_after (conform d) event)
      g.calls call g.done
      (subst (λ (n : ℕ). CallDone n (view c.pass) (view d.pass) (conform c) (caller_after (conform d) event) call) g.own
      done))
      (sets ∙ ap (λ s. setting_after_call s call) g.settings
      ∙ sym (fold-append setting_after_call begun.set g.calls (call ∷ [])))
      (forked_more begun (view c.pass) (view d.pass) g.calls (call ∷ []) kids done.ran.same.sized done.ran.grows
      g.forked)

-- after an event that is one call of the core, `HasAdvanced` holds again
module _ {begun : Start} {events rest : List Event} {event : Event} {t : Lanes} {c d e : Caller}
    {lines : List SeenLine}
    {asks : List Ask} {kids : List Start} {said : Reply} {served : List ℕ} {steps : List Step} (is : IsCall event)
    (k : Called t event c d said served steps)
    (on : GoesOn event d e) where
  pub gone_call : HasAdvanced begun events (event ∷ rest) c lines asks kids →
      HasAdvanced begun events rest e (lines ++ line_of d.set (event_word event) served said steps ∷ []) asks kids
  gone_call g =
      let line : SeenLine = line_of d.set (event_word event) served said steps in
      gone_by d g k.set on (alone event line) (lines ++ line ∷ []) asks g.waiting
      (subst (λ (s : Setting). CallDone c.set.caller (view c.pass) (view d.pass) (conform c)
      (caller_after (conform d) event)
      (alone event (line_of s (event_word event) served said steps))) (sym k.set)
      (subst (λ (s : CallerState). CallDone c.set.caller (view c.pass) (view d.pass) (conform c) (caller_after s event)
      (alone event (line_of c.set (event_word event) served said steps))) (sym (same_conform k))
      (core_done c.set (view c.pass) (view d.pass) (conform c) event (event_word event) said.answer
      (shown_by served said.shows) steps refl k.does)))
      (setting_moves (conform d) event ∙ ap (λ (s : CallerState). setting_after s.setting event) (same_conform k))
      (λ has. g.waits (alone_follows event (call_alone event is) rest ∙ has))
      (so_far_alone events rest lines g.waiting g.calls event line (call_alone event is) g.so_far)
      (fit_more begun.caller c.set.event events event rest lines line (own_line d g k.set said served steps) g.fit)
      (idle_more begun.caller lines line asks g.idle)

-- if a caller has made all of its events, and makes its last visit, its run has ended (`RunEnded`)
pub gone_all : {begun : Start} {events : List Event} {c : Caller} {lines : List SeenLine} {asks : List Ask}
    {kids : List Start}
    (d : Caller) (served : List ℕ) (said : Reply) (steps : List Step) → d.set ≡ c.set → said.answer ≡ Done →
    (line_of d.set EndWord served said steps).shown ≡ no_data →
    Makes (BaseOnly End) c.set (moment c.pass []) (moment d.pass steps) →
    HasAdvanced begun events [] c lines asks kids →
    RunEnded begun events (view d.pass) (lines ++ line_of d.set EndWord served said steps ∷ []) kids
gone_all {begun = begun} {events = events} {c = c} {lines = lines} {kids = kids} d served said steps set answer shown
    did g =
    let line : SeenLine = line_of d.set EndWord served said steps in
    let same : line ≡ record {
      caller = c.set.caller;
      event = c.set.event;
      word = EndWord;
      answer = Done;
      steps = steps;
      shown = no_data;
    } =
    (λ i. record {
      caller = (set i).caller;
      event = (set i).event;
      word = EndWord;
      answer = answer i;
      steps = steps;
      shown = shown i;
    }) in
    let ends : CallDone begun.caller (view c.pass) (view d.pass) (conform c) (conform c) (ending line) =
    subst (λ (n : ℕ). CallDone n (view c.pass) (view d.pass) (conform c) (conform c) (ending line)) g.own
    (subst (λ (l : SeenLine). CallDone c.set.caller (view c.pass) (view d.pass) (conform c) (conform c) (ending l))
    (sym same)
    (end_done c.set (view c.pass) (view d.pass) (conform c) EndWord steps did)) in
    record {
      fit = g.fit (line ∷ []) (record {
        caller = ap (λ (s : Setting). s.caller) set ∙ g.own;
        event = ap (λ (s : Setting). s.event) set;
        word_is = refl;
      });
      reached = conform c;
      done = subst (CallsDone begun.caller (length kids) begun.view (view d.pass) (caller_start begun.set) (conform c))
          (sym (so_far_end events lines g.waiting g.calls line g.so_far))
          (calls_done_plainly begun.caller (length kids) begun.view (view c.pass) (view d.pass)
          (caller_start begun.set) (conform c) (conform c) g.calls (ending line) g.done ends);
      forked = subst (λ (calls : List Call). AllByRecursion (Forked begun (view d.pass) calls) kids)
          (sym (so_far_end events lines g.waiting g.calls line g.so_far))
          (forked_more begun (view c.pass) (view d.pass) g.calls (ending line ∷ []) kids ends.ran.same.sized
          ends.ran.grows g.forked);
    }

-- at a caller's start, `HasAdvanced` holds with no event made, no line and no call
pub gone_nothing : (begun : Start) (events : List Event) (c : Caller) → c.set.caller ≡ begun.caller →
    c.set.event ≡ 0 → conform c ≡ caller_start begun.set → view c.pass ≡ begun.view →
    HasAdvanced begun events events c [] [] []
gone_nothing begun events c own none_yet conforms knows = record {
  own = own;
  calls = [];
  done = subst (λ (s : CallerState). CallsDone begun.caller 0 begun.view (view c.pass) (caller_start begun.set) s [])
      (sym conforms)
      (subst (λ (w : View). CallsDone begun.caller 0 begun.view w (caller_start begun.set) (caller_start begun.set) [])
      (sym knows) (calls_done_nothing begun.caller begun.view (caller_start begun.set)));
  settings = ap (λ (s : CallerState). s.setting) conforms;
  forked = tt;
  waiting = [];
  waits = λ has. refl;
  so_far = so_far_nothing events;
  idle = tt;
  fit = λ more fit. subst (λ (n : ℕ). LinesFit begun.caller n events more) none_yet fit;
}
