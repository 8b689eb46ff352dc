-- A read out of a vgetrandom state without acts inside is one of the caller's calls: `CallDone` holds for it.
use Rattle.std.proofs.Common.{◌≡◌, ℕ, Bool, true, false, List, [], ◌∷◌, ◌++◌, map, get_or, refl, sym, ap, ◌∙◌, subst, arith, inl, append-nil}
use Rattle.std.specs.Prelude.{MatchBool}
use Rattle.std.specs.List.{AllByRecursion}
use Rattle.key_names.specs.declared.events.Answer.{Answer}
use Rattle.key_names.specs.declared.events.Word.{Word}
use Rattle.key_names.specs.declared.names.Step.{Step}
use Rattle.key_names.specs.Kernel.BatchCopy.{serves_locally}
use Rattle.key_names.specs.Callers.Calls.{Setting as CallSetting, vread_call, BoundAct}
use Rattle.key_names.specs.Callers.Effects.{Effect, looked, effects_of}
use Rattle.key_names.specs.Kernel.FastPool.{FastPool}
use Rattle.key_names.specs.Callers.Forms.{Looked}
use Rattle.key_names.specs.Callers.Meaning.{CallerState, CallMeaning, VreadMeans, ByLocalCopy, ByVgetrandom, LocalOrCall, current_state, with_state, tries_local}
use Rattle.key_names.specs.Transcripts.SeenLine.{SeenLine, Shown}
use Rattle.key_names.specs.Kernel.Vgetrandom.{HostStep, publishes, system_call, at_point}
use Rattle.key_names.specs.Kernel.VgetrandomState.{VgetrandomState}
use Rattle.key_names.specs.Callers.VreadSteps.{Shows, published_by}
use Rattle.key_names.proofs.Lists.Each.{each_append}
use Rattle.lane_table.specs.declared.view.LaneView.{LaneView}
use Rattle.lane_table.specs.declared.view.View.{View}
use Rattle.lane_table.specs.WorldRule.{at, blank, known_of}
use Rattle.lane_table.specs.BookLists.{book_lists}
use Rattle.lane_table.specs.Advances.{step_of}
use Rattle.rng_core.specs.declared.setting.Setting.{Setting}
use Rattle.rng_core.specs.Traces.{knowing}
use Rattle.rng_core.specs.Makes.{setting_of}
use Rattle.rng_core.specs.VreadMakes.{VreadMakes, vread_meaning}
use Rattle.rng_core.proofs.Readings.{Stayed, stayed}
use Rattle.caller_run.specs.NumberedSteps.{numbered_steps_from}
use Rattle.caller_run.specs.Items.{items_from}
use Rattle.caller_run.specs.Ran.{Ran}
use Rattle.key_names.specs.Callers.LineSamples.{IsQuiet}
use Rattle.rng_core.specs.SampleEffects.{fast_in}
use Rattle.caller_run.specs.Done.{CallDone}
use Rattle.caller_run.proofs.Orders.Chains.{items_from_doings, unsplit, ran_went, ran_then}
use Rattle.caller_run.proofs.Orders.CallSteps.{own_items}
use Rattle.key_names.proofs.Transcripts.QuietForms.{sys}

-- if the view changed only by a look that the line does not record (`Stayed`), the pass made no step from v to w
pub ran_glanced : (caller : ℕ) (v w : View) → Stayed v w → Ran caller v w []
ran_glanced caller v w k =
    let same : (lane : ℕ) → at lane w ≡ at lane v = λ lane. ap (λ (l : List LaneView). get_or l lane blank) k.lanes in
    record {
      same = unsplit v w k.same;
      grows = λ lane low. ([], ap (λ (a : LaneView). a.known) (same lane) ∙ sym (append-nil (known_of v lane)));
      places = λ lane low. ap (λ (a : LaneView). a.places) (same lane) ∙ sym (append-nil (at lane v).places);
      made = λ lane low. let e = ap (λ (a : LaneView). a.made) (same lane) in omega arith;
      heard = λ lane low. ap (λ (a : LaneView). a.heard) (same lane);
      climbs = sym k.stamp;
      sees = k.floors;
      stood = tt;
    }

-- no step of a vread dumps a fast pool, or makes a dump due
module _ (fast : ℕ → ℕ → FastPool) where
  abbrev Quiet : List Effect → Type 0
  Quiet effects = AllByRecursion (IsQuiet fast) effects

  are : (xs ys : List Effect) → xs ≡ ys → Quiet ys → Quiet xs
  are xs ys same quiet = subst Quiet (sym same) quiet

  shows_quiet : (set : CallSetting) (steps : List HostStep) (effects : List Effect) → Shows set steps effects → Quiet effects
  shows_quiet set [] effects k = are effects [] k tt
  shows_quiet set (publishes g ∷ steps) effects k = are effects (looked k.0 ∷ k.1) k.2 (tt, shows_quiet set steps k.1 k.3.1)
  shows_quiet set (system_call n flags answer ∷ steps) effects k =
      are effects (k.call ++ k.rest) k.effects_are
      (each_append (IsQuiet fast) k.call k.rest (sys fast set n flags k.call k.form)
      (shows_quiet set steps k.rest k.goes_on))
  shows_quiet set (at_point point wiped ∷ steps) effects k = shows_quiet set steps effects k

  module _ (n flags : ℕ) (acts : List BoundAct) (m : CallMeaning) where
    by_call_quiet : ByVgetrandom n flags acts m → Quiet m.own.effects
    by_call_quiet k = shows_quiet m.before.setting k.steps m.own.effects k.shows

    after_look : (look : ℕ) (rest : List Effect) → m.own.effects ≡ looked look ∷ rest →
        LocalOrCall n flags acts m look rest →
        Quiet m.own.effects
    after_look look rest is k = go (serves_locally (published_by look) (current_state m.before) n) k
      where
        go : (b : Bool) → MatchBool b (ByLocalCopy n rest m) (ByVgetrandom n flags acts m) → Quiet m.own.effects
        go true k = are m.own.effects (looked look ∷ []) (is ∙ ap (λ (l : List Effect). looked look ∷ l) k.no_more) (tt, tt)
        go false k = by_call_quiet k

    pub vread_quiet : VreadMeans n flags acts m → Quiet m.own.effects
    vread_quiet k = go (tries_local n flags acts) k.done_by
      where
        go : (b : Bool) → MatchBool b (Looked (LocalOrCall n flags acts m) m.own.effects) (ByVgetrandom n flags acts m) →
            Quiet m.own.effects
        go true h = after_look h.0 h.1 h.2 h.3
        go false h = by_call_quiet h

-- suppose that the read took the pass's view from v to w, and that the read's line has the steps `steps`
module _ (set : Setting) (v w : View) (s : CallerState) (n flags : ℕ) (t : VgetrandomState) (answer : Answer)
    (shown : Shown)
    (word : Word) (steps : List Step) (same : s.setting ≡ setting_of set)
    (k : VreadMakes n flags (current_state s) t answer shown set (knowing v []) (knowing w steps)) where
  abbrev line : SeenLine
  line = record { caller = set.caller; event = set.event; word = word; answer = answer; steps = steps; shown = shown }

  abbrev meaning_by : List Effect → CallMeaning
  meaning_by effects = vread_meaning effects answer shown k.entries s t

  pub vread_done : CallDone set.caller v w s (with_state s t) (vread_call n flags line [])
  vread_done = record {
    numbered_steps = numbered_steps_from set.event 0 k.did.made_steps;
    ran = ran_then set.caller 0 0 v k.looked w [] (numbered_steps_from set.event 0 k.did.made_steps)
        (ran_glanced set.caller v k.looked (stayed n flags (current_state s) t answer shown set (knowing v [])
        (knowing w steps) k))
        (ran_went set.caller set.event 0 k.looked w k.did.made_steps k.did.recorded.went);
    order = items_from_doings set.event 0 k.did.made_steps
        ∙ ap (λ (l : List Step). items_from set.event 0 l) (sym k.did.recorded.trace)
        ∙ sym (own_items (items_from set.event 0 steps) [] (λ p. refl));
    meant = λ lanes visits callers c. record {
      meaning = meaning_by (effects_of (book_lists lanes visits callers) steps);
      before = refl;
      means = subst (λ (l : List Step). VreadMeans n flags []
          (meaning_by (effects_of (book_lists lanes visits callers) l)))
          (sym k.did.recorded.trace)
          (k.did.conforms lanes visits callers c s same refl);
      after = refl;
      effects = (refl, tt);
      answers = (refl, tt);
      shown = (refl, tt);
    };
    samples = λ lanes visits callers c. (
      inl (subst (λ (l : List Step). AllByRecursion (IsQuiet (fast_in visits))
          (effects_of (book_lists lanes visits callers) l))
          (sym k.did.recorded.trace)
          (vread_quiet (fast_in visits) n flags [] (meaning_by
          (effects_of (book_lists lanes visits callers) (map step_of k.did.made_steps)))
          (k.did.conforms lanes visits callers c s same refl))),
      tt,
    );
  }
