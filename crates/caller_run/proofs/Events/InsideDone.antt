-- A read out of a vgetrandom state with acts inside is one of the caller's calls: `CallDone` holds for it.
use Rattle.std.proofs.Common.{◌≡◌, ℕ, ◌<◌, List, [], ◌∷◌, length, map, refl, sym, subst, inl}
use Rattle.std.specs.List.{AllByRecursion}
use Rattle.key_names.specs.declared.events.Answer.{Answer}
use Rattle.key_names.specs.declared.events.Word.{Word}
use Rattle.key_names.specs.declared.names.Step.{Step}
use Rattle.key_names.specs.Lanes.Book.{Lists}
use Rattle.key_names.specs.Callers.Calls.{vread_call, BoundAct}
use Rattle.key_names.specs.Callers.Effects.{effects_of}
use Rattle.key_names.specs.Callers.Meaning.{CallerState, CallMeaning, VreadMeans, current_state, with_state}
use Rattle.key_names.specs.Transcripts.SeenLine.{SeenLine, Shown}
use Rattle.key_names.specs.Kernel.VgetrandomState.{VgetrandomState}
use Rattle.key_names.proofs.Lists.Each.{each_append}
use Rattle.lane_table.specs.declared.view.View.{View}
use Rattle.lane_table.specs.declared.view.Visit.{Visit}
use Rattle.lane_table.specs.BookLists.{StateLists, book_lists}
use Rattle.lane_table.specs.BookLaws.{Continues}
use Rattle.rng_core.specs.declared.vdso.attempt.Attempt.TheVariants.{Before}
use Rattle.rng_core.specs.declared.setting.Setting.{Setting}
use Rattle.rng_core.specs.Traces.{knowing}
use Rattle.rng_core.specs.Makes.{setting_of}
use Rattle.rng_core.specs.Acts.{Ask, ActOutcome}
use Rattle.rng_core.specs.Acting.{act_conform, InsideRan}
use Rattle.rng_core.specs.InsideMakes.{bound_acts, inside_meaning, InsideMakes}
use Rattle.key_names.specs.Callers.LineSamples.{SamplesConform}
use Rattle.rng_core.specs.SampleEffects.{fast_in}
use Rattle.rng_core.proofs.ActRuns.{AllMeant}
use Rattle.rng_core.proofs.Acting.{acted_meant}
use Rattle.rng_core.proofs.InsideCalls.{IsUndone, undone_meant}
use Rattle.caller_run.specs.Done.{CallDone}
use Rattle.caller_run.specs.Items.{line_items, vread_items}
use Rattle.caller_run.proofs.Events.ActSteps.{all_untouched}
use Rattle.caller_run.proofs.Events.ActsMeant.{each_act, act_effects, act_answer, act_shown, acts_samples}
use Rattle.caller_run.proofs.Events.InsidePath.{inside_part}
use Rattle.caller_run.proofs.Orders.PartItems.{Part}
use Rattle.caller_run.proofs.Events.VreadDone.{vread_quiet}

-- suppose that the read took the pass's view from v to w, and that the read's line has the steps `steps`. None of the
-- acts inside was done before the read
module _ (set : Setting) (v w : View) (s : CallerState) (n flags : ℕ) (t : VgetrandomState) (answer : Answer)
    (shown : Shown)
    (word : Word) (steps : List Step) (asks : List Ask) (xs zs : List ActOutcome) (same : s.setting ≡ setting_of set)
    (fresh : AllByRecursion IsUndone xs) (long : length xs ≡ length asks) (two : 1 < length v.lanes)
    (did : InsideMakes n flags (current_state s) t answer shown set (knowing v []) (knowing w steps) asks zs)
    (ran : InsideRan n flags (current_state s) t
    (act_conform (record { set = set; moment = knowing v [] }) Before asks xs)
    (λ last. act_conform (record { set = set; moment = knowing w steps }) last asks zs)) where
  abbrev line : SeenLine
  line = record { caller = set.caller; event = set.event; word = word; answer = answer; steps = steps; shown = shown }

  abbrev acts : List BoundAct
  acts = bound_acts set asks zs

  meant : AllMeant set w asks zs
  meant = acted_meant ran.steps set asks
      (act_conform (record { set = set; moment = knowing v [] }) Before asks xs)
      (act_conform (record { set = set; moment = knowing w steps }) ran.last asks zs) refl refl
      ran.does
      (undone_meant set v asks xs fresh long)

  part : Part set.caller v w (vread_items (line_items line) acts)
  part = inside_part set asks n flags (current_state s) ran.steps ran.outcome
      (record { moment = knowing v []; outcomes = xs })
      (record { moment = knowing w steps; outcomes = zs }) ran.last two
      (λ p. all_untouched p asks xs fresh) refl ran.is_call ran.does

  abbrev meaning_by : Lists → CallMeaning
  meaning_by lists = inside_meaning lists (effects_of lists steps) answer shown did.entries zs s t

  means : (lanes : ℕ) (visits : ℕ → List Visit) (callers : StateLists) → Continues lanes w visits →
      VreadMeans n flags acts (meaning_by (book_lists lanes visits callers))
  means lanes visits callers c =
      let lists = book_lists lanes visits callers in
      subst (λ (l : List Step). VreadMeans n flags acts
      (inside_meaning lists (effects_of lists l) answer shown did.entries zs s t))
      (sym did.trace) (did.conforms lanes visits callers c s same refl)

  pub inside_done : CallDone set.caller v w s (with_state s t) (vread_call n flags line acts)
  inside_done = record {
    numbered_steps = part.numbered_steps;
    ran = part.ran;
    order = part.order;
    meant = λ lanes visits callers c. let lists = book_lists lanes visits callers in record {
      meaning = meaning_by lists;
      before = refl;
      means = means lanes visits callers c;
      after = refl;
      effects = (refl, each_act set w lists _ (act_effects set w lists) asks zs meant);
      answers = (refl, each_act set w lists _ (act_answer set w lists) asks zs meant);
      shown = (refl, each_act set w lists _ (act_shown set w lists) asks zs meant);
    };
    samples = λ lanes visits callers c. let lists = book_lists lanes visits callers in
        each_append (λ (l : SeenLine). SamplesConform (fast_in visits) (effects_of lists l.steps))
        (map (λ (b : BoundAct). b.line) acts)
        (line ∷ [])
        (acts_samples set w lanes visits callers c asks zs meant)
        (inl (vread_quiet (fast_in visits) n flags acts (meaning_by lists) (means lanes visits callers c)), tt);
  }
