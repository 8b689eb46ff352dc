-- Each act inside a vgetrandom call has its meaning, and the samples of the act's line match their definition
-- (`SamplesConform`).
use Rattle.std.proofs.Common.{◌≡◌, ℕ, inl, Bool, true, false, List, [], ◌∷◌, map, refl, sym, ap, subst}
use Rattle.std.specs.Prelude.{if◌then◌else◌}
use Rattle.std.specs.List.{AllByRecursion}
use Rattle.key_names.specs.declared.events.Answer.TheVariants.{Unused}
use Rattle.key_names.specs.declared.events.Event.TheVariants.{Reseed as ReseedEvent}
use Rattle.key_names.specs.declared.events.InsideAct.{InsideAct}
use Rattle.key_names.specs.declared.events.InsideAct.TheVariants.{Wipe, Vread, Reseed}
use Rattle.key_names.specs.declared.names.Step.{Step}
use Rattle.key_names.specs.Lanes.Book.{Lists}
use Rattle.key_names.specs.Callers.Calls.{Setting as CallSetting}
use Rattle.key_names.specs.Callers.Effects.{effects_of}
use Rattle.key_names.specs.Kernel.FastPool.{FastPool}
use Rattle.key_names.specs.Transcripts.IsTranscript.{EachAct}
use Rattle.key_names.specs.Callers.Meaning.{LineMeaning, ActMeans, unused_line}
use Rattle.key_names.specs.Transcripts.SeenLine.{SeenLine, bytes_or_none, no_data}
use Rattle.lane_table.specs.declared.view.View.{View}
use Rattle.lane_table.specs.declared.view.Visit.{Visit}
use Rattle.lane_table.specs.BookLists.{StateLists, book_lists}
use Rattle.lane_table.specs.BookLaws.{Continues}
use Rattle.rng_core.specs.declared.setting.Setting.{Setting}
use Rattle.rng_core.specs.Makes.{setting_of, result_answer, given}
use Rattle.rng_core.specs.Acts.{Ask, ActOutcome, done_line}
use Rattle.rng_core.specs.InsideMakes.{act_line, bound_acts, outcome_line}
use Rattle.key_names.specs.Callers.LineSamples.{SamplesConform}
use Rattle.rng_core.specs.SampleEffects.{fast_in}
use Rattle.rng_core.proofs.ActRuns.{Meant, AllMeant}
use Rattle.key_names.proofs.Transcripts.QuietForms.{sys, form_samples}

module _ (set : Setting) (w : View) where
  -- suppose that P holds for the line and the meaning of any act for which `Meant` holds. If `AllMeant` holds for a
  -- list of acts, P holds for the line and the meaning of each of these acts
  module _ (lists : Lists) where
    pub each_act : (P : SeenLine → LineMeaning → Type 0) →
        ((a : Ask) (z : ActOutcome) → Meant set w a z → P (act_line set a z) (outcome_line lists z)) →
        (asks : List Ask) (zs : List ActOutcome) → AllMeant set w asks zs →
        EachAct P (bound_acts set asks zs) (map (outcome_line lists) zs)
    each_act P one [] [] all = tt
    each_act P one [] (z ∷ zs) all = absurd all
    each_act P one (a ∷ asks) [] all = absurd all
    each_act P one (a ∷ asks) (z ∷ zs) all = (one a z all.0, each_act P one asks zs all.1)

    pub act_effects : (a : Ask) (z : ActOutcome) → Meant set w a z → effects_of lists z.steps ≡ (outcome_line lists z).effects
    act_effects a z m = go z.done m.idle
      where
        go : (b : Bool) → (b ≡ false → z.steps ≡ []) →
            effects_of lists z.steps ≡ (if b then done_line (effects_of lists z.steps) z.answer z.bytes else
            unused_line).effects
        go true idle = refl
        go false idle = ap (effects_of lists) (idle refl)

    pub act_answer : (a : Ask) (z : ActOutcome) → Meant set w a z →
        (act_line set a z).answer ≡ (outcome_line lists z).answer
    act_answer a z m = go z.done
      where
        go : (b : Bool) → (if b then result_answer z.answer else Unused)
            ≡ (if b then done_line (effects_of lists z.steps) z.answer z.bytes else unused_line).answer
        go true = refl
        go false = refl

    pub act_shown : (a : Ask) (z : ActOutcome) → Meant set w a z →
        (act_line set a z).shown ≡ (outcome_line lists z).shown
    act_shown a z m = go z.done
      where
        go : (b : Bool) → (if b then bytes_or_none (given z.answer z.bytes) else no_data)
            ≡ (if b then done_line (effects_of lists z.steps) z.answer z.bytes else unused_line).shown
        go true = refl
        go false = refl

  -- no act makes a dump of a fast pool due, so the samples of the act's line match their definition
  module _ (lanes : ℕ) (visits : ℕ → List Visit) (callers : StateLists) (c : Continues lanes w visits) where
    abbrev fast : ℕ → ℕ → FastPool
    fast = fast_in visits

    abbrev lists_at : Lists
    lists_at = book_lists lanes visits callers

    abbrev Conform : List Step → Type 0
    Conform steps = SamplesConform fast (effects_of lists_at steps)

    none_conform : (steps : List Step) → steps ≡ [] → Conform steps
    none_conform steps none = subst Conform (sym none) (inl tt)

    act_samples : (recorded : CallSetting) (act : InsideAct) (m : LineMeaning) → ActMeans recorded act m →
        SamplesConform fast m.effects
    act_samples recorded Wipe m k = subst (λ (l : LineMeaning). SamplesConform fast l.effects) (sym k) (inl tt)
    act_samples recorded (Vread n) m k = inl (sys fast recorded n 0 m.effects k.0)
    act_samples recorded Reseed m k = form_samples fast recorded ReseedEvent m.effects tt k.0

    pub acts_samples : (asks : List Ask) (zs : List ActOutcome) → AllMeant set w asks zs →
        AllByRecursion (λ line. Conform line.steps) (map (λ bound. bound.line) (bound_acts set asks zs))
    acts_samples [] [] all = tt
    acts_samples [] (z ∷ zs) all = absurd all
    acts_samples (a ∷ asks) [] all = absurd all
    acts_samples (a ∷ asks) (z ∷ zs) all = (go z.done refl, acts_samples asks zs all.1)
      where
        go : (b : Bool) → z.done ≡ b → Conform z.steps
        go true is =
            act_samples (setting_of set) a.act (done_line (effects_of lists_at z.steps) z.answer z.bytes)
            (all.0.done is lanes visits callers c)
        go false is = none_conform z.steps (all.0.idle is)
