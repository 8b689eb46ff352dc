-- A caller's lines, after a vread replaced the lines of the acts that waited for it.
use Rattle.std.proofs.Common.{◌≡◌, ℕ, zero, suc, Some, ◌<◌, ◌⊎◌, inl, inr, List, [], ◌∷◌, ◌++◌, length, refl, sym, ap, ◌∙◌, subst, arith, length-append}
use Rattle.std.specs.Prelude.{slice_get, slice_set}
use Rattle.std.specs.List.{AllByRecursion}
use Rattle.std.proofs.lemmas.List.{set-append_left, length-set}
use Rattle.key_names.specs.declared.events.Event.{Event}
use Rattle.key_names.specs.declared.events.Word.TheVariants.{End as EndWord, Inside as InsideWord}
use Rattle.key_names.specs.Callers.Calls.{BoundAct}
use Rattle.key_names.specs.Transcripts.IsTranscript.{LineIs, LinesFit}
use Rattle.key_names.specs.Texts.ScriptGrammar.{event_word}
use Rattle.key_names.specs.Transcripts.SeenLine.{SeenLine}
use Rattle.key_names.proofs.Lists.Growing.{front_stays}
use Rattle.std.proofs.lemmas.Option.{slice_get_within}
use Rattle.key_names.specs.declared.events.Word.{Word}
use Rattle.key_names.proofs.Lists.Each.{each_weaker}
use Rattle.rng_core.specs.declared.setting.Setting.{Setting}
use Rattle.rng_core.specs.Acts.{Ask, ActOutcome}
use Rattle.rng_core.specs.InsideMakes.{act_line, bound_acts}
use Rattle.caller_run.specs.Waiting.{emitted_anew, act_lines, bound_by, all_bound}
use Rattle.caller_run.specs.Standing.{HasLine}
use Rattle.std.proofs.Math.Seq.{set-append_seam}

abbrev pub AreEmitted : ℕ → List Ask → Type 0
AreEmitted count asks = AllByRecursion (λ a. a.event < count) asks

pub anew_long : (lines : List SeenLine) (asks : List Ask) (acts : List SeenLine) →
    length (emitted_anew lines asks acts) ≡ length lines
anew_long lines [] acts = refl
anew_long lines (a ∷ asks) [] = refl
anew_long lines (a ∷ asks) (l ∷ acts) = anew_long (slice_set lines a.event l) asks acts ∙ length-set lines a.event l

-- if each waiting act has a line among `lines`, replacing these lines leaves `more`, the lines after `lines`, unchanged
pub anew_front : (lines more : List SeenLine) (asks : List Ask) (acts : List SeenLine) → AreEmitted (length lines) asks →
    emitted_anew (lines ++ more) asks acts ≡ emitted_anew lines asks acts ++ more
anew_front lines more [] acts recorded = refl
anew_front lines more (a ∷ asks) [] recorded = refl
anew_front lines more (a ∷ asks) (l ∷ acts) recorded =
    ap (λ (ls : List SeenLine). emitted_anew ls asks acts) (set-append_left lines more a.event l recorded.0)
    ∙ anew_front (slice_set lines a.event l) more asks acts
    (subst (λ (n : ℕ). AreEmitted n asks) (sym (length-set lines a.event l)) recorded.1)

-- if the last line is the line of the last waiting act, `emitted_anew` puts the act's new line there
pub anew_last : (lines : List SeenLine) (idle line : SeenLine) (asks : List Ask) (x : Ask) (acts : List SeenLine) →
    x.event ≡ length lines →
    AreEmitted (length lines) asks → length acts ≡ length asks →
    emitted_anew (lines ++ idle ∷ []) (asks ++ x ∷ []) (acts ++ line ∷ []) ≡ emitted_anew lines asks acts ++ line ∷ []
anew_last lines idle line [] x [] at recorded many =
    ap (λ (i : ℕ). slice_set (lines ++ idle ∷ []) i line) at ∙ set-append_seam lines idle [] line
anew_last lines idle line [] x (l ∷ acts) at recorded many = absurd (omega arith)
anew_last lines idle line (a ∷ asks) x [] at recorded many = absurd (omega arith)
anew_last lines idle line (a ∷ asks) x (l ∷ acts) at recorded many =
    ap (λ (ls : List SeenLine). emitted_anew ls (asks ++ x ∷ []) (acts ++ line ∷ []))
    (set-append_left lines (idle ∷ []) a.event l recorded.0)
    ∙ anew_last (slice_set lines a.event l) idle line asks x acts (at ∙ sym (length-set lines a.event l))
    (subst (λ (n : ℕ). AreEmitted n asks) (sym (length-set lines a.event l)) recorded.1) (omega arith)

-- if each waiting act has a line among `lines`, each has one among `lines` with `line` appended
pub emitted_more : (lines : List SeenLine) (line : SeenLine) (asks : List Ask) → AreEmitted (length lines) asks →
    AreEmitted (length (lines ++ line ∷ [])) asks
emitted_more lines line asks recorded =
    each_weaker (λ (a : Ask). a.event < length lines) (λ a. a.event < length (lines ++ line ∷ [])) asks
    (λ a low. omega (arith, length-append lines (line ∷ []))) recorded

-- the line `new` has the caller, the event and the word of `old`, so it fits in the place of `old`
module _ (old new : SeenLine) (caller : new.caller ≡ old.caller) (event : new.event ≡ old.event)
    (word : new.word ≡ old.word) where
  is_too : (c n : ℕ) (w : Word) (line : SeenLine) → line ≡ old → LineIs c n w line → LineIs c n w new
  is_too c n w line same is =
      let k = subst (LineIs c n w) same is in
      record { caller = caller ∙ k.caller; event = event ∙ k.event; word_is = word ∙ k.word_is }

  fit_set : (c n : ℕ) (events : List Event) (lines : List SeenLine) (i : ℕ) → slice_get lines i ≡ Some old →
      LinesFit c n events lines → LinesFit c n events (slice_set lines i new)
  fit_set c n [] [] i there fit = absurd fit
  fit_set c n [] (line ∷ []) zero there fit = let same : line ≡ old = cc in is_too c n EndWord line same fit
  fit_set c n [] (line ∷ []) (suc i) there fit = fit
  fit_set c n [] (line ∷ more ∷ lines) i there fit = absurd fit
  fit_set c n (e ∷ events) [] i there fit = absurd fit
  fit_set c n (e ∷ events) (line ∷ lines) zero there fit = let same : line ≡ old = cc in
      (is_too c n (event_word e) line same fit.0, fit.1)
  fit_set c n (e ∷ events) (line ∷ lines) (suc i) there fit = (fit.0, fit_set c (suc n) events lines i there fit.1)

-- suppose that line j is `old`. After line i was set to `new`, line j is still `old`, or i is j and line j is `new`
get_set : (lines : List SeenLine) (i j : ℕ) (old new : SeenLine) → slice_get lines j ≡ Some old →
    ((i ≡ j) × (slice_get (slice_set lines i new) j ≡ Some new)) ⊎ (slice_get (slice_set lines i new) j ≡ Some old)
get_set [] i j old new there = absurd (cc there)
get_set (l ∷ lines) zero zero old new there = inl (refl, refl)
get_set (l ∷ lines) zero (suc j) old new there = inr there
get_set (l ∷ lines) (suc i) zero old new there = inr there
get_set (l ∷ lines) (suc i) (suc j) old new there = elim (get_set lines i j old new there) [
  | inl here ↦ inl (ap suc here.0, here.1)
  | inr there ↦ inr there
]

module _ (caller : ℕ) where
  abbrev Idle : List SeenLine → List Ask → Type 0
  Idle lines asks = AllByRecursion (HasLine caller lines) asks

  pub idle_more : (lines : List SeenLine) (line : SeenLine) (asks : List Ask) → Idle lines asks →
      Idle (lines ++ line ∷ []) asks
  idle_more lines line asks idle =
      each_weaker (HasLine caller lines) (HasLine caller (lines ++ line ∷ [])) asks
      (λ a has. record {
        line = has.line;
        there = (front_stays lines (line ∷ []) a.event has.line has.there).entry;
        is = has.is;
      }) idle

  idle_set : (lines : List SeenLine) (i : ℕ) (line : SeenLine) (asks : List Ask) → LineIs caller i InsideWord line →
      Idle lines asks →
      Idle (slice_set lines i line) asks
  idle_set lines i line asks is idle =
      each_weaker (HasLine caller lines) (HasLine caller (slice_set lines i line)) asks
      (λ a has. elim (get_set lines i a.event has.line line has.there) [
        | inl here ↦ record {
          line = line;
          there = here.1;
          is = subst (λ (n : ℕ). LineIs caller n InsideWord line) here.0 is;
        }
        | inr there ↦ record { line = has.line; there = there; is = has.is }
      ]) idle

  pub idle_emitted : (lines : List SeenLine) (asks : List Ask) → Idle lines asks → AreEmitted (length lines) asks
  idle_emitted lines asks idle =
      each_weaker (HasLine caller lines) (λ (a : Ask). a.event < length lines) asks
      (λ a has. slice_get_within lines a.event has.line has.there) idle

  -- if lines fit the events, they still fit after the lines of the acts `asks` are replaced
  module _ (set : Setting) (own : set.caller ≡ caller) (events : List Event) where
    pub fit_anew : (asks : List Ask) (zs : List ActOutcome) (lines more : List SeenLine) → Idle lines asks →
        LinesFit caller 0 events (lines ++ more) →
        LinesFit caller 0 events (emitted_anew lines asks (act_lines set asks zs) ++ more)
    fit_anew [] zs lines more idle fit = fit
    fit_anew (a ∷ asks) [] lines more idle fit = fit
    fit_anew (a ∷ asks) (z ∷ zs) lines more idle fit =
        let line : SeenLine = act_line set a z in
        let has : HasLine caller lines a = idle.0 in
        let low = (idle_emitted lines (a ∷ asks) idle).0 in
        fit_anew asks zs (slice_set lines a.event line) more
        (idle_set lines a.event line asks (record { caller = own; event = refl; word_is = refl }) idle.1)
        (subst (LinesFit caller 0 events) (set-append_left lines more a.event line low)
        (fit_set has.line line (own ∙ sym has.is.caller) (sym has.is.event) (sym has.is.word_is) caller 0 events
        (lines ++ more) a.event
        (front_stays lines more a.event has.line has.there).entry fit))

pub lines_long : (set : Setting) (asks : List Ask) (zs : List ActOutcome) → length zs ≡ length asks →
    length (act_lines set asks zs) ≡ length asks
lines_long set [] zs long = refl
lines_long set (a ∷ asks) [] long = absurd (omega arith)
lines_long set (a ∷ asks) (z ∷ zs) long = let e = lines_long set asks zs (omega arith) in omega arith

pub bound_same : (set : Setting) (asks : List Ask) (zs : List ActOutcome) →
    all_bound asks (act_lines set asks zs) ≡ bound_acts set asks zs
bound_same set [] zs = refl
bound_same set (a ∷ asks) [] = refl
bound_same set (a ∷ asks) (z ∷ zs) = ap (λ (bs : List BoundAct). bound_by a (act_line set a z) ∷ bs)
    (bound_same set asks zs)
