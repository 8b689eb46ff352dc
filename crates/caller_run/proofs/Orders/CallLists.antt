-- If each kind of call preserves a fact, the fact holds for all events, lines and calls of a caller.
use Rattle.std.proofs.Common.{◌≡◌, ℕ, suc, Bool, true, false, List, [], ◌∷◌, ◌++◌, refl, sym, subst}
use Rattle.std.specs.Prelude.{if◌then◌else◌}
use Rattle.key_names.specs.declared.events.Event.{Event}
use Rattle.key_names.specs.declared.events.Event.TheVariants.{Vread, Inside}
use Rattle.key_names.specs.declared.events.Word.TheVariants.{End as EndWord}
use Rattle.key_names.specs.Texts.ScriptGrammar.{event_word}
use Rattle.key_names.specs.Transcripts.SeenLine.{SeenLine}
use Rattle.key_names.specs.Callers.Calls.{Call, alone, vread_call, unbound, ending, BoundAct, has_vread, calls_from, calls_of}
use Rattle.key_names.specs.Transcripts.IsTranscript.{LineIs, LinesFit}

abbrev pub Kept : Type 1
Kept = List BoundAct → List Event → List SeenLine → List Call → Type 0

-- each kind of call of caller c preserves P. P is a fact about the waiting acts, the events with their lines, and the
-- events' calls
pub record Keeps (c : ℕ) (P : Kept) : Type 0 where
  pub ends : (n : ℕ) (line : SeenLine) → LineIs c n EndWord line → P [] [] (line ∷ []) (ending line ∷ [])
  pub does : (waiting : List BoundAct) (n : ℕ) (event : Event) (es : List Event) (line : SeenLine)
      (lines : List SeenLine) (calls : List Call) → LineIs c n (event_word event) line → P waiting es lines calls →
      P waiting (event ∷ es) (line ∷ lines) (alone event line ∷ calls)
  pub reads : (waiting : List BoundAct) (n len flags : ℕ) (es : List Event) (line : SeenLine)
      (lines : List SeenLine) (calls : List Call) → LineIs c n (event_word (Vread len flags)) line →
      P [] es lines calls → P waiting (Vread len flags ∷ es) (line ∷ lines) (vread_call len flags line waiting ∷ calls)
  pub waits : (waiting : List BoundAct) (n : ℕ) (bound : BoundAct) (es : List Event) (lines : List SeenLine)
      (calls : List Call) → LineIs c n (event_word (Inside bound.point bound.act)) bound.line →
      P (waiting ++ bound ∷ []) es lines calls →
      P waiting (Inside bound.point bound.act ∷ es) (bound.line ∷ lines) calls
  pub idles : (waiting : List BoundAct) (n : ℕ) (bound : BoundAct) (es : List Event) (lines : List SeenLine)
      (calls : List Call) → LineIs c n (event_word (Inside bound.point bound.act)) bound.line →
      P waiting es lines calls →
      P waiting (Inside bound.point bound.act ∷ es) (bound.line ∷ lines) (unbound bound ∷ calls)

module _ (c : ℕ) (P : Kept) (k : Keeps c P) where
  -- if the lines fit the events from event n on, and acts wait only if a vread follows, P holds for these events
  kept_from : (n : ℕ) (waiting : List BoundAct) (events : List Event) (lines : List SeenLine) →
      (has_vread events ≡ false → waiting ≡ []) → LinesFit c n events lines →
      P waiting events lines (calls_from waiting events lines)
  kept_from n waiting [] [] none fit = absurd fit
  kept_from n waiting [] (line ∷ []) none fit =
      let Q : List BoundAct → Type 0 = λ acts. P acts [] (line ∷ []) (ending line ∷ []) in
      subst Q (sym (none refl)) (k.ends n line fit)
  kept_from n waiting [] (line ∷ more ∷ lines) none fit = absurd fit
  kept_from n waiting (event ∷ es) [] none fit = absurd fit
  kept_from n waiting (Vread len flags ∷ es) (line ∷ lines) none fit =
      k.reads waiting n len flags es line lines (calls_from [] es lines) fit.0
      (kept_from (suc n) [] es lines (λ e. refl) fit.1)
  kept_from n waiting (Inside point act ∷ es) (line ∷ lines) none fit =
      let bound : BoundAct = record { point = point; act = act; line = line } in
      by_test (has_vread es) refl bound fit.0
      (λ has. kept_from (suc n) (waiting ++ bound ∷ []) es lines (λ e. cc) fit.1)
      (λ not. kept_from (suc n) waiting es lines none fit.1)
    where
      by_test : (b : Bool) → has_vread es ≡ b → (bound : BoundAct) →
          LineIs c n (event_word (Inside bound.point bound.act)) bound.line →
          (has_vread es ≡ true → P (waiting ++ bound ∷ []) es lines (calls_from (waiting ++ bound ∷ []) es lines)) →
          (has_vread es ≡ false → P waiting es lines (calls_from waiting es lines)) →
          P waiting (Inside bound.point bound.act ∷ es) (bound.line ∷ lines)
          (if has_vread es then calls_from (waiting ++ bound ∷ []) es lines else
          unbound bound ∷ calls_from waiting es lines)
      by_test true is bound line has not =
          let Q : Bool → Type 0 = λ b. P waiting (Inside bound.point bound.act ∷ es) (bound.line ∷ lines)
          (if b then calls_from (waiting ++ bound ∷ []) es lines else unbound bound ∷ calls_from waiting es lines) in
          subst Q (sym is) (k.waits waiting n bound es lines (calls_from (waiting ++ bound ∷ []) es lines) line
          (has is))
      by_test false is bound line has not =
          let Q : Bool → Type 0 = λ b. P waiting (Inside bound.point bound.act ∷ es) (bound.line ∷ lines)
          (if b then calls_from (waiting ++ bound ∷ []) es lines else unbound bound ∷ calls_from waiting es lines) in
          subst Q (sym is) (k.idles waiting n bound es lines (calls_from waiting es lines) line (not is))
  kept_from n waiting (event ∷ es) (line ∷ lines) none fit =
      k.does waiting n event es line lines (calls_from waiting es lines) fit.0
      (kept_from (suc n) waiting es lines none fit.1)

  -- P holds for a caller's calls
  pub kept : (events : List Event) (lines : List SeenLine) → LinesFit c 0 events lines →
      P [] events lines (calls_of events lines)
  kept events lines fit = kept_from 0 [] events lines (λ e. refl) fit
