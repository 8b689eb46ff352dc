-- The clauses on lines and marks hold for a transcript exactly if they hold for its lines without answers and data.
use Rattle.std.proofs.Common.{◌≡◌, ℕ, suc, List, [], ◌∷◌, map, refl, sym, subst, ap, ◌∙◌}
use Rattle.std.specs.Prelude.{◌↔◌}
use Rattle.std.specs.List.{AllByRecursion}
use Rattle.key_names.specs.declared.names.Step.{Step}
use Rattle.key_names.specs.declared.events.Event.{Event}
use Rattle.key_names.specs.declared.events.Word.{Word}
use Rattle.key_names.specs.declared.events.Word.TheVariants.{End as EndWord}
use Rattle.key_names.specs.Texts.ScriptGrammar.{Script, event_word}
use Rattle.key_names.specs.Transcripts.SeenLine.{SeenLine}
use Rattle.key_names.specs.Transcripts.SameSteps.{bare, SameSteps}
use Rattle.key_names.specs.Callers.History.{stamps_of, caller_orders}
use Rattle.key_names.specs.Transcripts.IsTranscript.{LineIs, LinesFit, EachCaller, HasLines, MarkBy, lane_marks, Rises}
use Rattle.key_names.specs.Transcripts.IsTranscript.{PlacesConform, MarksConform, script_calls}
use Rattle.key_names.proofs.Unique.BareLines.{bare_all, bare_marks, bare_orders}

to_bare : (c n : ℕ) (word : Word) (l : SeenLine) → LineIs c n word l → LineIs c n word (bare l)
to_bare c n word l is = record { caller = is.caller; event = is.event; word_is = is.word_is }

from_bare : (c n : ℕ) (word : Word) (l : SeenLine) → LineIs c n word (bare l) → LineIs c n word l
from_bare c n word l is = record { caller = is.caller; event = is.event; word_is = is.word_is }

lines_bare : (c n : ℕ) (es : List Event) (ls : List SeenLine) → LinesFit c n es ls → LinesFit c n es (map bare ls)
lines_bare c n [] [] fit = fit
lines_bare c n [] (l ∷ []) fit = to_bare c n EndWord l fit
lines_bare c n [] (l ∷ k ∷ ls) fit = fit
lines_bare c n (e ∷ es) [] fit = fit
lines_bare c n (e ∷ es) (l ∷ ls) fit = (to_bare c n (event_word e) l fit.0, lines_bare c (suc n) es ls fit.1)

bare_lines : (c n : ℕ) (es : List Event) (ls : List SeenLine) → LinesFit c n es (map bare ls) → LinesFit c n es ls
bare_lines c n [] [] fit = fit
bare_lines c n [] (l ∷ []) fit = from_bare c n EndWord l fit
bare_lines c n [] (l ∷ k ∷ ls) fit = fit
bare_lines c n (e ∷ es) [] fit = fit
bare_lines c n (e ∷ es) (l ∷ ls) fit = (from_bare c n (event_word e) l fit.0, bare_lines c (suc n) es ls fit.1)

abbrev Fits : ℕ → List Event → List SeenLine → Type 0
Fits c es ls = LinesFit c 0 es ls

callers_bare : (c : ℕ) (ess : List (List Event)) (t : List (List SeenLine)) → EachCaller Fits c ess t →
    EachCaller Fits c ess (map (map bare) t)
callers_bare c [] [] fit = tt
callers_bare c [] (ls ∷ t) fit = absurd fit
callers_bare c (es ∷ ess) [] fit = absurd fit
callers_bare c (es ∷ ess) (ls ∷ t) fit = (lines_bare c 0 es ls fit.0, callers_bare (suc c) ess t fit.1)

bare_callers : (c : ℕ) (ess : List (List Event)) (t : List (List SeenLine)) → EachCaller Fits c ess (map (map bare) t) →
    EachCaller Fits c ess t
bare_callers c [] [] fit = tt
bare_callers c [] (ls ∷ t) fit = absurd fit
bare_callers c (es ∷ ess) [] fit = absurd fit
bare_callers c (es ∷ ess) (ls ∷ t) fit = (bare_lines c 0 es ls fit.0, bare_callers (suc c) ess t fit.1)

pub lines_both : (script : Script) (t : List (List SeenLine)) → HasLines script (map (map bare) t) ↔ HasLines script t
lines_both script t = (bare_callers 0 script.callers t, callers_bare 0 script.callers t)

pub orders_both : (script : Script) (t : List (List SeenLine)) →
    caller_orders (script_calls script (map (map bare) t)) ≡ caller_orders (script_calls script t)
orders_both script t =
    ap caller_orders (bare_all script.callers t) ∙ bare_orders (script_calls script t)

pub marks_both : (script : Script) (t : List (List SeenLine)) →
    MarksConform script (map (map bare) t) ↔ MarksConform script t
marks_both script t = (
  (λ m. record {
    lanes = λ lane. subst (λ (ms : List MarkBy). PlacesConform (lane_marks lane ms)) (bare_marks t) (m.lanes lane);
    callers = subst (λ (orders : List (List Step)). AllByRecursion (λ order. Rises (stamps_of order)) orders)
        (orders_both script t) m.callers;
  }),
  (λ m. record {
    lanes = λ lane. subst (λ (ms : List MarkBy). PlacesConform (lane_marks lane ms)) (sym (bare_marks t)) (m.lanes lane);
    callers = subst (λ (orders : List (List Step)). AllByRecursion (λ order. Rises (stamps_of order)) orders)
        (sym (orders_both script t)) m.callers;
  }),
)

-- a line from which the answer and the data are removed does not change if they are removed again
bare_twice : (ls : List SeenLine) → map bare (map bare ls) ≡ map bare ls
bare_twice [] = refl
bare_twice (l ∷ ls) = ap (λ ks. bare l ∷ ks) (bare_twice ls)

pub same_bare : (t : List (List SeenLine)) → SameSteps (map (map bare) t) t
same_bare [] = refl
same_bare (ls ∷ t) = λ i. bare_twice ls i ∷ same_bare t i
