-- Writing steps one after another, with commas between them, writes `steps_text`.
use Rattle.std.proofs.Common.{◌≡◌, ℕ, true, false, ◌==◌, List, [], ◌∷◌, ◌++◌, length, refl, sym, ap, ◌∙◌, append_assoc, append-nil, eqb-true, arith}
use Rattle.std.specs.Prelude.{codes}
use Rattle.std.specs.List.{flat_map}
use Rattle.key_names.specs.declared.names.Step.{Step}
use Rattle.key_names.specs.Texts.TranscriptGrammar.{step_text, steps_text}

-- the text that a step adds after another step: a comma, and the step's text
abbrev pub next_text : Step → List ℕ
next_text step = codes "," ++ step_text step

pub steps_text-cons : (step : Step) (steps : List Step)
    → steps_text (step ∷ steps) ≡ step_text step ++ flat_map next_text steps
unfolding steps_text
steps_text-cons step [] = sym (append-nil (step_text step))
steps_text-cons step (next ∷ steps) = rw (steps_text-cons next steps)
    (append_assoc (step_text step) (codes ",") (step_text next ++ flat_map next_text steps)
    ∙ ap (λ (x : List ℕ). step_text step ++ x) (sym (append_assoc (codes ",") (step_text next)
    (flat_map next_text steps))))

-- the text of the steps, with the byte `before` before the first step and a comma before each other step
unfoldable pub steps_after : ℕ → List Step → List ℕ
steps_after before [] = []
steps_after before (step ∷ steps) = before ∷ (step_text step ++ flat_map next_text steps)

after_comma : (steps : List Step) → steps_after 44 steps ≡ flat_map next_text steps
unfolding steps_after
after_comma [] = refl
after_comma (step ∷ steps) = refl

pub some_steps : (before : ℕ) (steps : List Step) → false ≡ (length steps == 0)
    → steps_after before steps ≡ before ∷ steps_text steps
unfolding steps_after
some_steps before [] some = absurd cc
some_steps before (step ∷ steps) some = ap (λ (x : List ℕ). before ∷ x) (sym (steps_text-cons step steps))

pub no_steps : (old new : List ℕ) (steps : List Step) → true ≡ (length steps == 0) → new ≡ old ++ codes " -"
    → new ≡ old ++ (codes " " ++ steps_text steps)
unfolding steps_text
no_steps old new [] none e = e
no_steps old new (step ∷ steps) none e = absurd (omega (arith, eqb-true (length (step ∷ steps)) 0 (sym none)))

pub next_step : (before : ℕ) (old pushed new : List ℕ) (step : Step) (steps : List Step)
    → pushed ≡ old ++ before ∷ [] → new ≡ pushed ++ step_text step
    → new ++ steps_after 44 steps ≡ old ++ steps_after before (step ∷ steps)
unfolding steps_after
next_step before old pushed new step steps e f = let rest = flat_map next_text steps in
    rw (f, e, after_comma steps) (append_assoc (old ++ before ∷ []) (step_text step) rest
    ∙ append_assoc old (before ∷ []) (step_text step ++ rest))
