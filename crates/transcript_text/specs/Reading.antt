-- What a reader of a value returns for a text.
use Rattle.std.specs.Prelude.{ℕ, ◌≡◌, ◌≢◌, ◌≤◌, ◌==◌, ◌&&◌, Bool, true, not, List, [], ◌∷◌, Option, MatchOption, length}
use Rattle.std.specs.List.{AllByRecursion}
use Rattle.key_names.specs.declared.names.Step.{Step}
use Rattle.key_names.specs.Texts.TranscriptGrammar.{StepFits}

-- whether no byte of the text equals `byte`
abbrev pub lacks : ℕ → List ℕ → Bool
lacks byte [] = true
lacks byte (b ∷ text) = not (b == byte) && lacks byte text

-- `answer` is a value that fits and whose spelling is `text`, or None if no such value exists
abbrev pub Reads : {X : Type 0} → (X → List ℕ) → (X → Type 0) → List ℕ → Option X → Type 0
Reads {X} spelling Fits text answer = MatchOption answer ((x : X) → Fits x → text ≢ spelling x) (λ x. Fits x
    × (text ≡ spelling x))

-- the steps of a line are at most twenty, each with its numbers in range
pub record StepsFit (steps : List Step) : Type 0 where
  pub few : length steps ≤ 20
  pub each : AllByRecursion StepFits steps
