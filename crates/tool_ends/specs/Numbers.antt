-- The words of a command that takes three numbers.
use Rattle.std.specs.Prelude.{ℕ, ◌≡◌, ◌≤◌, List, [], ◌∷◌, decimal}
use Rattle.tool_ends.specs.declared.numbers.CommandForm.{CommandForm}

-- `n` is within these bounds
abbrev pub IsWithin : ℕ × ℕ → ℕ → Type 0
IsWithin bounds n = (bounds.0 ≤ n) × (n ≤ bounds.1)

-- `texts` are the command's name and the numbers `a`, `b` and `c`, each within its bounds
pub record Asks (form : CommandForm) (texts : List (List ℕ)) (a b c : ℕ) : Type 0 where
  pub spelt : texts ≡ form.name.now ∷ decimal a ∷ decimal b ∷ decimal c ∷ []
  pub first_fits : IsWithin form.first a
  pub second_fits : IsWithin form.second b
  pub third_fits : IsWithin form.third c
