-- `changed` takes a function that gives each feeder a value, and replaces the value of one feeder.
use Rattle.std.proofs.Common.{◌≡◌, ◌≢◌, ◌⊎◌, inl, inr, ⊎_elim, ℕ, ◌==◌, cond, eq-eqb, ne_eqb, refl, ap}
use Rattle.std.proofs.lemmas.Bool.Decides.{eqb_tells}

pub same_or_not : (a b : ℕ) → (a ≡ b) ⊎ (a ≢ b)
same_or_not a b = ⊎_elim (λ t. inl t.1) (λ t. inr t.1) (eqb_tells a b)

module _ {A : Type 0} where
  abbrev pub changed : (ℕ → A) → ℕ → A → ℕ → A
  changed g feeder x n = cond (n == feeder) x (g n)

  pub changed_here : (g : ℕ → A) (feeder : ℕ) (x : A) → changed g feeder x feeder ≡ x
  changed_here g feeder x = ap (λ b. cond b x (g feeder)) (eq-eqb feeder feeder refl)

  pub changed_else : (g : ℕ → A) (feeder n : ℕ) (x : A) → n ≢ feeder → changed g feeder x n ≡ g n
  changed_else g feeder n x other = ap (λ b. cond b x (g n)) (ne_eqb n feeder other)
