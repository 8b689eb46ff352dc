-- The spelling of a value at the start of a text.
use Rattle.std.specs.Prelude.{ℕ, ◌≡◌, ◌≢◌, ◌<◌, ◌≤◌, ⊤, List, [], ◌∷◌, ◌++◌, length, take, drop}
use Rattle.std.specs.Char.{digit_value}
use Rattle.std.specs.Str.Parse.{AllDigits, digits_value}

-- the text does not begin with a digit
abbrev pub EndsNumber : List ℕ → Type 0
EndsNumber [] = ⊤
EndsNumber (b ∷ text) = digit_value b < 10 → ⊥

-- `x` fits, and `text` is the spelling of `x` and then `rest`. If the spelling of a fitting value begins the text, and
-- no digit follows, that value is `x`.
pub record IsFront {X : Type 0} (spelling : X → List ℕ) (Fits : X → Type 0) (text : List ℕ) (x : X)
    (rest : List ℕ) : Type 0 where
  pub fits : Fits x
  pub whole : text ≡ spelling x ++ rest
  pub only : (y : X) (other : List ℕ) → Fits y → EndsNumber other → text ≡ spelling y ++ other
      → (y ≡ x) × (rest ≡ other)

-- if the text begins with the spelling of a fitting value, a digit follows that spelling
abbrev pub NoFront : {X : Type 0} → (X → List ℕ) → (X → Type 0) → List ℕ → Type 0
NoFront {X} spelling Fits text = (x : X) (other : List ℕ) → Fits x → EndsNumber other → text ≢ spelling x ++ other

-- the text begins with `len` digits, which spell `value`; more digits may follow
pub record BeginsDigits (text : List ℕ) (value len : ℕ) : Type 0 where
  pub within : len ≤ length text
  pub digits : AllDigits 10 (take len text)
  pub value_is : value ≡ digits_value 10 (take len text)

-- the text begins with exactly `len` digits, which spell `value`
pub record IsDigits (text : List ℕ) (value len : ℕ) : Type 0 where
  pub begins : BeginsDigits text value len
  pub ends : EndsNumber (drop len text)
