-- The words that a draw accepts, the draw's answer, and how often each answer comes.
use Rattle.std.specs.Prelude.{◌≡◌, ◌<◌, ◌≤◌, ◌==◌, ◌+◌, ◌-◌, ◌*◌, ◌/◌, ◌%◌, ◌^◌, ℕ, zero, suc, Bool, true, false, List, [], ◌∷◌, ◌++◌, if◌then◌else◌, nat_le, length, Result, Ok, Err}
use Rattle.std.specs.List.{AllByRecursion}
use Rattle.draw_below.specs.declared.draws.DrawSpent.{DrawSpent}

-- whether the word `r` is accepted for the bound `c`
abbrev pub accepts : ℕ → ℕ → Bool
accepts c r = if c == 0 then true else nat_le (2 ^ 32 % c) (c * r % 2 ^ 32)

-- the value of the word `r` for the bound `c`
abbrev pub value_of : ℕ → ℕ → ℕ
value_of c r = if c == 0 then r else c * r / 2 ^ 32

-- whether the word `r` is accepted for the bound `c` and has the value `v`
abbrev pub gives_value : ℕ → ℕ → ℕ → Bool
gives_value c v r = if accepts c r then value_of c r == v else false

-- how many words below `n` are accepted for the bound `c` and have the value `v`
unfoldable pub count : ℕ → ℕ → ℕ → ℕ
count c v zero = 0
count c v (suc r) = count c v r + (if gives_value c v r then 1 else 0)

-- each value below the bound has the same number of accepted 32-bit words: 2^32 divided by the bound, rounded down
abbrev pub EachValueIsAsLikely : Type 0
EachValueIsAsLikely = (c v : ℕ) → v < c → c < 2 ^ 32 → count c v (2 ^ 32) ≡ 2 ^ 32 / c

abbrev pub IsRejected : ℕ → ℕ → Type 0
IsRejected c r = accepts c r ≡ false

-- the source `w` gave exactly the given words, in order, and is `u` after them
abbrev pub Takes : {W : Type 0} → (W → ℕ → W → Type 0) → W → List ℕ → W → Type 0
Takes gives w [] u = w ≡ u
Takes {W} gives w (r ∷ rs) u = (v : W) × gives w r v × Takes gives v rs u

-- a draw took fewer than 128 words and rejected them, then took a word that it accepts, and returned that word's value
pub record Draws {W : Type 0} (gives : W → ℕ → W → Type 0) (c : ℕ) (w : W) (rejected : List ℕ) (answer : ℕ) (u : W)
    : Type 0 where
  pub few : length rejected < 128
  pub rejects : AllByRecursion (IsRejected c) rejected
  pub word : ℕ
  pub is_word : word < 2 ^ 32
  pub accepted : accepts c word ≡ true
  pub takes : Takes gives w (rejected ++ word ∷ []) u
  pub answers : answer ≡ value_of c word

-- a draw took 128 words, and rejected all of them
pub record Spends {W : Type 0} (gives : W → ℕ → W → Type 0) (c : ℕ) (w : W) (rejected : List ℕ) (u : W) : Type 0 where
  pub all : length rejected ≡ 128
  pub rejects : AllByRecursion (IsRejected c) rejected
  pub takes : Takes gives w rejected u

-- a draw below `c` ended with the given result
abbrev pub IsDraw : {W : Type 0} → (W → ℕ → W → Type 0) → ℕ → W → List ℕ → Result ℕ DrawSpent → W → Type 0
IsDraw gives c w rejected (Ok answer) u = Draws gives c w rejected answer u
IsDraw gives c w rejected (Err spent) u = Spends gives c w rejected u

-- a draw among the `n` numbers from `lo` on ended with the given result; the draw's bound is `n`, or 0 if `n` is 2^32
abbrev pub IsDrawFrom : {W : Type 0} → (W → ℕ → W → Type 0) → ℕ → ℕ → W → List ℕ → Result ℕ DrawSpent → W → Type 0
IsDrawFrom gives lo n w rejected (Ok answer) u =
    (lo ≤ answer) × (answer < lo + n) × Draws gives (n % 2 ^ 32) w rejected (answer - lo) u
IsDrawFrom gives lo n w rejected (Err spent) u = Spends gives (n % 2 ^ 32) w rejected u
