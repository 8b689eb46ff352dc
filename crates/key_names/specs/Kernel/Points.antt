-- The points of a vgetrandom call, and their numbers.
use Rattle.std.specs.Prelude.{ℕ, ◌==◌, Bool, Option, ◌∷◌, [], find}
use Rattle.key_names.specs.declared.point.Point.{Point}
use Rattle.key_names.specs.declared.point.Point.TheVariants.{Start, Written, Serve, End}

abbrev pub number_of : Point → ℕ
number_of Start = 1
number_of Written = 2
number_of Serve = 3
number_of End = 4

abbrev pub is_same_point : Point → Point → Bool
is_same_point a b = number_of a == number_of b

-- the point of a number
abbrev pub point_numbered : ℕ → Option Point
point_numbered n = find (λ p. number_of p == n) (Start ∷ Written ∷ Serve ∷ End ∷ [])
