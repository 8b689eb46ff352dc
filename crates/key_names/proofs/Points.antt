-- Each point has one number, and different points have different numbers.
use Rattle.std.proofs.Common.{ℕ, ◌≡◌, ◌≤◌, ◌==◌, true, Some, [], ◌∷◌, refl, sym, ap, arith, eqb-true}
use Rattle.key_names.specs.declared.point.Point.{Point}
use Rattle.key_names.specs.declared.point.Point.TheVariants.{Start, Written, Serve, End}
use Rattle.key_names.specs.Kernel.Points.{is_same_point, number_of, point_numbered}
use Rattle.key_names.proofs.Lists.ListFacts.{found_passes}

pub number_small : (p : Point) → number_of p ≤ 4
number_small Start = omega arith
number_small Written = omega arith
number_small Serve = omega arith
number_small End = omega arith

pub point_again : (p : Point) → point_numbered (number_of p) ≡ Some p
point_again Start = refl
point_again Written = refl
point_again Serve = refl
point_again End = refl

pub same_number : (p q : Point) → number_of p ≡ number_of q → p ≡ q
same_number p q is = cc (sym (point_again p), ap point_numbered is, point_again q)

pub same_point : (p q : Point) → is_same_point p q ≡ true → p ≡ q
same_point p q is = same_number p q (eqb-true (number_of p) (number_of q) is)

pub numbered : (n : ℕ) (p : Point) → point_numbered n ≡ Some p → n ≡ number_of p
numbered n p is = sym (eqb-true (number_of p) n (found_passes (λ q. number_of q == n) (Start ∷ Written ∷ Serve ∷ End ∷ []) p is))
