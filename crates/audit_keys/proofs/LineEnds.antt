-- The ends of all lines (their calls and stamps) depend only on the calls, and on the stamps at the callers' starts.
use Rattle.std.proofs.Common.{◌≡◌, ℕ, suc, ◌+◌, ◌<◌, ◌≤◌, List, [], ◌∷◌, length, refl, ap, arith}
use Rattle.key_names.specs.Callers.Calls.{Call}
use Rattle.audit_keys.specs.LineEnds.{all_line_ends, line_ends, listed_lines}
use Rattle.audit_keys.specs.Stamps.{start_stamp}

-- if f and g give equal stamps at the start of each caller, the line ends computed from them are equal
lines_same : (f g : ℕ → ℕ) (c : ℕ) (callers : List (List Call)) →
    ((d : ℕ) → c ≤ d → d < c + length callers → f d ≡ g d) → all_line_ends f c callers ≡ all_line_ends g c callers
lines_same f g c [] same = refl
lines_same f g c (calls ∷ callers) same =
    let one = ap (λ s. line_ends 0 s calls) (same c (omega arith) (omega arith)) in
    let more = lines_same f g (suc c) callers (λ d low high. same d (omega arith) (omega arith)) in
    λ i. one i ∷ more i

pub lines_are_listed : (starts : ℕ → ℕ) (callers : List (List Call)) →
    ((c : ℕ) → c < length callers → starts c ≡ start_stamp callers c) →
    all_line_ends starts 0 callers ≡ listed_lines callers
lines_are_listed starts callers same =
    lines_same starts (start_stamp callers) 0 callers (λ c low high. same c (omega arith))
