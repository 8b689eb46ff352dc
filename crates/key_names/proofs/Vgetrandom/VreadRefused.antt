-- In the line of a vread, no look finds a lower generation than an earlier look.
use Rattle.std.proofs.Common.{◌≡◌, ℕ, ◌≤◌, List, ◌∷◌, subst}
use Rattle.key_names.specs.Callers.Calls.{BoundAct}
use Rattle.key_names.specs.Callers.Effects.{Effect, looked}
use Rattle.key_names.specs.Callers.VreadSteps.{NeverFall, looks_of}
use Rattle.key_names.specs.Callers.Meaning.{CallMeaning, VreadMeans}

-- if the effects of a vread's line begin with looks of generations `a` and `b`, then `b` is not below `a`
pub looks_do_not_fall : (n flags a b : ℕ) (acts : List BoundAct) (m : CallMeaning) (rest : List Effect) →
    m.own.effects ≡ looked a ∷ looked b ∷ rest → VreadMeans n flags acts m → a ≤ b
looks_do_not_fall n flags a b acts m rest effects means =
    let looks : NeverFall (a ∷ b ∷ looks_of rest) = subst
    (λ (d : List Effect). NeverFall (looks_of d)) effects means.looks in
    looks.0
