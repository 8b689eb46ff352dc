-- The vgetrandom states of two callers share no byte of a key's keystream.
use Rattle.std.proofs.Common.{◌≡◌, ◌≢◌, ℕ, ◌+◌, ◌≤◌, Bool, true, false, List, [], ◌∷◌, refl, ◌∙◌, sym, arith, eqb-true}
use Rattle.std.specs.Prelude.{◌==◌, ◌&&◌}
use Rattle.key_names.specs.Transcripts.PrintedBytes.{Origin, at_lane, at_state, origin_uses, origins_uses}
use Rattle.key_names.proofs.Values.PrintedOnce.{times, once_disjoint}
use Rattle.key_names.proofs.Transcripts.TakenMarks.{hit}
use Rattle.key_names.proofs.Uses.UseLists.{used_first, disjoint_parts}
use Rattle.vcall_fork.specs.Forks.{ForksShareNothing}

hit_below : (b : Bool) → hit b ≤ 1
hit_below true = omega arith
hit_below false = omega arith

-- if `a` and `b` are not both true, at most one of `a && x` and `b && y` is true
one_of_two : (a b x y : Bool) → (a ≡ true → b ≡ true → ⊥) → hit (a && x) + (hit (b && y) + 0) ≤ 1
one_of_two true true x y apart = absurd (apart refl refl)
one_of_two true false x y apart = let k = hit_below x in omega arith
one_of_two false b x y apart = let k = hit_below (b && y) in omega arith

at_most_once : (parent child s t i j : ℕ) → parent ≢ child → (o : Origin) →
    times o (at_state parent s i ∷ at_state child t j ∷ []) ≤ 1
at_most_once parent child s t i j other (at_lane lane place) = omega arith
at_most_once parent child s t i j other (at_state c k m) =
    one_of_two (parent == c) (child == c) (s == k && i == m) (t == k && j == m)
    (λ a b. other (eqb-true parent c a ∙ sym (eqb-true child c b)))

pub forks_share_nothing : ForksShareNothing
forks_share_nothing lists lawful parent child s t i j other key q first second =
    let pair : List Origin = at_state parent s i ∷ at_state child t j ∷ [] in
    let once : (o : Origin) → times o pair ≤ 1 = at_most_once parent child s t i j other in
    let apart = once_disjoint lists lawful.lanes.forward lawful.states pair once in
    (disjoint_parts (origin_uses lists (at_state parent s i)) (origins_uses lists (at_state child t j ∷ [])) apart).apart
    key q first (used_first (origin_uses lists (at_state child t j)) [] key q second)
