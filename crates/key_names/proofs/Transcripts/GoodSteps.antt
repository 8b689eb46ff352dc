-- In a lawful transcript, if a call's first look found the core ready, the later steps of the call's host are good
-- (`Good`). Each generation that the host publishes is above 0, and a CPU handed over each key that the host reads.
use Rattle.std.proofs.Common.{◌≡◌, ℕ, zero, suc, ◌≤◌, arith, List, [], ◌∷◌, ◌++◌, sym, subst, ap, ◌∙◌}
use Rattle.key_names.specs.Lanes.Book.{Lists}
use Rattle.key_names.specs.Callers.Calls.{Setting}
use Rattle.key_names.specs.Callers.Effects.{Effect, looked, at_pool, at_base, at_cpu, nothing_there}
use Rattle.key_names.specs.Callers.Forms.{SysForm}
use Rattle.key_names.specs.Kernel.Vgetrandom.{SystemAnswer, HostStep, publishes, system_call, at_point}
use Rattle.key_names.specs.Callers.VreadSteps.{answer_after, Shows, NeverFall, looks_of, published_by}
use Rattle.key_names.proofs.Transcripts.KeyVisits.{AllThere, there_append, sys_answered}
use Rattle.key_names.proofs.Vgetrandom.StatesReplay.{KeyIs, Good}

-- each of the looks found at least the generation `least`
abbrev pub AllKnown : ℕ → List ℕ → Type 0
AllKnown least [] = Unit {0}
AllKnown least (g ∷ looks) = (least ≤ g) × AllKnown least looks

known_less : (a b : ℕ) (looks : List ℕ) → a ≤ b → AllKnown b looks → AllKnown a looks
known_less a b [] le h = tt
known_less a b (g ∷ looks) le h = (let m : b ≤ g = h.0 in let n : a ≤ g = omega arith in n, known_less a b looks le h.1)

never_fall : (a : ℕ) (looks : List ℕ) → NeverFall (a ∷ looks) → AllKnown a looks
never_fall a [] h = tt
never_fall a (b ∷ looks) h = (h.0, known_less a b looks h.0 (never_fall b looks h.1))

looks_append : (least : ℕ) (xs ys : List Effect) → AllKnown least (looks_of (xs ++ ys)) → AllKnown least (looks_of ys)
looks_append least [] ys h = h
looks_append least (looked g ∷ xs) ys h = looks_append least xs ys h.1
looks_append least (at_pool v ∷ xs) ys h = looks_append least xs ys h
looks_append least (at_base v ∷ xs) ys h = looks_append least xs ys h
looks_append least (at_cpu v ∷ xs) ys h = looks_append least xs ys h
looks_append least (nothing_there ∷ xs) ys h = looks_append least xs ys h

published_some : (look g : ℕ) → g ≡ published_by look → 1 ≤ look → 1 ≤ g
published_some zero g is some = absurd (omega arith)
published_some (suc look) g is some = let p : g ≡ suc (suc look) = is in omega arith

look_some : (look g : ℕ) → g ≡ published_by look → 1 ≤ g → 1 ≤ look
look_some zero g is some = let p : g ≡ 0 = is in absurd (omega arith)
look_some (suc look) g is some = omega arith

-- if each look of a line found the core ready, then the host's steps that the line shows are good
good_shown : (lists : Lists) (set : Setting) (steps : List HostStep) (effects : List Effect) → AllThere lists effects →
    AllKnown 1 (looks_of effects) → Shows set steps effects → Good lists steps
good_shown lists set [] effects there known shows = tt
good_shown lists set (publishes g ∷ steps) effects there known shows =
    let P : List Effect → Type 0 = λ ds. AllThere lists ds in
    let h : AllThere lists (looked shows.0 ∷ shows.1) = subst P shows.2 there in
    let Q : List Effect → Type 0 = λ ds. AllKnown 1 (looks_of ds) in
    let n : AllKnown 1 (looks_of (looked shows.0 ∷ shows.1)) = subst Q shows.2 known in
    (published_some shows.0 g (shows.3).0 n.0, good_shown lists set steps shows.1 h.1 n.1 (shows.3).1)
good_shown lists set (at_point point wiped ∷ steps) effects there known shows =
    good_shown lists set steps effects there known shows
good_shown lists set (system_call n flags answer ∷ steps) effects there known shows =
    let P : List Effect → Type 0 = λ ds. AllThere lists ds in
    let h : AllThere lists shows.call × AllThere lists shows.rest = there_append lists shows.call shows.rest
    (subst P shows.effects_are there) in
    let R : List Effect → Type 0 = λ ds. AllKnown 1 (looks_of ds) in
    let after : AllKnown 1 (looks_of (shows.call ++ shows.rest)) = subst R shows.effects_are known in (
      λ is_32 no_flags. let F : ℕ → Type 0 = λ i. SysForm set i flags shows.call in
          let G : ℕ → Type 0 = λ i. SysForm set 32 i shows.call in
          let form : SysForm set 32 0 shows.call = subst G no_flags (subst F is_32 shows.form) in
          let Q : SystemAnswer → Type 0 = λ a. KeyIs lists a in
          let same : answer ≡ answer_after 0 shows.call = shows.answers
          ∙ ap (λ f. answer_after f shows.call) no_flags in
          let S : List Effect → Type 0 = λ ds. AllKnown 1 (looks_of (ds ++ shows.rest)) in
          let looks : AllKnown 1 (looks_of (looked form.0 ∷ (form.1 ++ shows.rest))) = subst S form.2 after in
          subst Q (sym same) ((sys_answered lists set shows.call h.0 form).1 looks.0),
      good_shown lists set steps shows.rest h.1 (looks_append 1 shows.call shows.rest after) shows.goes_on,
    )

-- if the looks of a call never fall, and the first look found the core ready, then the steps after that look are good
pub good_after : (lists : Lists) (set : Setting) (steps : List HostStep) (effects : List Effect) → AllThere lists effects →
    NeverFall (looks_of effects) → Shows set steps effects →
    (g : ℕ) (rest : List HostStep) → steps ≡ publishes g ∷ rest → 1 ≤ g → Good lists rest
good_after lists set steps effects there rising shows g rest is some =
    let S : List HostStep → Type 0 = λ xs. Shows set xs effects in
    let m : Shows set (publishes g ∷ rest) effects = subst S is shows in
    let P : List Effect → Type 0 = λ ds. AllThere lists ds in
    let h : AllThere lists (looked m.0 ∷ m.1) = subst P m.2 there in
    let N : List Effect → Type 0 = λ ds. NeverFall (looks_of ds) in
    let n : NeverFall (m.0 ∷ looks_of m.1) = subst N m.2 rising in
    let look : 1 ≤ m.0 = look_some m.0 g (m.3).0 some in
    good_shown lists set rest m.1 h.1 (known_less 1 m.0 (looks_of m.1) look (never_fall m.0 (looks_of m.1) n)) (m.3).1
