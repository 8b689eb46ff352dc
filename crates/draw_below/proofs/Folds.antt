-- Successive draws have the answers that `draws_in` gives for the words that the draws took.
use Rattle.std.proofs.Common.{◌≡◌, ◌≢◌, ◌<◌, ◌+◌, ◌-◌, lit<, ℕ, suc, List, [], ◌∷◌, ◌++◌, length, refl, ap, sym, ◌∙◌, arith, append_assoc, append-nil, map, option_map, Option, Some, None, true, false, cond, nat_eq, ⊎_elim, length-append}
use Rattle.std.specs.List.{AllByRecursion}
use Rattle.std.proofs.lemmas.Bool.{ne_eqb, cases_eq}
use Rattle.std.proofs.lemmas.List.{map-append}
use Rattle.draw_below.specs.Draws.{accepts, value_of, Draws, IsRejected, Spends, Takes}
use Rattle.draw_below.specs.TableDraws.{draws_in, spent_before}
use Rattle.draw_below.proofs.Chains.{takes_append}

taken_word : (c n tried r : ℕ) (rest : List ℕ) → accepts c r ≡ true →
    draws_in c (suc n) tried (r ∷ rest) ≡ option_map (λ draws. Some (value_of c r) ∷ draws) (draws_in c n 0 rest)
unfolding draws_in
taken_word c n tried r rest takes =
    ap (λ b. cond b (option_map (λ draws. Some (value_of c r) ∷ draws) (draws_in c n 0 rest))
    (cond (nat_eq tried 127) (spent_before rest) (draws_in c (suc n) (suc tried) rest))) takes

passed_word : (c n tried r : ℕ) (rest : List ℕ) → accepts c r ≡ false → tried ≢ 127 →
    draws_in c (suc n) tried (r ∷ rest) ≡ draws_in c (suc n) (suc tried) rest
unfolding draws_in
passed_word c n tried r rest off early =
    ap (λ b. cond b (option_map (λ draws. Some (value_of c r) ∷ draws) (draws_in c n 0 rest))
    (cond (nat_eq tried 127) (spent_before rest) (draws_in c (suc n) (suc tried) rest))) off
    ∙ ap (λ b. cond b (spent_before rest) (draws_in c (suc n) (suc tried) rest)) (ne_eqb tried 127 early)

none_left : (rest : List ℕ) → length rest ≡ 0 → spent_before rest ≡ Some (None ∷ [])
none_left [] none = refl
none_left (r ∷ rs) none = absurd (omega arith)

last_word : (c n r : ℕ) (rest : List ℕ) → accepts c r ≡ false → length rest ≡ 0 →
    draws_in c (suc n) 127 (r ∷ rest) ≡ Some (None ∷ [])
unfolding draws_in
last_word c n r rest off none =
    ap (λ b. cond b (option_map (λ draws. Some (value_of c r) ∷ draws) (draws_in c n 0 rest))
    (cond (nat_eq 127 127) (spent_before rest) (draws_in c (suc n) 128 rest))) off
    ∙ none_left rest none

one_draw : (c n tried : ℕ) (rejected : List ℕ) (r : ℕ) (rest : List ℕ) → tried + length rejected < 128 →
    AllByRecursion (IsRejected c) rejected → accepts c r ≡ true →
    draws_in c (suc n) tried ((rejected ++ r ∷ []) ++ rest)
    ≡ option_map (λ draws. Some (value_of c r) ∷ draws) (draws_in c n 0 rest)
one_draw c n tried [] r rest few off takes = taken_word c n tried r rest takes
one_draw c n tried (x ∷ xs) r rest few off takes =
    passed_word c n tried x ((xs ++ r ∷ []) ++ rest) off.0 (omega arith)
    ∙ one_draw c n (suc tried) xs r rest (omega arith) off.1 takes

spent_draw : (c n tried : ℕ) (rejected : List ℕ) → tried < 128 → tried + length rejected ≡ 128 →
    AllByRecursion (IsRejected c) rejected → draws_in c (suc n) tried rejected ≡ Some (None ∷ [])
spent_draw c n tried [] low all off = absurd (omega arith)
spent_draw c n tried (x ∷ xs) low all off =
    ⊎_elim (λ e. ap (λ t. draws_in c (suc n) t (x ∷ xs)) e ∙ last_word c n x xs off.0 (omega arith))
    (λ early. passed_word c n tried x xs off.0 early ∙ spent_draw c n (suc tried) xs (omega arith) (omega arith) off.1)
    (cases_eq tried 127)

no_draw : (c : ℕ) → draws_in c 0 0 [] ≡ Some []
unfolding draws_in
no_draw c = refl

-- the given answers, followed by the results of further draws
pub following : List ℕ → Option (List (Option ℕ)) → Option (List (Option ℕ))
following answers draws = option_map (λ more. map Some answers ++ more) draws

after_none : (draws : Option (List (Option ℕ))) → following [] draws ≡ draws
unfolding following
after_none None = refl
after_none (Some draws) = refl

after_one_more : (answers : List ℕ) (answer : ℕ) (draws : Option (List (Option ℕ))) →
    following answers (option_map (λ more. Some answer ∷ more) draws) ≡ following (answers ++ answer ∷ []) draws
unfolding following
after_one_more answers answer None = refl
after_one_more answers answer (Some draws) =
    ap Some
    (sym (append_assoc (map Some answers) (Some answer ∷ []) draws)
    ∙ ap (λ l. l ++ draws) (sym (map-append Some answers (answer ∷ []))))

-- whatever words follow, the first `m` draws below `c` take exactly `words` and have the answers `answers`
abbrev pub Answered : ℕ → ℕ → List ℕ → List ℕ → Type 0
Answered c m words answers =
    (n : ℕ) (rest : List ℕ) → draws_in c (m + n) 0 (words ++ rest) ≡ following answers (draws_in c n 0 rest)

-- from `w` to `u` the source gave some words, and `m` draws below `c` from these words have the answers `answers`
abbrev pub IsAnswered : {W : Type 0} → (W → ℕ → W → Type 0) → ℕ → W → W → ℕ → List ℕ → Type 0
IsAnswered gives c w u m answers =
    (words : List ℕ) × Takes gives w words u × (length answers ≡ m) × Answered c m words answers

pub none_answered : {W : Type 0} (gives : W → ℕ → W → Type 0) (c : ℕ) (w : W) → IsAnswered gives c w w 0 []
none_answered gives c w = (
  [],
  refl,
  refl,
  λ n rest. ap (λ k. draws_in c k 0 rest) (omega arith) ∙ sym (after_none (draws_in c n 0 rest)),
)

pub one_answered : {W : Type 0} (gives : W → ℕ → W → Type 0) (c : ℕ) (w u v : W) (m : ℕ) (answers : List ℕ)
    (rejected : List ℕ) (answer : ℕ) (more : List ℕ) → IsAnswered gives c w u m answers →
    Draws gives c u rejected answer v → more ≡ answers ++ answer ∷ [] → IsAnswered gives c w v (m + 1) more
one_answered gives c w u v m answers rejected answer more had draw is =
    let words = had.0 in
    let here : List ℕ = rejected ++ draw.word ∷ [] in (
      words ++ here,
      takes_append gives w words u here v had.1 draw.takes,
      ap length is ∙ length-append answers (answer ∷ []) ∙ ap (λ k. k + 1) had.2,
      λ n rest.
          ap (λ k. draws_in c k 0 ((words ++ here) ++ rest)) (omega arith)
          ∙ ap (λ l. draws_in c (m + suc n) 0 l) (append_assoc words here rest)
          ∙ had.3 (suc n) (here ++ rest)
          ∙ ap (following answers)
          (one_draw c n 0 rejected draw.word rest (let few = draw.few in omega arith) draw.rejects draw.accepted
          ∙ ap (λ a. option_map (λ draws. Some a ∷ draws) (draws_in c n 0 rest)) (sym draw.answers))
          ∙ after_one_more answers answer (draws_in c n 0 rest)
          ∙ ap (λ l. following l (draws_in c n 0 rest)) (sym is),
    )

-- if all `count` draws were answered, `draws_in` computes exactly `answers` from the words that they took
pub all_answered : {W : Type 0} (gives : W → ℕ → W → Type 0) (c : ℕ) (w u : W) (m count : ℕ) (answers : List ℕ) →
    m ≡ count → IsAnswered gives c w u m answers →
    (taken : List ℕ) × Takes gives w taken u × (draws_in c count 0 taken ≡ Some (map Some answers ++ []))
unfolding following
all_answered gives c w u m count answers all had = (
  had.0,
  had.1,
  ap (λ k. draws_in c k 0 had.0) (let e : count ≡ m + 0 = omega arith in e)
      ∙ ap (λ l. draws_in c (m + 0) 0 l) (sym (append-nil had.0)) ∙ had.3 0 [] ∙ ap (following answers) (no_draw c),
)

-- if `m` draws were answered and the next draw was spent (it rejected 128 words), `draws_in` computes `answers` and
-- then `None` from all words taken
pub then_spent : {W : Type 0} (gives : W → ℕ → W → Type 0) (c : ℕ) (w u v : W) (m count : ℕ) (answers : List ℕ)
    (rejected : List ℕ) → m < count → IsAnswered gives c w u m answers → Spends gives c u rejected v →
    (taken : List ℕ) × Takes gives w taken v × (draws_in c count 0 taken ≡ Some (map Some answers ++ None ∷ []))
unfolding following
then_spent gives c w u v m count answers rejected low had spent =
    let left : ℕ = count - suc m in (
      had.0 ++ rejected,
      takes_append gives w had.0 u rejected v had.1 spent.takes,
      ap (λ k. draws_in c k 0 (had.0 ++ rejected)) (let e : count ≡ m + suc left = omega arith in e)
          ∙ had.3 (suc left) rejected
          ∙ ap (following answers)
          (spent_draw c left 0 rejected (lit< tt) (let n = spent.all in omega arith) spent.rejects),
    )
