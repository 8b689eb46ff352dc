-- The tree of a well-formed script contains each caller exactly once.
use Rattle.std.proofs.Common.{◌≡◌, ℕ, zero, suc, ◌+◌, ◌*◌, ◌<◌, ◌≤◌, List, [], ◌∷◌, ◌++◌, length, refl, sym, ap, ◌∙◌, arith}
use mathlib.Core.Logic.{dite}
use native.Mathlib.Decide.{ℕ_discrete, dec_lt}
use Rattle.std.specs.Prelude.{count_by, ◌==◌, ◌&&◌, nat_lt, if◌then◌else◌}
use Rattle.std.specs.List.{AllByRecursion, sum_by, range_with_len}
use Rattle.std.proofs.lemmas.Bool.Decides.{nat_tests}
use Rattle.std.proofs.lemmas.List.Sums.{sum_by-cons, sum_by-append}
use Rattle.key_names.specs.declared.events.Event.{Event}
use Rattle.key_names.specs.declared.events.Event.TheVariants.{Fork}
use Rattle.key_names.specs.Lanes.Book.{list_at}
use Rattle.key_names.specs.Texts.ScriptGrammar.{Script, WellFormed, is_fork_of, times_forked, ForksAbove, IsForkAbove}
use Rattle.caller_run.proofs.Planning.Sums.{hit, hit_same, hit_other, sum_none, sum_same, sum_both, sum_range}
use Rattle.caller_run.specs.Forest.{Forest, no_more, more, forked_by, forks, numbers, AreForked}

-- how often the number k is in the list `xs`
abbrev pub times_in : ℕ → List ℕ → ℕ
times_in k xs = sum_by (λ x. hit (x == k)) xs

forked_times : (k : ℕ) (e : Event) → times_in k (forked_by e) ≡ hit (is_fork_of k e)
forked_times k (Fork child) = sum_by-cons (λ x. hit (x == k)) child [] ∙ omega arith
forked_times k e = refl

forks_times : (k : ℕ) (es : List Event) → times_in k (forks es) ≡ count_by (is_fork_of k) es
forks_times k [] = refl
forks_times k (e ∷ es) =
    let a = sum_by-append (λ x. hit (x == k)) (forked_by e) (forks es) in
    let b = forked_times k e in let c = forks_times k es in
    let d = sum_by-cons (λ x. hit (is_fork_of k x)) e es in omega arith

module _ (callers : List (List Event)) where
  -- how often the events of caller x fork caller k
  abbrev pub edges : ℕ → ℕ → ℕ
  edges k x = count_by (is_fork_of k) (list_at callers x)

  -- a number occurs in a tree as often as it is a root or is forked by a caller in the tree
  pub incoming : (k : ℕ) (f : Forest) (xs : List ℕ) → AreForked callers f xs →
      times_in k (numbers f) ≡ times_in k xs + sum_by (edges k) (numbers f)
  incoming k no_more [] are = refl
  incoming k no_more (x ∷ xs) are = absurd are
  incoming k (more c kids rest) [] are = absurd are
  incoming k (more c kids rest) (x ∷ xs) are =
      let a = incoming k kids (forks (list_at callers c)) are.1 in
      let b = incoming k rest xs are.2 in
      let t = forks_times k (list_at callers c) in
      let here = sum_by-cons (λ x. hit (x == k)) c (numbers kids ++ numbers rest) in
      let split = sum_by-append (λ x. hit (x == k)) (numbers kids) (numbers rest) in
      let front = sum_by-cons (λ x. hit (x == k)) x xs in
      let out = sum_by-cons (edges k) c (numbers kids ++ numbers rest) in
      let outs = sum_by-append (edges k) (numbers kids) (numbers rest) in
      let same : hit (c == k) ≡ hit (x == k) = ap (λ (n : ℕ). hit (n == k)) are.0 in omega arith

-- a sum of g over a list of numbers is a sum over a range: g of each number, times how often the list has the number

none_of : (g : ℕ → ℕ) (x first count : ℕ) → x < first →
    sum_by (λ j. hit (x == j) * g j) (range_with_len first count) ≡ 0
none_of g x first zero low = refl
none_of g x first (suc count) low =
    let all = sum_by-cons (λ j. hit (x == j) * g j) first (range_with_len (first + 1) count) in
    let none = hit_other x first (λ e. absurd (omega arith)) in
    let here : hit (x == first) * g first ≡ 0 = ap (λ (n : ℕ). n * g first) none ∙ omega arith in
    let rest = none_of g x (first + 1) count (omega arith) in omega arith

-- a sum of g over a range that counts only the number x is g of x
pick : (g : ℕ → ℕ) (x first count : ℕ) → first ≤ x → x < first + count →
    sum_by (λ j. hit (x == j) * g j) (range_with_len first count) ≡ g x
pick g x first zero low high = absurd (omega arith)
pick g x first (suc count) low high =
    let all = sum_by-cons (λ j. hit (x == j) * g j) first (range_with_len (first + 1) count) in
    dite (ℕ_discrete x first)
    (λ same.
    let one = hit_same x first same in
    let here : hit (x == first) * g first ≡ g x = ap (λ (n : ℕ). n * g first) one ∙ omega arith
    ∙ ap g (sym same) in
    let rest = none_of g x (first + 1) count (omega arith) in omega arith)
    (λ ne.
    let none = hit_other x first ne in
    let here : hit (x == first) * g first ≡ 0 = ap (λ (n : ℕ). n * g first) none ∙ omega arith in
    let rest = pick g x (first + 1) count (omega arith) (omega arith) in omega arith)

sum_weighed : (g : ℕ → ℕ) (n : ℕ) (xs : List ℕ) → AllByRecursion (λ x. x < n) xs →
    sum_by g xs ≡ sum_by (λ j. times_in j xs * g j) (range_with_len 0 n)
sum_weighed g n [] low =
    sym (sum_same (λ j. times_in j [] * g j) (λ j. 0) (range_with_len 0 n) (λ j. omega arith)
    ∙ sum_none (range_with_len 0 n))
sum_weighed g n (x ∷ xs) low =
    let here = pick g x 0 n (omega arith) (let l = low.0 in omega arith) in
    let rest = sum_weighed g n xs low.1 in
    let all = sum_by-cons g x xs in
    let both = sum_both (λ j. hit (x == j) * g j) (λ j. times_in j xs * g j) (range_with_len 0 n) in
    let terms : sum_by (λ j. times_in j (x ∷ xs) * g j) (range_with_len 0 n)
    ≡ sum_by (λ j. hit (x == j) * g j + times_in j xs * g j) (range_with_len 0 n) =
    sum_same _ _ (range_with_len 0 n) (λ j.
    ap (λ (m : ℕ). m * g j) (sum_by-cons (λ y. hit (y == j)) x xs) ∙ omega arith) in omega arith

-- if no number from n on is in a list, all numbers in the list are below n
all_below : (n : ℕ) (xs : List ℕ) → ((k : ℕ) → n ≤ k → times_in k xs ≡ 0) → AllByRecursion (λ x. x < n) xs
all_below n [] none = tt
all_below n (x ∷ xs) none =
    let cons : (k : ℕ) → times_in k (x ∷ xs) ≡ hit (x == k) + times_in k xs =
    λ k. sum_by-cons (λ y. hit (y == k)) x xs in (
      dite (dec_lt x n) (λ low. low) (λ high.
          let one = hit_same x x refl in
          let no = none x (omega arith) in let c = cons x in absurd (omega arith)),
      all_below n xs (λ k from. let no = none k from in let c = cons k in omega arith),
    )

-- ---- how often all callers of a well-formed script together fork a caller k ----

shifted : (g : ℕ → ℕ) (first count : ℕ) →
    sum_by (λ j. g (suc j)) (range_with_len first count) ≡ sum_by g (range_with_len (first + 1) count)
shifted g first zero = refl
shifted g first (suc count) =
    let rest = shifted g (first + 1) count in
    let a = sum_by-cons (λ j. g (suc j)) first (range_with_len (first + 1) count) in
    let b = sum_by-cons g (first + 1) (range_with_len (first + 1 + 1) count) in
    let e : g (suc first) ≡ g (first + 1) = ap g (let q : suc first ≡ first + 1 = omega arith in q) in omega arith

edges_all : (k : ℕ) (callers : List (List Event)) →
    sum_by (edges callers k) (range_with_len 0 (length callers)) ≡ times_forked callers k
edges_all k [] = refl
edges_all k (es ∷ callers) =
    let rest = edges_all k callers in
    let a = sum_by-cons (edges (es ∷ callers) k) 0 (range_with_len 1 (length callers)) in
    let b = shifted (edges (es ∷ callers) k) 0 (length callers) in
    let c = sum_by-cons (count_by (is_fork_of k)) es callers in omega arith

pub edge_most : (k x : ℕ) (callers : List (List Event)) → edges callers k x ≤ times_forked callers k
edge_most k x [] = omega arith
edge_most k zero (es ∷ callers) = let c = sum_by-cons (count_by (is_fork_of k)) es callers in omega arith
edge_most k (suc x) (es ∷ callers) =
    let c = sum_by-cons (count_by (is_fork_of k)) es callers in let rest = edge_most k x callers in omega arith

above_none : (c k : ℕ) (es : List Event) → AllByRecursion (IsForkAbove c) es → k ≤ c → count_by (is_fork_of k) es ≡ 0
above_none c k [] all low = refl
above_none c k (e ∷ es) all low =
    let rest = above_none c k es all.1 low in
    let cons = sum_by-cons (λ x. hit (is_fork_of k x)) e es in let here = one e all.0 in omega arith
  where
    one : (e : Event) → IsForkAbove c e → hit (is_fork_of k e) ≡ 0
    one (Fork child) above = hit_other child k (λ e. absurd (omega arith))
    one e above = refl

edge_above : (first k x : ℕ) (callers : List (List Event)) → ForksAbove first callers → k ≤ first + x →
    edges callers k x ≡ 0
edge_above first k x [] above low = refl
edge_above first k zero (es ∷ callers) above low = above_none first k es above.0 (omega arith)
edge_above first k (suc x) (es ∷ callers) above low = edge_above (suc first) k x callers above.1 (omega arith)

sum_zero : (g : ℕ → ℕ) (xs : List ℕ) → ((x : ℕ) → g x ≡ 0) → sum_by g xs ≡ 0
sum_zero g xs none = sum_same g (λ x. 0) xs none ∙ sum_none xs

module _ (script : Script) (ok : WellFormed script) (f : Forest) (are : AreForked script.callers f (0 ∷ [])) where
  abbrev n : ℕ
  n = length script.callers

  abbrev all : List ℕ
  all = numbers f

  none_beyond : (k : ℕ) → n ≤ k → times_in k all ≡ 0
  none_beyond k from =
      let i = incoming script.callers k f (0 ∷ []) are in
      let some = ok.callers.0 in
      let front = sum_by-cons (λ x. hit (x == k)) 0 [] in
      let zero_apart = hit_other 0 k (λ e. absurd (omega arith)) in
      let never : times_forked script.callers k ≡ 0 = ok.forked k ∙ beyond k from in
      let out = sum_zero (edges script.callers k) all
      (λ x. let m = edge_most k x script.callers in omega arith) in omega arith
    where
      beyond : (k : ℕ) → n ≤ k → let b : ℕ = (if nat_lt 0 k && nat_lt k n then 1 else 0) in b ≡ 0
      beyond k from = grind (arith, nat_tests)

  pub below : AllByRecursion (λ x. x < n) all
  below = all_below n all none_beyond

  abbrev Once : ℕ → Type 0
  Once m = (k : ℕ) → k < m → k < n → times_in k all ≡ 1

  next : (k : ℕ) → Once k → k < n → times_in k all ≡ 1
  next k before low = dite (ℕ_discrete k 0) root child
    where
      root : k ≡ 0 → times_in k all ≡ 1
      root is =
          let i = incoming script.callers k f (0 ∷ []) are in
          let front = sum_by-cons (λ x. hit (x == k)) 0 [] in
          let one : hit (0 == k) ≡ 1 = ap (λ (n : ℕ). hit (0 == n)) is in
          let never : times_forked script.callers k ≡ 0 = ap (times_forked script.callers) is ∙ ok.forked 0 in
          let out = sum_zero (edges script.callers k) all
          (λ x. let m = edge_most k x script.callers in omega arith) in omega arith

      term : (i : ℕ) → i < n → times_in i all * edges script.callers k i ≡ edges script.callers k i
      term i small = dite (dec_lt i k)
          (λ less. ap (λ (m : ℕ). m * edges script.callers k i) (before i less small) ∙ omega arith)
          (λ not.
          let none = edge_above 0 k i script.callers ok.above (omega arith) in
          ap (λ (m : ℕ). times_in i all * m) none ∙ omega arith ∙ sym none)

      within : (k : ℕ) → k < n → (k ≡ 0 → ⊥) → let b : ℕ = (if nat_lt 0 k && nat_lt k n then 1 else 0) in b ≡ 1
      within k low some = let pos : 0 < k = omega arith in grind (arith, nat_tests)

      child : (k ≡ 0 → ⊥) → times_in k all ≡ 1
      child some =
          let i = incoming script.callers k f (0 ∷ []) are in
          let front = sum_by-cons (λ x. hit (x == k)) 0 [] in
          let none = hit_other 0 k (λ e. some (sym e)) in
          let weighed = sum_weighed (edges script.callers k) n all below in
          let terms = sum_range (λ i. times_in i all * edges script.callers k i) (edges script.callers k) 0 n
          (λ i small. term i (omega arith)) in
          let total = edges_all k script.callers in
          let once : times_forked script.callers k ≡ 1 = ok.forked k ∙ within k low some in omega arith

  once : (m : ℕ) → Once m
  once zero k less low = absurd (omega arith)
  once (suc m) k less low = dite (ℕ_discrete k m)
      (λ same. next k (λ j small. once m j (omega arith)) low) (λ ne. once m k (omega arith) low)

  -- each caller of the script occurs exactly once in the script's tree
  pub once_each : (k : ℕ) → k < n → times_in k all ≡ 1
  once_each k low = once n k low low
