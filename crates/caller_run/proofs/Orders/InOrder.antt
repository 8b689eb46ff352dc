-- If a list has exactly one run of each caller, its runs can be listed in the order of the callers.
use Rattle.std.proofs.Common.{◌≡◌, inl, inr, ℕ, zero, suc, ◌+◌, ◌<◌, ◌≤◌, Bool, true, false, cond, List, [], ◌∷◌, map, refl, sym, ap, ◌∙◌, arith}
use mathlib.Core.Logic.{dite}
use native.Mathlib.Decide.{ℕ_discrete}
use Rattle.std.specs.Prelude.{◌==◌}
use Rattle.std.specs.List.{AllByRecursion, sum_by, range_with_len}
use Rattle.std.proofs.lemmas.Bool.{eqb-true, eqb-false, eq-eqb, ne_eqb}
use Rattle.std.proofs.lemmas.List.Sums.{sum_by-cons}
use Rattle.key_names.proofs.Lists.Each.{each_weaker}
use Rattle.caller_run.specs.Laws.{Run, IsOneOf}
use Rattle.caller_run.proofs.Planning.OnceEach.{times_in}
use Rattle.caller_run.proofs.Planning.Sums.{hit, hit_same, sum_none, sum_same, sum_both}

abbrev pub number : Run → ℕ
number r = r.begun.caller

abbrev pub numbers_of : List Run → List ℕ
numbers_of runs = map number runs

-- the weight of a run of caller k; runs of other callers have weight 0
abbrev of_caller : (Run → ℕ) → ℕ → Run → ℕ
of_caller f k r = cond (number r == k) (f r) 0

pub cons_times : (k : ℕ) (r : Run) (rs : List Run) →
    times_in k (numbers_of (r ∷ rs)) ≡ hit (number r == k) + times_in k (numbers_of rs)
cons_times k r rs = sum_by-cons (λ x. hit (x == k)) (number r) (numbers_of rs)

-- if none of `runs` is a run of caller k, the weights for caller k add up to zero
nothing_of : (f : Run → ℕ) (k : ℕ) (runs : List Run) → times_in k (numbers_of runs) ≡ 0 →
    sum_by (of_caller f k) runs ≡ 0
nothing_of f k [] none = refl
nothing_of f k (r ∷ rs) none = go (number r == k) refl (λ rest. nothing_of f k rs rest)
  where
    go : (b : Bool) → (number r == k) ≡ b → (times_in k (numbers_of rs) ≡ 0 → sum_by (of_caller f k) rs ≡ 0) →
        sum_by (of_caller f k) (r ∷ rs) ≡ 0
    go true is following = let c = cons_times k r rs in let h : hit (number r == k) ≡ 1 = ap hit is in absurd (omega arith)
    go false is following =
        let c = cons_times k r rs in let h : hit (number r == k) ≡ 0 = ap hit is in
        let here : of_caller f k r ≡ 0 = ap (λ b. cond b (f r) 0) is in
        let all = sum_by-cons (of_caller f k) r rs in
        let rest = following (omega arith) in omega arith

-- `run` is the only one of `runs` that is a run of caller k
pub record OneOf (k : ℕ) (runs : List Run) : Type 0 where
  pub run : Run
  pub there : IsOneOf run runs
  pub own : number run ≡ k
  pub weighs : (f : Run → ℕ) → sum_by (of_caller f k) runs ≡ f run
  pub only : (r : Run) → IsOneOf r runs → number r ≡ k → r ≡ run

not_there : (k : ℕ) (runs : List Run) → times_in k (numbers_of runs) ≡ 0 → (r : Run) → IsOneOf r runs →
    number r ≡ k → ⊥
not_there k [] none r here own = here
not_there k (q ∷ rs) none r (inl same) own =
    let c = cons_times k q rs in
    let h = hit_same (number q) k (ap number same ∙ own) in omega arith
not_there k (q ∷ rs) none r (inr rest) own =
    let c = cons_times k q rs in not_there k rs (omega arith) r rest own

pub one_of : (k : ℕ) (runs : List Run) → times_in k (numbers_of runs) ≡ 1 → OneOf k runs
one_of k [] one = absurd (omega arith)
one_of k (r ∷ rs) one = go (number r == k) refl (λ rest. one_of k rs rest)
  where
    go : (b : Bool) → (number r == k) ≡ b → (times_in k (numbers_of rs) ≡ 1 → OneOf k rs) → OneOf k (r ∷ rs)
    go true is rest =
        let c = cons_times k r rs in let h : hit (number r == k) ≡ 1 = ap hit is in
        let none : times_in k (numbers_of rs) ≡ 0 = omega arith in record {
          run = r;
          there = inl refl;
          own = eqb-true (number r) k is;
          weighs = λ f. (let all = sum_by-cons (of_caller f k) r rs in let no = nothing_of f k rs none in
              let here : of_caller f k r ≡ f r = ap (λ b. cond b (f r) 0) is in omega arith);
          only = λ q here own. elim here [ inl same ↦ sym same | inr more ↦ absurd (not_there k rs none q more own) ];
        }
    go false is rest =
        let c = cons_times k r rs in let h : hit (number r == k) ≡ 0 = ap hit is in
        let o : OneOf k rs = rest (omega arith) in record {
          run = o.run;
          there = inr o.there;
          own = o.own;
          weighs = λ f. (let all = sum_by-cons (of_caller f k) r rs in let w = o.weighs f in
              let here : of_caller f k r ≡ 0 = ap (λ b. cond b (f r) 0) is in omega arith);
          only = λ q here own. elim here [
            | inl same ↦ absurd (eqb-false (number r) k is (ap number same ∙ own))
            | inr more ↦ o.only q more own
          ];
        }

-- `runs` has exactly one run of each of these callers: the `count` callers from k on
abbrev pub AllOnce : ℕ → ℕ → List Run → Type 0
AllOnce k count runs = (c : ℕ) → k ≤ c → c < k + count → times_in c (numbers_of runs) ≡ 1

pub first_once : (count k : ℕ) (runs : List Run) → AllOnce k (suc count) runs → times_in k (numbers_of runs) ≡ 1
first_once count k runs once = once k (omega arith) (omega arith)

pub rest_once : (count k : ℕ) (runs : List Run) → AllOnce k (suc count) runs → AllOnce (suc k) count runs
rest_once count k runs once c from to = once c (omega arith) (omega arith)

-- the runs of the `count` callers from k on, in the order of the callers
abbrev pub in_order : (count k : ℕ) (runs : List Run) → AllOnce k count runs → List Run
in_order zero k runs once = []
in_order (suc count) k runs once =
    (one_of k runs (first_once count k runs once)).run
    ∷ in_order count (suc k) runs (rest_once count k runs once)

-- `in_order` contains each of `runs` that is a run of one of the `count` callers from k on
pub in_order_all : (count k : ℕ) (runs : List Run) (once : AllOnce k count runs) (r : Run) → IsOneOf r runs →
    k ≤ number r → number r < k + count → IsOneOf r (in_order count k runs once)
in_order_all zero k runs once r here from to = absurd (omega arith)
in_order_all (suc count) k runs once r here from to =
    let one = one_of k runs (first_once count k runs once) in
    dite (ℕ_discrete (number r) k)
    (λ same. inl (sym (one.only r here same)))
    (λ ne. inr (in_order_all count (suc k) runs (rest_once count k runs once) r here (omega arith)
    (omega arith)))

-- `in_order` contains no other runs: if P holds for each of `runs`, it holds for each run in `in_order`
pub in_order_of : (P : Run → Type 0) (count k : ℕ) (runs : List Run) (once : AllOnce k count runs) →
    ((r : Run) → IsOneOf r runs → P r) → AllByRecursion P (in_order count k runs once)
in_order_of P zero k runs once all = tt
in_order_of P (suc count) k runs once all =
    let one = one_of k runs (first_once count k runs once) in (
      all one.run one.there,
      in_order_of P count (suc k) runs (rest_once count k runs once) all,
    )

-- the runs in the order of the callers have the same total weight as `runs`

-- a run of a caller below k adds nothing to a sum over the callers from k on
none_in : (f : Run → ℕ) (r : Run) (k count : ℕ) → number r < k →
    sum_by (λ c. of_caller f c r) (range_with_len k count) ≡ 0
none_in f r k zero low = refl
none_in f r k (suc count) low =
    let all = sum_by-cons (λ c. of_caller f c r) k (range_with_len (k + 1) count) in
    let rest = none_in f r (k + 1) count (omega arith) in
    let here : of_caller f k r ≡ 0 = ap (λ b. cond b (f r) 0) (ne_eqb (number r) k (λ e. absurd (omega arith))) in
    omega arith

row : (f : Run → ℕ) (r : Run) (k count : ℕ) → k ≤ number r → number r < k + count →
    sum_by (λ c. of_caller f c r) (range_with_len k count) ≡ f r
row f r k zero low high = absurd (omega arith)
row f r k (suc count) low high =
    let all = sum_by-cons (λ c. of_caller f c r) k (range_with_len (k + 1) count) in
    dite (ℕ_discrete (number r) k)
    (λ same.
    let here : of_caller f k r ≡ f r = ap (λ b. cond b (f r) 0) (eq-eqb (number r) k same) in
    let rest = none_in f r (k + 1) count (omega arith) in omega arith)
    (λ ne.
    let here : of_caller f k r ≡ 0 = ap (λ b. cond b (f r) 0) (ne_eqb (number r) k ne) in
    let rest = row f r (k + 1) count (omega arith) (omega arith) in omega arith)

swap : (f : Run → ℕ) (count k : ℕ) (runs : List Run) →
    AllByRecursion (λ r. (k ≤ number r) × (number r < k + count)) runs →
    sum_by (λ c. sum_by (of_caller f c) runs) (range_with_len k count) ≡ sum_by f runs
swap f count k [] low = sum_none (range_with_len k count)
swap f count k (r ∷ rs) low =
    let rest = swap f count k rs low.1 in
    let one = row f r k count low.0.0 low.0.1 in
    let same = sum_same (λ c. sum_by (of_caller f c) (r ∷ rs)) (λ c. of_caller f c r + sum_by (of_caller f c) rs)
    (range_with_len k count) (λ c. sum_by-cons (of_caller f c) r rs) in
    let both = sum_both (λ c. of_caller f c r) (λ c. sum_by (of_caller f c) rs) (range_with_len k count) in
    let all = sum_by-cons f r rs in omega arith

pub in_order_sum : (f : Run → ℕ) (count k : ℕ) (runs : List Run) (once : AllOnce k count runs) →
    sum_by f (in_order count k runs once) ≡ sum_by (λ c. sum_by (of_caller f c) runs) (range_with_len k count)
in_order_sum f zero k runs once = refl
in_order_sum f (suc count) k runs once =
    let one = one_of k runs (first_once count k runs once) in
    let rest = in_order_sum f count (suc k) runs (rest_once count k runs once) in
    let a = sum_by-cons f one.run (in_order count (suc k) runs (rest_once count k runs once)) in
    let b = sum_by-cons (λ c. sum_by (of_caller f c) runs) k (range_with_len (k + 1) count) in
    let w = one.weighs f in
    let e : sum_by (λ c. sum_by (of_caller f c) runs) (range_with_len (suc k) count)
    ≡ sum_by (λ c. sum_by (of_caller f c) runs) (range_with_len (k + 1) count) =
    ap (λ (n : ℕ). sum_by (λ c. sum_by (of_caller f c) runs) (range_with_len n count))
    (let q : suc k ≡ k + 1 = omega arith in q) in omega arith

pub same_sum : (f : Run → ℕ) (count : ℕ) (runs : List Run) (once : AllOnce 0 count runs) →
    AllByRecursion (λ r. number r < count) runs → sum_by f (in_order count 0 runs once) ≡ sum_by f runs
same_sum f count runs once low = in_order_sum f count 0 runs once
    ∙ swap f count 0 runs (each_weaker (λ r. number r < count) (λ r. (0 ≤ number r) × (number r < 0 + count)) runs
    (λ r l. (omega arith, omega arith)) low)
