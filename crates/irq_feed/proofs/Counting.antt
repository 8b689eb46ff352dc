-- The length of a list of samples is a sum over all feeders: each feeder adds the number of its samples in the list.
use Rattle.std.proofs.Common.{◌≡◌, ◌≢◌, ⊎_elim, ℕ, zero, suc, ◌+◌, ◌*◌, ◌<◌, ◌≤◌, ◌==◌, cond, Bool, true, false, List, [], ◌∷◌, ◌++◌, length, sym, refl, ap, ◌∙◌, subst, eq-eqb, ne_eqb, lt_of_not-le, arith, length-append, suc-mul, mul-le-mul_right}
use Rattle.std.proofs.lemmas.Bool.Decides.{eqb_tells}
use Rattle.std.proofs.lemmas.List.{append-nil}
use Rattle.std.proofs.lemmas.List.Elements.{filter-append}
use Rattle.irq_feed.specs.declared.samples.Sample.{Sample}
use Rattle.irq_feed.specs.Feeds.{Numbers}
use Rattle.irq_feed.specs.Samples.{sample, first_samples, of_feeder}
use Rattle.irq_feed.specs.Fed.{sum_below}

-- ---- Sums over the numbers below `n`

pub sum_same : (n : ℕ) (g h : ℕ → ℕ) → ((f : ℕ) → f < n → g f ≡ h f) → sum_below n g ≡ sum_below n h
sum_same zero g h e = refl
sum_same (suc n) g h e =
    (let a = sum_same n g h (λ f low. e f (omega arith)) in let b = e n (omega arith) in omega arith)

sum_more : (n : ℕ) (g h : ℕ → ℕ) → ((f : ℕ) → f < n → g f ≤ h f) → sum_below n g ≤ sum_below n h
sum_more zero g h e = omega arith
sum_more (suc n) g h e =
    (let a = sum_more n g h (λ f low. e f (omega arith)) in let b = e n (omega arith) in omega arith)

-- if each term of `g` is at most the same term of `h`, and the sums are equal, then the terms are equal
pub sum_tight : (n : ℕ) (g h : ℕ → ℕ) → ((f : ℕ) → f < n → g f ≤ h f) → sum_below n g ≡ sum_below n h
    → (f : ℕ) → f < n → g f ≡ h f
sum_tight zero g h e s f low = absurd (omega arith)
sum_tight (suc n) g h e s f low =
    let more = sum_more n g h (λ k below. e k (omega arith)) in let last = e n (omega arith) in
    ⊎_elim
    (λ (t : (f == n ≡ true) × (f ≡ n)). subst (λ k. g k ≡ h k) (sym t.1) (omega arith))
    (λ (t : (f == n ≡ false) × (f ≢ n)).
    sum_tight n g h (λ k below. e k (omega arith)) (omega arith) f (let differ = t.1 in omega arith))
    (eqb_tells f n)

pub sum_plus : (n : ℕ) (g h : ℕ → ℕ) → sum_below n (λ f. g f + h f) ≡ sum_below n g + sum_below n h
sum_plus zero g h = refl
sum_plus (suc n) g h = (let a = sum_plus n g h in omega arith)

sum_none : (n : ℕ) → sum_below n (λ f. 0) ≡ 0
sum_none zero = refl
sum_none (suc n) = (let a = sum_none n in omega arith)

abbrev one_at : ℕ → ℕ → ℕ
one_at k f = cond (k == f) 1 0

sum_one_none : (n k : ℕ) → n ≤ k → sum_below n (one_at k) ≡ 0
sum_one_none zero k low = refl
sum_one_none (suc n) k low =
    let a = sum_one_none n k (omega arith) in
    let b : one_at k n ≡ 0 = ap (λ t. cond t 1 0) (ne_eqb k n (λ e. absurd (omega arith))) in omega arith

sum_one : (n k : ℕ) → k < n → sum_below n (one_at k) ≡ 1
sum_one zero k low = absurd (omega arith)
sum_one (suc n) k low = ⊎_elim
    (λ (t : (k == n ≡ true) × (k ≡ n)).
    let a = sum_one_none n k (let e = t.1 in omega arith) in
    let b : one_at k n ≡ 1 = ap (λ t. cond t 1 0) t.0 in omega arith)
    (λ (t : (k == n ≡ false) × (k ≢ n)).
    let a = sum_one n k (let differ = t.1 in omega arith) in
    let b : one_at k n ≡ 0 = ap (λ t. cond t 1 0) t.0 in omega arith)
    (eqb_tells k n)

-- ---- The samples of one feeder in a list

pub of_here : (x : Sample) (xs : List Sample) (f : ℕ) → x.feeder ≡ f → of_feeder f (x ∷ xs) ≡ x ∷ of_feeder f xs
of_here x xs f e = ap (λ b. cond b (x ∷ of_feeder f xs) (of_feeder f xs)) (eq-eqb x.feeder f e)

of_else : (x : Sample) (xs : List Sample) (f : ℕ) → x.feeder ≢ f → of_feeder f (x ∷ xs) ≡ of_feeder f xs
of_else x xs f differ = ap (λ b. cond b (x ∷ of_feeder f xs) (of_feeder f xs)) (ne_eqb x.feeder f differ)

length_one : (x : Sample) (xs : List Sample) (f : ℕ)
    → length (of_feeder f (x ∷ xs)) ≡ length (of_feeder f xs) + one_at x.feeder f
length_one x xs f = by (x.feeder == f)
  where
    by : (b : Bool) → length (cond b (x ∷ of_feeder f xs) (of_feeder f xs)) ≡ length (of_feeder f xs) + cond b 1 0
    by true = omega arith
    by false = omega arith

pub cons_not_nil : (x : Sample) (xs : List Sample) → (x ∷ xs) ≡ [] → ⊥
cons_not_nil x xs e = (let l : suc (length xs) ≡ 0 = ap length e in omega arith)

pub none_after : (x : Sample) (xs : List Sample) (f : ℕ) → of_feeder f (x ∷ xs) ≡ [] → of_feeder f xs ≡ []
none_after x xs f e = ⊎_elim
    (λ (t : (x.feeder == f ≡ true) × (x.feeder ≡ f)).
    absurd (cons_not_nil x (of_feeder f xs) (sym (of_here x xs f t.1) ∙ e)))
    (λ (t : (x.feeder == f ≡ false) × (x.feeder ≢ f)). sym (of_else x xs f t.1) ∙ e)
    (eqb_tells x.feeder f)

-- let all samples of a list be of feeders below `n`. The list's length is a sum over these feeders: each feeder adds
-- the number of its samples in the list
pub counted : (n : ℕ) (xs : List Sample) → ((f : ℕ) → n ≤ f → of_feeder f xs ≡ [])
    → length xs ≡ sum_below n (λ f. length (of_feeder f xs))
counted n [] none = sym (sum_none n)
counted n (x ∷ xs) none =
    let low : x.feeder < n =
    lt_of_not-le (λ high. cons_not_nil x (of_feeder x.feeder xs)
    (sym (of_here x xs x.feeder refl) ∙ none x.feeder high)) in
    let a = counted n xs (λ f high. none_after x xs f (none f high)) in
    let b = sum_same n (λ f. length (of_feeder f (x ∷ xs))) (λ f. length (of_feeder f xs) + one_at x.feeder f)
    (λ f below. length_one x xs f) in
    let c = sum_plus n (λ f. length (of_feeder f xs)) (one_at x.feeder) in
    let d = sum_one n x.feeder low in
    omega arith

pub first_length : (s : Numbers) (f n : ℕ) → length (first_samples s f n) ≡ n
first_length s f zero = refl
first_length s f (suc n) =
    (let a = first_length s f n in
    length-append (first_samples s f n) (sample s f n ∷ []) ∙ (let b = a in omega arith))

-- each of a feeder's first samples is a sample of that feeder
pub first_own : (s : Numbers) (f n : ℕ) → of_feeder f (first_samples s f n) ≡ first_samples s f n
first_own s f zero = refl
first_own s f (suc n) =
    filter-append (λ (x : Sample). x.feeder == f) (first_samples s f n) (sample s f n ∷ [])
    ∙ ap (λ l. l ++ of_feeder f (sample s f n ∷ [])) (first_own s f n)
    ∙ ap (λ l. first_samples s f n ++ l) (of_here (sample s f n) [] f refl)

pub first_else : (s : Numbers) (f g n : ℕ) → f ≢ g → of_feeder g (first_samples s f n) ≡ []
first_else s f g zero differ = refl
first_else s f g (suc n) differ =
    filter-append (λ (x : Sample). x.feeder == g) (first_samples s f n) (sample s f n ∷ [])
    ∙ ap (λ l. l ++ of_feeder g (sample s f n ∷ [])) (first_else s f g n differ)
    ∙ of_else (sample s f n) [] g differ

-- a prefix that is as long as the whole list is the whole list
pub front_whole : (xs ys all : List Sample) → xs ++ ys ≡ all → length all ≤ length xs → xs ≡ all
front_whole xs [] all e long = sym (append-nil xs) ∙ e
front_whole xs (y ∷ ys) all e long =
    absurd (let l : length xs + suc (length ys) ≡ length all = sym (length-append xs (y ∷ ys)) ∙ ap length e in
    omega arith)

pub front_none : (xs ys : List Sample) → xs ++ ys ≡ [] → xs ≡ []
front_none [] ys e = refl
front_none (x ∷ xs) ys e = absurd (cons_not_nil x (xs ++ ys) e)

pub front_short : (xs ys all : List Sample) → xs ++ ys ≡ all → length xs ≤ length all
front_short xs ys all e =
    (let l : length xs + length ys ≡ length all = sym (length-append xs ys) ∙ ap length e in omega arith)

pub sum_small : (n each : ℕ) (g : ℕ → ℕ) → ((f : ℕ) → g f ≤ each) → sum_below n g ≤ n * each
sum_small zero each g low = omega arith
sum_small (suc n) each g low =
    (let a = sum_small n each g low in let b = low n in let c = suc-mul n each in omega arith)

pub products_small : (n each : ℕ) → n ≤ 16 → each ≤ 10000 → n * each ≤ 160000
products_small n each a b =
    (let x : n * each ≤ 16 * each = mul-le-mul_right each a in omega arith)
