-- The number of all marks is the sum of three numbers: the pool's marks, the base's marks, and the marks of all CPUs.
use Rattle.std.proofs.Common.{◌≡◌, ℕ, zero, suc, ◌+◌, ◌<◌, ◌≤◌, Bool, true, false, List, [], ◌∷◌, length, refl, sym, subst, ap, ◌∙◌, arith}
use Rattle.std.specs.Prelude.{nat_lt, ◌==◌, if◌then◌else◌}
use Rattle.std.specs.List.{AllByRecursion, sum_by}
use Rattle.std.proofs.lemmas.List.Sums.{sum_by-cons}
use Rattle.std.proofs.lemmas.Bool.Decides.{nat_tests}
use Rattle.key_names.specs.declared.names.LaneId.{LaneId}
use Rattle.key_names.specs.declared.names.LaneId.TheVariants.{Pool as PoolLane, Base as BaseLane, Cpu as CpuLane}
use Rattle.key_names.specs.Lanes.Book.{list_at}
use Rattle.key_names.specs.Transcripts.IsTranscript.{MarkBy, is_same_lane, lane_marks}
use Rattle.key_names.proofs.History.SortedVisits.{one_if}
use Rattle.key_names.proofs.Lists.ListFacts.{list_beyond}

-- how many of `marks` are on the `n` CPUs from CPU `c` on
abbrev on_cpus : ℕ → ℕ → List MarkBy → ℕ
on_cpus c zero marks = 0
on_cpus c (suc n) marks = length (lane_marks (CpuLane c) marks) + on_cpus (suc c) n marks

-- how often a mark on CPU `e` counts: once if `e` is one of the `n` CPUs from `c` on, and otherwise not at all
abbrev one_of : ℕ → ℕ → ℕ → ℕ
one_of c zero e = 0
one_of c (suc n) e = one_if (e == c) + one_of (suc c) n e

lane_more : (lane : LaneId) (by : MarkBy) (marks : List MarkBy) →
    length (lane_marks lane (by ∷ marks)) ≡ one_if (is_same_lane by.mark.lane lane) + length (lane_marks lane marks)
lane_more lane by marks = go (is_same_lane by.mark.lane lane)
  where
    go : (b : Bool) → length (if b then by.mark ∷ lane_marks lane marks else lane_marks lane marks)
        ≡ one_if b + length (lane_marks lane marks)
    go true = omega arith
    go false = omega arith

cpu_more : (c n e : ℕ) (by : MarkBy) (marks : List MarkBy) → by.mark.lane ≡ CpuLane e →
    on_cpus c n (by ∷ marks) ≡ one_of c n e + on_cpus c n marks
cpu_more c zero e by marks is = refl
cpu_more c (suc n) e by marks is =
    let here : length (lane_marks (CpuLane c) (by ∷ marks)) ≡ one_if (e == c) + length (lane_marks (CpuLane c) marks) =
    lane_more (CpuLane c) by marks ∙ ap (λ l. one_if (is_same_lane l (CpuLane c)) + length (lane_marks (CpuLane c) marks)) is in
    let rest : on_cpus (suc c) n (by ∷ marks) ≡ one_of (suc c) n e + on_cpus (suc c) n marks =
    cpu_more (suc c) n e by marks is in omega arith

other_more : (c n : ℕ) (by : MarkBy) (marks : List MarkBy) → ((d : ℕ) → is_same_lane by.mark.lane (CpuLane d) ≡ false) →
    on_cpus c n (by ∷ marks) ≡ on_cpus c n marks
other_more c zero by marks other = refl
other_more c (suc n) by marks other =
    let here : length (lane_marks (CpuLane c) (by ∷ marks)) ≡ length (lane_marks (CpuLane c) marks) =
    (let m = lane_more (CpuLane c) by marks in let none : one_if (is_same_lane by.mark.lane (CpuLane c)) ≡ 0 = ap one_if (other c) in
    omega arith) in
    let rest : on_cpus (suc c) n (by ∷ marks) ≡ on_cpus (suc c) n marks = other_more (suc c) n by marks other in omega arith

one_past : (c n e : ℕ) → e < c → one_of c n e ≡ 0
one_past c zero e low = refl
one_past c (suc n) e low =
    let none : (e == c) ≡ false = grind (arith, nat_tests) in
    let here : one_if (e == c) ≡ 0 = ap one_if none in
    let rest : one_of (suc c) n e ≡ 0 = one_past (suc c) n e (omega arith) in omega arith

one_among : (c n e : ℕ) → c ≤ e → e < c + n → one_of c n e ≡ 1
one_among c zero e from low = absurd (omega arith)
one_among c (suc n) e from low = go (e == c) refl (λ above. one_among (suc c) n e above (omega arith))
  where
    go : (b : Bool) → (e == c) ≡ b → (suc c ≤ e → one_of (suc c) n e ≡ 1) → one_of c (suc n) e ≡ 1
    go true is later =
        let same : e < suc c = grind (arith, nat_tests) in
        let here : one_if (e == c) ≡ 1 = ap one_if is in
        let rest : one_of (suc c) n e ≡ 0 = one_past (suc c) n e same in omega arith
    go false is later =
        let above : suc c ≤ e = grind (arith, nat_tests) in
        let here : one_if (e == c) ≡ 0 = ap one_if is in
        let rest : one_of (suc c) n e ≡ 1 = later above in omega arith

-- if the lane is a CPU, the CPU's number is below `n`
abbrev IsThere : ℕ → LaneId → Type 0
IsThere n PoolLane = 0 ≤ n
IsThere n BaseLane = 0 ≤ n
IsThere n (CpuLane c) = c < n

all_counted : (n : ℕ) (marks : List MarkBy) → AllByRecursion (λ by. IsThere n by.mark.lane) marks →
    length marks ≡ length (lane_marks PoolLane marks) + length (lane_marks BaseLane marks) + on_cpus 0 n marks
all_counted n [] all = none n 0
  where
    none : (n c : ℕ) → length {A = MarkBy} [] ≡ 0 + 0 + on_cpus c n []
    none zero c = refl
    none (suc n) c = let rest : length {A = MarkBy} [] ≡ 0 + 0 + on_cpus (suc c) n [] = none n (suc c) in omega arith
all_counted n (by ∷ marks) all = go by.mark.lane refl all.0 (all_counted n marks all.1)
  where
    pool : length (lane_marks PoolLane (by ∷ marks))
        ≡ one_if (is_same_lane by.mark.lane PoolLane) + length (lane_marks PoolLane marks)
    pool = lane_more PoolLane by marks

    base : length (lane_marks BaseLane (by ∷ marks))
        ≡ one_if (is_same_lane by.mark.lane BaseLane) + length (lane_marks BaseLane marks)
    base = lane_more BaseLane by marks

    go : (lane : LaneId) → by.mark.lane ≡ lane → IsThere n by.mark.lane →
        length marks ≡ length (lane_marks PoolLane marks) + length (lane_marks BaseLane marks) + on_cpus 0 n marks →
        length (by ∷ marks) ≡ length (lane_marks PoolLane (by ∷ marks)) + length (lane_marks BaseLane (by ∷ marks))
        + on_cpus 0 n (by ∷ marks)
    go PoolLane is there rest =
        let a = pool in let b = base in
        let x : one_if (is_same_lane by.mark.lane PoolLane) ≡ 1 = ap (λ l. one_if (is_same_lane l PoolLane)) is in
        let y : one_if (is_same_lane by.mark.lane BaseLane) ≡ 0 = ap (λ l. one_if (is_same_lane l BaseLane)) is in
        let z : on_cpus 0 n (by ∷ marks) ≡ on_cpus 0 n marks =
        other_more 0 n by marks (λ d. ap (λ l. is_same_lane l (CpuLane d)) is) in omega arith
    go BaseLane is there rest =
        let a = pool in let b = base in
        let x : one_if (is_same_lane by.mark.lane PoolLane) ≡ 0 = ap (λ l. one_if (is_same_lane l PoolLane)) is in
        let y : one_if (is_same_lane by.mark.lane BaseLane) ≡ 1 = ap (λ l. one_if (is_same_lane l BaseLane)) is in
        let z : on_cpus 0 n (by ∷ marks) ≡ on_cpus 0 n marks =
        other_more 0 n by marks (λ d. ap (λ l. is_same_lane l (CpuLane d)) is) in omega arith
    go (CpuLane c) is there rest =
        let a = pool in let b = base in
        let x : one_if (is_same_lane by.mark.lane PoolLane) ≡ 0 = ap (λ l. one_if (is_same_lane l PoolLane)) is in
        let y : one_if (is_same_lane by.mark.lane BaseLane) ≡ 0 = ap (λ l. one_if (is_same_lane l BaseLane)) is in
        let low : c < n = (let P : LaneId → Type 0 = λ l. IsThere n l in subst P is there) in
        let one : one_of 0 n c ≡ 1 = one_among 0 n c (omega arith) (omega arith) in
        let z : on_cpus 0 n (by ∷ marks) ≡ one_of 0 n c + on_cpus 0 n marks = cpu_more 0 n c by marks is in omega arith

-- if no CPU with a number from `n` on has a mark, each mark on a CPU is on a CPU with a number below `n`
below_all : (n : ℕ) (marks : List MarkBy) → ((c : ℕ) → n ≤ c → length (lane_marks (CpuLane c) marks) ≡ 0) →
    AllByRecursion (λ by. IsThere n by.mark.lane) marks
below_all n [] none = tt
below_all n (by ∷ marks) none = (here by.mark.lane refl, below_all n marks later)
  where
    later : (c : ℕ) → n ≤ c → length (lane_marks (CpuLane c) marks) ≡ 0
    later c high =
        let e = none c high in let m = lane_more (CpuLane c) by marks in omega arith

    here : (lane : LaneId) → by.mark.lane ≡ lane → IsThere n by.mark.lane
    here PoolLane is = let P : LaneId → Type 0 = λ l. IsThere n l in subst P (sym is) (omega arith)
    here BaseLane is = let P : LaneId → Type 0 = λ l. IsThere n l in subst P (sym is) (omega arith)
    here (CpuLane c) is = let P : LaneId → Type 0 = λ l. IsThere n l in subst P (sym is) (low (nat_lt c n) refl)
      where
        low : (b : Bool) → nat_lt c n ≡ b → c < n
        low true e = grind (arith, nat_tests)
        low false e =
            let high : n ≤ c = grind (arith, nat_tests) in
            let self : (c == c) ≡ true = grind (arith, nat_tests) in
            let gone : length (lane_marks (CpuLane c) (by ∷ marks)) ≡ 0 = none c high in
            let m = lane_more (CpuLane c) by marks in
            let one : one_if (is_same_lane by.mark.lane (CpuLane c)) ≡ 1 =
            ap (λ l. one_if (is_same_lane l (CpuLane c))) is ∙ ap one_if self in absurd (omega arith)

lengths : {X : Type 0} (c : ℕ) (xss : List (List X)) (marks : List MarkBy) →
    ((d : ℕ) → length (lane_marks (CpuLane (c + d)) marks) ≡ length (list_at xss d)) →
    on_cpus c (length xss) marks ≡ sum_by (λ xs. length xs) xss
lengths c [] marks each = refl
lengths {X = X} c (xs ∷ xss) marks each =
    let sum : sum_by (λ (ys : List X). length ys) (xs ∷ xss) ≡ length xs + sum_by (λ (ys : List X). length ys) xss =
    sum_by-cons (λ (ys : List X). length ys) xs xss in
    let here : length (lane_marks (CpuLane c) marks) ≡ length xs =
    ap (λ n. length (lane_marks (CpuLane n) marks)) (omega arith) ∙ each 0 in
    let rest : on_cpus (suc c) (length xss) marks ≡ sum_by (λ (ys : List X). length ys) xss = lengths (suc c) xss marks
    (λ d. ap (λ n. length (lane_marks (CpuLane n) marks)) (omega arith) ∙ each (suc d)) in
    omega arith

pub marks_counted : {X : Type 0} (xss : List (List X)) (marks : List MarkBy) →
    ((c : ℕ) → length (lane_marks (CpuLane c) marks) ≡ length (list_at xss c)) →
    length marks
    ≡ length (lane_marks PoolLane marks) + length (lane_marks BaseLane marks) + sum_by (λ xs. length xs) xss
marks_counted {X = X} xss marks each =
    let there : AllByRecursion (λ by. IsThere (length xss) by.mark.lane) marks =
    below_all (length xss) marks (λ c high. each c ∙ ap length (list_beyond xss c high)) in
    let all = all_counted (length xss) marks there in
    let sums : on_cpus 0 (length xss) marks ≡ sum_by (λ (ys : List X). length ys) xss = lengths 0 xss marks
    (λ d. ap (λ n. length (lane_marks (CpuLane n) marks)) (omega arith) ∙ each d) in
    omega arith
