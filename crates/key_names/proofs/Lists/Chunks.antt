-- If a list is cut into chunks of `n` elements, chunk `k` has the `n` elements from element `n * k` on.
use Rattle.std.proofs.Common.{◌≡◌, ℕ, zero, suc, ◌+◌, ◌*◌, ◌<◌, List, [], take, drop, get_or, refl, ap, ◌∙◌, arith}
use Rattle.std.specs.Simd.{first_chunks}
use Rattle.std.proofs.lemmas.List.{drop-drop}

pub get_or-first_chunks : {X : Type 0} (n count : ℕ) (xs : List X) (k : ℕ) → k < count
    → get_or (first_chunks n count xs) k [] ≡ take n (drop (n * k) xs)
get_or-first_chunks n zero xs k below = absurd (omega arith)
get_or-first_chunks n (suc count) xs zero below =
    let none : n * 0 ≡ 0 = grind arith in rw none refl
get_or-first_chunks n (suc count) xs (suc k) below =
    let place : n + n * k ≡ n * suc k = grind arith in
    get_or-first_chunks n count (drop n xs) k (omega arith)
    ∙ ap (take n) (drop-drop (n * k) n xs ∙ ap (λ (i : ℕ). drop i xs) place)
