-- The weights of shares, and a view's part of each lane after a join.
use Rattle.std.proofs.Common.{◌≡◌, ℕ, zero, suc, ◌+◌, ◌*◌, ◌-◌, ◌^◌, ◌<◌, ◌≤◌, List, [], ◌∷◌, max, length, get_or, sym, refl, ap, ◌∙◌, arith}
use Rattle.std.proofs.Math.Nat.{mul-pos}
use Rattle.std.proofs.lemmas.Nat.{pow-add, pow_pos}
use Rattle.std.specs.List.{sum_by}
use Rattle.std.proofs.lemmas.List.Sums.{sum_by-cons}
use mathlib.Core.Option.{some}
use lib.ListN.{get_elem?}
use Rattle.lane_table.specs.declared.view.LaneView.{LaneView}
use Rattle.lane_table.specs.declared.view.View.{View}
use Rattle.lane_table.specs.WorldRule.{blank, weight}
use Rattle.lane_table.specs.Steps.{merged, merged_lanes, both_of}

pub weight_up : (top : ℕ) (u : View) → u.halvings ≤ top → weight (top + 1) u ≡ 2 * weight top u
weight_up top u below = let d : ℕ = top - u.halvings in let e : top + 1 - u.halvings ≡ d + 1 = omega arith in
    let p : 2 ^ (top + 1 - u.halvings) ≡ 2 ^ d * 2 = ap (λ (k : ℕ). 2 ^ k) e ∙ pow-add 2 d 1 in
    let a : ℕ = u.share in let x : ℕ = 2 ^ (top + 1 - u.halvings) in let y : ℕ = 2 ^ d in let p' : x ≡ y * 2 = p in
    let g : a * x ≡ a * (y * 2) = ap (λ (z : ℕ). a * z) p' in omega (arith, g)

pub weights_up : (top : ℕ) (l : List View) → ((j : ℕ) (u : View) → get_elem? l j ≡ some u → u.halvings ≤ top) →
    sum_by (weight (top + 1)) l ≡ 2 * sum_by (weight top) l
weights_up top [] h = refl
weights_up top (x ∷ xs) h = let a = weight_up top x (h 0 x refl) in let b =
    weights_up top xs (λ j u e. h (suc j) u e) in omega
    (arith, sum_by-cons (weight (top + 1)) x xs, sum_by-cons (weight top) x xs)

-- a share that is written with more halvings has the same weight
weight_more : (a h m top : ℕ) → h ≤ m → m ≤ top → a * 2 ^ (m - h) * 2 ^ (top - m) ≡ a * 2 ^ (top - h)
weight_more a h m top le le' = let e : m - h + (top - m) ≡ top - h = omega arith in
    let p : 2 ^ (top - h) ≡ 2 ^ (m - h) * 2 ^ (top - m) = ap (λ (k : ℕ). 2 ^ k) (sym e) ∙ pow-add 2 (m - h) (top - m) in
    let x : ℕ = 2 ^ (m - h) in let y : ℕ = 2 ^ (top - m) in let z : ℕ = 2 ^ (top - h) in let p' : z ≡ x * y = p in
    let g : a * z ≡ a * (x * y) = ap (λ (k : ℕ). a * k) p' in omega (arith, g)

pub weight_both : (top : ℕ) (v w : View) → v.halvings ≤ top → w.halvings ≤ top →
    weight top (both_of v w) ≡ weight top v + weight top w
weight_both top v w le le' = let m : ℕ = max v.halvings w.halvings in let a =
    weight_more v.share v.halvings m top (omega arith) (omega arith) in let b =
    weight_more w.share w.halvings m top (omega arith) (omega arith) in
    let p : ℕ = v.share * 2 ^ (m - v.halvings) in let q : ℕ = w.share * 2 ^ (m - w.halvings) in let y : ℕ =
    2 ^ (top - m) in let c : ℕ = v.share * 2 ^ (top - v.halvings) in let d : ℕ = w.share * 2 ^ (top - w.halvings) in
    let a' : p * y ≡ c = a in let b' : q * y ≡ d = b in let g : (p + q) * y ≡ c + d = omega arith in g

pub merged_at : (rest bs : List LaneView) (i : ℕ) → length rest ≡ length bs →
    get_or (merged_lanes rest bs) i blank ≡ merged (get_or rest i blank) (get_or bs i blank)
merged_at [] [] i e = refl
merged_at [] (b ∷ bs) i e = absurd (omega arith)
merged_at (a ∷ rest) [] i e = absurd (omega arith)
merged_at (a ∷ rest) (b ∷ bs) zero e = refl
merged_at (a ∷ rest) (b ∷ bs) (suc i) e = merged_at rest bs i (omega arith)

pub length_merged : (rest bs : List LaneView) → length rest ≡ length bs → length (merged_lanes rest bs) ≡ length rest
length_merged [] [] e = refl
length_merged [] (b ∷ bs) e = absurd (omega arith)
length_merged (a ∷ rest) [] e = refl
length_merged (a ∷ rest) (b ∷ bs) e = ap suc (length_merged rest bs (omega arith))

pub both_share : (v w : View) → 0 < v.share → 0 < (both_of v w).share
both_share v w share = let h : 0 < v.share * 2 ^ (max v.halvings w.halvings - v.halvings) =
    mul-pos share (pow_pos (max v.halvings w.halvings - v.halvings)) in omega arith
