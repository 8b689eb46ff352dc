-- If all calls of all callers are in range, the calls of each caller are in range. If the calls of a list are in range,
-- the first `n` of them are in range.
use Rattle.std.proofs.Common.{◌≡◌, ℕ, zero, suc, ◌<◌, List, [], ◌∷◌, length, get_or, map, take, sym, subst, arith}
use Rattle.std.specs.List.{AllByRecursion}
use Rattle.std.specs.Global.{Vec}
use Rattle.judge_lines.specs.declared.called.CalledLines.{CalledLines}
use Rattle.judge_lines.specs.Called.{seen_call, seen_calls}
use Rattle.judge_log.specs.Said.{CallInRange}

pub front_in_range : (n : ℕ) (calls : List CalledLines) → AllByRecursion CallInRange (map seen_call calls) →
    AllByRecursion CallInRange (map seen_call (take n calls))
front_in_range zero calls all = tt
front_in_range (suc n) [] all = tt
front_in_range (suc n) (call ∷ calls) all = (all.0, front_in_range n calls all.1)

pub in_range_of : (callers : List (Vec CalledLines)) (n : ℕ) (calls : Vec CalledLines) → n < length callers →
    calls ≡ get_or callers n calls → AllByRecursion (AllByRecursion CallInRange) (seen_calls callers) →
    AllByRecursion CallInRange (map seen_call calls.items)
in_range_of [] n calls low is all = absurd (omega arith)
in_range_of (x ∷ xs) zero calls low is all =
    subst (λ (c : Vec CalledLines). AllByRecursion CallInRange (map seen_call c.items)) (sym is) all.0
in_range_of (x ∷ xs) (suc n) calls low is all = in_range_of xs n calls (omega arith) is all.1
