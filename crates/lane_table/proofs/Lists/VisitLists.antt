-- Lists of visits: prefixes, stamps, places, and the number of raises.
use Rattle.std.proofs.Common.{◌≡◌, ℕ, ◌+◌, ◌<◌, ◌≤◌, ◌⊎◌, List, [], ◌∷◌, ◌++◌, length, sym, refl, ap, ◌∙◌, subst, inl, inr, arith, append_assoc, append-nil, length-append, Option, Some, None, Bool, cond, eqb, ltb, ltb-true, ltb-false}
use Rattle.std.proofs.lemmas.List.Sums.{sum_by-cons, sum_by-append, sum_by_push}
use Rattle.std.proofs.lemmas.Bool.Decides.{nat_tests}
use mathlib.Core.Option.{some}
use lib.ListN.{get_elem?}
use Rattle.atomic_table.proofs.Lists.{at_longer}
use Rattle.lane_table.specs.declared.view.Visit.{Visit}
use Rattle.lane_table.specs.declared.view.LaneEntry.{LaneEntry}
use Rattle.lane_table.specs.declared.view.LaneEntry.TheVariants.{Pool, Base, Cpu}
use Rattle.key_names.specs.Lanes.BaseList.{reseeds_at}
use Rattle.lane_table.specs.Meaning.{raise_of, once}
use Rattle.lane_table.specs.WorldRule.{Begins, AllBegin, Rising, last_stamp, raises, times, once_below}
use Rattle.lane_table.specs.Steps.{longer, with_list}
use Rattle.lane_table.proofs.Lists.Lists.{bool_cases, at_below, at_front}

pub begins_refl : (xs : List Visit) → Begins xs xs
begins_refl xs = ([], sym (append-nil xs))

pub begins_trans : (xs ys zs : List Visit) → Begins xs ys → Begins ys zs → Begins xs zs
begins_trans xs ys zs a b = (a.0 ++ b.0, b.1 ∙ ap (λ (l : List Visit). l ++ b.0) a.1 ∙ append_assoc xs a.0 b.0)

pub begins_length : (xs ys : List Visit) → Begins xs ys → length xs ≤ length ys
begins_length xs ys a = let e = ap length a.1 in omega (arith, length-append xs a.0)

pub begins_nil : (ys : List Visit) → Begins [] ys
begins_nil ys = (ys, refl)

-- if all lists of `with_list xs lists` are prefixes of the log, then `xs` is a prefix of the log, and so is each list
-- of `lists`
pub with_both : (xs : List Visit) (lists : List (List Visit)) (log : List Visit) → AllBegin (with_list xs lists) log →
    Begins xs log × AllBegin lists log
with_both [] lists log all = (begins_nil log, all)
with_both (x ∷ xs) lists log all = all

pub begins_push : (xs : List Visit) (x : Visit) → Begins xs (xs ++ x ∷ [])
begins_push xs x = (x ∷ [], refl)

-- if `xs` is a prefix of `ys` and at least as long, `xs` and `ys` are equal
pub begins_whole : (xs ys : List Visit) → Begins xs ys → length ys ≤ length xs → xs ≡ ys
begins_whole xs ys (([], e)) h = sym (e ∙ append-nil xs)
begins_whole xs ys ((z ∷ zs, e)) h = let n = ap length e in absurd (omega (arith, length-append xs (z ∷ zs)))

pub last_push : (d : ℕ) (xs : List Visit) (x : Visit) → last_stamp d (xs ++ x ∷ []) ≡ x.stamp
last_push d [] x = refl
last_push d (y ∷ ys) x = last_push y.stamp ys x

pub rising_push : (d : ℕ) (xs : List Visit) (x : Visit) → Rising d xs → last_stamp d xs < x.stamp →
    Rising d (xs ++ x ∷ [])
rising_push d [] x r h = (h, tt)
rising_push d (y ∷ ys) x r h = (r.0, rising_push y.stamp ys x r.1 h)

pub place_below : (d : ℕ) (xs : List Visit) → Rising d xs → length xs + d ≤ last_stamp d xs
place_below d [] r = omega arith
place_below d (y ∷ ys) r = let h = place_below y.stamp ys r.1 in let a = r.0 in omega arith

pub at_begun : (xs ys : List Visit) (p : ℕ) (y : Visit) → Begins xs ys → get_elem? xs p ≡ some y →
    get_elem? ys p ≡ some y
at_begun xs ys p y h e = ap (λ (l : List Visit). get_elem? l p) h.1 ∙ at_longer xs h.0 p y e

pub at_begun_back : (xs ys : List Visit) (p : ℕ) (y : Visit) → Begins xs ys → p < length xs → get_elem? ys p ≡ some y →
    get_elem? xs p ≡ some y
at_begun_back xs ys p y h lt e = sym (at_front xs h.0 p lt) ∙ ap (λ (l : List Visit). get_elem? l p) (sym h.1) ∙ e

-- `xs` and `ys` are prefixes of `log`. If one of them has an element at a place, the longer one has the same element
-- there
module _ (xs ys log : List Visit) (h : Begins xs log) (k : Begins ys log) where
  abbrev lt : Bool
  lt = ltb (length xs) (length ys)

  pub longer_left : (p : ℕ) (y : Visit) → get_elem? xs p ≡ some y → get_elem? (longer xs ys) p ≡ some y
  longer_left p y e = bool_cases lt (λ b. get_elem? (cond b ys xs) p ≡ some y)
      (λ is. let l = ltb-true (length xs) (length ys) is in
      at_begun_back ys log p y k (let m = at_below xs p y e in omega arith) (at_begun xs log p y h e)) (λ is. e)

  pub longer_right : (p : ℕ) (y : Visit) → get_elem? ys p ≡ some y → get_elem? (longer xs ys) p ≡ some y
  longer_right p y e = bool_cases lt (λ b. get_elem? (cond b ys xs) p ≡ some y) (λ is. e)
      (λ is. let l = ltb-false (length xs) (length ys) is in
      at_begun_back xs log p y h (let m = at_below ys p y e in omega arith) (at_begun ys log p y k e))

pub longer_is : (xs ys : List Visit) → (longer xs ys ≡ xs) ⊎ (longer xs ys ≡ ys)
longer_is xs ys = bool_cases (ltb (length xs) (length ys)) (λ b. (cond b ys xs ≡ xs) ⊎ (cond b ys xs ≡ ys))
    (λ _. inr refl) (λ _. inl refl)

pub longer_all : (xs log : List Visit) → Begins xs log → longer xs log ≡ log
longer_all xs log h = bool_cases (ltb (length xs) (length log)) (λ b. cond b log xs ≡ log) (λ _. refl)
    (λ is. begins_whole xs log h (let l = ltb-false (length xs) (length log) is in omega arith))

front_of : (xs ys as' bs : List Visit) → xs ++ as' ≡ ys ++ bs → length xs ≤ length ys → Begins xs ys
front_of [] ys as' bs e le = (ys, refl)
front_of (x ∷ xs) [] as' bs e le = absurd (omega arith)
front_of (x ∷ xs) (y ∷ ys) as' bs e le = let t : xs ++ as' ≡ ys ++ bs = cc e in let h : x ≡ y = cc e in let f =
    front_of xs ys as' bs t (omega arith) in (f.0, λ k. sym h k ∷ f.1 k)

-- the shorter of two prefixes of one list is a prefix of the longer one
pub nested : (xs ys log : List Visit) → Begins xs log → Begins ys log → length xs ≤ length ys → Begins xs ys
nested xs ys log h k le = front_of xs ys h.0 k.0 (sym h.1 ∙ k.1) le

pub longer_begun : (xs ys log zs : List Visit) → Begins xs log → Begins ys log → zs ≡ longer xs ys → Begins xs zs
longer_begun xs ys log zs h k e = subst (Begins xs) (sym e)
    (bool_cases (ltb (length xs) (length ys)) (λ b. Begins xs (cond b ys xs))
    (λ is. let l = ltb-true (length xs) (length ys) is in nested xs ys log h k (omega arith)) (λ _. begins_refl xs))

pub raises_begun : (xs ys : List Visit) → Begins xs ys → raises xs ≤ raises ys
raises_begun xs ys h = let e = ap raises h.1 in omega (arith, sum_by-append (λ (x : Visit). raise_of x.entry) xs h.0)

once_small : (o : Option ℕ) → once o ≤ 1
once_small None = omega arith
once_small (Some now) = omega arith

raise_small : (e : LaneEntry) → raise_of e ≤ 1
raise_small (Pool e) = omega arith
raise_small (Base e) = once_small (reseeds_at e)
raise_small (Cpu e) = omega arith

pub raises_few : (xs : List Visit) → raises xs ≤ length xs
raises_few [] = omega arith
raises_few (x ∷ xs) = let h = raises_few xs in let k = raise_small x.entry in
    omega (arith, sum_by-cons (λ (v : Visit). raise_of v.entry) x xs)

once_step : (p n : ℕ) → once_below p (n + 1) ≡ once_below p n + cond (eqb n p) 1 0
once_step p n = grind (arith, nat_tests)

-- if the place of a new visit is added to the places, `times` and `once_below` grow by the same number
pub placed_push : (ps : List ℕ) (xs : List Visit) (x : Visit) (p : ℕ) →
    times p (ps ++ length xs ∷ []) + once_below p (length xs) ≡ times p ps + once_below p (length (xs ++ x ∷ []))
placed_push ps xs x p = let s = sum_by_push (λ (y : ℕ). cond (eqb y p) 1 0) ps (length xs) in let t =
    once_step p (length xs) in
    let e : once_below p (length (xs ++ x ∷ [])) ≡ once_below p (length xs + 1) =
    ap (once_below p) (length-append xs (x ∷ [])) in
    let a : ℕ = times p (ps ++ length xs ∷ []) in let b : ℕ = times p ps in let c : ℕ = cond (eqb (length xs) p) 1 0 in
    let d : ℕ = once_below p (length xs) in let f : ℕ = once_below p (length xs + 1) in let h : ℕ =
    once_below p (length (xs ++ x ∷ [])) in
    let s' : a ≡ b + c = s in let t' : f ≡ d + c = t in let e' : h ≡ f = e in let g : a + d ≡ b + h = omega arith in g

pub none_below : (p : ℕ) → once_below p 0 ≡ 0
none_below p = grind (arith, nat_tests)

-- if each list of `lists` is a prefix of `xs`, it is also a prefix of each list `ys` that continues `xs`

pub all_trans : (lists : List (List Visit)) (xs ys : List Visit) → AllBegin lists xs → Begins xs ys → AllBegin lists ys
all_trans [] xs ys h k = tt
all_trans (l ∷ lists) xs ys h k = (begins_trans l xs ys h.0 k, all_trans lists xs ys h.1 k)

all_append : (ls ms : List (List Visit)) (log : List Visit) → AllBegin ls log → AllBegin ms log →
    AllBegin (ls ++ ms) log
all_append [] ms log h k = k
all_append (l ∷ ls) ms log h k = (h.0, all_append ls ms log h.1 k)

all_with : (xs : List Visit) (lists : List (List Visit)) (log : List Visit) → Begins xs log → AllBegin lists log →
    AllBegin (with_list xs lists) log
all_with [] lists log h k = k
all_with (x ∷ xs) lists log h k = (h, k)

pub all_heard : (xs ys log : List Visit) (ls ms : List (List Visit)) → Begins xs log → Begins ys log →
    AllBegin ls log → AllBegin ms log
    → AllBegin (with_list xs (with_list ys (ls ++ ms))) log
all_heard xs ys log ls ms h k l m = all_with xs (with_list ys (ls ++ ms)) log h
    (all_with ys (ls ++ ms) log k (all_append ls ms log l m))
