-- In a lawful book, a list that has no entry twice uses no byte twice. So lines that print the bytes of different
-- entries print different bytes of keys.
use Rattle.std.proofs.Common.{◌≡◌, ℕ, zero, suc, ◌+◌, ◌≤◌, true, List, [], ◌∷◌, ◌++◌, inl, inr, refl, sym, subst, ap, arith, take}
use Rattle.std.specs.Prelude.{◌==◌, ◌&&◌, slice_get}
use Rattle.std.specs.List.{fold}
use Rattle.std.proofs.lemmas.Bool.{eq-eqb}
use Rattle.key_names.specs.declared.names.LaneId.TheVariants.{Pool as PoolLane, Base as BaseLane, Cpu as CpuLane}
use Rattle.key_names.specs.declared.names.KeyName.{KeyName}
use Rattle.key_names.specs.Lanes.Book.{Lists, cpu_list, state_list, ForwardLawful, LawfulStates}
use Rattle.key_names.specs.Lanes.BaseList.{base_start, base_step}
use Rattle.key_names.specs.Lanes.CpuList.{cpu_start, cpu_step}
use Rattle.key_names.specs.Lanes.StateList.{state_start, state_step}
use Rattle.key_names.specs.Keys.LiveMaterial.{KeyHolder, base_key, cpu_key, state_key}
use Rattle.key_names.specs.Keys.Uses.{Use, IsUsed, Disjoint, uses_from, base_uses_at, cpu_uses_at, state_uses_at, is_rekeyed}
use Rattle.key_names.specs.Keys.ServedNamed.{uses_or}
use Rattle.key_names.specs.Transcripts.PrintedBytes.{Origin, at_lane, at_state, origin_uses, origins_uses}
use Rattle.key_names.proofs.Uses.UseLists.{IsUsed-append_cases, Disjoint-append, disjoint_parts, used_first, used_second}
use Rattle.key_names.proofs.Uses.BookUses.{own_once, own_uses, uses_of}
use Rattle.key_names.proofs.Transcripts.TakenMarks.{hit, lane_takes}

-- the uses of the entry at one place are among the uses of the whole list. If the list's uses are disjoint, the entries
-- at two places use no byte in common
module _ {S E : Type 0} (uses_at : S → E → List Use) (step : S → E → S) where
  abbrev at_place : S → List E → ℕ → List Use
  at_place s es i = uses_or (uses_at (fold step s (take i es))) (slice_get es i)

  abbrev all_from : S → List E → List Use
  all_from s es = uses_from uses_at step s es

  place_used : (s : S) (es : List E) (i : ℕ) (k : KeyName) (q : ℕ) → IsUsed (at_place s es i) k q →
      IsUsed (all_from s es) k q
  place_used s [] i k q h = absurd h
  place_used s (e ∷ es) zero k q h = used_first (uses_at s e) (all_from (step s e) es) k q h
  place_used s (e ∷ es) (suc i) k q h =
      used_second (uses_at s e) (all_from (step s e) es) k q (place_used (step s e) es i k q h)

  place_disjoint : (s : S) (es : List E) (i : ℕ) → Disjoint (all_from s es) → Disjoint (at_place s es i)
  place_disjoint s [] i d = tt
  place_disjoint s (e ∷ es) zero d = (disjoint_parts (uses_at s e) (all_from (step s e) es) d).first
  place_disjoint s (e ∷ es) (suc i) d =
      place_disjoint (step s e) es i (disjoint_parts (uses_at s e) (all_from (step s e) es) d).second

  one_place : (s : S) (es : List E) (i j : ℕ) (k : KeyName) (q : ℕ) → Disjoint (all_from s es) →
      IsUsed (at_place s es i) k q → IsUsed (at_place s es j) k q → i ≡ j
  one_place s [] i j k q d h m = absurd h
  one_place s (e ∷ es) zero zero k q d h m = refl
  one_place s (e ∷ es) zero (suc j) k q d h m =
      absurd ((disjoint_parts (uses_at s e) (all_from (step s e) es) d).apart k q h (place_used (step s e) es j k q m))
  one_place s (e ∷ es) (suc i) zero k q d h m =
      absurd ((disjoint_parts (uses_at s e) (all_from (step s e) es) d).apart k q m (place_used (step s e) es i k q h))
  one_place s (e ∷ es) (suc i) (suc j) k q d h m =
      ap suc (one_place (step s e) es i j k q (disjoint_parts (uses_at s e) (all_from (step s e) es) d).second h m)

-- 1 if two entries are the same, else 0
abbrev pub is_same : Origin → Origin → ℕ
is_same (at_lane lane place) (at_lane other there) = lane_takes lane place other there
is_same (at_lane lane place) (at_state caller state there) = 0
is_same (at_state caller state place) (at_lane lane there) = 0
is_same (at_state caller state place) (at_state c k i) = hit (c == caller && (k == state && i == place))

-- how often the entry `o` is in a list of entries
abbrev pub times : Origin → List Origin → ℕ
times o [] = 0
times o (x ∷ xs) = is_same o x + times o xs

pub times_append : (o : Origin) (xs ys : List Origin) → times o (xs ++ ys) ≡ times o xs + times o ys
times_append o [] ys = omega arith
times_append o (x ∷ xs) ys = omega (arith, times_append o xs ys)

abbrev holder : Origin → KeyHolder
holder (at_lane PoolLane place) = base_key
holder (at_lane BaseLane place) = base_key
holder (at_lane (CpuLane c) place) = cpu_key c
holder (at_state caller state place) = state_key caller state

module _ (lists : Lists) (lanes : ForwardLawful lists) (states : LawfulStates lists) where
  of_holder : (o : Origin) (k : KeyName) (q : ℕ) → IsUsed (origin_uses lists o) k q →
      IsUsed (uses_of lists (holder o)) k q
  of_holder (at_lane PoolLane place) k q h = absurd h
  of_holder (at_lane BaseLane place) k q h = place_used base_uses_at base_step base_start lists.base place k q h
  of_holder (at_lane (CpuLane c) place) k q h =
      place_used (cpu_uses_at c (is_rekeyed lists c)) (cpu_step lists.base c) cpu_start (cpu_list lists c) place k q h
  of_holder (at_state caller state place) k q h =
      place_used state_uses_at (state_step caller state) state_start (state_list lists caller state) place k q h

  origin_disjoint : (o : Origin) → Disjoint (origin_uses lists o)
  origin_disjoint (at_lane PoolLane place) = tt
  origin_disjoint (at_lane BaseLane place) =
      place_disjoint base_uses_at base_step base_start lists.base place (own_uses lists lanes states base_key).disjoint
  origin_disjoint (at_lane (CpuLane c) place) =
      place_disjoint (cpu_uses_at c (is_rekeyed lists c)) (cpu_step lists.base c) cpu_start (cpu_list lists c) place
      (own_uses lists lanes states (cpu_key c)).disjoint
  origin_disjoint (at_state caller state place) =
      place_disjoint state_uses_at (state_step caller state) state_start (state_list lists caller state) place
      (own_uses lists lanes states (state_key caller state)).disjoint

  one_holder : (o x : Origin) (k : KeyName) (q : ℕ) → IsUsed (origin_uses lists o) k q →
      IsUsed (origin_uses lists x) k q → holder o ≡ holder x
  one_holder o x k q h m = own_once lists lanes states (holder o) (holder x) k
      ((own_uses lists lanes states (holder o)).within k q (of_holder o k q h))
      ((own_uses lists lanes states (holder x)).within k q (of_holder x k q m))

  -- if the entries `o` and `x` use the same byte, they are the same entry
  meet : (o x : Origin) (k : KeyName) (q : ℕ) → IsUsed (origin_uses lists o) k q →
      IsUsed (origin_uses lists x) k q → is_same o x ≡ 1
  meet (at_lane PoolLane place) x k q h m = absurd h
  meet o (at_lane PoolLane place) k q h m = absurd m
  meet (at_lane BaseLane i) (at_lane BaseLane j) k q h m =
      let same : i ≡ j = one_place base_uses_at base_step base_start lists.base i j k q
      (own_uses lists lanes states base_key).disjoint h m in
      let yes : (j == i) ≡ true = eq-eqb j i (sym same) in ap hit yes
  meet (at_lane (CpuLane c) i) (at_lane (CpuLane d) j) k q h m =
      let cpu : c ≡ d = (let e = one_holder (at_lane (CpuLane c) i) (at_lane (CpuLane d) j) k q h m in cc) in
      let there : IsUsed (origin_uses lists (at_lane (CpuLane c) j)) k q =
      (let P : ℕ → Type 0 = λ x. IsUsed (origin_uses lists (at_lane (CpuLane x) j)) k q in subst P (sym cpu) m) in
      let same : i ≡ j = one_place (cpu_uses_at c (is_rekeyed lists c)) (cpu_step lists.base c) cpu_start
      (cpu_list lists c) i j k q (own_uses lists lanes states (cpu_key c)).disjoint h there in
      let on : (d == c) ≡ true = eq-eqb d c (sym cpu) in
      let yes : (j == i) ≡ true = eq-eqb j i (sym same) in
      rw (on, yes) refl
  meet (at_state c s i) (at_state d t j) k q h m =
      let e : state_key c s ≡ state_key d t = one_holder (at_state c s i) (at_state d t j) k q h m in
      let caller : c ≡ d = cc in
      let state : s ≡ t = cc in
      let there : IsUsed (origin_uses lists (at_state c s j)) k q =
      (let P : ℕ → Type 0 = λ x. IsUsed (origin_uses lists (at_state x s j)) k q in
      let Q : ℕ → Type 0 = λ x. IsUsed (origin_uses lists (at_state d x j)) k q in
      subst P (sym caller) (subst Q (sym state) m)) in
      let same : i ≡ j = one_place state_uses_at (state_step c s) state_start
      (state_list lists c s) i j k q (own_uses lists lanes states (state_key c s)).disjoint h there in
      let a : (d == c) ≡ true = eq-eqb d c (sym caller) in
      let b : (t == s) ≡ true = eq-eqb t s (sym state) in
      let yes : (j == i) ≡ true = eq-eqb j i (sym same) in
      rw (a, b, yes) refl
  meet (at_lane BaseLane i) (at_lane (CpuLane d) j) k q h m =
      let e = one_holder (at_lane BaseLane i) (at_lane (CpuLane d) j) k q h m in cc
  meet (at_lane BaseLane i) (at_state d t j) k q h m =
      let e = one_holder (at_lane BaseLane i) (at_state d t j) k q h m in cc
  meet (at_lane (CpuLane c) i) (at_lane BaseLane j) k q h m =
      let e = one_holder (at_lane (CpuLane c) i) (at_lane BaseLane j) k q h m in cc
  meet (at_lane (CpuLane c) i) (at_state d t j) k q h m =
      let e = one_holder (at_lane (CpuLane c) i) (at_state d t j) k q h m in cc
  meet (at_state c s i) (at_lane BaseLane j) k q h m =
      let e = one_holder (at_state c s i) (at_lane BaseLane j) k q h m in cc
  meet (at_state c s i) (at_lane (CpuLane d) j) k q h m =
      let e = one_holder (at_state c s i) (at_lane (CpuLane d) j) k q h m in cc

  -- if an entry and a list of entries use the same byte, then the list contains the entry
  found : (o : Origin) (xs : List Origin) (k : KeyName) (q : ℕ) → IsUsed (origin_uses lists o) k q →
      IsUsed (origins_uses lists xs) k q → 1 ≤ times o xs
  found o [] k q h m = absurd m
  found o (x ∷ xs) k q h m = elim (IsUsed-append_cases (origin_uses lists x) (origins_uses lists xs) k q m) [
    | inl here ↦ (let one = meet o x k q h here in omega arith)
    | inr there ↦ (let rest = found o xs k q h there in omega arith)
  ]

  -- if a list contains no entry twice, its uses are disjoint
  pub once_disjoint : (xs : List Origin) → ((o : Origin) → times o xs ≤ 1) → Disjoint (origins_uses lists xs)
  once_disjoint [] once = tt
  once_disjoint (x ∷ xs) once =
      Disjoint-append (origin_uses lists x) (origins_uses lists xs) (origin_disjoint x)
      (once_disjoint xs (λ o. let le = once o in omega arith))
      (λ k q h m. let one = meet x x k q h h in let more = found x xs k q h m in let le = once x in omega arith)
