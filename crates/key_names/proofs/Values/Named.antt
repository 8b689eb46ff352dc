-- After each entry of the base's list, the base's key has the value of its name. The same is true of each CPU.
use Rattle.std.proofs.Common.{◌≡◌, ℕ, zero, suc, ◌+◌, false, List, [], ◌∷◌, ◌++◌, inl, inr, refl, sym, subst, ap, ◌∙◌, arith, Some, None, Option, length, take, append_assoc}
use Rattle.std.specs.Prelude.{slice_get, option_and_then}
use Rattle.std.specs.List.{fold}
use Rattle.std.proofs.lemmas.List.Sums.{fold-append}
use Rattle.std.proofs.lemmas.List.{append-nil}
use Rattle.key_names.specs.declared.names.LaneId.TheVariants.{Base as BaseLane}
use Rattle.key_names.specs.declared.names.KeyName.{KeyName}
use Rattle.key_names.specs.declared.names.KeyName.TheVariants.{Call}
use Rattle.key_names.specs.declared.entries.BaseEntry.{BaseEntry}
use Rattle.key_names.specs.declared.entries.PoolEntry.{PoolEntry}
use Rattle.key_names.specs.declared.entries.CpuEntry.{CpuEntry}
use Rattle.key_names.specs.Lanes.BaseList.{base_step, base_start, base_after, base_erases, base_key_in_use}
use Rattle.key_names.specs.Lanes.CpuList.{CpuState, cpu_step, cpu_start, cpu_after, cpu_erases, cpu_key_in_use, call_or, base_refill_of}
use Rattle.key_names.specs.Lanes.Book.{Lists, cpu_list}
use Rattle.key_names.specs.Keys.KeyInUse.{zero_key, value_of, root_value_or, base_value_in_use, base_value_step, base_value_after, base_used_at, call_value_or, cpu_value_in_use, cpu_value_step, cpu_value_after, cpu_used_at}
use Rattle.key_names.proofs.Uses.BaseUses.{in_use_cases, after_cases}
use Rattle.key_names.proofs.Uses.CpuNames.{after_cases as cpu_after_cases}

-- the name of the key in use at an entry of the base; below, the name of the key in use at an entry of a CPU
abbrev pub base_key_at : Lists → ℕ → Option KeyName
base_key_at lists i =
    option_and_then (λ e. base_key_in_use e (base_after (take i lists.base)).key) (slice_get lists.base i)

abbrev pub cpu_key_at : Lists → ℕ → ℕ → Option KeyName
cpu_key_at lists c k =
    option_and_then (λ e. cpu_key_in_use e (cpu_after lists.base c (take k (cpu_list lists c))).key)
    (slice_get (cpu_list lists c) k)

-- if P holds for `front`, and each later entry of `xs` preserves P, then P holds for each longer prefix of `xs`
pub every_front : {A : Type 0} (P : List A → Type 0) (xs front rest : List A) → xs ≡ front ++ rest → P front →
    ((front : List A) (e : A) (rest : List A) → xs ≡ (front ++ e ∷ []) ++ rest → P front → P (front ++ e ∷ [])) →
    (j : ℕ) → P (front ++ take j rest)
every_front P xs front rest is now more zero = let Q = P in subst Q (sym (append-nil front)) now
every_front P xs front [] is now more (suc j) = let Q = P in subst Q (sym (append-nil front)) now
every_front P xs front (e ∷ rest) is now more (suc j) =
    let p : (front ++ e ∷ []) ++ rest ≡ front ++ (e ∷ rest) = append_assoc front (e ∷ []) rest in
    let q : (front ++ e ∷ []) ++ take j rest ≡ front ++ (e ∷ take j rest) = append_assoc front (e ∷ []) (take j rest) in
    subst P q (every_front P xs (front ++ e ∷ []) rest (is ∙ sym p) (more front e rest (is ∙ sym p) now) more j)

-- the place after a list is the place before the list plus the list's length
pub place_after : {S E : Type 0} (place : S → ℕ) (step : S → E → S) → ((s : S) (e : E) → place (step s e) ≡ suc (place s)) →
    (s : S) (xs : List E) → place (fold step s xs) ≡ place s + length xs
place_after place step next s [] = omega arith
place_after place step next s (x ∷ xs) =
    let p : place (fold step (step s x) xs) ≡ place (step s x) + length xs =
    place_after place step next (step s x) xs in
    let q : place (step s x) ≡ suc (place s) = next s x in omega arith

take_front : {A : Type 0} (xs : List A) (e : A) (ys : List A) →
    take (suc (length xs)) ((xs ++ e ∷ []) ++ ys) ≡ xs ++ e ∷ []
take_front [] e ys = refl
take_front (x ∷ xs) e ys = ap (λ zs. x ∷ zs) (take_front xs e ys)

-- the base's key after a prefix of the list has the value of its name
abbrev pub BaseNamed : Lists → List BaseEntry → Type 0
BaseNamed lists front = (k : KeyName) → (base_after front).key ≡ Some k →
    value_of lists k ≡ base_value_after lists.pool front

-- if the base's key after `front` has the value of its name, so does the key in use at the next entry `e`
base_in_use_named : (lists : Lists) (front : List BaseEntry) (e : BaseEntry) → BaseNamed lists front →
    (k : KeyName) → base_key_in_use e (base_after front).key ≡ Some k →
    value_of lists k ≡ base_value_in_use lists.pool e (base_value_after lists.pool front)
base_in_use_named lists front e named k h = elim (in_use_cases e (base_after front).key k h) [
  | inl c ↦ named k c.1 ∙ sym (ap (λ o. root_value_or lists.pool o (base_value_after lists.pool front)) c.0)
  | inr d ↦ sym (ap (value_of lists) d.2)
      ∙ sym (ap (λ o. root_value_or lists.pool o (base_value_after lists.pool front)) d.1)
]

base_idle : (pool : List PoolEntry) (value : List ℕ) (e : BaseEntry) → base_erases e ≡ false →
    base_value_step pool value e ≡ base_value_in_use pool e value
base_idle pool value e h = rw h

base_named_more : (lists : Lists) (front : List BaseEntry) (e : BaseEntry) (rest : List BaseEntry) →
    lists.base ≡ (front ++ e ∷ []) ++ rest →
    BaseNamed lists front → BaseNamed lists (front ++ e ∷ [])
base_named_more lists front e rest is named k h =
    let state : base_after (front ++ e ∷ []) ≡ base_step (base_after front) e =
    fold-append base_step base_start front (e ∷ []) in
    let value : base_value_after lists.pool (front ++ e ∷ []) ≡ base_value_step lists.pool
    (base_value_after lists.pool front) e =
    fold-append (base_value_step lists.pool) zero_key front (e ∷ []) in
    elim (after_cases (base_after front).place e (base_after front).key k (sym (ap (λ s. s.key) state) ∙ h)) [
      | inl a ↦ (let at : (base_after front).place ≡ length front =
          (let p : (base_after front).place ≡ 0 + length front = place_after (λ s. s.place) base_step
          (λ s e. refl) base_start front in omega arith) in
          sym (ap (value_of lists) a.1) ∙ ap (λ i. base_value_after lists.pool (take (suc i) lists.base)) at
          ∙ ap (λ b. base_value_after lists.pool (take (suc (length front)) b)) is
          ∙ ap (base_value_after lists.pool) (take_front front e rest))
      | inr b ↦ base_in_use_named lists front e named k b.1 ∙ sym (value ∙ base_idle lists.pool _ e b.0)
    ]

pub base_named : (lists : Lists) (j : ℕ) → BaseNamed lists (take j lists.base)
base_named lists j =
    every_front (BaseNamed lists) lists.base [] lists.base refl (λ k h. cc) (base_named_more lists) j

-- a CPU's key after a prefix of the list has the value of its name
abbrev pub CpuNamed : Lists → ℕ → List CpuEntry → Type 0
CpuNamed lists c front = (k : KeyName) → (cpu_after lists.base c front).key ≡ Some k →
    value_of lists k ≡ cpu_value_after lists front

pub call_or_named : (lists : Lists) (o : Option ℕ) (key : Option KeyName) (value : List ℕ) →
    ((k : KeyName) → key ≡ Some k → value_of lists k ≡ value) →
    (k : KeyName) → call_or o key ≡ Some k → value_of lists k ≡ call_value_or lists o value
call_or_named lists None key value named k h = named k h
call_or_named lists (Some b) key value named k h = let p : Call BaseLane b ≡ k = cc in sym (ap (value_of lists) p)

cpu_idle : (lists : Lists) (value : List ℕ) (e : CpuEntry) → cpu_erases e ≡ false →
    cpu_value_step lists value e ≡ cpu_value_in_use lists e value
cpu_idle lists value e h = rw h

cpu_named_more : (lists : Lists) (c : ℕ) (front : List CpuEntry) (e : CpuEntry) (rest : List CpuEntry) →
    cpu_list lists c ≡ (front ++ e ∷ []) ++ rest →
    CpuNamed lists c front → CpuNamed lists c (front ++ e ∷ [])
cpu_named_more lists c front e rest is named k h =
    let before : CpuState = cpu_after lists.base c front in
    let state : cpu_after lists.base c (front ++ e ∷ []) ≡ cpu_step lists.base c before e =
    fold-append (cpu_step lists.base c) cpu_start front (e ∷ []) in
    let value : cpu_value_after lists (front ++ e ∷ []) ≡ cpu_value_step lists (cpu_value_after lists front) e =
    fold-append (cpu_value_step lists) zero_key front (e ∷ []) in
    elim (cpu_after_cases lists.base c (λ i. None) before.place e before.key k (sym (ap (λ s. s.key) state) ∙ h)) [
      | inl a ↦ (let at : before.place ≡ length front =
          (let p : before.place ≡ 0 + length front = place_after (λ s. s.place) (cpu_step lists.base c)
          (λ s e. refl) cpu_start front in omega arith) in
          sym (ap (value_of lists) a.1) ∙ ap (λ i. cpu_value_after lists (take (suc i) (cpu_list lists c))) at
          ∙ ap (λ b. cpu_value_after lists (take (suc (length front)) b)) is
          ∙ ap (cpu_value_after lists) (take_front front e rest))
      | inr b ↦ call_or_named lists (base_refill_of e) before.key (cpu_value_after lists front) named k b.1
          ∙ sym (value ∙ cpu_idle lists _ e b.0)
    ]

pub cpu_named : (lists : Lists) (c j : ℕ) → CpuNamed lists c (take j (cpu_list lists c))
cpu_named lists c j =
    every_front (CpuNamed lists c) (cpu_list lists c) [] (cpu_list lists c) refl (λ k h. cc) (cpu_named_more lists c) j

-- the key in use at a place of the base has the value of its name
pub base_key_named : (lists : Lists) (i : ℕ) (k : KeyName) → base_key_at lists i ≡ Some k →
    value_of lists k ≡ base_used_at lists.pool lists.base i
base_key_named lists i k h = go (slice_get lists.base i) refl h
  where
    go : (o : Option BaseEntry) → slice_get lists.base i ≡ o →
        option_and_then (λ e. base_key_in_use e (base_after (take i lists.base)).key) o ≡ Some k →
        value_of lists k ≡ base_used_at lists.pool lists.base i
    go None is h = cc
    go (Some e) is h = rw is (base_in_use_named lists (take i lists.base) e (base_named lists i) k h)

pub cpu_key_named : (lists : Lists) (c i : ℕ) (k : KeyName) → cpu_key_at lists c i ≡ Some k →
    value_of lists k ≡ cpu_used_at lists c i
cpu_key_named lists c i k h = go (slice_get (cpu_list lists c) i) refl h
  where
    go : (o : Option CpuEntry) → slice_get (cpu_list lists c) i ≡ o →
        option_and_then (λ e. cpu_key_in_use e (cpu_after lists.base c (take i (cpu_list lists c))).key) o ≡ Some k →
        value_of lists k ≡ cpu_used_at lists c i
    go None is h = cc
    go (Some e) is h = rw is (call_or_named lists (base_refill_of e)
        (cpu_after lists.base c (take i (cpu_list lists c))).key
        (cpu_value_after lists (take i (cpu_list lists c))) (cpu_named lists c i) k h)
