-- The law `HeldIsLive`: the keys and rests in `book_tells` are live, and the live keys and rests are in `book_tells`.
use Rattle.std.proofs.Common.{◌≡◌, ◌<◌, ◌+◌, ℕ, zero, suc, Bool, true, false, List, [], ◌∷◌, ◌++◌, length, refl, sym, ap, subst, ◌⊎◌, inl, inr, arith}
use Rattle.std.specs.Prelude.{Option, Some, None, All, Contains, nat_lt, if◌then◌else◌}
use Rattle.std.specs.List.{flat_map, range_with_len}
use Rattle.std.proofs.lemmas.Bool.Decides.{nat_tests}
use Rattle.std.proofs.lemmas.List.Elements.{All-nil, All-cons, All-append, Contains-append_left, Contains-append_right}
use Rattle.key_names.specs.declared.names.KeyName.{KeyName}
use Rattle.key_names.specs.declared.names.Span.{Span}
use Rattle.key_names.specs.Lanes.Book.{Lists, list_at}
use Rattle.key_names.specs.Lanes.CpuList.{cpu_after}
use Rattle.key_names.specs.Lanes.StateList.{state_after}
use Rattle.key_names.specs.Keys.LiveMaterial.{live_key, base_key, cpu_key, state_key, live_rest, cpu_batch, state_batch, fill_rest, state_rest, cpu_end}
use Rattle.audit_keys.specs.declared.held.KeyHolder.{KeyHolder}
use Rattle.audit_keys.specs.declared.held.KeyHolder.TheVariants.{Base, Cpu, State}
use Rattle.audit_keys.specs.declared.held.BatchHolder.{BatchHolder}
use Rattle.audit_keys.specs.declared.held.BatchHolder.TheVariants.{Cpu as CpuBatch, State as StateBatch}
use Rattle.audit_keys.specs.declared.held.HeldKey.{HeldKey}
use Rattle.audit_keys.specs.declared.held.HeldRest.{HeldRest}
use Rattle.audit_keys.specs.Rests.{widths}
use Rattle.audit_keys.specs.Held.{held_key, held_rest, key_holder, batch_holder}
use Rattle.audit_keys.specs.Listed.{listed_below, base_tells, cpu_tells, cpus_tell, state_tells, caller_tells, callers_tell, book_tells}
use Rattle.audit_keys.specs.HeldIsLive.{BooksTellLive, HasByteWidth}

all_of_each : {T : Type 0} (P : T → Type 0) (tells : ℕ → List T) (ns : List ℕ) → ((n : ℕ) → All P (tells n)) →
    All P (flat_map tells ns)
all_of_each P tells [] all = All-nil P
all_of_each P tells (n ∷ ns) all =
    All-append P (tells n) (flat_map tells ns) (all n) (all_of_each P tells ns all)

-- the results for the `n` numbers from `a` on include the results for the number `a + j`
one_of_each : {T : Type 0} (tells : ℕ → List T) (a n j : ℕ) (x : T) → j < n → Contains (tells (a + j)) x →
    Contains (flat_map tells (range_with_len a n)) x
one_of_each tells a zero j x below is = absurd (omega arith)
one_of_each tells a (suc n) zero x below is =
    Contains-append_left (tells a) (flat_map tells (range_with_len (a + 1) n)) x
    (let e : a + 0 ≡ a = omega arith in subst (λ m. Contains (tells m) x) e is)
one_of_each tells a (suc n) (suc j) x below is =
    Contains-append_right (tells a) (flat_map tells (range_with_len (a + 1) n)) x
    (one_of_each tells (a + 1) n j x (omega arith)
    (let e : a + suc j ≡ (a + 1) + j = omega arith in subst (λ m. Contains (tells m) x) e is))

one_below : {T : Type 0} (tells : ℕ → List T) (n j : ℕ) (x : T) → j < n → Contains (tells j) x →
    Contains (listed_below n tells) x
one_below tells n j x below is =
    one_of_each tells 0 n j x below (let e : j ≡ 0 + j = omega arith in subst (λ m. Contains (tells m) x) e is)

one_width : {T : Type 0} (tells : ℕ → List T) (w : ℕ) (x : T) → w < 256 → Contains (tells w) x →
    Contains (flat_map tells widths) x
unfolding widths
one_width tells w x below is = one_below tells 256 w x below is

-- in a list of lists, the list at number `n` is empty, or `n` is below the number of lists
within : {E : Type 0} (xss : List (List E)) (n : ℕ) → (list_at xss n ≡ []) ⊎ (n < length xss)
within [] n = inl refl
within (xs ∷ xss) zero = inr (omega arith)
within (xs ∷ xss) (suc n) = elim (within xss n) [ inl e ↦ inl e | inr low ↦ inr (omega (arith, low)) ]

module _ (lists : Lists) where
  abbrev KeyLive : HeldKey → Type 0
  KeyLive held = live_key lists (key_holder held.holder) ≡ Some held.key

  abbrev RestLive : HeldRest → Type 0
  RestLive held = live_rest lists (batch_holder held.holder) ≡ Some held.span

  key_live : (holder : KeyHolder) (key : Option KeyName) → live_key lists (key_holder holder) ≡ key →
      All KeyLive (held_key holder key)
  key_live holder None is = All-nil KeyLive
  key_live holder (Some key) is = All-cons KeyLive (record { holder = holder; key = key }) [] is (All-nil KeyLive)

  rest_live : (holder : BatchHolder) (span : Option Span) → live_rest lists (batch_holder holder) ≡ span →
      All RestLive (held_rest holder span)
  rest_live holder None is = All-nil RestLive
  rest_live holder (Some span) is = go (nat_lt 0 span.len)
    where
      go : (b : Bool) → All RestLive (if b then record { holder = holder; span = span } ∷ [] else [])
      go true = All-cons RestLive (record { holder = holder; span = span }) [] is (All-nil RestLive)
      go false = All-nil RestLive

  key_listed : (holder : KeyHolder) (o : Option KeyName) (key : KeyName) → o ≡ Some key →
      Contains (held_key holder o) (record { holder = holder; key = key })
  key_listed holder None key is = cc
  key_listed holder (Some k) key is =
      let e : k ≡ key = cc in
      subst (λ x. Contains {X = HeldKey} (held_key holder (Some x)) (record { holder = holder; key = key })) (sym e)
      (0, omega arith, refl)

  rest_listed : (holder : BatchHolder) (o : Option Span) (span : Span) → 0 < span.len → o ≡ Some span →
      Contains (held_rest holder o) (record { holder = holder; span = span })
  rest_listed holder None span has is = cc
  rest_listed holder (Some s) span has is =
      let e : s ≡ span = cc in
      subst (λ x. Contains {X = HeldRest} (held_rest holder (Some x)) (record { holder = holder; span = span })) (sym e) here
    where
      go : (b : Bool) → nat_lt 0 span.len ≡ b →
          Contains {X = HeldRest} (if b then record { holder = holder; span = span } ∷ [] else []) (record { holder = holder; span = span })
      go true t = (0, omega arith, refl)
      go false t = absurd (grind (arith, nat_tests))

      here : Contains (held_rest holder (Some span)) (record { holder = holder; span = span })
      here = go (nat_lt 0 span.len) refl

  cpu_keys_live : All KeyLive (cpus_tell lists).keys
  cpu_keys_live = all_of_each KeyLive (λ c. (cpu_tells lists c).keys) (range_with_len 0 (length lists.cpus))
      (λ c. key_live (Cpu c) (live_key lists (cpu_key c)) refl)

  state_keys_live : All KeyLive (callers_tell lists).keys
  state_keys_live =
      all_of_each KeyLive (λ caller. (caller_tells lists caller).keys) (range_with_len 0 (length lists.callers))
      (λ caller. all_of_each KeyLive (λ state. (state_tells lists caller state).keys)
      (range_with_len 0 (length (list_at lists.callers caller)))
      (λ state. key_live (State (record { caller = caller; state = state })) (live_key lists (state_key caller state)) refl))

  keys_live : All KeyLive (book_tells lists).keys
  keys_live = All-append KeyLive ((base_tells lists).keys ++ (cpus_tell lists).keys) (callers_tell lists).keys
      (All-append KeyLive (base_tells lists).keys (cpus_tell lists).keys (key_live Base (live_key lists base_key) refl)
      cpu_keys_live) state_keys_live

  cpu_rests_live : All RestLive (cpus_tell lists).rests
  cpu_rests_live = all_of_each RestLive (λ c. (cpu_tells lists c).rests) (range_with_len 0 (length lists.cpus))
      (λ c. all_of_each RestLive (λ w. held_rest (CpuBatch c w) (fill_rest w ((cpu_end lists c).fills w))) widths
      (λ w. rest_live (CpuBatch c w) (live_rest lists (cpu_batch c w)) refl))

  state_rests_live : All RestLive (callers_tell lists).rests
  state_rests_live =
      all_of_each RestLive (λ caller. (caller_tells lists caller).rests) (range_with_len 0 (length lists.callers))
      (λ caller. all_of_each RestLive (λ state. (state_tells lists caller state).rests)
      (range_with_len 0 (length (list_at lists.callers caller)))
      (λ state. rest_live (StateBatch (record { caller = caller; state = state }))
      (live_rest lists (state_batch caller state)) refl))

  rests_live : All RestLive (book_tells lists).rests
  rests_live = All-append RestLive (cpus_tell lists).rests (callers_tell lists).rests cpu_rests_live state_rests_live

  -- the results for one vgetrandom state are among the results for all states of all callers
  one_state : {T : Type 0} (tells : ℕ → ℕ → List T) (caller state : ℕ) (x : T) → caller < length lists.callers →
      state < length (list_at lists.callers caller) → Contains (tells caller state) x →
      Contains (listed_below (length lists.callers)
      (λ n. listed_below (length (list_at lists.callers n)) (tells n))) x
  one_state tells caller state x low below is =
      one_below (λ n. listed_below (length (list_at lists.callers n)) (tells n)) (length lists.callers) caller x low
      (one_below (tells caller) (length (list_at lists.callers caller)) state x below is)

  all_keys : (holder : KeyHolder) (key : KeyName) → live_key lists (key_holder holder) ≡ Some key →
      Contains (book_tells lists).keys (record { holder = holder; key = key })
  all_keys Base key is =
      Contains-append_left ((base_tells lists).keys ++ (cpus_tell lists).keys) (callers_tell lists).keys _
      (Contains-append_left (base_tells lists).keys (cpus_tell lists).keys _
      (key_listed Base (live_key lists base_key) key is))
  all_keys (Cpu c) key is = elim (within lists.cpus c) [
    | inl e ↦ (let s = ap (λ es. (cpu_after lists.base c es).key) e in cc)
    | inr low ↦ Contains-append_left ((base_tells lists).keys ++ (cpus_tell lists).keys) (callers_tell lists).keys _
        (Contains-append_right (base_tells lists).keys (cpus_tell lists).keys _
        (one_below (λ n. (cpu_tells lists n).keys) (length lists.cpus) c (record { holder = Cpu c; key = key }) low
        (key_listed (Cpu c) (live_key lists (cpu_key c)) key is)))
  ]
  all_keys (State of) key is = elim (within lists.callers of.caller) [
    | inl e ↦ (let s = ap (λ ess. (state_after of.caller of.state (list_at ess of.state)).key) e in cc)
    | inr low ↦ elim (within (list_at lists.callers of.caller) of.state) [
      | inl e ↦ (let s = ap (λ es. (state_after of.caller of.state es).key) e in cc)
      | inr below ↦ Contains-append_right ((base_tells lists).keys ++ (cpus_tell lists).keys) (callers_tell lists).keys _
          (one_state (λ caller state. (state_tells lists caller state).keys) of.caller of.state (record { holder = State of; key = key }) low below
          (key_listed (State of) (live_key lists (state_key of.caller of.state)) key is))
    ]
  ]

  all_rests : (holder : BatchHolder) (span : Span) → HasByteWidth holder → 0 < span.len →
      live_rest lists (batch_holder holder) ≡ Some span →
      Contains (book_tells lists).rests (record { holder = holder; span = span })
  all_rests (CpuBatch c w) span byte has is = elim (within lists.cpus c) [
    | inl e ↦ (let s = ap (λ es. fill_rest w ((cpu_after lists.base c es).fills w)) e in cc)
    | inr low ↦ Contains-append_left (cpus_tell lists).rests (callers_tell lists).rests _
        (one_below (λ n. (cpu_tells lists n).rests) (length lists.cpus) c (record { holder = CpuBatch c w; span = span }) low
        (one_width (λ v. held_rest (CpuBatch c v) (fill_rest v ((cpu_end lists c).fills v))) w (record { holder = CpuBatch c w; span = span }) byte
        (rest_listed (CpuBatch c w) (live_rest lists (cpu_batch c w)) span has is)))
  ]
  all_rests (StateBatch of) span byte has is = elim (within lists.callers of.caller) [
    | inl e ↦ (let s = ap (λ ess. state_rest (state_after of.caller of.state (list_at ess of.state))) e in cc)
    | inr low ↦ elim (within (list_at lists.callers of.caller) of.state) [
      | inl e ↦ (let s = ap (λ es. state_rest (state_after of.caller of.state es)) e in cc)
      | inr below ↦ Contains-append_right (cpus_tell lists).rests (callers_tell lists).rests _
          (one_state (λ caller state. (state_tells lists caller state).rests) of.caller of.state (record { holder = StateBatch of; span = span }) low below
          (rest_listed (StateBatch of) (live_rest lists (state_batch of.caller of.state)) span has is))
    ]
  ]

pub books_tell_live : BooksTellLive
books_tell_live lists = record {
  keys_live = keys_live lists;
  all_keys = all_keys lists;
  rests_live = rests_live lists;
  all_rests = all_rests lists;
}
