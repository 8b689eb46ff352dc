-- If a vgetrandom state takes the read at a place of a CPU as its key, the code marks this place. After all entries of
-- states, a place of the CPU is marked exactly if `takes_read` is true for this place. With these marks the CPU's uses
-- are the same as with `is_rekeyed`.
use Rattle.std.proofs.Common.{◌≡◌, ◌≤◌, ◌<◌, ◌+◌, ℕ, Bool, true, false, List, [], ◌∷◌, ◌++◌, length, take, get_or, refl, sym, ap, ◌∙◌, arith}
use Rattle.std.specs.Prelude.{◌||◌, map}
use Rattle.std.specs.Global.{Vec}
use Rattle.std.specs.List.{list_any}
use Rattle.std.proofs.lemmas.List.{take_all}
use Rattle.std.proofs.lemmas.List.Folds.{list_any_more}
use Rattle.key_names.specs.declared.entries.BaseEntry.{BaseEntry}
use Rattle.key_names.specs.declared.entries.CpuEntry.{CpuEntry}
use Rattle.key_names.specs.declared.entries.CpuEntry.TheVariants.{Read, Int, Irq, Dump, Prepare, Online}
use Rattle.key_names.specs.declared.entries.VEntry.{VEntry}
use Rattle.key_names.specs.Lanes.CpuList.{CpuState, cpu_step}
use Rattle.key_names.specs.Keys.Uses.{rekeys_place}
use Rattle.audit_keys.specs.Fills.{rekeys_of}
use Rattle.audit_keys.specs.ListedFrom.{listed_from}
use Rattle.audit_keys.specs.UsedAt.{cpu_used_at}
use Rattle.audit_keys.specs.Listed.{takes_read, caller_lists}

or_assoc : (a b c : Bool) → ((a || b) || c) ≡ (a || (b || c))
or_assoc true b c = refl
or_assoc false b c = refl

pub or_false : (a : Bool) → a ≡ (a || false)
or_false true = refl
or_false false = refl

-- `now` has a mark at each place that `old` marks or that one of the first `i` elements of `xs` takes (`takes`)
abbrev pub MarkedBy : {X : Type 0} → (ℕ → X → Bool) → List X → ℕ → List Bool → List Bool → Type 0
MarkedBy takes xs i old now = (k : ℕ) → k < length old →
    rekeys_of now k ≡ (rekeys_of old k || list_any (takes k) (take i xs))

pub marked_more : {X : Type 0} (takes : ℕ → X → Bool) (xs : List X) (i : ℕ) (d : X) (old now new : List Bool) →
    i < length xs → length now ≡ length old → MarkedBy takes xs i old now →
    ((k : ℕ) → k < length now → rekeys_of new k ≡ (rekeys_of now k || takes k (get_or xs i d))) →
    MarkedBy takes xs (i + 1) old new
marked_more takes xs i d old now new below len h more k low =
    more k (omega (arith, len, low))
    ∙ ap (λ b. b || takes k (get_or xs i d)) (h k low)
    ∙ or_assoc (rekeys_of old k) (list_any (takes k) (take i xs)) (takes k (get_or xs i d))
    ∙ ap (λ b. rekeys_of old k || b) (sym (list_any_more (takes k) xs i d below))

pub marked_all : {X : Type 0} (takes : ℕ → X → Bool) (xs : List X) (i : ℕ) (old now : List Bool) →
    length xs ≤ i → MarkedBy takes xs i old now →
    (k : ℕ) → k < length old → rekeys_of now k ≡ (rekeys_of old k || list_any (takes k) xs)
marked_all takes xs i old now all h k low =
    h k low ∙ ap (λ ys. rekeys_of old k || list_any (takes k) ys) (take_all i xs all)

-- some element of `xs` has an image under `f` that passes the test, exactly if some element of `map f xs` passes it
any_map : {A B : Type 0} (f : A → B) (test : B → Bool) (xs : List A) →
    list_any (λ x. test (f x)) xs ≡ list_any test (map f xs)
any_map f test [] = refl
any_map f test (x ∷ xs) = ap (λ b. test (f x) || b) (any_map f test xs)

any_same : {A : Type 0} (f g : A → Bool) (xs : List A) → ((x : A) → f x ≡ g x) → list_any f xs ≡ list_any g xs
any_same f g [] same = refl
any_same f g (x ∷ xs) same =
    ap (λ b. b || list_any f xs) (same x) ∙ ap (λ b. g x || b) (any_same f g xs same)

abbrev pub lists_take : ℕ → ℕ → List (List VEntry) → Bool
lists_take c k lists = list_any (λ es. list_any (rekeys_place c k) es) lists

pub takes_read_is : (c : ℕ) (callers : List (Vec (Vec VEntry))) (k : ℕ) →
    takes_read c callers k ≡ list_any (λ lists. lists_take c k lists) (caller_lists callers)
takes_read_is c callers k =
    any_same (λ (states : Vec (Vec VEntry)). list_any (λ (es : Vec VEntry). list_any (rekeys_place c k) es.items) states.items)
    (λ (states : Vec (Vec VEntry)). lists_take c k (map (λ (es : Vec VEntry). es.items) states.items)) callers
    (λ states. any_map (λ (es : Vec VEntry). es.items) (λ es. list_any (rekeys_place c k) es) states.items)
    ∙ any_map (λ (states : Vec (Vec VEntry)). map (λ (es : Vec VEntry). es.items) states.items)
    (λ lists. lists_take c k lists) callers

-- if f and g agree at all places of a CPU's list, the CPU's uses are the same with f and with g
module _ (base : List BaseEntry) (c : ℕ) (f g : ℕ → Bool) where
  same_at : (s : CpuState) (e : CpuEntry) → f s.place ≡ g s.place → cpu_used_at c f s e ≡ cpu_used_at c g s e
  same_at s (Read look refill taken) is = rw is refl
  same_at s (Int look refill width true) is = refl
  same_at s (Int look refill width false) is = refl
  same_at s (Irq v1 v2 now) is = refl
  same_at s (Dump now) is = refl
  same_at s Prepare is = refl
  same_at s Online is = refl

  pub same_used : (s : CpuState) (es : List CpuEntry) →
      ((k : ℕ) → s.place ≤ k → k < s.place + length es → f k ≡ g k) →
      listed_from (cpu_used_at c f) (cpu_step base c) s es ≡ listed_from (cpu_used_at c g) (cpu_step base c) s es
  same_used s [] same = refl
  same_used s (e ∷ es) same =
      ap (λ us. us ++ listed_from (cpu_used_at c f) (cpu_step base c) (cpu_step base c s e) es)
      (same_at s e (same s.place (omega arith) (omega arith)))
      ∙ ap (λ us. cpu_used_at c g s e ++ us)
      (same_used (cpu_step base c s e) es (λ k low high. same k (omega (arith, low)) (omega (arith, high))))
