-- Computes a proof that the lists of the pool, the base and the CPUs are lawful. The result is none if no proof is
-- found.
use Rattle.std.proofs.Common.{◌≡◌, ◌≢◌, ◌↔◌, ℕ, zero, suc, false, Option, Some, None, List, [], ◌∷◌, refl, ap, subst}
use Rattle.std.proofs.Common.{slice_get}
use Rattle.std.specs.Prelude.{option_and_then}
use Rattle.key_names.specs.declared.entries.PoolEntry.{PoolEntry}
use Rattle.key_names.specs.declared.entries.BaseEntry.{BaseEntry}
use Rattle.key_names.specs.declared.entries.BaseEntry.TheVariants.{Early, Reseed, Tick, Draw, Refill, Fork, End, Wait}
use Rattle.key_names.specs.declared.entries.BaseEntry.TheVariants.{Resume, Interrupt, Stall, Unstall}
use Rattle.key_names.specs.declared.entries.CpuEntry.{CpuEntry}
use Rattle.key_names.specs.declared.entries.CpuEntry.TheVariants.{Read, Int, Irq, Dump, Prepare, Online}
use Rattle.key_names.specs.Lanes.LawfulList.{LawfulFrom}
use Rattle.key_names.specs.Lanes.PoolList.{extraction_at, base_place_of}
use Rattle.key_names.specs.Lanes.BaseList.{Phase, empty, early, ready, BaseState, BaseFits, LawfulBase, RootConforms, IsDue}
use Rattle.key_names.specs.Lanes.BaseList.{base_step, base_start, root_of, root_at, refill_of, refill_at, generation_at}
use Rattle.key_names.specs.Kernel.Batches.{must_fill}
use Rattle.key_names.specs.Lanes.CpuList.{CpuState, CpuFits, LawfulCpu, LookFitsCpu, RefillNames, RefillConforms, cpu_step}
use Rattle.key_names.specs.Lanes.CpuList.{cpu_start, base_refill_at}
use Rattle.key_names.specs.Lanes.Book.{Lists, LawfulLanes, ExtractionAnswered, RefillAnswered, cpu_list, list_at}
use Rattle.worked_cases.proofs.Decided.{Decided, yes, no, both, either, negated, likewise, found, found_by, found_both}
use Rattle.worked_cases.proofs.Decided.{found_three, found_pair, same_number, same_option, same_bool, at_most}
use Rattle.worked_cases.proofs.Decided.{none_is_not_some}

abbrev list_found : {S E : Type 0} {May : S → E → Type 0} (step : S → E → S) → ((s : S) (e : E) → Option (May s e)) →
    (s : S) (es : List E) → Option (LawfulFrom May step s es)
list_found step d s [] = Some tt
list_found step d s (e ∷ es) = found_pair (d s e) (list_found step d (step s e) es)

-- ---- The list of the base

abbrev same_phase : (a b : Phase) → Option (a ≡ b)
same_phase empty empty = Some refl
same_phase early early = Some refl
same_phase ready ready = Some refl
same_phase _ _ = None

pub early_is_not_empty : early ≡ empty → ⊥
early_is_not_empty e = cc

pub ready_is_not_empty : ready ≡ empty → ⊥
ready_is_not_empty e = cc

abbrev not_empty : (a : Phase) → Option (a ≢ empty)
not_empty empty = None
not_empty early = Some early_is_not_empty
not_empty ready = Some ready_is_not_empty

abbrev due : (timer : Option ℕ) (now : ℕ) → Decided (IsDue timer now)
due None now = no (λ h. h)
due (Some moment) now = at_most moment now

abbrev base_fits : (s : BaseState) (e : BaseEntry) → Option (BaseFits s e)
base_fits s (Early (Some root)) = same_phase s.phase empty
base_fits s (Early None) = not_empty s.phase
base_fits s (Reseed root now) = Some tt
base_fits s (Tick now (Some root)) = found (due s.timer now)
base_fits s (Tick now None) = found (negated (due s.timer now))
base_fits s (Draw (Some root) taken) = same_phase s.phase empty
base_fits s (Draw None taken) = same_phase s.phase early
base_fits s (Refill cpu cpu_place) = same_phase s.phase ready
base_fits s (Fork child) = Some tt
base_fits s End = Some tt
base_fits s Wait = Some tt
base_fits s Resume = found (at_most 1 s.generation)
base_fits s Interrupt = found (both (same_number s.generation 0) (same_number s.running 0))
base_fits s Stall = Some tt
base_fits s Unstall = Some tt

abbrev root_found : (pool : List PoolEntry) (s : BaseState) (root : Option ℕ) → Option (RootConforms pool s root)
root_found pool s None = Some tt
root_found pool s (Some r) =
    found (both (at_most s.roots r) (same_option same_number (extraction_at pool r) (Some s.place)))

abbrev base_found : (pool : List PoolEntry) (base : List BaseEntry) → Option (LawfulBase pool base)
base_found pool base =
    list_found base_step (λ s e. found_both (λ f r. record { fits = f; root = r }) (base_fits s e)
    (root_found pool s (root_of e)))
    base_start base

-- ---- The list of a CPU

abbrev iff : {P Q : Type 0} → Decided P → Decided Q → Option (P ↔ Q)
iff (yes p) (yes q) = Some ((λ x. q), (λ x. p))
iff (no p) (no q) = Some ((λ x. absurd (p x)), (λ x. absurd (q x)))
iff (yes p) (no q) = None
iff (no p) (yes q) = None

abbrev is_none : (o : Option ℕ) → Decided (o ≡ None)
is_none o = same_option same_number o None

abbrev looks_found : (s : CpuState) (look : ℕ) → Option (LookFitsCpu s look)
looks_found s look =
    found_both (λ k n. record { known = k; not_back = n }) (found (at_most 1 look)) (found (at_most s.generation look))

abbrev cpu_fits : (s : CpuState) (e : CpuEntry) → Option (CpuFits s e)
cpu_fits s (Read look refill taken) =
    found_both (λ l n. record { looks = l; names = n }) (looks_found s look)
    (iff (is_none refill) (same_number look s.generation))
cpu_fits s (Int look refill width filled) =
    found_three (λ l f n. record { looks = l; fills = f; names = n }) (looks_found s look)
    (found (same_bool filled (must_fill look width (s.fills width))))
    (iff (is_none refill) (either (same_bool filled false) (same_number look s.generation)))
cpu_fits s (Irq v1 v2 now) = Some tt
cpu_fits s (Dump now) = Some tt
cpu_fits s Prepare = Some tt
cpu_fits s Online = Some tt

abbrev same_place : (a b : ℕ × ℕ) → Decided (a ≡ b)
same_place a b =
    likewise (λ (p : (a.0 ≡ b.0) × (a.1 ≡ b.1)) i. (p.0 i, p.1 i))
    (λ e. (ap (λ (x : ℕ × ℕ). x.0) e, ap (λ (x : ℕ × ℕ). x.1) e))
    (both (same_number a.0 b.0) (same_number a.1 b.1))

abbrev refill_names : (base : List BaseEntry) (c place look : ℕ) (refill : Option ℕ) →
    Option (RefillNames base c place look refill)
refill_names base c place look None = Some tt
refill_names base c place look (Some b) =
    found (both (same_option same_place (refill_at base b) (Some (c, place))) (at_most look (generation_at base b)))

abbrev refill_conforms : (base : List BaseEntry) (c place : ℕ) (e : CpuEntry) → Option (RefillConforms base c place e)
refill_conforms base c place (Read look refill taken) = refill_names base c place look refill
refill_conforms base c place (Int look refill width filled) = refill_names base c place look refill
refill_conforms base c place (Irq v1 v2 now) = Some tt
refill_conforms base c place (Dump now) = Some tt
refill_conforms base c place Prepare = Some tt
refill_conforms base c place Online = Some tt

abbrev cpu_found : (base : List BaseEntry) (c : ℕ) (es : List CpuEntry) → Option (LawfulCpu base c es)
cpu_found base c es = list_found (cpu_step base c)
    (λ s e. found_both (λ f r. record { fits = f; refill = r }) (cpu_fits s e) (refill_conforms base c s.place e))
    cpu_start es

-- ---- The lists of all lanes

pub at_number : {E : Type 0} (P : ℕ → List E → Type 0) (es : List E) (lists : List (List E)) → P 0 es →
    ((c : ℕ) → P (suc c) (list_at lists c)) → (c : ℕ) → P c (list_at (es ∷ lists) c)
at_number P es lists here later zero = here
at_number P es lists here later (suc c) = later c

-- a proof that `P` holds of each of `lists` with its number, and of the empty list with each later number; none if one
-- of these proofs is not found
abbrev pub each_list : {E : Type 0} (P : ℕ → List E → Type 0) → ((c : ℕ) → P c []) →
    ((c : ℕ) (es : List E) → Option (P c es)) →
    (lists : List (List E)) → Option ((c : ℕ) → P c (list_at lists c))
each_list P none d [] = Some none
each_list P none d (es ∷ lists) =
    found_both (at_number P es lists) (d 0 es) (each_list (λ c. P (suc c)) (λ c. none (suc c)) (λ c. d (suc c)) lists)

pub no_entry : {E N : Type 0} (name : E → Option N) (p : ℕ) (n : N) → option_and_then name (slice_get [] p) ≡ Some n → ⊥
no_entry name zero n e = cc
no_entry name (suc p) n e = cc

pub at_place : {E N : Type 0} (name : E → Option N) (Q : ℕ → N → Type 0) (e : E) (es : List E) →
    ((n : N) → name e ≡ Some n → Q 0 n) →
    ((p : ℕ) (n : N) → option_and_then name (slice_get es p) ≡ Some n → Q (suc p) n) →
    (p : ℕ) (n : N) → option_and_then name (slice_get (e ∷ es) p) ≡ Some n → Q p n
at_place name Q e es here later zero n is = here n is
at_place name Q e es here later (suc p) n is = later p n is

pub at_name : {N : Type 0} (Q : N → Type 0) (m n : N) → Q m → Some m ≡ Some n → Q n
at_name Q m n q e = (let s : m ≡ n = cc in subst Q s q)

abbrev named : {N : Type 0} (Q : N → Type 0) → ((n : N) → Option (Q n)) → (name : Option N) →
    Option ((n : N) → name ≡ Some n → Q n)
named Q d None = Some (λ n e. absurd (none_is_not_some n e))
named Q d (Some m) = found_by (λ q n e. at_name Q m n q e) (d m)

-- a proof that `Q` holds of the place and the name of each entry of `es` that contains a name; none if one of these
-- proofs is not found
abbrev pub each_name : {E N : Type 0} (name : E → Option N) (Q : ℕ → N → Type 0) → ((p : ℕ) (n : N) → Option (Q p n)) →
    (es : List E) → Option ((p : ℕ) (n : N) → option_and_then name (slice_get es p) ≡ Some n → Q p n)
each_name name Q d [] = Some (λ p n e. absurd (no_entry name p n e))
each_name name Q d (e ∷ es) =
    found_both (at_place name Q e es) (named (Q 0) (d 0) (name e)) (each_name name (λ p. Q (suc p)) (λ p. d (suc p)) es)

abbrev pub lanes_found : (lists : Lists) → Option (LawfulLanes lists)
lanes_found lists =
    found_three (λ forward extractions refills. record {
      forward = forward;
      extractions = extractions;
      refills = λ b c k. refills b (c, k);
    })
    (found_both (λ b c. record { base = b; cpus = c }) (base_found lists.pool lists.base)
    (each_list (LawfulCpu lists.base) (λ c. tt) (cpu_found lists.base) lists.cpus))
    (each_name base_place_of (ExtractionAnswered lists)
    (λ p i. found (same_option same_number (root_at lists.base i) (Some p))) lists.pool)
    (each_name refill_of (λ b at. RefillAnswered lists b at.0 at.1)
    (λ b at. found (same_option same_number (base_refill_at (cpu_list lists at.0) at.1) (Some b))) lists.base)
