-- Computes a proof that two entries are equal. The result is none if no proof is found.
use Rattle.std.proofs.Common.{◌≡◌, ℕ, Bool, Option, Some, None, List, refl, ap}
use Rattle.key_names.specs.declared.entries.Taken.{Taken}
use Rattle.key_names.specs.declared.entries.Taken.TheVariants.{User, Kernel}
use Rattle.key_names.specs.declared.entries.PoolEntry.{PoolEntry}
use Rattle.key_names.specs.declared.entries.PoolEntry.TheVariants.{Mix, Input, Bits, Extract}
use Rattle.key_names.specs.declared.entries.BaseEntry.{BaseEntry}
use Rattle.key_names.specs.declared.entries.BaseEntry.TheVariants.{Early, Reseed, Tick, Draw, Refill, Fork, End, Wait}
use Rattle.key_names.specs.declared.entries.BaseEntry.TheVariants.{Resume, Interrupt, Stall, Unstall}
use Rattle.key_names.specs.declared.entries.CpuEntry.{CpuEntry}
use Rattle.key_names.specs.declared.entries.CpuEntry.TheVariants.{Read, Int, Irq, Dump, Prepare, Online}
use Rattle.worked_cases.proofs.Decided.{found, found_by, found_both, found_three, same_number, same_bytes, same_option}
use Rattle.worked_cases.proofs.Decided.{same_bool}

abbrev number_found : (a b : ℕ) → Option (a ≡ b)
number_found a b = found (same_number a b)

abbrev bytes_found : (a b : List ℕ) → Option (a ≡ b)
bytes_found a b = found (same_bytes a b)

abbrev option_found : (a b : Option ℕ) → Option (a ≡ b)
option_found a b = found (same_option same_number a b)

abbrev same_two : {A B C : Type 0} {a b : A} {x y : B} (f : A → B → C) → Option (a ≡ b) → Option (x ≡ y) →
    Option (f a x ≡ f b y)
same_two f p q = found_both (λ s t i. f (s i) (t i)) p q

abbrev same_three : {A B C D : Type 0} {a b : A} {x y : B} {p q : C} (f : A → B → C → D) → Option (a ≡ b) →
    Option (x ≡ y) →
    Option (p ≡ q) → Option (f a x p ≡ f b y q)
same_three f d e o = found_three (λ s t u i. f (s i) (t i) (u i)) d e o

abbrev pub same_taken : (a b : Taken) → Option (a ≡ b)
same_taken (User m) (User n) = found_by (ap User) (number_found m n)
same_taken (Kernel m) (Kernel n) = found_by (ap Kernel) (number_found m n)
same_taken _ _ = None

abbrev pub same_pool : (a b : PoolEntry) → Option (a ≡ b)
same_pool (Mix s m) (Mix t n) = same_two Mix (bytes_found s t) (number_found m n)
same_pool (Input a b c d e) (Input v w x y z) =
    same_three (λ (f : ℕ → ℕ → PoolEntry) n m. f n m)
    (same_three (λ k l m n o. Input k l m n o) (number_found a v) (number_found b w) (number_found c x))
    (number_found d y) (number_found e z)
same_pool Bits Bits = Some refl
same_pool (Extract s m) (Extract t n) = same_two Extract (bytes_found s t) (number_found m n)
same_pool _ _ = None

abbrev pub same_base : (a b : BaseEntry) → Option (a ≡ b)
same_base (Early r) (Early s) = found_by (ap Early) (option_found r s)
same_base (Reseed r m) (Reseed s n) = same_two Reseed (number_found r s) (number_found m n)
same_base (Tick m r) (Tick n s) = same_two Tick (number_found m n) (option_found r s)
same_base (Draw r x) (Draw s y) = same_two Draw (option_found r s) (same_taken x y)
same_base (Refill c k) (Refill d l) = same_two Refill (number_found c d) (number_found k l)
same_base (Fork c) (Fork d) = found_by (ap Fork) (number_found c d)
same_base End End = Some refl
same_base Wait Wait = Some refl
same_base Resume Resume = Some refl
same_base Interrupt Interrupt = Some refl
same_base Stall Stall = Some refl
same_base Unstall Unstall = Some refl
same_base _ _ = None

abbrev pub same_cpu : (a b : CpuEntry) → Option (a ≡ b)
same_cpu (Read g r x) (Read h s y) = same_three (λ m o t. Read m o t) (number_found g h) (option_found r s)
    (same_taken x y)
same_cpu (Int g r w x) (Int h s v y) =
    same_two (λ (f : Bool → CpuEntry) filled. f filled)
    (same_three (λ m o n b. Int m o n b) (number_found g h) (option_found r s) (number_found w v))
    (found (same_bool x y))
same_cpu (Irq a b m) (Irq x y n) =
    same_three (λ v w now. Irq v w now) (number_found a x) (number_found b y) (number_found m n)
same_cpu (Dump m) (Dump n) = found_by (ap Dump) (number_found m n)
same_cpu Prepare Prepare = Some refl
same_cpu Online Online = Some refl
same_cpu _ _ = None
