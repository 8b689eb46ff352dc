-- Computes a proof that the interrupts and dumps of a book are lawful (`LawfulSamples`). The result is none if no proof
-- is found.
use Rattle.std.proofs.Common.{◌≡◌, ◌<◌, ℕ, zero, suc, true, Option, Some, None, List, [], ◌∷◌, refl, sym, ◌∙◌, ap}
use Rattle.std.proofs.Common.{slice_get}
use Rattle.std.specs.Prelude.{option_and_then}
use Rattle.key_names.specs.declared.names.Who.{Who}
use Rattle.key_names.specs.declared.entries.PoolEntry.{PoolEntry}
use Rattle.key_names.specs.declared.entries.PoolEntry.TheVariants.{Mix, Input, Bits, Extract}
use Rattle.key_names.specs.declared.entries.CpuEntry.{CpuEntry}
use Rattle.key_names.specs.declared.entries.CpuEntry.TheVariants.{Read, Int, Irq, Dump, Prepare, Online}
use Rattle.key_names.specs.Kernel.FastPool.{FastPool, makes_due, dump_bytes, dump_bits}
use Rattle.key_names.specs.Lanes.Book.{Visit, Book}
use Rattle.key_names.specs.Lanes.Samples.{LawfulSamples, SameEvent, MakesDue, IsDump, DumpAt, fast_before, visits_of}
use Rattle.worked_cases.proofs.Decided.{Decided, yes, no, both, found, found_by, found_both, found_pair, same_bool}
use Rattle.worked_cases.proofs.Decided.{same_number, same_bytes, below}
use Rattle.worked_cases.proofs.FoundLanes.{each_list, each_name}
use Rattle.worked_cases.proofs.SameEntries.{same_pool}

abbrev dumps : (e : CpuEntry) → Decided (IsDump e)
dumps (Dump now) = yes tt
dumps (Read look refill taken) = no (λ h. h)
dumps (Int look refill width filled) = no (λ h. h)
dumps (Irq v1 v2 now) = no (λ h. h)
dumps Prepare = no (λ h. h)
dumps Online = no (λ h. h)

abbrev due : (f : FastPool) (e : CpuEntry) → Decided (MakesDue f e)
due f (Irq v1 v2 now) = same_bool (makes_due f now) true
due f (Dump now) = no (λ h. h)
due f (Read look refill taken) = no (λ h. h)
due f (Int look refill width filled) = no (λ h. h)
due f Prepare = no (λ h. h)
due f Online = no (λ h. h)

abbrev same_event : (a b : Who) → Decided (SameEvent a b)
same_event a b = both (same_number a.caller b.caller) (same_number a.event b.event)

-- ---- places of a list

-- `R` holds of each place of the list `es` and the entry at that place
abbrev EachAt : {E : Type 0} → (ℕ → E → Type 0) → List E → Type 0
EachAt {E} R es = (k : ℕ) (e : E) → option_and_then Some (slice_get es k) ≡ Some e → R k e

abbrev each_at : {E : Type 0} (R : ℕ → E → Type 0) → ((k : ℕ) (e : E) → Option (R k e)) → (es : List E) →
    Option (EachAt R es)
each_at R d es = each_name Some R d es

-- a place of the list `es`, the entry at that place, and a proof that `R` holds of both
pub record Place {E : Type 0} (R : ℕ → E → Type 0) (es : List E) : Type 0 where
  pub at : ℕ
  pub entry : E
  pub is : slice_get es at ≡ Some entry
  pub holds : R at entry

abbrev first_found : {P : Type 0} → Option P → Option P → Option P
first_found (Some p) o = Some p
first_found None o = o

abbrev some_at : {E : Type 0} (R : ℕ → E → Type 0) → ((k : ℕ) (e : E) → Option (R k e)) → (es : List E) →
    Option (Place R es)
some_at R d [] = None
some_at R d (e ∷ es) = first_found (found_by (λ r. record { at = 0; entry = e; is = refl; holds = r }) (d 0 e))
    (found_by (λ p. record { at = suc p.at; entry = p.entry; is = p.is; holds = p.holds })
    (some_at (λ k. R (suc k)) (λ k. d (suc k)) es))

abbrev found_if : {P Q : Type 0} → Decided P → Option Q → Option (P → Q)
found_if (yes p) (Some q) = Some (λ h. q)
found_if (yes p) None = None
found_if (no p) o = Some (λ h. absurd (p h))

-- ---- the conditions on the dumps of one CPU

abbrev Visits : Type 0
Visits = List (Visit CpuEntry)

-- at a place before `k`, the event of `who` made a dump due; `DumpAfter` requires that this event dumped at a place
-- after `k`
abbrev DueBefore : Visits → ℕ → Who → Type 0
DueBefore visits k who =
    Place (λ i v. (i < k) × (SameEvent v.who who × MakesDue (fast_before visits i) v.entry)) visits

abbrev DumpAfter : Visits → ℕ → Who → Type 0
DumpAfter visits i who = Place (λ k v. (i < k) × (SameEvent v.who who × IsDump v.entry)) visits

abbrev OneDump : Visits → ℕ → Who → Type 0
OneDump visits k who = EachAt (λ j v. SameEvent v.who who × IsDump v.entry → j ≡ k) visits

abbrev Mixed : List (Visit PoolEntry) → FastPool → Who → Type 0
Mixed pool f who = Place (λ p v. SameEvent v.who who × (v.entry ≡ Mix (dump_bytes f) (dump_bits f))) pool

abbrev SaysDump : FastPool → PoolEntry → Type 0
SaysDump f e = (text : List ℕ) (bits : ℕ) → e ≡ Mix text bits → (text ≡ dump_bytes f) × (bits ≡ dump_bits f)

pub record DumpConforms (pool : List (Visit PoolEntry)) (visits : Visits) (k : ℕ) (who : Who) : Type 0 where
  pub due : DueBefore visits k who
  pub one : OneDump visits k who
  pub mixed : Mixed pool (fast_before visits k) who
  pub no_other : EachAt (λ p v. SameEvent v.who who → SaysDump (fast_before visits k) v.entry) pool

pub record CpuConforms (pool : List (Visit PoolEntry)) (visits : Visits) : Type 0 where
  pub dumps : EachAt (λ k v. IsDump v.entry → DumpConforms pool visits k v.who) visits
  pub dues : EachAt (λ i v. MakesDue (fast_before visits i) v.entry → DumpAfter visits i v.who) visits

pub says_mix : (f : FastPool) (s : List ℕ) (n : ℕ) → s ≡ dump_bytes f → n ≡ dump_bits f → SaysDump f (Mix s n)
says_mix f s n p q text bits e = (let same : s ≡ text = cc in sym same ∙ p, let same : n ≡ bits = cc in sym same ∙ q)

pub says_no_input : (f : FastPool) (a b c d n : ℕ) → SaysDump f (Input a b c d n)
says_no_input f a b c d n text bits e = cc

pub says_no_bits : (f : FastPool) → SaysDump f Bits
says_no_bits f text bits e = cc

pub says_no_extract : (f : FastPool) (hw : List ℕ) (place : ℕ) → SaysDump f (Extract hw place)
says_no_extract f hw place text bits e = cc

abbrev says_dump : (f : FastPool) (e : PoolEntry) → Option (SaysDump f e)
says_dump f (Mix s n) = found_both (says_mix f s n) (found (same_bytes s (dump_bytes f)))
    (found (same_number n (dump_bits f)))
says_dump f (Input a b c d n) = Some (says_no_input f a b c d n)
says_dump f Bits = Some (says_no_bits f)
says_dump f (Extract hw place) = Some (says_no_extract f hw place)

abbrev dump_conforms : (pool : List (Visit PoolEntry)) (visits : Visits) (k : ℕ) (who : Who) →
    Option (DumpConforms pool visits k who)
dump_conforms pool visits k who = found_both (λ d m. record { due = d.0; one = d.1; mixed = m.0; no_other = m.1 })
    (found_pair
    (some_at (λ i v. (i < k) × (SameEvent v.who who × MakesDue (fast_before visits i) v.entry))
    (λ i v. found (both (below i k) (both (same_event v.who who) (due (fast_before visits i) v.entry)))) visits)
    (each_at (λ j v. SameEvent v.who who × IsDump v.entry → j ≡ k)
    (λ j v. found_if (both (same_event v.who who) (dumps v.entry)) (found (same_number j k))) visits))
    (found_pair
    (some_at (λ p v. SameEvent v.who who × (v.entry ≡ Mix (dump_bytes (fast_before visits k))
    (dump_bits (fast_before visits k))))
    (λ p v. found_pair (found (same_event v.who who))
    (same_pool v.entry (Mix (dump_bytes (fast_before visits k)) (dump_bits (fast_before visits k))))) pool)
    (each_at (λ p v. SameEvent v.who who → SaysDump (fast_before visits k) v.entry)
    (λ p v. found_if (same_event v.who who) (says_dump (fast_before visits k) v.entry)) pool))

abbrev cpu_conforms : (pool : List (Visit PoolEntry)) (visits : Visits) → Option (CpuConforms pool visits)
cpu_conforms pool visits = found_both (λ d m. record { dumps = d; dues = m })
    (each_at (λ k v. IsDump v.entry → DumpConforms pool visits k v.who)
    (λ k v. found_if (dumps v.entry) (dump_conforms pool visits k v.who)) visits)
    (each_at (λ i v. MakesDue (fast_before visits i) v.entry → DumpAfter visits i v.who)
    (λ i v. found_if (due (fast_before visits i) v.entry)
    (some_at (λ k w. (i < k) × (SameEvent w.who v.who × IsDump w.entry))
    (λ k w. found (both (below i k) (both (same_event w.who v.who) (dumps w.entry)))) visits)) visits)

pub samples_conform : (book : Book) → ((c : ℕ) → CpuConforms book.pool (visits_of book c)) → LawfulSamples book
samples_conform book conforms = record {
  dump_is_due = λ c k who dump. (let d = (of c k who dump).due in (
    d.at,
    d.holds.0,
    record {
      visit = d.entry;
      is = d.is;
      event = (d.holds.1.0.0 ∙ dump.event.0, d.holds.1.0.1 ∙ dump.event.1);
      due = d.holds.1.1;
    },
  ));
  due_is_dumped = λ c i who due. (let d = (conforms c).dues i due.visit (ap (option_and_then Some) due.is) due.due in (
    d.at,
    d.holds.0,
    record {
      visit = d.entry;
      is = d.is;
      event = (d.holds.1.0.0 ∙ due.event.0, d.holds.1.0.1 ∙ due.event.1);
      dumps = d.holds.1.1;
    },
  ));
  one_dump = λ c j k who dump other.
      (of c k who other).one j dump.visit (ap (option_and_then Some) dump.is)
      ((dump.event.0 ∙ sym other.event.0, dump.event.1 ∙ sym other.event.1), dump.dumps);
  dump_is_mixed = λ c k who dump. (let m = (of c k who dump).mixed in (
    m.at,
    record {
      visit = m.entry;
      is = m.is;
      event = (m.holds.0.0 ∙ dump.event.0, m.holds.0.1 ∙ dump.event.1);
      mixes = m.holds.1;
    },
  ));
  mix_is_dump = λ c k p who text bits dump mix. (of c k who dump).no_other p mix.visit
      (ap (option_and_then Some) mix.is)
      (mix.event.0 ∙ sym dump.event.0, mix.event.1 ∙ sym dump.event.1) text bits mix.mixes;
}
  where
    of : (c k : ℕ) (who : Who) (dump : DumpAt (visits_of book c) k who) → DumpConforms book.pool (visits_of book c) k
        dump.visit.who
    of c k who dump = (conforms c).dumps k dump.visit (ap (option_and_then Some) dump.is) dump.dumps

pub no_visits : (pool : List (Visit PoolEntry)) → CpuConforms pool []
no_visits pool = record { dumps = λ k v is. absurd (none k v is); dues = λ i v is. absurd (none i v is) }
  where
    none : (k : ℕ) (v : Visit CpuEntry) → option_and_then Some (slice_get [] k) ≡ Some v → ⊥
    none zero v is = cc
    none (suc k) v is = cc

abbrev pub samples_found : (book : Book) → Option (LawfulSamples book)
samples_found book = found_by (samples_conform book)
    (each_list (λ c. CpuConforms book.pool) (λ c. no_visits book.pool) (λ c. cpu_conforms book.pool) book.cpus)
