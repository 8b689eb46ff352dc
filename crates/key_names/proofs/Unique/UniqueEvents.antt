-- If an event is a call by itself, the event's form and the earlier entries determine the entry of each visit of the
-- event.
use Rattle.std.proofs.Common.{◌≡◌, ℕ, zero, suc, List, [], ◌∷◌, ◌⊎◌, refl, sym, subst, ap, ◌∙◌, Some, None, take, ◌≤◌}
use Rattle.std.proofs.Common.{Bool, true, inl, inr, arith, Option}
use Rattle.std.specs.Prelude.{◌==◌, map}
use Rattle.key_names.specs.declared.names.Who.{Who}
use Rattle.key_names.specs.declared.entries.Taken.TheVariants.{User, Kernel}
use Rattle.key_names.specs.declared.entries.PoolEntry.TheVariants.{Mix, Input as InputSample, Bits as ReadBits}
use Rattle.key_names.specs.declared.entries.BaseEntry.TheVariants.{Tick as Ticked, End, Fork as Forked, Early}
use Rattle.key_names.specs.declared.entries.BaseEntry.TheVariants.{Reseed as Reseeded, Refill}
use Rattle.key_names.specs.declared.entries.CpuEntry.{CpuEntry}
use Rattle.key_names.specs.declared.entries.CpuEntry.TheVariants.{Dump, Prepare as Prepared, Online as Onlined, Int}
use Rattle.key_names.specs.declared.events.Event.{Event}
use Rattle.key_names.specs.declared.events.Event.TheVariants.{Device, Write, Add, Credit, Bits, Irq, Input}
use Rattle.key_names.specs.declared.events.Event.TheVariants.{Read, Vread, Kread, Dread, Uread, Int8, Int16, Int32}
use Rattle.key_names.specs.declared.events.Event.TheVariants.{Int64, Reseed, Tick, Fork, Inside, Prepare, Online}
use Rattle.key_names.specs.declared.events.Event.TheVariants.{Vmfork}
use Rattle.key_names.specs.Kernel.FastPool.{fast_after, dump_bytes, dump_bits}
use Rattle.key_names.specs.Lanes.Book.{Book, Visit, lists_of, entries_of, list_at, cpu_list}
use Rattle.key_names.specs.Lanes.Samples.{LawfulSamples, visits_of, IsDump, fast_before}
use Rattle.key_names.specs.Callers.Calls.{Setting}
use Rattle.key_names.specs.Callers.Effects.{Effect, PoolVisit, CpuVisit}
use Rattle.key_names.specs.Callers.Forms.{Rooted, BaseOnly, ReadForm, Stalled, DumpForm, IrqForm, IntForm, ReseedForm}
use Rattle.key_names.specs.Callers.Forms.{device_entry, VmforkForm, Form, EndForm, Cross, DrawForm, CpuReadForm, CreditForm}
use Rattle.key_names.specs.Callers.Forms.{BatchForm, RefilledBatch}
use Rattle.key_names.specs.declared.entries.PoolEntry.{PoolEntry}
use Rattle.key_names.specs.Lanes.PoolList.{Crossing, crossing, ready, early, none}
use Rattle.key_names.specs.Kernel.Batches.{must_fill}
use Rattle.key_names.specs.Lanes.CpuList.{CpuState, CpuFits}
use Rattle.key_names.proofs.Unique.TwoBooks.{SamePool, SameCpu, SameSteps, AllInferred, Tells, through, inferred_nothing, inferred_match}
use Rattle.key_names.proofs.Unique.TwoBooks.{inferred_looked, inferred_either}
use Rattle.key_names.proofs.Unique.UniqueForms.{inferred_rooted, inferred_same_rooted, inferred_base_only, inferred_pool_only, inferred_cpu_only}
use Rattle.key_names.proofs.Unique.UniqueForms.{inferred_rooted_or_not, inferred_read, inferred_system}

pub entries_at : (cpus : List (List (Visit CpuEntry))) (c : ℕ) →
    entries_of (list_at cpus c) ≡ list_at (map entries_of cpus) c
entries_at [] c = refl
entries_at (visits ∷ cpus) zero = refl
entries_at (visits ∷ cpus) (suc c) = entries_at cpus c

-- a CPU's fast pool before a place depends only on the entries of the CPU's list
fast_is : (book : Book) (c k : ℕ) → fast_before (visits_of book c) k ≡ fast_after (take k (cpu_list (lists_of book) c))
fast_is book c k = ap (λ es. fast_after (take k es)) (entries_at book.cpus c)

module _ (book book' : Book) (who : Who) (samples : LawfulSamples book) (samples' : LawfulSamples book') where
  abbrev Same : List Effect → List Effect → Type 0
  Same = SameSteps book book' who

  abbrev Inferred : List Effect → List Effect → Type 0
  Inferred = AllInferred book book' who

  abbrev Tell : (List Effect → Type 0) → (List Effect → Type 0) → Type 0
  Tell = Tells book book' who

  -- let a credit cross the same threshold in both books if the pool's lists are equal. Then the form of the effects
  -- after the credit determines their entries
  inferred_cross : (set : Setting) (c c' : Crossing) → ((lists_of book).pool ≡ (lists_of book').pool → c ≡ c') →
      Tell (Cross set c) (Cross set c')
  inferred_cross set none none alike ds ds' f f' same = inferred_nothing book book' who ds ds' f f' same
  inferred_cross set none ready alike ds ds' f f' same = through book book' who f f'.effects_are (λ s. absurd s) same
  inferred_cross set none early alike ds ds' f (inl f') same = through book book' who f f'.effects_are (λ s. absurd s) same
  inferred_cross set none early alike ds ds' f (inr f') same = through book book' who f f'.effects_are (λ s. absurd s) same
  inferred_cross set ready none alike ds ds' f f' same = through book book' who f.effects_are f' (λ s. absurd s) same
  inferred_cross set ready ready alike ds ds' f f' same = inferred_same_rooted book book' who set
      (λ r. Reseeded r set.now) ds ds' f f' same
  inferred_cross set ready early alike ds ds' f (inl f') same =
      inferred_rooted book book' who set (λ r. Reseeded r set.now) (λ r. Early (Some r))
      (λ pool r. let not_both : ready ≡ early = alike pool in cc) ds ds' f f' same
  inferred_cross set ready early alike ds ds' f (inr f') same = through book book' who f.effects_are f'.effects_are
      (λ s. absurd s.0) same
  inferred_cross set early none alike ds ds' (inl f) f' same = through book book' who f.effects_are f' (λ s. absurd s) same
  inferred_cross set early none alike ds ds' (inr f) f' same = through book book' who f.effects_are f' (λ s. absurd s) same
  inferred_cross set early ready alike ds ds' (inl f) f' same =
      inferred_rooted book book' who set (λ r. Early (Some r)) (λ r. Reseeded r set.now)
      (λ pool r. let not_both : early ≡ ready = alike pool in cc) ds ds' f f' same
  inferred_cross set early ready alike ds ds' (inr f) f' same = through book book' who f.effects_are f'.effects_are
      (λ s. absurd s.0) same
  inferred_cross set early early alike ds ds' f f' same =
      inferred_rooted_or_not book book' who set (λ r. Early (Some r)) (Early None) ds ds' f f' same

  -- if the CPUs' lists determine the entry that credits, then a credit's form determines the entries of its visits
  inferred_credit : (set : Setting) (e e' : PoolEntry) (ds ds' : List Effect) (f : CreditForm set e ds)
      (f' : CreditForm set e' ds') →
      (SamePool book book' who f.pool f'.pool → (lists_of book).cpus ≡ (lists_of book').cpus → e ≡ e') →
      Same ds ds' → Inferred ds ds'
  inferred_credit set e e' ds ds' f f' alike same =
      through book book' who f.effects_are f'.effects_are
      (λ s. (
        λ cpus. f.credits ∙ alike s.0 cpus ∙ sym f'.credits,
        inferred_cross set (crossing f.pool.before.bits f.pool.after.bits) (crossing f'.pool.before.bits f'.pool.after.bits)
            (λ pool. ap (λ (v : PoolVisit). crossing v.before.bits v.after.bits) (s.0.equal pool))
            f.rest f'.rest f.crosses f'.crosses s.1,
      ))
      same

  inferred_same_credit : (set : Setting) (e : PoolEntry) → Tell (CreditForm set e) (CreditForm set e)
  inferred_same_credit set e ds ds' f f' same = inferred_credit set e e ds ds' f f' (λ s cpus. refl) same

  -- the earlier entries of the CPU's list determine whether an integer fills its batch
  filled_is : (s s' : CpuState) (e e' : CpuEntry) (look width : ℕ) (filled filled' : Bool) →
      e ≡ Int look None width filled → e' ≡ Int look None width filled' → CpuFits s e → CpuFits s' e' →
      s.fills ≡ s'.fills → e ≡ e'
  filled_is s s' e e' look width filled filled' p q fits fits' same =
      let P : CpuEntry → Type 0 = λ e. CpuFits s e in
      let Q : CpuEntry → Type 0 = λ e. CpuFits s' e in
      let a : filled ≡ must_fill look width (s.fills width) = (subst P p fits).fills in
      let b : filled' ≡ must_fill look width (s'.fills width) = (subst Q q fits').fills in
      let c : filled ≡ filled' = a ∙ ap (λ (f : ℕ → Option _). must_fill look width (f width)) same ∙ sym b in
      p ∙ ap (λ x. Int look None width x) c ∙ sym q

  inferred_batch : (set : Setting) (width : ℕ) → Tell (BatchForm set width) (BatchForm set width)
  inferred_batch set width ds ds' f f' same =
      through book book' who f.effects_are f'.effects_are
      (λ s. (
        tt,
        (
          λ fills. let q : f'.cpu.entry ≡ Int f.look None width f'.filled =
              f'.serves ∙ ap (λ g. Int g None width f'.filled) (sym s.0) in
              filled_is f.cpu.before f'.cpu.before f.cpu.entry f'.cpu.entry f.look width f.filled f'.filled f.serves q
              s.1.0.fits s.1.0.fits' fills,
          tt,
        ),
      ))
      same

  inferred_refilled_batch : (set : Setting) (width : ℕ) → Tell (RefilledBatch set width) (RefilledBatch set width)
  inferred_refilled_batch set width ds ds' f f' same =
      through book book' who f.effects_are f'.effects_are
      (λ s. (
        tt,
        (
          λ pool generations. f.refills ∙ ap (λ k. Refill set.cpu k) s.1.1.0.place ∙ sym f'.refills,
          (
            λ fills. f.serves ∙ ap (λ g. Int g (Some f.base.place) width true) s.0
                ∙ ap (λ b. Int f'.look (Some b) width true) s.1.0.place ∙ sym f'.serves,
            tt,
          ),
        ),
      ))
      same

  inferred_some_batch : (set : Setting) (width : ℕ) →
      Tell (λ ds. BatchForm set width ds ⊎ RefilledBatch set width ds)
      (λ ds. BatchForm set width ds ⊎ RefilledBatch set width ds)
  inferred_some_batch set width =
      inferred_either book book' who (BatchForm set width) (RefilledBatch set width) (BatchForm set width)
      (RefilledBatch set width)
      (inferred_batch set width)
      (λ ds ds' f f' same. through book book' who f.effects_are f'.effects_are (λ s. absurd s.1.0) same)
      (λ ds ds' f f' same. through book book' who f.effects_are f'.effects_are (λ s. absurd s.1.0) same)
      (inferred_refilled_batch set width)

  not_both : (g : ℕ) → g ≡ 0 → 1 ≤ g → ⊥
  not_both g is some = omega arith

  inferred_int : (set : Setting) (width g : ℕ) → Tell (IntForm set width g) (IntForm set width g)
  inferred_int set width g ds ds' (inl f) (inl f') same =
      inferred_read book book' who set (Kernel width) g ds ds' (read_form ds f.1) (read_form ds' f'.1) same
    where
      read_form : (ds : List Effect) → DrawForm set (Kernel width) ds ⊎ CpuReadForm set (Kernel width) ds →
          ReadForm set (Kernel width) g ds
      read_form ds (inl d) = inl (f.0, d)
      read_form ds (inr c) = inr c
  inferred_int set width g ds ds' (inl f) (inr f') same = absurd (not_both g f.0 f'.0)
  inferred_int set width g ds ds' (inr f) (inl f') same = absurd (not_both g f'.0 f.0)
  inferred_int set width g ds ds' (inr f) (inr f') same = inferred_some_batch set width ds ds' f.1 f'.1 same

  inferred_reseed : (set : Setting) (g : ℕ) → Tell (ReseedForm set g) (ReseedForm set g)
  inferred_reseed set g ds ds' (inl f) (inl f') same = inferred_nothing book book' who ds ds' f.1 f'.1 same
  inferred_reseed set g ds ds' (inl f) (inr f') same = absurd (not_both g f.0 f'.0)
  inferred_reseed set g ds ds' (inr f) (inl f') same = absurd (not_both g f'.0 f.0)
  inferred_reseed set g ds ds' (inr f) (inr f') same = inferred_same_rooted book book' who set
      (λ r. Reseeded r set.now) ds ds' f.1 f'.1 same

  -- if the CPUs' lists are the same in both books, so are the fast pools at each place
  same_fast : (c c' k k' : ℕ) → (lists_of book).cpus ≡ (lists_of book').cpus → c ≡ c' → k ≡ k' →
      fast_before (visits_of book c) k ≡ fast_before (visits_of book' c') k'
  same_fast c c' k k' cpus p q =
      fast_is book c k ∙ ap (λ xss. fast_after (take k (list_at xss c))) cpus
      ∙ ap (λ i. fast_after (take k (cpu_list (lists_of book') i))) p
      ∙ ap (λ i. fast_after (take i (cpu_list (lists_of book') c'))) q ∙ sym (fast_is book' c' k')

  is_dump : (e : CpuEntry) (now : ℕ) → e ≡ Dump now → IsDump e
  is_dump e now p = subst IsDump (sym p) tt

  -- the CPUs' lists determine the bytes and bits that a dump mixes into the pool
  same_mix : (set : Setting) (text text' : List ℕ) (bits bits' now now' : ℕ) (dump dump' : CpuVisit)
      (pool pool' : PoolVisit) →
      SameCpu book book' who dump dump' → SamePool book book' who pool pool' → dump.entry ≡ Dump now →
      dump'.entry ≡ Dump now' →
      pool.entry ≡ Mix text bits → pool'.entry ≡ Mix text' bits' → (lists_of book).cpus ≡ (lists_of book').cpus →
      Mix text bits ≡ Mix text' bits'
  same_mix set text text' bits bits' now now' dump dump' pool pool' same_dump same_pool d d' m m' cpus =
      let a = samples.mix_is_dump dump.cpu dump.place pool.place who text bits
      (same_dump.dumps (is_dump dump.entry now d)) (same_pool.mixes text bits m) in
      let b = samples'.mix_is_dump dump'.cpu dump'.place pool'.place who text' bits'
      (same_dump.dumps' (is_dump dump'.entry now' d')) (same_pool.mixes' text' bits' m') in
      let fast : fast_before (visits_of book dump.cpu) dump.place ≡ fast_before
      (visits_of book' dump'.cpu) dump'.place =
      same_fast dump.cpu dump'.cpu dump.place dump'.place cpus same_dump.cpu same_dump.place in
      ap (λ x. Mix x bits) (a.0 ∙ ap dump_bytes fast ∙ sym b.0)
      ∙ ap (λ x. Mix text' x) (a.1 ∙ ap dump_bits fast ∙ sym b.1)

  inferred_dump : (set : Setting) → Tell (DumpForm set) (DumpForm set)
  inferred_dump set ds ds' f f' same =
      through book book' who f.effects_are f'.effects_are
      (λ s. (
        λ fills. f.dumps ∙ sym f'.dumps,
        inferred_credit set (Mix f.text f.bits) (Mix f'.text f'.bits) f.rest f'.rest f.mixes f'.mixes
            (λ same_pool cpus. same_mix set f.text f'.text f.bits f'.bits set.now set.now f.dump f'.dump f.mixes.pool
            f'.mixes.pool s.0 same_pool f.dumps f'.dumps f.mixes.credits f'.mixes.credits cpus) s.1,
      ))
      same

  inferred_irq : (set : Setting) (v1 v2 : ℕ) → Tell (IrqForm set v1 v2) (IrqForm set v1 v2)
  inferred_irq set v1 v2 ds ds' f f' same =
      through book book' who f.effects_are f'.effects_are
      (λ s. (
        λ fills. f.samples ∙ sym f'.samples,
        inferred_either book book' who (λ ds. ds ≡ []) (DumpForm set) (λ ds. ds ≡ []) (DumpForm set)
            (inferred_nothing book book' who)
            (λ ds ds' p d same. through book book' who p d.effects_are (λ s. absurd s) same)
            (λ ds ds' d p same. through book book' who d.effects_are p (λ s. absurd s) same)
            (inferred_dump set) f.rest f'.rest f.dumps f'.dumps s.1,
      ))
      same

  inferred_stalled : (child : ℕ) → Tell (Stalled child) (Stalled child)
  inferred_stalled child ds ds' f f' same =
      through book book' who f.effects_are f'.effects_are
      (λ s. (
        λ pool generations. f.forks ∙ sym f'.forks,
        (λ pool generations. f.stalls ∙ sym f'.stalls, (λ pool generations. f.unstalls ∙ sym f'.unstalls, tt)),
      ))
      same

  inferred_fork : (child : ℕ) →
      Tell (λ ds. BaseOnly (Forked child) ds ⊎ Stalled child ds) (λ ds. BaseOnly (Forked child) ds ⊎ Stalled child ds)
  inferred_fork child =
      inferred_either book book' who (BaseOnly (Forked child)) (Stalled child) (BaseOnly (Forked child)) (Stalled child)
      (inferred_base_only book book' who (Forked child))
      (λ ds ds' f f' same. through book book' who f.effects_are f'.effects_are (λ s. absurd s.1) same)
      (λ ds ds' f f' same. through book book' who f.effects_are f'.effects_are (λ s. absurd s.1) same)
      (inferred_stalled child)

  inferred_tick : (set : Setting) → Tell (Form set Tick) (Form set Tick)
  inferred_tick set =
      inferred_either book book' who (BaseOnly (Ticked set.now None)) (Rooted set (λ r. Ticked set.now (Some r)))
      (BaseOnly (Ticked set.now None)) (Rooted set (λ r. Ticked set.now (Some r)))
      (inferred_base_only book book' who (Ticked set.now None))
      (λ ds ds' f f' same. through book book' who f.effects_are f'.effects_are (λ s. absurd s.0) same)
      (λ ds ds' f f' same. through book book' who f.effects_are f'.effects_are (λ s. absurd s.0) same)
      (inferred_same_rooted book book' who set (λ r. Ticked set.now (Some r)))

  inferred_vmfork : (set : Setting) (word : ℕ) (text : List ℕ) → Tell (VmforkForm set word text) (VmforkForm set word text)
  inferred_vmfork set word text ds ds' f f' same =
      through book book' who f.effects_are f'.effects_are
      (λ s. (
        λ cpus. f.mixes ∙ sym f'.mixes,
        inferred_looked book book' who (ReseedForm set) (inferred_reseed set) f.rest f'.rest f.reseeds f'.reseeds s.1,
      ))
      same

  -- if an event is a call by itself, the event's form determines the entry of each visit of the event
  pub inferred_event : (set : Setting) (event : Event) → Tell (Form set event) (Form set event)
  inferred_event set (Write text) = inferred_pool_only book book' who (Mix text 0)
  inferred_event set (Device word text) = inferred_pool_only book book' who (device_entry word text)
  inferred_event set Bits = inferred_pool_only book book' who ReadBits
  inferred_event set (Add text bits) = inferred_same_credit set (Mix text bits)
  inferred_event set (Credit bits) = inferred_same_credit set (Mix [] bits)
  inferred_event set (Input word kind code value) =
      inferred_same_credit set (InputSample word kind code value set.now)
  inferred_event set (Kread len) =
      inferred_match book book' who (len == 0) _ _ (inferred_nothing book book' who)
      (inferred_looked book book' who (ReadForm set (Kernel len)) (inferred_read book book' who set (Kernel len)))
  inferred_event set (Uread len) =
      inferred_match book book' who (len == 0) _ _ (inferred_nothing book book' who)
      (inferred_looked book book' who (ReadForm set (User len)) (inferred_read book book' who set (User len)))
  inferred_event set (Read len flags) = inferred_system book book' who set len flags
  inferred_event set (Dread len flag) = inferred_system book book' who set len flag
  inferred_event set Int8 = inferred_looked book book' who (IntForm set 1) (inferred_int set 1)
  inferred_event set Int16 = inferred_looked book book' who (IntForm set 2) (inferred_int set 2)
  inferred_event set Int32 = inferred_looked book book' who (IntForm set 4) (inferred_int set 4)
  inferred_event set Int64 = inferred_looked book book' who (IntForm set 8) (inferred_int set 8)
  inferred_event set Reseed = inferred_looked book book' who (ReseedForm set) (inferred_reseed set)
  inferred_event set Tick = inferred_tick set
  inferred_event set (Fork child) = inferred_fork child
  inferred_event set (Prepare cpu) = inferred_cpu_only book book' who cpu Prepared
  inferred_event set (Online cpu) = inferred_cpu_only book book' who cpu Onlined
  inferred_event set (Vmfork word text) = inferred_vmfork set word text
  inferred_event set (Irq v1 v2) = inferred_irq set v1 v2
  inferred_event set (Vread len flags) = λ ds ds' f f' same. absurd f
  inferred_event set (Inside point act) = λ ds ds' f f' same. absurd f
  inferred_event set _ = inferred_nothing book book' who

  pub inferred_end : Tell EndForm EndForm
  inferred_end = inferred_base_only book book' who End
