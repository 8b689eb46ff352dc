-- The forms of a line: the effects that the steps of each event may have. Words in capitals are rows in
-- docs/TRANSCRIPT.md.
use Rattle.std.specs.Prelude.{ℕ, ◌≡◌, ◌≤◌, ◌⊎◌, Bool, true, not, ◌&&◌, ◌==◌, MatchBool, Some, None, List, [], ◌∷◌, ◌++◌}
use Rattle.std.specs.Int.{w64, to_le_bytes}
use Rattle.key_names.specs.declared.entries.Taken.{Taken}
use Rattle.key_names.specs.declared.entries.Taken.TheVariants.{User, Kernel}
use Rattle.key_names.specs.declared.entries.PoolEntry.{PoolEntry}
use Rattle.key_names.specs.declared.entries.PoolEntry.TheVariants.{Mix, Input as InputSample, Bits as ReadBits, Extract}
use Rattle.key_names.specs.declared.entries.BaseEntry.{BaseEntry}
use Rattle.key_names.specs.declared.entries.BaseEntry.TheVariants.{Early, Reseed as Reseeded, Tick as Ticked, Draw}
use Rattle.key_names.specs.declared.entries.BaseEntry.TheVariants.{Refill, End, Wait, Resume, Interrupt, Fork as Forked}
use Rattle.key_names.specs.declared.entries.BaseEntry.TheVariants.{Stall, Unstall}
use Rattle.key_names.specs.declared.entries.CpuEntry.{CpuEntry}
use Rattle.key_names.specs.declared.entries.CpuEntry.TheVariants.{Read as CpuRead, Int, Irq as IrqSample, Dump}
use Rattle.key_names.specs.declared.entries.CpuEntry.TheVariants.{Prepare as Prepared, Online as Onlined}
use Rattle.key_names.specs.declared.events.Event.{Event}
use Rattle.key_names.specs.declared.events.Event.TheVariants.{At, On, Hw, Device, Write, Add, Credit, Bits, Irq, Input}
use Rattle.key_names.specs.declared.events.Event.TheVariants.{Read, Vread, Kread, Dread, Uread, Int8, Int16, Int32}
use Rattle.key_names.specs.declared.events.Event.TheVariants.{Int64, Reseed, Tick, Drop, Fork, Inside, Prepare, Online}
use Rattle.key_names.specs.declared.events.Event.TheVariants.{Vmfork, State}
use Rattle.key_names.specs.Lanes.PoolList.{Crossing, crossing, ready, early, none}
use Rattle.key_names.specs.Kernel.Flags.{is_bad, is_nonblock, is_insecure}
use Rattle.key_names.specs.Callers.Calls.{Setting}
use Rattle.key_names.specs.Callers.Effects.{Effect, PoolVisit, BaseVisit, CpuVisit, looked, at_pool, at_base, at_cpu}

-- the effects are an extraction, and then a base entry that names the extracted root
pub record Rooted (set : Setting) (entry : ℕ → BaseEntry) (effects : List Effect) : Type 0 where
  pub pool : PoolVisit
  pub base : BaseVisit
  pub effects_are : effects ≡ at_pool pool ∷ at_base base ∷ []
  pub extracts : pool.entry ≡ Extract set.hw base.place
  pub names : base.entry ≡ entry pool.place

-- the effects are one visit of the base, with this entry
pub record BaseOnly (entry : BaseEntry) (effects : List Effect) : Type 0 where
  pub base : BaseVisit
  pub effects_are : effects ≡ at_base base ∷ []
  pub is : base.entry ≡ entry

-- CROSS: the effects that follow a credit, for each threshold that the credit can cross
abbrev pub Cross : Setting → Crossing → List Effect → Type 0
Cross set none effects = effects ≡ []
Cross set ready effects = Rooted set (λ r. Reseeded r set.now) effects
Cross set early effects = Rooted set (λ r. Early (Some r)) effects ⊎ BaseOnly (Early None) effects

-- DRAW: a read from the base. If the base is Empty, the read names a root
abbrev pub DrawForm : Setting → Taken → List Effect → Type 0
DrawForm set taken effects = Rooted set (λ r. Draw (Some r) taken) effects ⊎ BaseOnly (Draw None taken) effects

-- CPUREAD without a refill: a look, and a read from the setting's CPU
pub record PlainRead (set : Setting) (taken : Taken) (effects : List Effect) : Type 0 where
  pub look : ℕ
  pub cpu : CpuVisit
  pub effects_are : effects ≡ looked look ∷ at_cpu cpu ∷ []
  pub on : cpu.cpu ≡ set.cpu
  pub reads : cpu.entry ≡ CpuRead look None taken

-- CPUREAD with a refill: a look, a visit of the base that hands a key to the setting's CPU, and a read from that CPU
pub record RefilledRead (set : Setting) (taken : Taken) (effects : List Effect) : Type 0 where
  pub look : ℕ
  pub base : BaseVisit
  pub cpu : CpuVisit
  pub effects_are : effects ≡ looked look ∷ at_base base ∷ at_cpu cpu ∷ []
  pub on : cpu.cpu ≡ set.cpu
  pub refills : base.entry ≡ Refill set.cpu cpu.place
  pub reads : cpu.entry ≡ CpuRead look (Some base.place) taken

abbrev pub CpuReadForm : Setting → Taken → List Effect → Type 0
CpuReadForm set taken effects = PlainRead set taken effects ⊎ RefilledRead set taken effects

-- the effects begin with a look that found generation g, and P holds for g and the effects after the look
abbrev pub Looked : (ℕ → List Effect → Type 0) → List Effect → Type 0
Looked P effects = (g : ℕ) × (rest : List Effect) × (effects ≡ looked g ∷ rest) × P g rest

-- USER after its first look, which found generation g: a read from the base (only if g is 0), or a read from the CPU
abbrev pub ReadForm : Setting → Taken → ℕ → List Effect → Type 0
ReadForm set taken g rest = ((g ≡ 0) × DrawForm set taken rest) ⊎ CpuReadForm set taken rest

-- a read that waited and was interrupted: its effects are two visits of the base
pub record WaitedInVain (effects : List Effect) : Type 0 where
  pub wait : BaseVisit
  pub interrupt : BaseVisit
  pub effects_are : effects ≡ at_base wait ∷ at_base interrupt ∷ []
  pub waits : wait.entry ≡ Wait
  pub interrupts : interrupt.entry ≡ Interrupt

-- a read of n bytes that waited and went on: two visits of the base, and then a read from the CPU if n is not 0
pub record Waited (set : Setting) (n : ℕ) (effects : List Effect) : Type 0 where
  pub wait : BaseVisit
  pub resume : BaseVisit
  pub rest : List Effect
  pub effects_are : effects ≡ at_base wait ∷ at_base resume ∷ rest
  pub waits : wait.entry ≡ Wait
  pub resumes : resume.entry ≡ Resume
  pub reads : MatchBool (n == 0) (rest ≡ []) (CpuReadForm set (User n) rest)

-- SYS after its first look, which found generation g; `rest` are the effects after that look
abbrev pub LookedForm : Setting → ℕ → ℕ → ℕ → List Effect → Type 0
LookedForm set n flags g rest =
    MatchBool (g == 0 && not (is_insecure flags))
    (MatchBool (is_nonblock flags) (rest ≡ []) (WaitedInVain rest ⊎ Waited set n rest))
    (MatchBool (n == 0) (rest ≡ []) (ReadForm set (User n) g rest))

-- SYS: a system call of n bytes with these flags
abbrev pub SysForm : Setting → ℕ → ℕ → List Effect → Type 0
SysForm set n flags effects = MatchBool (is_bad flags) (effects ≡ []) (Looked (LookedForm set n flags) effects)

-- the effects are a visit of the pool with this entry, and then the effects of the threshold that the entry's credit
-- crosses
pub record CreditForm (set : Setting) (entry : PoolEntry) (effects : List Effect) : Type 0 where
  pub pool : PoolVisit
  pub rest : List Effect
  pub effects_are : effects ≡ at_pool pool ∷ rest
  pub credits : pool.entry ≡ entry
  pub crosses : Cross set (crossing pool.before.bits pool.after.bits) rest

-- the effects are one visit of the pool, with this entry
pub record PoolOnly (entry : PoolEntry) (effects : List Effect) : Type 0 where
  pub pool : PoolVisit
  pub effects_are : effects ≡ at_pool pool ∷ []
  pub is : pool.entry ≡ entry

-- a fork whose thread could not be started: three visits of the base, with the entries Fork, Stall and Unstall
pub record Stalled (child : ℕ) (effects : List Effect) : Type 0 where
  pub fork : BaseVisit
  pub stall : BaseVisit
  pub unstall : BaseVisit
  pub effects_are : effects ≡ at_base fork ∷ at_base stall ∷ at_base unstall ∷ []
  pub forks : fork.entry ≡ Forked child
  pub stalls : stall.entry ≡ Stall
  pub unstalls : unstall.entry ≡ Unstall

-- a dump of the setting's CPU, and the mix of the dump into the pool. LawfulSamples determines the bytes and bits of
-- the mix
pub record DumpForm (set : Setting) (effects : List Effect) : Type 0 where
  pub dump : CpuVisit
  pub text : List ℕ
  pub bits : ℕ
  pub rest : List Effect
  pub effects_are : effects ≡ at_cpu dump ∷ rest
  pub on : dump.cpu ≡ set.cpu
  pub dumps : dump.entry ≡ Dump set.now
  pub mixes : CreditForm set (Mix text bits) rest

-- an interrupt: the visit for its sample alone; or that visit, then a dump and the dump's mix, and then the effects of
-- the threshold that the mix crosses
pub record IrqForm (set : Setting) (v1 v2 : ℕ) (effects : List Effect) : Type 0 where
  pub sample : CpuVisit
  pub rest : List Effect
  pub effects_are : effects ≡ at_cpu sample ∷ rest
  pub on : sample.cpu ≡ set.cpu
  pub samples : sample.entry ≡ IrqSample v1 v2 set.now
  pub dumps : (rest ≡ []) ⊎ DumpForm set rest

-- the effects are one visit of CPU `cpu`, with this entry
pub record CpuOnly (cpu : ℕ) (entry : CpuEntry) (effects : List Effect) : Type 0 where
  pub visit : CpuVisit
  pub effects_are : effects ≡ at_cpu visit ∷ []
  pub on : visit.cpu ≡ cpu
  pub is : visit.entry ≡ entry

-- an integer from a batch, without a refill: the call's second look, and the visit of the CPU
pub record BatchForm (set : Setting) (width : ℕ) (effects : List Effect) : Type 0 where
  pub look : ℕ
  pub cpu : CpuVisit
  pub filled : Bool
  pub effects_are : effects ≡ looked look ∷ at_cpu cpu ∷ []
  pub on : cpu.cpu ≡ set.cpu
  pub serves : cpu.entry ≡ Int look None width filled

-- an integer from a batch that is filled after a refill: the call's second look, the base's visit that hands over a
-- key, and the CPU's visit
pub record RefilledBatch (set : Setting) (width : ℕ) (effects : List Effect) : Type 0 where
  pub look : ℕ
  pub base : BaseVisit
  pub cpu : CpuVisit
  pub effects_are : effects ≡ looked look ∷ at_base base ∷ at_cpu cpu ∷ []
  pub on : cpu.cpu ≡ set.cpu
  pub refills : base.entry ≡ Refill set.cpu cpu.place
  pub serves : cpu.entry ≡ Int look (Some base.place) width true

-- an integer, after the call's first look, which found generation g. If g is 0, the core is not ready, and a kernel
-- read serves the integer. Otherwise a batch serves it
abbrev pub IntForm : Setting → ℕ → ℕ → List Effect → Type 0
IntForm set width g rest =
    (g ≡ 0) × (DrawForm set (Kernel width) rest ⊎ CpuReadForm set (Kernel width) rest)
    ⊎ (1 ≤ g) × (BatchForm set width rest ⊎ RefilledBatch set width rest)

-- the effects after a look that found generation g: a reseed if the core is ready (g is at least 1), and otherwise no
-- effects
abbrev pub ReseedForm : Setting → ℕ → List Effect → Type 0
ReseedForm set g rest = (g ≡ 0) × (rest ≡ []) ⊎ (1 ≤ g) × Rooted set (λ r. Reseeded r set.now) rest

-- the pool's entry of a device sample: it mixes the word as 8 bytes and then the text, and credits no bits
-- (`add_device_randomness`)
abbrev pub device_entry : ℕ → List ℕ → PoolEntry
device_entry word text = Mix (to_le_bytes w64 word ++ text) 0

-- a `vmfork` event: a device sample, a look, and then a reseed if the look found the core ready
-- (`add_vmfork_randomness`)
pub record VmforkForm (set : Setting) (word : ℕ) (text : List ℕ) (effects : List Effect) : Type 0 where
  pub pool : PoolVisit
  pub rest : List Effect
  pub effects_are : effects ≡ at_pool pool ∷ rest
  pub mixes : pool.entry ≡ device_entry word text
  pub reseeds : Looked (ReseedForm set) rest

-- the effects that the steps of an event may have, if the event is a call by itself
abbrev pub Form : Setting → Event → List Effect → Type 0
Form set (At moment) effects = effects ≡ []
Form set (On cpu) effects = effects ≡ []
Form set (Hw bytes) effects = effects ≡ []
Form set Drop effects = effects ≡ []
Form set (State number) effects = effects ≡ []
Form set (Write text) effects = PoolOnly (Mix text 0) effects
Form set (Device word text) effects = PoolOnly (device_entry word text) effects
Form set Bits effects = PoolOnly ReadBits effects
Form set (Add text bits) effects = CreditForm set (Mix text bits) effects
Form set (Credit bits) effects = CreditForm set (Mix [] bits) effects
Form set (Input word kind code value) effects = CreditForm set (InputSample word kind code value set.now) effects
Form set (Kread len) effects = MatchBool (len == 0) (effects ≡ []) (Looked (ReadForm set (Kernel len)) effects)
Form set (Uread len) effects = MatchBool (len == 0) (effects ≡ []) (Looked (ReadForm set (User len)) effects)
Form set (Read len flags) effects = SysForm set len flags effects
Form set (Dread len flag) effects = SysForm set len flag effects
Form set Int8 effects = Looked (IntForm set 1) effects
Form set Int16 effects = Looked (IntForm set 2) effects
Form set Int32 effects = Looked (IntForm set 4) effects
Form set Int64 effects = Looked (IntForm set 8) effects
Form set Reseed effects = Looked (ReseedForm set) effects
Form set Tick effects = BaseOnly (Ticked set.now None) effects ⊎ Rooted set (λ r. Ticked set.now (Some r)) effects
Form set (Fork child) effects = BaseOnly (Forked child) effects ⊎ Stalled child effects
Form set (Prepare cpu) effects = CpuOnly cpu Prepared effects
Form set (Online cpu) effects = CpuOnly cpu Onlined effects
Form set (Vmfork word text) effects = VmforkForm set word text effects
Form set (Irq v1 v2) effects = IrqForm set v1 v2 effects
-- the next two rows are not used: vreads and acts have VreadMeans and ActMeans
Form set (Vread len flags) effects = ⊥
Form set (Inside point act) effects = ⊥

-- the effects that the steps of a caller's last line may have: one visit of the base, with the entry End
abbrev pub EndForm : List Effect → Type 0
EndForm effects = BaseOnly End effects
