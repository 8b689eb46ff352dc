-- The rows: each is a list of kinds that the steps of a line can have.
use Rattle.std.specs.Prelude.{ℕ, ◌≡◌, ◌⊎◌, ◌==◌, ◌&&◌, not, Bool, true, false, List, [], ◌∷◌, MatchBool}
use Rattle.key_names.specs.Kernel.Flags.{is_bad, is_nonblock, is_insecure}
use Rattle.key_names.specs.declared.events.Event.{Event}
use Rattle.key_names.specs.declared.events.Event.TheVariants.{Device, Write, Add, Credit, Bits, Irq, Input}
use Rattle.key_names.specs.declared.events.Event.TheVariants.{Read, Vread, Kread, Dread, Uread, Int8, Int16, Int32}
use Rattle.key_names.specs.declared.events.Event.TheVariants.{Int64, Reseed, Tick, Fork, Inside, Prepare, Online}
use Rattle.key_names.specs.declared.events.Event.TheVariants.{Vmfork}
use Rattle.key_names.specs.declared.events.InsideAct.{InsideAct}
use Rattle.key_names.specs.declared.events.InsideAct.TheVariants.{Wipe as WipeAct, Vread as VreadAct}
use Rattle.key_names.specs.declared.events.InsideAct.TheVariants.{Reseed as ReseedAct}
use Rattle.key_names.specs.Callers.Calls.{Setting}
use Rattle.input_pool.specs.declared.pool.Crossing.{Crossing as Crossed}
use Rattle.input_pool.specs.declared.pool.Crossing.TheVariants.{None as Nothing, Early as CrossedEarly}
use Rattle.input_pool.specs.declared.pool.Crossing.TheVariants.{Ready as CrossedReady}
use Rattle.judge_lines.specs.declared.kind.Kind.{Kind}
use Rattle.judge_lines.specs.declared.kind.Kind.TheVariants.{Unready, Ready, Pool, Base, Resumed, Cpu}

-- the step kinds of a draw: a read of bytes from the base while the core is not ready
abbrev pub IsDraw : List Kind → Type 0
IsDraw kinds = (kinds ≡ Pool ∷ Base ∷ []) ⊎ (kinds ≡ Base ∷ [])

-- the step kinds of a read from a CPU, which first takes a new key from the base if the CPU needs one
abbrev pub IsCpuRead : List Kind → Type 0
IsCpuRead kinds = (kinds ≡ Ready ∷ Cpu ∷ []) ⊎ (kinds ≡ Ready ∷ Base ∷ Cpu ∷ [])

-- the step kinds of a read after its first look; `ready` is whether that look found the core ready
abbrev pub IsRead : Bool → List Kind → Type 0
IsRead ready kinds = ((ready ≡ false) × IsDraw kinds) ⊎ IsCpuRead kinds

-- the kinds of the steps after a wait that ended because the core was ready
abbrev pub GoesOn : ℕ → List Kind → Type 0
GoesOn len kinds = MatchBool (len == 0) (kinds ≡ []) (IsCpuRead kinds)

-- the step kinds of a wait that was interrupted; or of a wait that ended because the core was ready, and of the read
-- after this wait
abbrev pub IsWait : ℕ → List Kind → Type 0
IsWait len kinds = (kinds ≡ Base ∷ Base ∷ []) ⊎ ((rest : List Kind) × (kinds ≡ Base ∷ Resumed ∷ rest) × GoesOn len rest)

-- the step kinds of a system call after its first look; the third argument is whether that look found the core ready
abbrev pub IsAfterLook : ℕ → ℕ → Bool → List Kind → Type 0
IsAfterLook len flags ready kinds =
    MatchBool (not ready && not (is_insecure flags))
    (MatchBool (is_nonblock flags) (kinds ≡ []) (IsWait len kinds))
    (MatchBool (len == 0) (kinds ≡ []) (IsRead ready kinds))

-- the step kinds of a system call of `len` bytes with these flags (getrandom(2))
abbrev pub IsSystemCall : ℕ → ℕ → List Kind → Type 0
IsSystemCall len flags kinds = MatchBool (is_bad flags) (kinds ≡ [])
    (((rest : List Kind) × (kinds ≡ Unready ∷ rest) × IsAfterLook len flags false rest)
    ⊎ ((rest : List Kind) × (kinds ≡ Ready ∷ rest) × IsAfterLook len flags true rest))

-- the step kinds of a read that begins with a look
abbrev pub IsLookedRead : List Kind → Type 0
IsLookedRead kinds = ((rest : List Kind) × (kinds ≡ Unready ∷ rest) × IsRead false rest)
    ⊎ ((rest : List Kind) × (kinds ≡ Ready ∷ rest) × IsRead true rest)

-- the step kinds of a read of `len` bytes into the kernel's or a user's memory; a read of no bytes has no steps
abbrev pub IsPlainRead : ℕ → List Kind → Type 0
IsPlainRead len kinds = MatchBool (len == 0) (kinds ≡ []) (IsLookedRead kinds)

-- the step kinds of a random integer
abbrev pub IsInt : List Kind → Type 0
IsInt kinds = ((rest : List Kind) × (kinds ≡ Unready ∷ rest) × (IsDraw rest ⊎ IsCpuRead rest))
    ⊎ ((rest : List Kind) × (kinds ≡ Ready ∷ rest) × IsCpuRead rest)

-- the step kinds of a forced reseed, which is refused while the core is not ready
abbrev pub IsReseed : List Kind → Type 0
IsReseed kinds = (kinds ≡ Unready ∷ []) ⊎ (kinds ≡ Ready ∷ Pool ∷ Base ∷ [])

-- the kinds of the steps after a credit of the pool, by the threshold that the credit crossed
abbrev pub IsAfterCredit : Crossed → List Kind → Type 0
IsAfterCredit Nothing kinds = kinds ≡ []
IsAfterCredit CrossedEarly kinds = (kinds ≡ Pool ∷ Base ∷ []) ⊎ (kinds ≡ Base ∷ [])
IsAfterCredit CrossedReady kinds = kinds ≡ Pool ∷ Base ∷ []

-- the step kinds of a credit of the pool and of the steps after it
abbrev pub IsCredit : Crossed → List Kind → Type 0
IsCredit crossed kinds = (rest : List Kind) × (kinds ≡ Pool ∷ rest) × IsAfterCredit crossed rest

-- the step kinds of an interrupt: its sample alone; or its sample, a dump, the mix of the dump, and the steps after the
-- mix
abbrev pub IsInterrupt : Crossed → List Kind → Type 0
IsInterrupt crossed kinds = (kinds ≡ Cpu ∷ [])
    ⊎ ((rest : List Kind) × (kinds ≡ Cpu ∷ Cpu ∷ Pool ∷ rest) × IsAfterCredit crossed rest)

-- the step kinds of a tick of the reseed timer that did not fire, or of one that fired
abbrev pub IsTick : List Kind → Type 0
IsTick kinds = (kinds ≡ Base ∷ []) ⊎ (kinds ≡ Pool ∷ Base ∷ [])

-- the step kinds of a fork; it has three visits of the base if the child ran in its parent's thread
abbrev pub IsFork : List Kind → Type 0
IsFork kinds = (kinds ≡ Base ∷ []) ⊎ (kinds ≡ Base ∷ Base ∷ Base ∷ [])

-- the step kinds of a fork of the virtual machine: the mix of its sample, and a reseed, which is refused while the core
-- is not ready
abbrev pub IsVmfork : List Kind → Type 0
IsVmfork kinds = (kinds ≡ Pool ∷ Unready ∷ []) ⊎ (kinds ≡ Pool ∷ Ready ∷ Pool ∷ Base ∷ [])

-- the step kinds of a caller's last line
abbrev pub IsEnd : List Kind → Type 0
IsEnd kinds = kinds ≡ Base ∷ []

-- the rows of an event outside a `vread`; `crossed` is the threshold that the line's first visit of the pool crossed,
-- if any. A `vread` and the acts inside it have forms of their own. An event that needs nothing of the core has no
-- steps
abbrev pub IsRow : Event → Crossed → List Kind → Type 0
IsRow (Write text) crossed kinds = kinds ≡ Pool ∷ []
IsRow (Device word text) crossed kinds = kinds ≡ Pool ∷ []
IsRow Bits crossed kinds = kinds ≡ Pool ∷ []
IsRow (Add text bits) crossed kinds = IsCredit crossed kinds
IsRow (Credit bits) crossed kinds = IsCredit crossed kinds
IsRow (Input word kind code value) crossed kinds = IsCredit crossed kinds
IsRow (Kread len) crossed kinds = IsPlainRead len kinds
IsRow (Uread len) crossed kinds = IsPlainRead len kinds
IsRow (Read len flags) crossed kinds = IsSystemCall len flags kinds
IsRow (Dread len flag) crossed kinds = IsSystemCall len flag kinds
IsRow Int8 crossed kinds = IsInt kinds
IsRow Int16 crossed kinds = IsInt kinds
IsRow Int32 crossed kinds = IsInt kinds
IsRow Int64 crossed kinds = IsInt kinds
IsRow Reseed crossed kinds = IsReseed kinds
IsRow Tick crossed kinds = IsTick kinds
IsRow (Fork child) crossed kinds = IsFork kinds
IsRow (Prepare cpu) crossed kinds = kinds ≡ Cpu ∷ []
IsRow (Online cpu) crossed kinds = kinds ≡ Cpu ∷ []
IsRow (Vmfork word text) crossed kinds = IsVmfork kinds
IsRow (Irq v1 v2) crossed kinds = IsInterrupt crossed kinds
IsRow (Vread len flags) crossed kinds = ⊥
IsRow (Inside point act) crossed kinds = ⊥
IsRow _ crossed kinds = kinds ≡ []

-- the rows of an act inside a `vread`
abbrev pub IsActRow : InsideAct → List Kind → Type 0
IsActRow WipeAct kinds = kinds ≡ []
IsActRow (VreadAct n) kinds = IsSystemCall n 0 kinds
IsActRow ReseedAct kinds = IsReseed kinds

-- the CPU that the line of `event` visits: the CPU that the event names, or else the CPU that the caller is on
abbrev pub cpu_for : Setting → Event → ℕ
cpu_for set (Prepare cpu) = cpu
cpu_for set (Online cpu) = cpu
cpu_for set _ = set.cpu
