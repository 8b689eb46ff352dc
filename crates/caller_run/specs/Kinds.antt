-- The kinds of events, by the calls that they need.
use Rattle.std.specs.Prelude.{⊤}
use Rattle.key_names.specs.declared.events.Event.{Event}
use Rattle.key_names.specs.declared.events.Event.TheVariants.{Device, Write, Add, Credit, Bits, Irq, Input}
use Rattle.key_names.specs.declared.events.Event.TheVariants.{Read, Vread, Kread, Dread, Uread, Int8, Int16, Int32}
use Rattle.key_names.specs.declared.events.Event.TheVariants.{Int64, Reseed, Tick, Fork, Inside, Prepare, Online}
use Rattle.key_names.specs.declared.events.Event.TheVariants.{Vmfork}

-- an event that adds a sample or a credit, or queries the pool's bits
abbrev pub IsSample : Event → Type 0
IsSample (Write text) = ⊤
IsSample (Device word text) = ⊤
IsSample (Add text bits) = ⊤
IsSample (Credit bits) = ⊤
IsSample Bits = ⊤
IsSample (Irq v1 v2) = ⊤
IsSample (Input word kind code value) = ⊤
IsSample _ = ⊥

abbrev pub IsReseed : Event → Type 0
IsReseed Reseed = ⊤
IsReseed Tick = ⊤
IsReseed (Vmfork word text) = ⊤
IsReseed _ = ⊥

-- an event that prepares a CPU, or brings one online
abbrev pub IsOfCpu : Event → Type 0
IsOfCpu (Prepare cpu) = ⊤
IsOfCpu (Online cpu) = ⊤
IsOfCpu _ = ⊥

-- an event that reads bytes
abbrev pub IsRead : Event → Type 0
IsRead (Read len flags) = ⊤
IsRead (Kread len) = ⊤
IsRead (Dread len flag) = ⊤
IsRead (Uread len) = ⊤
IsRead _ = ⊥

-- an event that reads an integer out of a CPU's batches
abbrev pub IsInteger : Event → Type 0
IsInteger Int8 = ⊤
IsInteger Int16 = ⊤
IsInteger Int32 = ⊤
IsInteger Int64 = ⊤
IsInteger _ = ⊥

-- the event is no vread, no fork and no act, so it makes at most one call of the core
abbrev pub IsCall : Event → Type 0
IsCall (Vread len flags) = ⊥
IsCall (Fork child) = ⊥
IsCall (Inside point act) = ⊥
IsCall _ = ⊤

-- an event that is no vread, no fork, no act, and of no kind from `IsSample` to `IsInteger`. It makes no call of the
-- core, but may set something
abbrev pub IsQuiet : Event → Type 0
IsQuiet event = IsCall event × (IsSample event → ⊥) × (IsReseed event → ⊥) × (IsOfCpu event → ⊥) × (IsRead event → ⊥)
    × (IsInteger event → ⊥)

-- the event forks no caller
abbrev pub ForksNobody : Event → Type 0
ForksNobody (Fork child) = ⊥
ForksNobody _ = ⊤
