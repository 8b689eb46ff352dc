-- The answer and the data of an event's line, from the effects of the line's steps.
use Rattle.std.specs.Prelude.{ℕ, Bool, true, false, not, ◌&&◌, ◌==◌, List, [], ◌∷◌, if◌then◌else◌}
use Rattle.key_names.specs.declared.entries.BaseEntry.{BaseEntry}
use Rattle.key_names.specs.declared.entries.BaseEntry.TheVariants.{Interrupt}
use Rattle.key_names.specs.declared.events.Event.{Event}
use Rattle.key_names.specs.declared.events.Event.TheVariants.{At, On, Hw, Device, Write, Add, Credit, Bits, Irq, Input}
use Rattle.key_names.specs.declared.events.Event.TheVariants.{Read, Vread, Kread, Dread, Uread, Int8, Int16, Int32}
use Rattle.key_names.specs.declared.events.Event.TheVariants.{Int64, Reseed, Tick, Drop, Fork, Inside, Prepare, Online}
use Rattle.key_names.specs.declared.events.Event.TheVariants.{Vmfork, State}
use Rattle.key_names.specs.declared.events.Answer.{Answer}
use Rattle.key_names.specs.declared.events.Answer.TheVariants.{Ok as Done, Again, Invalid, NoData, Interrupted, Fired}
use Rattle.key_names.specs.declared.events.Answer.TheVariants.{Idle}
use Rattle.key_names.specs.Transcripts.SeenLine.{Shown, no_data, count, bytes_or_none}
use Rattle.key_names.specs.Callers.Effects.{Effect, looked, at_pool, at_base, at_cpu, nothing_there}
use Rattle.key_names.specs.Kernel.Flags.{is_bad, is_nonblock, is_insecure}

-- whether the first effect is a look that found generation 0, so the core was not ready
abbrev pub found_unready : List Effect → Bool
found_unready [] = false
found_unready (looked g ∷ effects) = g == 0
found_unready (at_pool v ∷ effects) = false
found_unready (at_base v ∷ effects) = false
found_unready (at_cpu v ∷ effects) = false
found_unready (nothing_there ∷ effects) = false

abbrev pub is_interrupt : BaseEntry → Bool
is_interrupt Interrupt = true
is_interrupt _ = false

-- whether a read waited in vain: its effects are a look and two visits of the base, and the second visit is an
-- interrupt
abbrev pub was_interrupted : List Effect → Bool
was_interrupted (looked g ∷ at_base wait ∷ at_base ended ∷ []) = is_interrupt ended.entry
was_interrupted _ = false

-- the answer of a system call with these flags (getrandom(2))
abbrev pub system_answer : ℕ → List Effect → Answer
system_answer flags effects =
    if is_bad flags then Invalid
    else (if found_unready effects && (is_nonblock flags && not (is_insecure flags)) then Again
    else (if was_interrupted effects then Interrupted else Done))

-- the answer of a tick: `Idle` if the tick's only effect is a visit of the base. Otherwise the tick extracted a root,
-- and the answer is `Fired`
abbrev pub tick_answer : List Effect → Answer
tick_answer (at_base v ∷ []) = Idle
tick_answer _ = Fired

abbrev pub answer_of : Event → List Effect → Answer
answer_of (Read len flags) effects = system_answer flags effects
answer_of (Dread len flag) effects = system_answer flag effects
answer_of Reseed effects = if found_unready effects then NoData else Done
answer_of Tick effects = tick_answer effects
answer_of (At moment) effects = Done
answer_of (On cpu) effects = Done
answer_of (Hw hw) effects = Done
answer_of Drop effects = Done
answer_of (State number) effects = Done
answer_of (Write text) effects = Done
answer_of (Device word text) effects = Done
answer_of Bits effects = Done
answer_of (Add text bits) effects = Done
answer_of (Credit bits) effects = Done
answer_of (Input word kind code value) effects = Done
answer_of (Irq v1 v2) effects = Done
answer_of (Kread len) effects = Done
answer_of (Uread len) effects = Done
answer_of Int8 effects = Done
answer_of Int16 effects = Done
answer_of Int32 effects = Done
answer_of Int64 effects = Done
answer_of (Fork child) effects = Done
answer_of (Prepare cpu) effects = Done
answer_of (Online cpu) effects = Done
answer_of (Vmfork word text) effects = Done
-- the next two rows are not used: the meanings of vreads and acts give their answers and data (VreadMeans, ActMeans)
answer_of (Vread len flags) effects = Done
answer_of (Inside point act) effects = Done

abbrev pub effect_bytes : Effect → List ℕ
effect_bytes (looked g) = []
effect_bytes (at_pool v) = []
effect_bytes (at_base v) = v.serves
effect_bytes (at_cpu v) = v.serves
effect_bytes nothing_there = []

-- the bytes that a call with these effects serves: those of the last effect
abbrev pub served_bytes : List Effect → List ℕ
served_bytes [] = []
served_bytes (effect ∷ []) = effect_bytes effect
served_bytes (effect ∷ next ∷ effects) = served_bytes (next ∷ effects)

-- the data of a `bits` event: the credited bits of the pool before the event's only visit
abbrev pub bits_read : List Effect → Shown
bits_read (at_pool v ∷ []) = count v.before.bits
bits_read _ = no_data

abbrev pub shown_of : Event → List Effect → Shown
shown_of Bits effects = bits_read effects
shown_of (Read len flags) effects = bytes_or_none (served_bytes effects)
shown_of (Dread len flag) effects = bytes_or_none (served_bytes effects)
shown_of (Kread len) effects = bytes_or_none (served_bytes effects)
shown_of (Uread len) effects = bytes_or_none (served_bytes effects)
shown_of Int8 effects = bytes_or_none (served_bytes effects)
shown_of Int16 effects = bytes_or_none (served_bytes effects)
shown_of Int32 effects = bytes_or_none (served_bytes effects)
shown_of Int64 effects = bytes_or_none (served_bytes effects)
shown_of (At moment) effects = no_data
shown_of (On cpu) effects = no_data
shown_of (Hw hw) effects = no_data
shown_of Drop effects = no_data
shown_of (State number) effects = no_data
shown_of (Write text) effects = no_data
shown_of (Device word text) effects = no_data
shown_of (Add text bits) effects = no_data
shown_of (Credit bits) effects = no_data
shown_of (Input word kind code value) effects = no_data
shown_of (Irq v1 v2) effects = no_data
shown_of Reseed effects = no_data
shown_of Tick effects = no_data
shown_of (Fork child) effects = no_data
shown_of (Prepare cpu) effects = no_data
shown_of (Online cpu) effects = no_data
shown_of (Vmfork word text) effects = no_data
-- the next two rows are not used: the meanings of vreads and acts give their answers and data (VreadMeans, ActMeans)
shown_of (Vread len flags) effects = no_data
shown_of (Inside point act) effects = no_data
