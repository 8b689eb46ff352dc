-- Script lines that are a word and at most two numbers.
use Rattle.std.specs.Prelude.{ℕ, ◌^◌, ◌<◌, ◌≤◌, ⊤, List, [], ◌∷◌, ◌++◌}
use Rattle.std.specs.Fmt.{decimal}
use Rattle.key_names.specs.declared.events.Word.{Word}
use Rattle.key_names.specs.declared.events.Word.TheVariants.{At, Credit, Bits, Irq, Read, Vread, Kread, Dread, Uread, Int8, Int16, Int32, Int64, Reseed, Tick, Drop}
use Rattle.event_script.specs.declared.statements.short.NumberFields.{NumberFields}
use Rattle.event_script.specs.declared.statements.short.NumberFields.TheVariants.{None, One, Two}

-- the bytes between a word and the line feed, if the given numbers follow the word
abbrev pub after_word : NumberFields → List ℕ
after_word None = []
after_word (One a) = 32 ∷ decimal a
after_word (Two a b) = 32 ∷ (decimal a ++ 32 ∷ decimal b)

-- in every version and with any number of CPUs, some event has the given word and numbers
abbrev pub IsShort : Word → NumberFields → Type 0
IsShort Bits None = ⊤
IsShort Int8 None = ⊤
IsShort Int16 None = ⊤
IsShort Int32 None = ⊤
IsShort Int64 None = ⊤
IsShort Reseed None = ⊤
IsShort Tick None = ⊤
IsShort Drop None = ⊤
IsShort At (One moment) = moment < 2 ^ 40
IsShort Credit (One bits) = bits < 2 ^ 31
IsShort Kread (One len) = len ≤ 1048576
IsShort Uread (One len) = len ≤ 1048576
IsShort Irq (Two v1 v2) = (v1 < 2 ^ 64) × (v2 < 2 ^ 64)
IsShort Read (Two len flags) = (len ≤ 1048576) × (flags < 2 ^ 32)
IsShort Vread (Two len flags) = (len ≤ 1048576) × (flags < 2 ^ 32)
IsShort Dread (Two len flag) = (len ≤ 1048576) × (flag < 2)
IsShort _ _ = ⊥
