-- How numbers, bytes, words, fields and lines are spelt in a script and in a transcript. A number is spelt by
-- `decimal`.
use Rattle.std.specs.Prelude.{◌≡◌, ℕ, nat_le, Bool, true, ◌&&◌, ◌||◌, List, [], ◌∷◌, ◌++◌, codes}
use Rattle.std.specs.List.{AllByRecursion, flat_map, join_with_byte}
use Rattle.hex.specs.Hex.{encode_lower}
use Rattle.key_names.specs.declared.events.Word.{Word}
use Rattle.key_names.specs.declared.events.Word.TheVariants.{At, On, Hw, Device, Write, Add, Credit, Bits, Irq, Input}
use Rattle.key_names.specs.declared.events.Word.TheVariants.{Read, Vread, Kread, Dread, Uread, Int8, Int16, Int32}
use Rattle.key_names.specs.declared.events.Word.TheVariants.{Int64, Reseed, Tick, Drop, Fork, Inside, Prepare, Online}
use Rattle.key_names.specs.declared.events.Word.TheVariants.{Vmfork, State, End}

-- bytes in lower-case hexadecimal, or a dash for no bytes
abbrev pub hex : List ℕ → List ℕ
hex [] = codes "-"
hex (b ∷ bytes) = encode_lower (b ∷ bytes)

-- a digit of lower-case hexadecimal
abbrev pub is_lower_digit : ℕ → Bool
is_lower_digit c = (nat_le 48 c && nat_le c 57) || (nat_le 97 c && nat_le c 102)

abbrev pub AllLower : List ℕ → Type 0
AllLower text = AllByRecursion (λ c. is_lower_digit c ≡ true) text

-- the fields of a line, with one space between two fields
abbrev pub spaced : List (List ℕ) → List ℕ
spaced fields = join_with_byte 32 fields

-- a text of lines, each with a line feed at its end
abbrev pub lined : List (List ℕ) → List ℕ
lined lines = flat_map (λ line. line ++ 10 ∷ []) lines

abbrev pub word_text : Word → List ℕ
word_text At = codes "at"
word_text On = codes "on"
word_text Hw = codes "hw"
word_text Device = codes "device"
word_text Write = codes "write"
word_text Add = codes "add"
word_text Credit = codes "credit"
word_text Bits = codes "bits"
word_text Irq = codes "irq"
word_text Input = codes "input"
word_text Read = codes "read"
word_text Vread = codes "vread"
word_text Kread = codes "kread"
word_text Dread = codes "dread"
word_text Uread = codes "uread"
word_text Int8 = codes "int8"
word_text Int16 = codes "int16"
word_text Int32 = codes "int32"
word_text Int64 = codes "int64"
word_text Reseed = codes "reseed"
word_text Tick = codes "tick"
word_text Drop = codes "drop"
word_text Fork = codes "fork"
word_text Inside = codes "inside"
word_text Prepare = codes "prepare"
word_text Online = codes "online"
word_text Vmfork = codes "vmfork"
word_text State = codes "state"
word_text End = codes "end"
