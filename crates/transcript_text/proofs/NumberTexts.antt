-- A number is read from its spelling, and no other number has that spelling.
use Rattle.std.proofs.Common.{◌≡◌, ℕ, ◌^◌, ◌<◌, List, Some, None, arith}
use Rattle.std.specs.Prelude.{decimal}
use Rattle.key_names.specs.Texts.ScriptFaults as scripts
use Rattle.key_names.proofs.Script.Numbers.{number_again}

read_back : (text : List ℕ) (n : ℕ) → n < 2 ^ 32 → text ≡ decimal n → scripts.number_below (2 ^ 32) text ≡ Some n
read_back text n small e = rw e (number_again (2 ^ 32) n small (omega arith))

-- if `number_below` finds no number of 32 bits in `text`, then `text` spells no such number
pub none_below : (text : List ℕ) → None ≡ scripts.number_below (2 ^ 32) text → (n : ℕ) → n < 2 ^ 32 → text ≡ decimal n → ⊥
none_below text none n small e = let again = read_back text n small e in cc
