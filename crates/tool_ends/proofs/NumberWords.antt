-- Reading numbers from the words of the command line.
use Rattle.std.proofs.Common.{◌≡◌, ℕ, ◌+◌, ◌^◌, ◌<◌, ◌≤◌, List, Some, ap, ◌∙◌, arith}
use Rattle.std.specs.Prelude.{decimal}
use Rattle.key_names.specs.Texts.ScriptFaults.{number_below}
use Rattle.key_names.proofs.Script.Numbers.{number_again}

-- if `word` spells the number n, and n is at most `most`, then `number_below` finds n
pub number_read : (most n : ℕ) (word : List ℕ) → most < 2 ^ 32 → word ≡ decimal n → n ≤ most →
    number_below (most + 1) word ≡ Some n
number_read most n word fits spelt few =
    ap (number_below (most + 1)) spelt ∙ number_again (most + 1) n (omega arith) (omega arith)
