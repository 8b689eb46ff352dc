-- For callers: if a hash under a key is new, it matches that key and an empty text (`Conforms`).
use Rattle.std.proofs.Common.{◌≡◌, ℕ, List, [], ◌++◌, length, replicate, Some, sym, ◌∙◌, arith, length-append}
use Rattle.std.proofs.lemmas.List.{append-nil}
use Rattle.key_names.specs.Kernel.Blake2s.{inner_count, start_words}
use Rattle.blake2s_core.specs.Hash.{Conforms}

-- `Conforms` holds for a new hash under a key, with this key and an empty text
pub Conforms_keyed : (key words : List ℕ) (count : ℕ) (rest : List ℕ) → length key ≡ 32 → words ≡ start_words 32
    → count ≡ 0 → rest ≡ key ++ replicate 32 0
    → Conforms (record { words = words; rest = rest; count = count }) (Some key) []
Conforms_keyed key words count rest len hashed counted padded =
    let block = key ++ replicate 32 0 in
    let whole : length (block ++ []) ≡ 64 = rw append-nil (omega (arith, length-append key (replicate 32 0))) in
    let none : inner_count (block ++ []) ≡ 0 = omega arith in record {
      blocks = rw none (record { hashed = hashed; counted = counted });
      last = rw none (padded ∙ sym (append-nil block));
    }
