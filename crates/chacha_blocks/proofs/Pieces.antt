-- A part of a piece of keystream is a piece of keystream.
use Rattle.std.proofs.Common.{◌≡◌, ℕ, ◌+◌, ◌-◌, ◌≤◌, List, ap, ap₂, ◌∙◌, arith}
use Rattle.std.specs.Prelude.{slice_range}
use Rattle.key_names.specs.Kernel.Keystream.{keystream}
use Rattle.key_names.proofs.Standards.Keystreams.{slice_range-keystream}

-- if `piece` is keystream from byte `at` on, its `n` bytes from byte `i` on are keystream from byte `at + i` on
pub part_of : (key piece part : List ℕ) (at len i n from : ℕ) → piece ≡ keystream key at len
    → part ≡ slice_range piece i (i + n) → i + n ≤ len → at + i ≡ from → part ≡ keystream key from n
part_of key piece part at len i n from made cut fits start =
    let taken : i + n - i ≡ n = omega arith in
    cut ∙ ap (λ (b : List ℕ). slice_range b i (i + n)) made
    ∙ slice_range-keystream key at len i (i + n) (omega arith) fits ∙ ap₂ (keystream key) start taken
