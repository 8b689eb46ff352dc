-- If bytes are written in hex piece by piece, the text is the same as if the bytes were written at once.
use Rattle.std.proofs.Common.{◌≡◌, ℕ, List, [], ◌++◌, take, drop, refl, ap, sym, ◌∙◌, append_assoc}
use Rattle.std.proofs.lemmas.List.{take-append-drop}
use Rattle.hex.specs.Hex.{encode_with, encode_lower, lower_digits}
use Rattle.key_names.proofs.Script.HexBytes.{encode_with-append}

-- if `front`, the first `n` bytes of `rest`, is appended to `piece` in hex, only `following`, the other bytes of
-- `rest`, remain to be written
pub next_hex : (piece new rest front following : List ℕ) (n : ℕ) → new ≡ piece ++ encode_lower front
    → front ≡ take n rest → following ≡ drop n rest
    → piece ++ encode_lower rest ≡ new ++ encode_lower following
next_hex piece new rest front following n e p q =
    ap (λ (r : List ℕ). piece ++ encode_lower r) (sym (take-append-drop n rest))
    ∙ ap (λ (r : List ℕ). piece ++ r) (encode_with-append lower_digits (take n rest) (drop n rest))
    ∙ sym (append_assoc piece (encode_lower (take n rest)) (encode_lower (drop n rest)))
    ∙ rw (e, p, q) refl

pub no_hex : (rest : List ℕ) → rest ≡ [] → encode_lower rest ≡ []
unfolding encode_with
no_hex rest e = rw e refl
