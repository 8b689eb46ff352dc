-- If a text is put piece by piece, the sink gets the whole text, or a prefix of it if the sink fails.
use Rattle.std.proofs.Common.{◌≡◌, ℕ, List, [], ◌++◌, length, take, drop, Option, refl, ap, sym, subst, ◌∙◌, append_assoc, append-nil, arith}
use Rattle.std.proofs.lemmas.List.{length-append, take-append-drop, take_at}
use Rattle.std.proofs.KnownBytes.{Appends-trans}
use Rattle.std.specs.Io.KnownBytes.{Appends}
use Rattle.io_edges.specs.Pieces.{AppendsPrefix}
use Rattle.transcript_text.specs.Putting.{PutSoFar}

abbrev Known : Type 0
Known = Option (List ℕ)

-- if `x` and then `y` remain to be put, and the first part of `x` is put, the other part of `x` and then `y` remain
goes_on : (a b c : Known) (whole x y rest : List ℕ) → PutSoFar a b whole (x ++ y) → PutSoFar b c x rest
    → PutSoFar a c whole (rest ++ y)
goes_on a b c whole x y rest p q = record {
  front = p.front ++ q.front;
  whole = append_assoc p.front q.front (rest ++ y)
      ∙ ap (λ (w : List ℕ). p.front ++ w) (sym (append_assoc q.front rest y) ∙ ap (λ (w : List ℕ). w ++ y) q.whole)
      ∙ p.whole;
  appends = Appends-trans a b c p.front q.front p.appends q.appends;
}

-- if the text `left` remains to be put, it begins with `piece`, and `piece` is put, then `rest` remains to be put
pub piece_put : (a b c : Known) (whole left piece rest : List ℕ) → PutSoFar a b whole left → left ≡ piece ++ rest
    → Appends b c piece → PutSoFar a c whole rest
piece_put a b c whole left piece rest p is put = goes_on a b c whole piece rest [] (subst (PutSoFar a b whole) is p)
    (record { front = piece; whole = append-nil piece; appends = put })

pub prefix_of : (a b : Known) (whole rest : List ℕ) → PutSoFar a b whole rest → AppendsPrefix a b whole
prefix_of a b whole rest p = (
  length p.front,
  omega (arith, ap length p.whole, length-append p.front rest),
  let e : take (length p.front) whole ≡ p.front = ap (take (length p.front)) (sym p.whole)
      ∙ take_at p.front rest (length p.front) refl in
      subst (Appends a b) (sym e) p.appends,
)

from_prefix : (a b : Known) (whole : List ℕ) (p : AppendsPrefix a b whole) → PutSoFar a b whole (drop p.0 whole)
from_prefix a b whole p = record { front = take p.0 whole; whole = take-append-drop p.0 whole; appends = p.2 }

-- if the sink fails while `piece` is put, a prefix of `whole` was appended
pub breaks_off : (a b c : Known) (whole left piece rest : List ℕ) → PutSoFar a b whole left → left ≡ piece ++ rest
    → AppendsPrefix b c piece → AppendsPrefix a c whole
breaks_off a b c whole left piece rest p is q = prefix_of a c whole (drop q.0 piece ++ rest)
    (goes_on a b c whole piece rest (drop q.0 piece) (subst (PutSoFar a b whole) is p) (from_prefix b c piece q))
