-- Successive puts append a prefix of a text, and successive takes consume a prefix of an input.
use Rattle.std.proofs.Common.{◌≡◌, ℕ, ◌+◌, List, ◌++◌, length, take, drop, Option, sym, ap, ◌∙◌, subst, le_refl, ◌≤◌, arith}
use Rattle.std.proofs.Math.Seq.{take-add, take-length}
use Rattle.std.specs.Io.KnownBytes.{Appends, Consumes, Keeps}
use Rattle.std.proofs.KnownBytes.{Appends-trans, Consumes-kept, Consumes-trans}
use Rattle.std.proofs.lemmas.List.{length-append}
use Rattle.io_edges.specs.Pieces.{AppendsPrefix, ConsumesUpTo}

-- if the first n bytes of a text were appended, and then m bytes of its rest, the first n + m bytes were appended
pub Appends-next : (a b c : Option (List ℕ)) (text rest : List ℕ) (n m : ℕ)
    → Appends a b (take n text) → rest ≡ drop n text → Appends b c (take m rest)
    → Appends a c (take (n + m) text)
Appends-next a b c text rest n m first is next =
    let joined : take n text ++ take m rest ≡ take (n + m) text =
    ap (λ l. take n text ++ take m l) is ∙ sym (take-add n m text) in
    subst (Appends a c) joined (Appends-trans a b c (take n text) (take m rest) first next)

-- if a whole text was appended, a prefix of the text was appended
pub AppendsPrefix-of_whole : (a b : Option (List ℕ)) (xs : List ℕ) → Appends a b xs → AppendsPrefix a b xs
AppendsPrefix-of_whole a b xs h = (length xs, le_refl (length xs), subst (Appends a b) (sym (take-length xs)) h)

-- if at most `most` bytes were taken, and then a call took nothing, at most `most` bytes were taken in all
pub ConsumesUpTo_kept : (most : ℕ) (a b c : Option (List ℕ)) (bs : List ℕ)
    → Consumes a b bs → Keeps b c → length bs ≤ most → ConsumesUpTo most a c
ConsumesUpTo_kept most a b c bs first second few = (bs, few, Consumes-kept a b c bs first second)

-- if `bs` and then `cs` were taken, and both together have at most `most` bytes, then a prefix of at most `most` bytes
-- was taken
pub ConsumesUpTo_more : (most : ℕ) (a b c : Option (List ℕ)) (bs cs : List ℕ)
    → Consumes a b bs → Consumes b c cs → length bs + length cs ≤ most → ConsumesUpTo most a c
ConsumesUpTo_more most a b c bs cs first second few =
    (bs ++ cs, omega (arith, few, length-append bs cs), Consumes-trans a b c bs cs first second)
