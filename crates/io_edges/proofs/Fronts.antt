-- A call of a source in memory takes a prefix of the bytes left.
use Rattle.std.proofs.Common.{◌≡◌, ℕ, ◌+◌, List, ◌++◌, length, take, drop, sym, ap₂, subst, ◌∙◌}
use Rattle.std.proofs.lemmas.List.{take-append-drop, drop-drop}
use Rattle.std.proofs.Math.Seq.{take-append_seam}

-- the bytes left before a call are the bytes that the call took, followed by the bytes left after the call
pub front_and_rest : (bytes front following : List ℕ) (at n : ℕ) → length front ≡ n → front ≡ take n (drop at bytes)
    → drop at bytes ≡ take n (front ++ following) ++ drop (at + n) bytes
front_and_rest bytes front following at n len is =
    let got : take n (front ++ following) ≡ front =
    subst (λ k. take k (front ++ following) ≡ front) len (take-append_seam front following) in
    sym (take-append-drop n (drop at bytes)) ∙ ap₂ (λ x y. x ++ y) (sym (got ∙ is)) (drop-drop n at bytes)
