-- The loops over a caller's lines and over all callers keep their invariants in each round.
use Rattle.std.proofs.Common.{◌≡◌, ℕ, ◌+◌, Some, List, ◌∷◌, drop, sym, subst}
use Rattle.std.specs.Prelude.{◌↔◌, slice_get}
use Rattle.std.specs.List.{AllByRecursion}
use Rattle.key_names.specs.Transcripts.SeenLine.{SeenLine}
use Rattle.key_names.proofs.Lists.ListFacts.{found_dropped}
use Rattle.transcript_check.specs.declared.compare.Same.{Same}

-- let `P` hold of all of `xs` exactly if `P` holds of the elements from `n` on. If `P` holds of `x`, the element at
-- `n`, then `P` holds of all of `xs` exactly if `P` holds of the elements after `n`
pub one_more : {X : Type 0} (P : X → Type 0) (xs : List X) (n : ℕ) (x : X) → slice_get xs n ≡ Some x → P x →
    (AllByRecursion P xs ↔ AllByRecursion P (drop n xs)) → AllByRecursion P xs ↔ AllByRecursion P (drop (n + 1) xs)
one_more {X = X} P xs n x is here rest =
    let e : drop n xs ≡ x ∷ drop (n + 1) xs = found_dropped xs n x is in
    let All : List X → Type 0 = λ ys. AllByRecursion P ys in (
      (λ h. (let first : AllByRecursion P (x ∷ drop (n + 1) xs) = subst All e (rest.0 h) in first.1)),
      (λ h. (let whole : AllByRecursion P (x ∷ drop (n + 1) xs) = (here, h) in rest.1 (subst All (sym e) whole))),
    )

-- if `Q` holds of the notes `s` and the lines `ls`, and these equal `s'` and `ls'`, `Q` holds of `s'` and `ls'`
pub moved : (Q : List Same → List SeenLine → Type 0) (s s' : List Same) (ls ls' : List SeenLine) → s ≡ s' → ls ≡ ls' →
    Q s ls → Q s' ls'
moved Q s s' ls ls' e e' q = subst (Q s') e' (subst (λ x. Q x ls) e q)
