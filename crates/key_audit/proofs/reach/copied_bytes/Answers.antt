use Rattle.std.proofs.Common.{◌≡◌, ◌<◌, ◌+◌, ℕ, suc, List, ◌∷◌, ◌++◌, length, drop, get_or, sym, ap, ◌∙◌, append_assoc, add-one}
use Rattle.std.specs.List.{flat_map}
use Rattle.std.specs.BTreeSet.{contains}
use Rattle.std.proofs.Math.Seq.{drop-cons}
use Rattle.key_names.specs.contracts.names.KeyNameOrd.TheImpl.{ghosts as names}
use Rattle.key_audit.specs.Reach.{copied_row}
use Rattle.key_audit.proofs.reach.copied_bytes.Goals as goal

one_more : {A B : Type 0} (f : A → List B) (xs : List A) (i : ℕ) (x : A) (old new all : List B) → i < length xs →
    x ≡ get_or xs i x → new ≡ old ++ f x → old ++ flat_map f (drop i xs) ≡ all →
    new ++ flat_map f (drop (i + 1) xs) ≡ all
one_more f xs i x old new all low at is before =
    ap (λ ys. ys ++ flat_map f (drop (i + 1) xs)) is
    ∙ append_assoc old (f x) (flat_map f (drop (i + 1) xs))
    ∙ rw (add-one) (ap (λ ys. old ++ flat_map f ys) (sym (drop-cons xs i x low ∙ ap (λ y. y ∷ drop (suc i) xs) (sym at))))
    ∙ before

pub loop-row-preserved : goal.loop-row-preserved
loop-row-preserved c =
    one_more (copied_row c.args.moments.now (contains names.cmp c.args.known.now) c.args.rests.now) c.args.rows.now
    c.loop-row.row-index c.row-item.result _ _ _ c.loop-row-test.true c.row-item.is c.in_ok-push_row.ensures
    c.loop-row.invariant
