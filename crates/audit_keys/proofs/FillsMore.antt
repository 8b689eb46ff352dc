-- The last fills of a CPU's batches, at the start and after one more integer.
use Rattle.std.proofs.Common.{◌≡◌, ◌<◌, ℕ, List, length, get_or, Option, Some, None, inl, inr, sym, ap, ◌∙◌, arith}
use Rattle.std.specs.Prelude.{slice_get, slice_set, replicate}
use Rattle.std.proofs.lemmas.Bool.{cases_eq, eq-eqb, ne_eqb}
use Rattle.std.proofs.lemmas.List.{get_or-replicate, get_or-set_same, get_or-set_other, length-replicate, length-set}
use Rattle.std.proofs.lemmas.Option.{slice_get-get_or, slice_get_within}
use Rattle.key_names.specs.Kernel.Batches.{Fill as BookFill, one_more_served}
use Rattle.audit_keys.specs.declared.cpu_uses.Fill.{Fill}
use Rattle.audit_keys.specs.Fills.{fill_of, served_more, AreFills}

pub at_replicate : {A : Type 0} (n i : ℕ) (a : A) → i < n → slice_get (replicate n a) i ≡ Some a
at_replicate n i a low =
    slice_get-get_or (replicate n a) i a (let long = length-replicate n a in omega (arith, low, long))
    ∙ ap Some (get_or-replicate n i a a low)

-- if the code counts one more integer for the last fill of `width`, its fills are those after this integer was served
pub served_one_more : (kept : List (Option Fill)) (fills : ℕ → Option BookFill) (width : ℕ) (more : Option Fill) →
    width < 256 → AreFills fills kept → more ≡ fill_of (one_more_served (fills width)) →
    AreFills (served_more width fills) (slice_set kept width more)
served_one_more kept fills width more wide are is w low =
    let inside : width < length kept = slice_get_within kept width _ (are width wide) in
    let inside' : w < length kept = slice_get_within kept w _ (are w low) in
    let at : slice_get (slice_set kept width more) w ≡ Some (get_or (slice_set kept width more) w None) =
    slice_get-get_or (slice_set kept width more) w None
    (let long = length-set kept width more in omega (arith, long, inside')) in
    elim (cases_eq w width) [
      | inl e ↦ rw (eq-eqb w width e) (at ∙ ap Some (ap (λ n. get_or (slice_set kept width more) n None) e
          ∙ get_or-set_same kept width more None inside ∙ is ∙ ap (λ n. fill_of (one_more_served (fills n))) (sym e)))
      | inr ne ↦ rw (ne_eqb w width ne) (at ∙ ap Some (get_or-set_other kept width w more None ne)
          ∙ sym (slice_get-get_or kept w None inside') ∙ are w low)
    ]
