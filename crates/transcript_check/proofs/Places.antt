-- If `P` implies `Q`, and `P` holds of the line that a search found (if it found one), `Q` also holds of this line.
use Rattle.std.proofs.Common.{Option, Some, None}
use Rattle.std.specs.Prelude.{Result, Ok, Err, IfOk, IfSome}
use Rattle.transcript_check.specs.declared.place.FailedLine.{FailedLine}

pub places_too : {E : Type 0} (P Q : FailedLine → Type 0) → ((p : FailedLine) → P p → Q p) → (r : Result (Option FailedLine) E) →
    IfOk r (λ o. IfSome o P) → IfOk r (λ o. IfSome o Q)
places_too P Q wider (Ok None) is = tt
places_too P Q wider (Ok (Some p)) is = wider p is
places_too P Q wider (Err e) is = tt
