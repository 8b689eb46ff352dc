-- If a text spells no value, a reader of values may return None.
use Rattle.std.proofs.Common.{◌≡◌, ℕ, List, Option, Some, None}
use Rattle.std.specs.Prelude.{MatchOption}
use Rattle.transcript_text.specs.Reading.{Reads}

pub reads_none : {X : Type 0} (spelling : X → List ℕ) (Fits : X → Type 0) (text : List ℕ) (answer : Option X)
    → answer ≡ None
    → ((x : X) → Fits x → text ≡ spelling x → ⊥) → Reads spelling Fits text answer
reads_none spelling Fits text None e not = not
reads_none spelling Fits text (Some x) e not = absurd cc

pub matched_none : {X : Type 0} (answer : Option X) (P : Type 0) (Q : X → Type 0) → answer ≡ None → P
    → MatchOption answer P Q
matched_none None P Q e p = p
matched_none (Some x) P Q e p = absurd cc
