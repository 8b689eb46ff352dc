-- A copy out of a state without a vgetrandom call.
use Rattle.std.specs.Prelude.{ℕ, ◌≡◌, MatchBool, List}
use Rattle.vdso_state.specs.declared.outcome.Local.{Local}
use Rattle.vdso_state.specs.declared.outcome.Local.TheVariants.{NeedsSystem, Served}
use Rattle.key_names.specs.Kernel.VgetrandomState.{VgetrandomState}
use Rattle.key_names.specs.Kernel.BatchCopy.{serves_locally, copy_bytes, state_after_copy}

-- `n` bytes were copied out of the state `before` to `out`, and left the state `after`
pub record IsCopy (n : ℕ) (before after : VgetrandomState) (result : Local) (out : List ℕ) : Type 0 where
  pub served : result ≡ Served
  pub bytes : out ≡ copy_bytes before 0 n
  pub state : after ≡ state_after_copy before 0 n

-- nothing was copied: the state and the buffer are as before
pub record IsUntouched (before after : VgetrandomState) (result : Local) (out_before out : List ℕ) : Type 0 where
  pub needs_system : result ≡ NeedsSystem
  pub bytes : out ≡ out_before
  pub state : after ≡ before

-- `n` bytes are copied if the state `before` may serve them at the published generation `g`; otherwise nothing is
-- copied
abbrev pub CopiesLocally : ℕ → ℕ → VgetrandomState → VgetrandomState → Local → List ℕ → List ℕ → Type 0
CopiesLocally g n before after result out_before out =
    MatchBool (serves_locally g before n) (IsCopy n before after result out)
    (IsUntouched before after result out_before out)
