-- The result of a vgetrandom call on a host.
use Rattle.std.specs.Prelude.{ℕ, ◌≡◌, Ok, Err, Result, List}
use Rattle.key_names.specs.declared.errno.Errno.{Errno}
use Rattle.vdso_state.specs.declared.outcome.VEnd.{VEnd}
use Rattle.vdso_state.specs.declared.outcome.VEnd.TheVariants.{Zero, Batch, System}
use Rattle.key_names.specs.Kernel.VgetrandomState.{VgetrandomState}
use Rattle.key_names.specs.Kernel.Vgetrandom.{SystemAnswer, read, failed, HostStep, Ending, no_bytes, by_batch, by_system, Outcome}
use Rattle.vdso_state.specs.Host.{Doings, DoesAll}

-- a vgetrandom call that ends with this answer of the system call returns `result`, and leaves `buf` in the buffer;
-- after an error the buffer is unspecified
abbrev pub EndsAsAnswered : SystemAnswer → Result VEnd Errno → List ℕ → Type 0
EndsAsAnswered (read bytes visit) result buf = (result ≡ Ok System) × (buf ≡ bytes)
EndsAsAnswered (failed errno) result buf = result ≡ Err errno

-- a vgetrandom call with this ending returns `result`; if it gave bytes, they are in `buf`
abbrev pub EndsAs : Ending → Result VEnd Errno → List ℕ → Type 0
EndsAs no_bytes result buf = result ≡ Ok Zero
EndsAs (by_batch bytes) result buf = (result ≡ Ok Batch) × (buf ≡ bytes)
EndsAs (by_system answer) result buf = EndsAsAnswered answer result buf

-- the state, the result and the buffer at the end of a vgetrandom call
pub record Finish : Type 0 where
  pub state : VgetrandomState
  pub result : Result VEnd Errno
  pub buf : List ℕ

-- some steps take the host from `h` to `last`, and `Relates` holds for these steps and for an outcome with this finish.
-- `Relates` describes a call, or the rest of a call
pub record Runs {H : Type 0} (host : Doings H) (Relates : List HostStep → Outcome → Type 0) (h last : H)
    (finish : Finish) : Type 0 where
  pub steps : List HostStep
  pub outcome : Outcome
  pub does : DoesAll host h steps last
  pub relates : Relates steps outcome
  pub state : finish.state ≡ outcome.state
  pub ends : EndsAs outcome.ending finish.result finish.buf
