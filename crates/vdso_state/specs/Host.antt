-- The steps of a host in a call, as a chain of the host's values, from the value before the call to the value after the
-- call.
use Rattle.std.specs.Prelude.{ℕ, ◌≡◌, Bool, Ok, Err, Result, List, [], ◌∷◌}
use Rattle.key_names.specs.declared.errno.Errno.{Errno}
use Rattle.key_names.specs.declared.point.Point.{Point}
use Rattle.key_names.specs.Kernel.Vgetrandom.{SystemAnswer, read, failed, HostStep, publishes, system_call, at_point}
use Rattle.key_names.specs.Kernel.VgetrandomState.{VgetrandomState}

-- the steps that a host makes: the generation that it publishes; its answer to a system call of some bytes with some
-- flags; and whether it wipes the state at a point. Each of these relations is over the host before the step, the input
-- and the result, and the host after the step
pub record Doings (H : Type 0) : Type 1 where
  pub publishes_as : H → ℕ → H → Type 0
  pub answers_as : H → ℕ → ℕ → SystemAnswer → H → Type 0
  pub passes_as : H → Point → Bool → H → Type 0

abbrev pub Does : {H : Type 0} → Doings H → H → HostStep → H → Type 0
Does host h (publishes g) next = host.publishes_as h g next
Does host h (system_call n flags answer) next = host.answers_as h n flags answer next
Does host h (at_point point wiped) next = host.passes_as h point wiped next

-- these steps, one after another, take the host from `h` to `last`
abbrev pub DoesAll : {H : Type 0} → Doings H → H → List HostStep → H → Type 0
DoesAll host h [] last = h ≡ last
DoesAll {H} host h (step ∷ steps) last = (next : H) × Does host h step next × DoesAll host next steps last

-- a system call with this answer returns `result`, and leaves `buf` in the buffer; after an error the buffer is
-- unspecified
abbrev pub IsAnswer : SystemAnswer → Result (Unit {0}) Errno → List ℕ → Type 0
IsAnswer (read bytes visit) result buf = (result ≡ Ok tt) × (buf ≡ bytes)
IsAnswer (failed errno) result buf = result ≡ Err errno

abbrev pub doings : {H : Type 0} → (H → ℕ → H → Type 0) → (H → ℕ → ℕ → SystemAnswer → H → Type 0) →
    (H → Point → Bool → H → Type 0) → Doings H
doings publishes_as answers_as passes_as =
    record { publishes_as = publishes_as; answers_as = answers_as; passes_as = passes_as }

-- the system call for a new key had this answer and this result, and changed the state from `before` to `after`. If the
-- system call failed, the key of `after` may be any list of bytes
abbrev pub KeyIsRead : SystemAnswer → Result (Unit {0}) Errno → VgetrandomState → VgetrandomState → Type 0
KeyIsRead (read key visit) result before after = (result ≡ Ok tt) × (after ≡ record before { key = key; pos = 96 })
KeyIsRead (failed errno) result before after =
    (result ≡ Err errno) × ((key : List ℕ) × (after ≡ record before { key = key; generation = 0 }))
