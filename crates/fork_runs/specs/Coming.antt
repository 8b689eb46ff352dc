-- How far a vgetrandom call gets on a ready core: to each point of its first attempt, to each point of a second attempt
-- if a higher generation is published meanwhile, and to an end with bytes.
use Rattle.std.specs.Prelude.{ℕ, ◌≡◌, ◌<◌, ◌≤◌, ⊤, false, None, List}
use Rattle.key_names.specs.declared.point.Point.{Point}
use Rattle.key_names.specs.declared.point.Point.TheVariants.{Serve}
use Rattle.key_names.specs.Kernel.Flags.{is_bad}
use Rattle.key_names.specs.Kernel.Vgetrandom.{HostStep, Outcome, Ending, no_bytes, by_batch, by_system, IsCall}
use Rattle.key_names.specs.Kernel.VgetrandomState.{VgetrandomState, wiped_state}
use Rattle.key_names.specs.Callers.VreadSteps.{points_of}
use Rattle.vdso_state.specs.declared.place.Place.{Place}
use Rattle.vdso_state.specs.declared.place.Turn.{Turn}
use Rattle.vdso_state.specs.declared.place.Turn.TheVariants.{First, Second}
use Rattle.vdso_state.specs.Places.{AfterPlace, Climbs}
use Rattle.vcall_fork.specs.Stops.{Misses, passes_by}
use Rattle.rng_core.specs.Hosted.{IsRead}
use Rattle.fork_runs.specs.Stretches.{AreServed, AreUnwiped, Stop}

-- the steps of a call's host on a ready core: the published generations climb from `low` to `high`, no point wipes the
-- state, and each system call reads its bytes
pub record OnReadyCore (low high : ℕ) (steps : List HostStep) : Type 0 where
  pub climbs : Climbs low high steps
  pub unwiped : AreUnwiped steps
  pub served : AreServed steps

-- the host's steps reach the point `point` of the attempt `turn`; before these steps, `begun` attempts had begun
abbrev pub ComesTo : Turn → Point → ℕ → List HostStep → Type 0
ComesTo turn point begun steps = passes_by turn point begun (points_of steps) ≡ None

-- a call for one byte or more without flags, on a wiped state, reaches each point of its first attempt
abbrev pub FirstAttemptComes : Type 0
FirstAttemptComes = (n : ℕ) (point : Point) (steps : List HostStep) (outcome : Outcome) (low high : ℕ) → 1 ≤ n → 1 ≤ low →
    IsCall n 0 wiped_state steps outcome → OnReadyCore low high steps → ComesTo First point 0 steps

-- suppose that a call as in `FirstAttemptComes` was stopped at the point Serve of its first attempt. If only higher
-- generations are published from then on, the call reaches each point of its second attempt
abbrev pub SecondAttemptComes : Type 0
SecondAttemptComes = (n : ℕ) (point : Point) (stop : Stop (IsCall n 0 wiped_state) n 0 First Serve)
    (steps : List HostStep) (outcome : Outcome) (low mid next high : ℕ) → 1 ≤ n → 1 ≤ low →
    Misses First Serve 0 stop.before → OnReadyCore low mid stop.before → mid < next →
    AfterPlace n 0 stop.place stop.held stop.state steps outcome → OnReadyCore next high steps →
    ComesTo Second point 1 steps

-- a call with this ending gave bytes
abbrev pub IsGiven : Ending → Type 0
IsGiven no_bytes = ⊥
IsGiven (by_batch bytes) = ⊤
IsGiven (by_system answer) = IsRead answer

-- take a call with good flags that is stopped at any point. If each system call from then on reads its bytes, the rest
-- of the call gives bytes
abbrev pub EndsGiveBytes : Type 0
EndsGiveBytes = (n flags : ℕ) (place : Place) (out : List ℕ) (s : VgetrandomState) (steps : List HostStep)
    (outcome : Outcome) → is_bad flags ≡ false → AreServed steps → AfterPlace n flags place out s steps outcome →
    IsGiven outcome.ending
