-- A caller as the host of a vgetrandom call with acts inside. The caller itself makes each step of the host, over the
-- lanes.
use Rattle.std.specs.Prelude.{◌≡◌, ℕ, ◌&&◌, Bool, true, false, MatchBool, List, if◌then◌else◌}
use Rattle.key_names.specs.declared.point.Point.{Point}
use Rattle.key_names.specs.declared.point.Point.TheVariants.{Start}
use Rattle.key_names.specs.Kernel.Flags.{is_bad}
use Rattle.key_names.specs.Kernel.Vgetrandom.{SystemAnswer, HostStep, Outcome, IsCall}
use Rattle.key_names.specs.Kernel.VgetrandomState.{VgetrandomState}
use Rattle.key_names.specs.Kernel.Points.{is_same_point}
use Rattle.lane_table.specs.WorldRule.{Consistent}
use Rattle.vdso_state.specs.Host.{Doings, DoesAll, doings}
use Rattle.rng_core.specs.declared.vdso.attempt.Attempt.{Attempt}
use Rattle.rng_core.specs.declared.vdso.attempt.Attempt.TheVariants.{Before, First, Later}
use Rattle.rng_core.specs.Traces.{BeginsWithLook}
use Rattle.rng_core.specs.Hosted.{Conform, Published, Answered}
use Rattle.rng_core.specs.Acts.{Ask, ActOutcome, ActsAt, wipes_at}

-- the attempt after the call reached a point. The first point begins the first attempt, and each later `Start` begins a
-- new attempt
abbrev pub attempt_at : Attempt → Point → Attempt
attempt_at Before point = First
attempt_at First point = if is_same_point point Start then Later else First
attempt_at Later point = Later

abbrev pub is_first : Attempt → Bool
is_first Before = false
is_first First = true
is_first Later = false

-- the state of a caller in a call with acts inside
pub record ActConform : Type 0 where
  pub core : Conform
  pub attempt : Attempt
  pub asks : List Ask
  pub outcomes : List ActOutcome

abbrev pub act_conform : Conform → Attempt → List Ask → List ActOutcome → ActConform
act_conform core attempt asks outcomes =
    record { core = core; attempt = attempt; asks = asks; outcomes = outcomes }

-- the attempt, the requested acts and their outcomes are the same in `s` and `t`
pub record SameActs (s t : ActConform) : Type 0 where
  pub attempt : t.attempt ≡ s.attempt
  pub asks : t.asks ≡ s.asks
  pub outcomes : t.outcomes ≡ s.outcomes

-- the caller looked at the generation, and `g` is the generation that it published to the call
pub record ActPublished (s : ActConform) (g : ℕ) (t : ActConform) : Type 0 where
  pub core : Published s.core g t.core
  pub consistent : Consistent t.core.moment.view
  pub acts : SameActs s t

-- the caller made a system call for `n` bytes with the flags `flags`, and got the answer `answer`
pub record ActAnswered (s : ActConform) (n flags : ℕ) (answer : SystemAnswer) (t : ActConform) : Type 0 where
  pub core : Answered s.core n flags answer t.core
  pub begins : is_bad flags ≡ false → BeginsWithLook s.core.moment.steps t.core.moment.steps
  pub acts : SameActs s t

-- at a point of the first attempt the caller ran the acts that are bound to the point; at any other point it did
-- nothing
pub record ActPassed (s : ActConform) (point : Point) (wiped : Bool) (t : ActConform) : Type 0 where
  pub set : t.core.set ≡ s.core.set
  pub steps : t.core.moment.steps ≡ s.core.moment.steps
  pub attempt : t.attempt ≡ attempt_at s.attempt point
  pub asks : t.asks ≡ s.asks
  pub wipes : wiped ≡ (is_first t.attempt && wipes_at s.asks point)
  pub ran : MatchBool (is_first t.attempt)
      (ActsAt s.core.set point s.asks s.core.moment.view t.core.moment.view s.outcomes t.outcomes)
      ((t.outcomes ≡ s.outcomes) × (t.core.moment.view ≡ s.core.moment.view))

-- the steps of a host that is the caller itself
abbrev pub acting : Doings ActConform
acting = doings ActPublished ActAnswered ActPassed

-- the caller ran a call for `n` bytes on the state `s`, which became `t`. `steps` are the steps of the call's host, and
-- the caller does each of them over the lanes. The call began at `from`; if it ended in attempt `a`, it ended at `to a`
pub record InsideRan (n flags : ℕ) (s t : VgetrandomState) (from : ActConform) (to : Attempt → ActConform) : Type 0 where
  pub steps : List HostStep
  pub outcome : Outcome
  pub is_call : IsCall n flags s steps outcome
  pub state : t ≡ outcome.state
  pub last : Attempt
  pub does : DoesAll acting from steps (to last)
