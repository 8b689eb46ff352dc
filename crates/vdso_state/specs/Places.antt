-- The point that a vgetrandom call has reached, and the rest of the call from there.
use Rattle.std.specs.Prelude.{ℕ, ◌+◌, ◌*◌, ◌^◌, ◌≤◌, ◌≡◌, List, [], ◌∷◌, ◌++◌}
use Rattle.key_names.specs.declared.entries.VEntry.{VEntry}
use Rattle.key_names.specs.declared.point.Point.{Point}
use Rattle.key_names.specs.declared.point.Point.TheVariants.{Start, Written, Serve, End}
use Rattle.key_names.specs.Kernel.Vgetrandom.{HostStep, publishes, system_call, at_point, Attempt, Outcome, prefix_outcome, AtPoint, FromEnd, FromServe, FromWritten, FromStart, AttemptAndRest, SecondAttempt, AfterBoth}
use Rattle.key_names.specs.Kernel.VgetrandomState.{VgetrandomState}
use Rattle.key_names.specs.Callers.VreadSteps.{points_of}
use Rattle.vdso_state.specs.declared.place.Turn.{Turn}
use Rattle.vdso_state.specs.declared.place.Turn.TheVariants.{First, Second}
use Rattle.vdso_state.specs.declared.place.Place.{Place}
use Rattle.vdso_state.specs.declared.place.Came.{Came}
use Rattle.vdso_state.specs.declared.place.Came.TheVariants.{At, Ended}
use Rattle.vdso_state.specs.Host.{Doings, DoesAll}
use Rattle.vdso_state.specs.Call.{Runs, Finish}
use Rattle.vdso_state.specs.Turns.{looks_for, calls_for, points_for, copies_by, turns_before}

-- the rest of an attempt after a point. `c` is the next block, `published` is the generation that the attempt began
-- with, and `out` is the bytes copied so far
abbrev pub FromPoint : Point → ℕ → ℕ → ℕ → List ℕ → VgetrandomState → List HostStep → Attempt → Type 0
FromPoint Start n c published out s steps attempt = FromStart n c published s steps attempt
FromPoint Written n c published out s steps attempt = FromWritten n c s steps attempt
FromPoint Serve n c published out s steps attempt = FromServe n c s steps attempt
FromPoint End n c published out s steps attempt = FromEnd out c s steps attempt

-- the steps after an attempt that ended outdated: the second attempt follows the first, and the system call follows the
-- second
abbrev pub IfOutdated : Turn → ℕ → ℕ → ℕ → VgetrandomState → List HostStep → Outcome → Type 0
IfOutdated First n flags c s steps outcome = SecondAttempt n flags c s steps outcome
IfOutdated Second n flags c s steps outcome = AfterBoth n flags c s steps outcome

-- the rest of a call, with `Tail` as the rest of the call's current attempt
abbrev pub RestOf : Turn → ℕ → ℕ → (List HostStep → Attempt → Type 0) → List HostStep → Outcome → Type 0
RestOf turn n flags Tail steps outcome = AttemptAndRest n flags (IfOutdated turn n flags) Tail steps outcome

-- the rest of a call after the point that it has reached; `out` is the content of its buffer
abbrev pub AfterPlace : ℕ → ℕ → Place → List ℕ → VgetrandomState → List HostStep → Outcome → Type 0
AfterPlace n flags at out s steps outcome =
    RestOf at.turn n flags (FromPoint at.point n at.next_block at.published out s) steps outcome

-- the rest of a call from its point on, with the events at the point; `out` is the content of its buffer
abbrev pub AtPlace : ℕ → ℕ → Place → List ℕ → VgetrandomState → List HostStep → Outcome → Type 0
AtPlace n flags at out s steps outcome =
    RestOf at.turn n flags (AtPoint at.point (FromPoint at.point n at.next_block at.published out) s) steps outcome

-- the generations that these steps publish are at least `low` and at most `high`, and never fall
abbrev pub Climbs : ℕ → ℕ → List HostStep → Type 0
Climbs low high [] = low ≤ high
Climbs low high (publishes g ∷ steps) = (low ≤ g) × Climbs g high steps
Climbs low high (system_call n flags answer ∷ steps) = Climbs low high steps
Climbs low high (at_point point wiped ∷ steps) = Climbs low high steps

-- the generation that the steps published last, or `look` if the steps published none
abbrev pub last_look : ℕ → List HostStep → ℕ
last_look look [] = look
last_look look (publishes g ∷ steps) = last_look g steps
last_look look (system_call n flags answer ∷ steps) = last_look look steps
last_look look (at_point point wiped ∷ steps) = last_look look steps

module _ {H : Type 0} (host : Doings H) (floor : H → ℕ) where
  -- the host's steps from `h` to `next` lead from `From` to `To`: if `To` holds for later steps, `From` holds for these
  -- steps followed by the later ones
  pub record Leads (From To : List HostStep → Outcome → Type 0) (h next : H) : Type 0 where
    pub steps : List HostStep
    pub entries : List VEntry
    pub does : DoesAll host h steps next
    pub climbs : Climbs (floor h) (floor next) steps
    pub leads : (rest : List HostStep) (outcome : Outcome) → To rest outcome →
        From (steps ++ rest) (prefix_outcome entries outcome)

  -- `From` holds for the host's steps from `h` to `last`, and the call ends at `last`
  pub record Ends (From : List HostStep → Outcome → Type 0) (h last : H) (finish : Finish) : Type 0 where
    pub runs : Runs host From h last finish
    pub climbs : Climbs (floor h) (floor last) runs.steps

  -- a call of `n` bytes for which `From` holds reaches its next point, or ends without another point. The call then has
  -- the state `s` and the buffer `buf`. The place's `published` is the last generation published up to the point.
  -- `look` is the last generation published before these steps
  abbrev pub CameTo : (List HostStep → Outcome → Type 0) → ℕ → ℕ → ℕ → Came → H → H → VgetrandomState → List ℕ → Type 0
  CameTo From n flags look (At place) h next s buf =
      (leads : Leads From (AtPlace n flags place buf s) h next) × (points_of leads.steps ≡ [])
      × (place.published ≡ last_look look leads.steps)
  CameTo From n flags look (Ended result) h last s buf =
      (ends : Ends From h last (record { state = s; result = result; buf = buf })) × (points_of ends.runs.steps ≡ [])

-- a host that has this floor, and these looks and system calls left, can serve the rest of the call, and the key has
-- enough blocks
pub record MayGoOn (at : Place) (looks calls floor : ℕ) : Type 0 where
  pub looks_are : looks_for at.turn ≤ looks
  pub calls_are : calls_for at.turn at.point ≤ calls
  pub ready : 1 ≤ at.published
  pub known : at.published ≤ floor
  pub near : at.next_block ≤ copies_by at.turn at.point * (2 ^ 14 + 2)

-- the host can serve the rest of the call after the place `at`, and `turns` is the number of attempts whose point Start
-- comes before `at`
pub record GoesOn (at : Place) (turns looks calls floor : ℕ) : Type 0 where
  pub may : MayGoOn at looks calls floor
  pub turns_are : turns_before at.turn at.point ≡ turns

abbrev pub MayFinish : Came → ℕ → ℕ → ℕ → ℕ → Type 0
MayFinish (At place) turns looks calls floor = GoesOn place turns looks calls floor
MayFinish (Ended result) turns looks calls floor = Unit {0}

-- the number of points that the call may still reach
abbrev pub points_ahead : Came → ℕ
points_ahead (At place) = points_for place.turn place.point
points_ahead (Ended result) = 0
