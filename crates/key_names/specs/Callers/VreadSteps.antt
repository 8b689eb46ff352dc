-- How the steps of a vread's line, and of the lines of its acts, show a vgetrandom call. The host of the call is the
-- caller itself, which visits the lanes.
use Rattle.std.specs.Prelude.{ℕ, zero, suc, ◌≡◌, ◌≤◌, Bool, true, false, ◌&&◌, ⊤, Option, Some, None, List, []}
use Rattle.std.specs.Prelude.{◌∷◌, ◌++◌, if◌then◌else◌}
use Rattle.std.specs.List.{list_any, AllByRecursion}
use Rattle.key_names.specs.declared.events.InsideAct.{InsideAct}
use Rattle.key_names.specs.declared.events.InsideAct.TheVariants.{Wipe as WipeAct, Vread as VreadAct}
use Rattle.key_names.specs.declared.events.InsideAct.TheVariants.{Reseed as ReseedAct}
use Rattle.key_names.specs.declared.events.Answer.{Answer}
use Rattle.key_names.specs.declared.events.Answer.TheVariants.{Ok as Done, Again, Invalid, NoData, Interrupted, Fired}
use Rattle.key_names.specs.declared.events.Answer.TheVariants.{Idle, Unused}
use Rattle.key_names.specs.declared.errno.Errno.{Errno}
use Rattle.key_names.specs.declared.errno.Errno.TheVariants.{Again as EAGAIN, Invalid as EINVAL, NoData as ENODATA}
use Rattle.key_names.specs.declared.errno.Errno.TheVariants.{Interrupted as EINTR}
use Rattle.key_names.specs.declared.point.Point.{Point}
use Rattle.key_names.specs.declared.point.Point.TheVariants.{Start}
use Rattle.key_names.specs.Kernel.Points.{is_same_point}
use Rattle.key_names.specs.Callers.Calls.{Setting, BoundAct}
use Rattle.key_names.specs.Callers.Effects.{Effect, looked, at_pool, at_base, at_cpu, nothing_there}
use Rattle.key_names.specs.Callers.Forms.{SysForm, Looked}
use Rattle.key_names.specs.Transcripts.SeenLine.{Shown, no_data, bytes_or_none}
use Rattle.key_names.specs.Callers.Answers.{system_answer, served_bytes}
use Rattle.key_names.specs.Kernel.Vgetrandom.{CpuPlace, SystemAnswer, read, failed, HostStep, publishes, system_call, at_point}
use Rattle.key_names.specs.Kernel.Vgetrandom.{Ending, no_bytes, by_batch, by_system}

-- the generation that the host publishes if its look finds this generation: the next number if the core is ready, and
-- otherwise 0
abbrev pub published_by : ℕ → ℕ
published_by zero = 0
published_by (suc g) = suc (suc g)

abbrev pub place_of : Effect → Option CpuPlace
place_of (looked g) = None
place_of (at_pool v) = None
place_of (at_base v) = None
place_of (at_cpu v) = Some (record { cpu = v.cpu; place = v.place })
place_of nothing_there = None

-- the CPU and the place of the last effect, if this effect is a visit of a CPU
abbrev pub last_place : List Effect → Option CpuPlace
last_place [] = None
last_place (effect ∷ []) = place_of effect
last_place (effect ∷ next ∷ effects) = last_place (next ∷ effects)

-- the error of an answer, or None if the answer is no error
abbrev pub errno_of : Answer → Option Errno
errno_of Done = None
errno_of Again = Some EAGAIN
errno_of Invalid = Some EINVAL
errno_of NoData = Some ENODATA
errno_of Interrupted = Some EINTR
errno_of Fired = None
errno_of Idle = None
errno_of Unused = None

abbrev pub answer_with : Option Errno → List Effect → SystemAnswer
answer_with None effects = read (served_bytes effects) (last_place effects)
answer_with (Some errno) effects = failed errno

-- the answer of a system call with these flags, from the effects of its steps
abbrev pub answer_after : ℕ → List Effect → SystemAnswer
answer_after flags effects = answer_with (errno_of (system_answer flags effects)) effects

-- the effects begin with the effects of a system call for n bytes. The call gives `answer`, and `Rest` holds for the
-- effects after that call
pub record SystemCallShows (set : Setting) (n flags : ℕ) (answer : SystemAnswer) (Rest : List Effect → Type 0)
    (effects : List Effect) : Type 0 where
  pub call : List Effect
  pub rest : List Effect
  pub effects_are : effects ≡ call ++ rest
  pub form : SysForm set n flags call
  pub answers : answer ≡ answer_after flags call
  pub goes_on : Rest rest

-- the effects of a vread's line show the steps of the host. A point has no step in the transcript, and so no effect
abbrev pub Shows : Setting → List HostStep → List Effect → Type 0
Shows set [] effects = effects ≡ []
Shows set (publishes g ∷ steps) effects = Looked (λ look rest. (g ≡ published_by look) × Shows set steps rest) effects
Shows set (at_point point wiped ∷ steps) effects = Shows set steps effects
Shows set (system_call n flags answer ∷ steps) effects = SystemCallShows set n flags answer (Shows set steps) effects

-- a point that a call has reached, and whether the state was wiped there
pub record PointReached : Type 0 where
  pub point : Point
  pub wiped : Bool

-- the points that the host's steps reach, in both attempts
abbrev pub points_of : List HostStep → List PointReached
points_of [] = []
points_of (publishes g ∷ steps) = points_of steps
points_of (system_call n flags answer ∷ steps) = points_of steps
points_of (at_point point wiped ∷ steps) = record { point = point; wiped = wiped } ∷ points_of steps

abbrev pub is_start : PointReached → Bool
is_start reached = is_same_point reached.point Start

-- the points of a list before its first Start; below, the points from that Start on
abbrev pub before_start : List PointReached → List PointReached
before_start [] = []
before_start (reached ∷ points) = if is_start reached then [] else reached ∷ before_start points

abbrev pub from_start : List PointReached → List PointReached
from_start [] = []
from_start (reached ∷ points) = if is_start reached then reached ∷ points else from_start points

-- the points of the first attempt; below, those of the second. The first of all points is the Start of the first
-- attempt
abbrev pub first_points : List PointReached → List PointReached
first_points [] = []
first_points (start ∷ points) = start ∷ before_start points

abbrev pub second_points : List PointReached → List PointReached
second_points [] = []
second_points (start ∷ points) = from_start points

abbrev pub is_wipe : InsideAct → Bool
is_wipe WipeAct = true
is_wipe (VreadAct n) = false
is_wipe ReseedAct = false

-- whether an act at this point wipes the state
abbrev pub is_wiped : List BoundAct → Point → Bool
is_wiped acts point = list_any (λ bound. is_same_point bound.point point && is_wipe bound.act) acts

-- the first attempt wipes the state at a point if and only if an act at this point wipes it; the second attempt never
-- wipes the state
pub record WipesConform (acts : List BoundAct) (points : List PointReached) : Type 0 where
  pub first : AllByRecursion (λ reached. reached.wiped ≡ is_wiped acts reached.point) (first_points points)
  pub second : AllByRecursion (λ reached. reached.wiped ≡ false) (second_points points)

-- whether the first attempt reached the point of an act
abbrev pub is_reached : List PointReached → BoundAct → Bool
is_reached points bound = list_any (λ reached. is_same_point reached.point bound.point) (first_points points)

-- the answer for an error. The definitions after this one give the answer and the data of a line, from how its call
-- ended
abbrev pub answer_of_errno : Errno → Answer
answer_of_errno EAGAIN = Again
answer_of_errno EINVAL = Invalid
answer_of_errno ENODATA = NoData
answer_of_errno EINTR = Interrupted

abbrev pub system_line_answer : SystemAnswer → Answer
system_line_answer (read bytes visit) = Done
system_line_answer (failed errno) = answer_of_errno errno

abbrev pub system_line_shown : SystemAnswer → Shown
system_line_shown (read bytes visit) = bytes_or_none bytes
system_line_shown (failed errno) = no_data

abbrev pub ending_answer : Ending → Answer
ending_answer no_bytes = Done
ending_answer (by_batch bytes) = Done
ending_answer (by_system answer) = system_line_answer answer

abbrev pub ending_shown : Ending → Shown
ending_shown no_bytes = no_data
ending_shown (by_batch bytes) = bytes_or_none bytes
ending_shown (by_system answer) = system_line_shown answer

-- the generations that the looks among some effects found
abbrev pub looks_of : List Effect → List ℕ
looks_of [] = []
looks_of (looked g ∷ effects) = g ∷ looks_of effects
looks_of (at_pool v ∷ effects) = looks_of effects
looks_of (at_base v ∷ effects) = looks_of effects
looks_of (at_cpu v ∷ effects) = looks_of effects
looks_of (nothing_there ∷ effects) = looks_of effects

-- no number of the list is below the number before it
abbrev pub NeverFall : List ℕ → Type 0
NeverFall [] = ⊤
NeverFall (a ∷ []) = ⊤
NeverFall (a ∷ b ∷ rest) = (a ≤ b) × NeverFall (b ∷ rest)
