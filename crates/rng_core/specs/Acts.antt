-- Acts inside a vgetrandom call: each request for an act, and the act's outcome.
use Rattle.std.specs.Prelude.{◌≡◌, ℕ, ◌+◌, ◌==◌, ◌&&◌, ◌||◌, not, nat_le, ◌^◌, Bool, true, false, MatchBool, Result}
use Rattle.std.specs.Prelude.{List, [], ◌∷◌, take, drop, map, length}
use Rattle.key_names.specs.declared.errno.Errno.{Errno}
use Rattle.key_names.specs.declared.events.InsideAct.{InsideAct}
use Rattle.key_names.specs.declared.events.InsideAct.TheVariants.{Wipe, Vread, Reseed}
use Rattle.key_names.specs.declared.names.Step.{Step}
use Rattle.key_names.specs.declared.point.Point.{Point}
use Rattle.key_names.specs.Callers.Effects.{Effect}
use Rattle.key_names.specs.Callers.Meaning.{LineMeaning, ActMeans}
use Rattle.key_names.specs.Transcripts.SeenLine.{bytes_or_none}
use Rattle.key_names.specs.Kernel.Points.{is_same_point}
use Rattle.key_names.specs.Callers.VreadSteps.{is_wipe}
use Rattle.lane_table.specs.declared.view.View.{View}
use Rattle.rng_core.specs.declared.vdso.acts.Bound.{Bound}
use Rattle.rng_core.specs.declared.setting.Setting.{Setting}
use Rattle.rng_core.specs.Traces.{knowing}
use Rattle.rng_core.specs.Makes.{Makes, setting_of, result_answer, given}

-- a request for an act: the act, its point, and the number of its event
pub record Ask : Type 0 where
  pub point : Point
  pub act : InsideAct
  pub event : ℕ

-- the outcome of an act: whether it ran, its answer, its steps, and its part of the bytes in `out`
pub record ActOutcome : Type 0 where
  pub done : Bool
  pub answer : Result (Unit {0}) Errno
  pub steps : List Step
  pub bytes : List ℕ

-- the number of bytes that an act reads
abbrev pub wants : InsideAct → ℕ
wants Wipe = 0
wants (Vread n) = n
wants Reseed = 0

abbrev pub all_wanted : List Ask → ℕ
all_wanted [] = 0
all_wanted (a ∷ asks) = wants a.act + all_wanted asks

abbrev pub ask_of : Bound → Ask
ask_of b = record { point = b.point; act = b.act; event = b.event }

abbrev pub asks_of : List Bound → List Ask
asks_of bounds = map ask_of bounds

abbrev pub outcome_of : Bound → List ℕ → ActOutcome
outcome_of b bytes = record { done = b.done; answer = b.answer; steps = b.trace; bytes = bytes }

-- the outcome of each act; in `out` the bytes of an act follow those of the act before it
abbrev pub outcomes_of : List Bound → List ℕ → List ActOutcome
outcomes_of [] out = []
outcomes_of (b ∷ bounds) out =
    outcome_of b (take (wants b.act) out) ∷ outcomes_of bounds (drop (wants b.act) out)

-- whether one of the requested acts at the point `point` is a wipe
abbrev pub wipes_at : List Ask → Point → Bool
wipes_at [] point = false
wipes_at (a ∷ asks) point = (is_same_point a.point point && is_wipe a.act) || wipes_at asks point

-- the act reads at most 2^20 bytes, and either it was done, or its trace is empty
abbrev pub is_ready : Bound → Bool
is_ready b = nat_le (wants b.act) (2 ^ 20) && (b.done || length b.trace == 0)

abbrev pub all_ready : List Bound → Bool
all_ready [] = true
all_ready (b ∷ bounds) = is_ready b && all_ready bounds

-- each act is ready (`is_ready`), and `out` is as long as the reads of all acts together
pub record AreReady (bounds : List Bound) (out : List ℕ) : Type 0 where
  pub fits : length out ≡ all_wanted (asks_of bounds)
  pub ready : all_ready bounds ≡ true

-- the meaning of the line of an act that ran, with its effects, its result `answer` and its bytes
abbrev pub done_line : List Effect → Result (Unit {0}) Errno → List ℕ → LineMeaning
done_line effects answer bytes =
    record { effects = effects; answer = result_answer answer; shown = bytes_or_none (given answer bytes) }

abbrev pub at_event : ℕ → Setting → Setting
at_event event set = record set { event = event }

-- the act of the request `ask` ran, with the outcome `y`; the pass had the view `v` before, and `w` after
pub record ActRan (set : Setting) (ask : Ask) (v w : View) (y : ActOutcome) : Type 0 where
  pub done : y.done ≡ true
  pub did : Makes (λ effects. ActMeans (setting_of set) ask.act (done_line effects y.answer y.bytes))
      (at_event ask.event set)
      (knowing v []) (knowing w y.steps)

-- at the point `point` the act of `ask` runs if it is bound to `point` and has not run yet; its outcome `x` becomes `y`
abbrev pub ActAt : Setting → Point → Ask → View → View → ActOutcome → ActOutcome → Type 0
ActAt set point ask v w x y = MatchBool (is_same_point point ask.point && not x.done) (ActRan set ask v w y)
    ((y ≡ x) × (w ≡ v))

-- the acts of a list, in order: each one runs if it is bound to the point and has not run yet
abbrev pub ActsAt : Setting → Point → List Ask → View → View → List ActOutcome → List ActOutcome → Type 0
ActsAt set point [] v w [] [] = w ≡ v
ActsAt set point [] v w [] (y ∷ ys) = ⊥
ActsAt set point [] v w (x ∷ xs) ys = ⊥
ActsAt set point (a ∷ asks) v w [] ys = ⊥
ActsAt set point (a ∷ asks) v w (x ∷ xs) [] = ⊥
ActsAt set point (a ∷ asks) v w (x ∷ xs) (y ∷ ys) =
    (mid : View) × ActAt set point a v mid x y × ActsAt set point asks mid w xs ys
