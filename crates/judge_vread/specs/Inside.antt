-- What the acts inside a vgetrandom call do to the call's state, and which points the first attempt reached.
use Rattle.std.specs.Prelude.{◌==◌, not, Bool, true, false, List, [], ◌∷◌, length}
use Rattle.std.specs.List.{list_any}
use Rattle.key_names.specs.declared.point.Point.{Point}
use Rattle.key_names.specs.declared.point.Point.TheVariants.{Start, Written, Serve, End}
use Rattle.key_names.specs.Kernel.Points.{is_same_point}
use Rattle.key_names.specs.Callers.Calls.{BoundAct}
use Rattle.key_names.specs.Callers.VreadSteps.{is_wiped}
use Rattle.judge_vread.specs.declared.inside.Inside.{Inside}
use Rattle.judge_vread.specs.declared.inside.Reached.{Reached}
use Rattle.judge_vread.specs.declared.inside.Reached.TheVariants.{Nothing, AllButWritten, All}

-- what these acts do to the state: whether there are any acts, and at which points of the first attempt an act wipes
-- the state
abbrev pub inside_of : List BoundAct → Inside
inside_of acts = record {
  any = not (length acts == 0);
  start = is_wiped acts Start;
  written = is_wiped acts Written;
  serve = is_wiped acts Serve;
  end = is_wiped acts End;
}

abbrev pub points_in : Reached → List Point
points_in Nothing = []
points_in AllButWritten = Start ∷ Serve ∷ End ∷ []
points_in All = Start ∷ Written ∷ Serve ∷ End ∷ []

-- whether the first attempt reached the point
abbrev pub includes : Reached → Point → Bool
includes reached point = list_any (λ p. is_same_point p point) (points_in reached)

-- the points that an attempt reached. The bool is true if the attempt read a key; only then did the attempt reach
-- Written
abbrev pub reached_by : Bool → Reached
reached_by true = All
reached_by false = AllButWritten
