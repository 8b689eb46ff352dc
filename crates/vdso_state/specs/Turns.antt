-- The looks, system calls and points that a vgetrandom call may still need at a point of an attempt.
use Rattle.std.specs.Prelude.{ℕ}
use Rattle.key_names.specs.declared.point.Point.{Point}
use Rattle.key_names.specs.declared.point.Point.TheVariants.{Start, Written, Serve, End}
use Rattle.vdso_state.specs.declared.place.Turn.{Turn}
use Rattle.vdso_state.specs.declared.place.Turn.TheVariants.{First, Second}

-- the number of looks at the generation that the call may still need
abbrev pub looks_for : Turn → ℕ
looks_for First = 3
looks_for Second = 1

-- the number of system calls that the call may still need: one for a key in each attempt, and one at the end for the
-- bytes
abbrev pub calls_for : Turn → Point → ℕ
calls_for First Start = 3
calls_for First Written = 3
calls_for First Serve = 2
calls_for First End = 2
calls_for Second Start = 2
calls_for Second Written = 2
calls_for Second Serve = 1
calls_for Second End = 1

-- the number of points that the call may still reach, this one included
abbrev pub points_for : Turn → Point → ℕ
points_for First Start = 8
points_for First Written = 7
points_for First Serve = 6
points_for First End = 5
points_for Second Start = 4
points_for Second Written = 3
points_for Second Serve = 2
points_for Second End = 1

-- the number of copies that a call has made before it reaches this point
abbrev pub copies_by : Turn → Point → ℕ
copies_by First Start = 0
copies_by First Written = 0
copies_by First Serve = 0
copies_by First End = 1
copies_by Second Start = 1
copies_by Second Written = 1
copies_by Second Serve = 1
copies_by Second End = 2

-- the number of an attempt
abbrev pub turn_number : Turn → ℕ
turn_number First = 1
turn_number Second = 2

-- the number of attempts whose point Start comes before this point
abbrev pub turns_before : Turn → Point → ℕ
turns_before First Start = 0
turns_before First Written = 1
turns_before First Serve = 1
turns_before First End = 1
turns_before Second Start = 1
turns_before Second Written = 2
turns_before Second Serve = 2
turns_before Second End = 2
