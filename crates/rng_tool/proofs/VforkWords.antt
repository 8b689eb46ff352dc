-- Points have the numbers 1 to 4, and attempts have the numbers 1 and 2.
use Rattle.std.proofs.Common.{◌≤◌, arith}
use Rattle.key_names.specs.declared.point.Point.{Point}
use Rattle.key_names.specs.declared.point.Point.TheVariants.{Start, Written, Serve, End}
use Rattle.key_names.specs.Kernel.Points.{number_of}
use Rattle.vdso_state.specs.declared.place.Turn.{Turn}
use Rattle.vdso_state.specs.declared.place.Turn.TheVariants.{First, Second}
use Rattle.vdso_state.specs.Turns.{turn_number}

pub point_range : (p : Point) → (1 ≤ number_of p) × (number_of p ≤ 4)
point_range Start = (omega arith, omega arith)
point_range Written = (omega arith, omega arith)
point_range Serve = (omega arith, omega arith)
point_range End = (omega arith, omega arith)

pub turn_range : (t : Turn) → (1 ≤ turn_number t) × (turn_number t ≤ 2)
turn_range First = (omega arith, omega arith)
turn_range Second = (omega arith, omega arith)
