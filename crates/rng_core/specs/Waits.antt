-- The number of steps that a wait for readiness may take, and the ways it ends.
use Rattle.std.specs.Prelude.{◌≡◌, ℕ, ◌-◌, ◌*◌, [], ◌≤◌, Result, Ok, Err}
use Rattle.key_names.specs.declared.errno.Errno.{Errno}
use Rattle.key_names.specs.declared.errno.Errno.TheVariants.{Interrupted}
use Rattle.key_names.specs.declared.entries.BaseEntry.TheVariants.{Resume, Interrupt}
use Rattle.key_names.specs.Callers.Forms.{BaseOnly}
use Rattle.lane_table.specs.declared.view.View.{View}
use Rattle.lane_table.specs.Advances.{floor}
use Rattle.rng_core.specs.declared.setting.Setting.{Setting}
use Rattle.rng_core.specs.Traces.{Moment}
use Rattle.rng_core.specs.Makes.{Makes, Serving}

-- the wait ended because the core was found ready, or because no caller runs
abbrev pub Waits : {T : Type 0} → Result T Errno → Setting → Moment → Moment → ℕ → Type 0
Waits (Ok x) set m n seen = (1 ≤ seen) × Makes (Serving (BaseOnly Resume) []) set m n
Waits (Err e) set m n seen = (e ≡ Interrupted) × Makes (Serving (BaseOnly Interrupt) []) set m n

-- how many steps a wait for readiness may still take: 0 once the caller has seen the core ready
abbrev pub waiting : View → ℕ
waiting v = 2 - 2 * floor v
