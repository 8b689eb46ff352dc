-- The steps that a wait at a site may need, and the ways it ends.
use Rattle.std.specs.Prelude.{◌≡◌, ℕ, ◌+◌, ◌≤◌, [], length, false, Result, Ok, Err}
use Rattle.key_names.specs.declared.errno.Errno.{Errno}
use Rattle.key_names.specs.declared.errno.Errno.TheVariants.{Interrupted}
use Rattle.key_names.specs.declared.entries.BaseEntry.TheVariants.{Resume, Interrupt}
use Rattle.key_names.specs.Kernel.Flags.{is_bad}
use Rattle.key_names.specs.Callers.Forms.{BaseOnly}
use Rattle.lane_table.specs.Calls.{view}
use Rattle.rng_core.specs.Traces.{BeginsWithLook}
use Rattle.rng_core.specs.Makes.{Serving}
use Rattle.rng_core.specs.Waits.{waiting}
use Rattle.rng_core.specs.Sites.{Does, seen_by}
use Rattle.rng_core.specs.declared.site.Site.{Site}

-- how many steps a wait for readiness may still take: 0 once the caller has seen the core ready
abbrev pub waiting_at : Site → ℕ
waiting_at s = waiting (view s.pass.now)

-- the wait ended because the core was found ready, or because no caller runs
abbrev pub Waited : {T : Type 0} → Result T Errno → Site → Site → Type 0
Waited (Ok x) m n = (1 ≤ seen_by n) × Does 1 (Serving (BaseOnly Resume) []) m n
Waited (Err e) m n = (e ≡ Interrupted) × Does 1 (Serving (BaseOnly Interrupt) []) m n

-- if the flags are good, the first step is a look. The call makes at most 4 steps, plus the steps of a wait. A caller
-- that waited once does not wait again
pub record BeginsAndWaits (flags : ℕ) (m n : Site) : Type 0 where
  pub begins : is_bad flags ≡ false → BeginsWithLook m.trace.now n.trace.now
  pub room : length n.trace.now + waiting_at n ≤ length m.trace.now + 4 + waiting_at m
