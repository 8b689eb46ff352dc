-- The recursion ends, since the list of acts that are left gets shorter.
use Rattle.std.proofs.Common.{length}
use Rattle.rng_core.proofs.vdso.acts.+run_acts.Given as goal

abbrev pub decreases-run_acts : goal.decreases-run_acts
decreases-run_acts g l = length l.acts.now
