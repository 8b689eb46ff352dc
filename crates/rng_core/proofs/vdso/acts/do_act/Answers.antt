use Rattle.std.proofs.Common.{length}
use Rattle.rng_core.proofs.ActCalls.{does_wipe, does_read, does_reseed}
use Rattle.rng_core.proofs.vdso.acts.do_act.Goals as goal

pub returns-in-Wipe : goal.returns-in-Wipe
returns-in-Wipe g c = rw c.in-Wipe.is (does_wipe c.args.site.now c.args.out.now c.requires.new
    (rw c.in-Wipe.is at c.requires.fits))

pub returns-in-Vread : goal.returns-in-Vread
returns-in-Vread g c = rw c.in-Vread.is (does_read c.in-Vread.field-0 (length c.args.out.now) c.getrandom.result
    c.getrandom.new.buf _ _ (rw c.in-Vread.is at c.requires.fits) c.getrandom.ensures.does)

pub returns-in-Reseed : goal.returns-in-Reseed
returns-in-Reseed g c = rw c.in-Reseed.is (does_reseed c.reseed.result c.args.out.now _ _
    (rw c.in-Reseed.is at c.requires.fits) c.reseed.ensures.does)
