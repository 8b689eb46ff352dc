use Rattle.std.proofs.Common.{length, arith, refl}
use Rattle.rng_core.specs.Sites.{at}
use Rattle.rng_core.proofs.Readings.{served_read, left_read}
use Rattle.rng_core.proofs.SiteLemmas.{same_then}
use Rattle.rng_core.proofs.vdso.vreads.vread.Goals as goal

pub invariant_of-host-clause-room : goal.invariant_of-host-clause-room
invariant_of-host-clause-room g c =
    let r = c.vread_local.ensures.reads.room in let n = c.requires.new in omega (arith, n.empty, n.looks, n.calls)

pub returns-in-Served : goal.returns-in-Served
returns-in-Served g c = let l = c.vread_local.ensures.reads in record {
  loans = record { site = l.same; acts = refl; out = refl };
  has = l.has;
  current = l.current c.requires.current;
  did = served_read (length c.args.buf.now) c.args.flags c.args.st.now c.vread_local.new.st
      c.vread_local.new.buf c.args.host.now.site.set _ _ (rw c.in-Served.is at l.read);
}

pub returns-in-NeedsSystem : goal.returns-in-NeedsSystem
returns-in-NeedsSystem g c = let l = c.vread_local.ensures.reads in let k = c.call_host.ensures in record {
  loans = record { site = same_then _ _ _ l.same k.loans.site; acts = k.loans.acts; out = k.loans.out };
  has = k.has;
  current = k.current;
  did = left_read (length c.args.buf.now) (length c.vread_local.new.buf) c.args.flags c.args.st.now c.vread_local.new.st
      c.call_host.new.st _ _ c.args.host.now.site.set (at c.args.host.now.site) (at c.vread_local.new.site)
      (at c.call_host.new.host.site) c.requires.current (omega (arith, c.vread_local.auto.buf))
      (rw c.in-NeedsSystem.is at l.read) (rw l.same.set at (k.alone c.requires.alone));
}
