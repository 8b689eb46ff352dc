use Rattle.std.proofs.Common.{length, arith}
use Rattle.rng_core.proofs.InsideCalls.{host_called}
use Rattle.rng_core.proofs.vdso.vreads.call_host.Goals as goal

pub returns : goal.returns
returns g c = rw c.done.ensures (host_called (length c.args.buf.now) c.args.flags c.args.st.now
    c.vgetrandom-ended.ensures.runs c.requires.current c.requires.new (omega (arith, c.vgetrandom-ended.auto.buf)))
