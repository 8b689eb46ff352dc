use Rattle.std.proofs.Common.{arith}
use Rattle.key_audit.proofs.AddedMarks.{one_more}
use Rattle.key_audit.proofs.moments.push_cpu.Goals as goal

pub returns-in_ok-push-clause-each : goal.returns-in_ok-push-clause-each
returns-in_ok-push-clause-each c k low =
    one_more c.args.cpus.now.items c.args.cpu c.index_mut.result.now c.push.new.self c.args.moment
    (omega (arith, c.if-cpu-len.true, c.len.ensures)) c.index_mut.ensures.value c.in_ok-push.ensures.items k
