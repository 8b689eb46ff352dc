use Rattle.std.proofs.Common.{refl}
use Rattle.key_audit.proofs.AddedMarks.{cpu_more}
use Rattle.key_audit.proofs.moments.no_visits.Goals as goal

pub loop-preserved : goal.loop-preserved
loop-preserved c =
    cpu_more c.loop.counter c.new-in-loop.result c.loop.moments _ c.new-in-loop.ensures.items c.loop.invariant refl refl
    c.in_ok-push.ensures.items
