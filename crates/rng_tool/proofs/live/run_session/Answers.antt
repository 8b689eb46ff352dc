use Rattle.rng_tool.proofs.LiveSessions.{finish_ends, reads_close, stop_ends}
use Rattle.rng_tool.proofs.live.run_session.Goals as goal

pub close-requires : goal.close-requires
close-requires g c = reads_close c.read_all-read.result _ _ _ _ _ c.read_all-read.ensures.reads

pub returns-in-Ok-clause-ends : goal.returns-in-Ok-clause-ends
returns-in-Ok-clause-ends g c =
    let reads = c.in-Ok.ensures.reads in
    finish_ends _ _ _ _ c.read_all-read.new.self c.close.ensures reads.0 reads.1 reads.2 reads.3 c.finish.result
    (c.finish.ensures reads.0 reads.3.is.fed)

pub returns-in-Err-clause-ends : goal.returns-in-Err-clause-ends
returns-in-Err-clause-ends g c =
    let reads = c.in-Err.ensures.reads in
    stop_ends _ _ _ _ c.read_all-read.new.self.session_writer c.close.ensures c.in-Err.stop reads.0 reads.1 reads.2
