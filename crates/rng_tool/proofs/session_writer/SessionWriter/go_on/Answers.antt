use Rattle.rng_tool.proofs.LiveEvents.{at_open, end_by, faulty_goes, waits_goes}
use Rattle.rng_tool.proofs.LiveGoes.{part_at}
use Rattle.rng_tool.proofs.LiveRuns.{can_close}
use Rattle.rng_tool.proofs.session_writer.SessionWriter.go_on.Goals as goal

pub end-requires : goal.end-requires
end-requires g c =
    let asked = c.requires in
    let t = c.args.self.now in
    let p = part_at t.is_over t.run asked.0 asked.2 asked.3.at in
    can_close t.is_over t.run p.0 asked.2 p.3

pub returns-in-Waits-clause-goes : goal.returns-in-Waits-clause-goes
returns-in-Waits-clause-goes g c = λ start text line emitted reads before.
    waits_goes c.args.self.now text line emitted start _ reads.at reads.goes_on reads.clean (reads.waits c.in-Waits.is) before

pub returns-in-Faulty-clause-goes : goal.returns-in-Faulty-clause-goes
returns-in-Faulty-clause-goes g c = λ start text line emitted reads before.
    faulty_goes c.args.self.now text line emitted start _ c.in-Faulty.fault reads.at reads.goes_on reads.clean
    (rw c.in-Faulty.is at reads.shown) before

pub returns-in-Ended-clause-goes : goal.returns-in-Ended-clause-goes
returns-in-Ended-clause-goes g c = λ start text line emitted reads before.
    end_by c.args.self.now.run c.end.result c.end.new.self text line emitted start _ _ c.in-Ended.field-0
    (at_open c.args.self.now text emitted reads.at reads.goes_on) reads.clean (rw c.in-Ended.is at reads.shown)
    c.end.ensures.ended before c.end.ensures.over c.end.ensures.none
