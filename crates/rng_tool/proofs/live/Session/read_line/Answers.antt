use Rattle.std.proofs.Common.{◌++◌}
use Rattle.rng_tool.proofs.LiveGoes.{part_at, part_more}
use Rattle.rng_tool.proofs.LiveSessions.{line_goes, memory_goes, reads_line}
use Rattle.rng_tool.proofs.live.Session.read_line.Goals as goal

pub returns-in_err-feed-clause-goes : goal.returns-in_err-feed-clause-goes
returns-in_err-feed-clause-goes g c = λ start text emitted at before.
    let t = c.args.self.now.session_writer in
    memory_goes c.from_residual.result start _ (text ++ c.args.line.now) emitted _ c.from_residual.ensures.1
    (part_more t.is_over t.run text c.args.line.now emitted (part_at t.is_over t.run text emitted at.at)) before

pub go_on-requires-after_bounds : goal.go_on-requires-after_bounds
go_on-requires-after_bounds g c κs within =
    let asked = c.requires.at in
    let line = c.requires.line in
    let fed = c.in_ok-feed.ensures.fed asked.0 asked.2.fed in (
      asked.0,
      line.0,
      asked.1,
      reads_line asked.0 line.0 asked.1 c.args.line.now c.progress-progress.result c.args.self.now.session_writer asked.2.at
          c.requires.goes_on line.2 line.1 (c.progress-progress.ensures.shown (asked.0 ++ c.args.line.now) fed)
          (c.progress-progress.ensures.waits (asked.0 ++ c.args.line.now) fed (c.in_ok-feed.ensures.line line.0 line.1)),
    )

pub returns-clause-goes : goal.returns-clause-goes
returns-clause-goes g c = λ start text emitted at before.
    let line = c.requires.line in
    let fed = c.in_ok-feed.ensures.fed text at.fed in
    line_goes c.go_on.result start _ (text ++ c.args.line.now) _
    (rw (← line.1) at (c.go_on.ensures.goes start text line.0 emitted
    (reads_line text line.0 emitted c.args.line.now c.progress-progress.result c.args.self.now.session_writer at.at c.requires.goes_on line.2
    line.1 (c.progress-progress.ensures.shown (text ++ c.args.line.now) fed)
    (c.progress-progress.ensures.waits (text ++ c.args.line.now) fed (c.in_ok-feed.ensures.line line.0 line.1))) before)) fed
