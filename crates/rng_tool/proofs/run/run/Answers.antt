use Rattle.std.proofs.Common.{◌≡◌, subst, rules}
use Rattle.rng_tool.specs.Commands.{Asks}
use Rattle.rng_tool.specs.DrawOutcome.{DrawEnds, DrawOf}
use Rattle.rng_tool.specs.FeedOutcome.{FeedEnds, FeedOf}
use Rattle.rng_tool.specs.LoadOutcome.{LoadEnds, LoadOf}
use Rattle.rng_tool.specs.JudgeOutcome.{JudgeCalls, JudgeEnds}
use Rattle.rng_tool.specs.Outcome.{CallsFor}
use Rattle.rng_tool.specs.VforkOutcome.{VforkEnds, VforkOf}
use Rattle.rng_tool.specs.declared.command.Command.TheVariants.{Vfork as VforkCommand}
use Rattle.rng_tool.proofs.Completes.{ends_completes, judge_completes, read_before, run_completes}
use Rattle.rng_tool.proofs.LiveAnswers.{live_completes, live_ends_after}
use Rattle.tool_ends.specs.Pairs.{most_input, most_script}
use Rattle.tool_ends.proofs.Endings.{counted_at_end, ends_after, reads_end_after}
use Rattle.rng_tool.proofs.run.run.Goals as goal

pub returns-in-Some-Run-clause-write_fault : goal.returns-in-Some-Run-clause-write_fault
returns-in-Some-Run-clause-write_fault g c =
    (counted_at_end _ _ _ _ _ c.end_output.ensures.ended c.run_input.ensures.counted).cut

pub returns-in-Some-Run-clause-no_write_fault : goal.returns-in-Some-Run-clause-no_write_fault
returns-in-Some-Run-clause-no_write_fault g c =
    (counted_at_end _ _ _ _ _ c.end_output.ensures.ended c.run_input.ensures.counted).not_counted

pub returns-in-Some-Run-clause-ran : goal.returns-in-Some-Run-clause-ran
returns-in-Some-Run-clause-ran g c is =
    reads_end_after most_script CallsFor _ _ _ _ _ c.end_output.ensures.kept _ _ _ _ c.end_output.ensures.ended
    c.run_input.ensures.ends

pub returns-in-Some-Run-clause-run_completes : goal.returns-in-Some-Run-clause-run_completes
returns-in-Some-Run-clause-run_completes g c is unread unwritten =
    let ended = c.end_output.ensures.ended in
    run_completes _ _ _ c.end_output.result _
    (reads_end_after most_script CallsFor _ _ _ _ _ c.end_output.ensures.kept _ _ _ _ ended c.run_input.ensures.ends)
    (λ fault. unread (c.run_input.ensures.read_counted.read_fault (read_before _ _ _ _ ended fault)))
    (λ fault. unwritten ((counted_at_end _ _ _ _ _ ended c.run_input.ensures.counted).cut fault))

pub returns-in-Some-Live-clause-write_fault : goal.returns-in-Some-Live-clause-write_fault
returns-in-Some-Live-clause-write_fault g c =
    (counted_at_end _ _ _ _ _ c.end_output-in-Some-Live.ensures.ended c.run_live.ensures.counted).cut

pub returns-in-Some-Live-clause-no_write_fault : goal.returns-in-Some-Live-clause-no_write_fault
returns-in-Some-Live-clause-no_write_fault g c =
    (counted_at_end _ _ _ _ _ c.end_output-in-Some-Live.ensures.ended c.run_live.ensures.counted).not_counted

pub returns-in-Some-Live-clause-lived : goal.returns-in-Some-Live-clause-lived
returns-in-Some-Live-clause-lived g c is =
    live_ends_after _ _ _ _ _ c.end_output-in-Some-Live.ensures.kept _ _ _ _ c.end_output-in-Some-Live.ensures.ended
    c.run_live.ensures.ends

pub returns-in-Some-Live-clause-live_completes : goal.returns-in-Some-Live-clause-live_completes
returns-in-Some-Live-clause-live_completes g c is unread unwritten =
    let ended = c.end_output-in-Some-Live.ensures.ended in
    live_completes _ _ _ c.end_output-in-Some-Live.result _
    (live_ends_after _ _ _ _ _ c.end_output-in-Some-Live.ensures.kept _ _ _ _ ended c.run_live.ensures.ends)
    (λ fault. unread (c.run_live.ensures.read_counted.read_fault (read_before _ _ _ _ ended fault)))
    (λ fault. unwritten ((counted_at_end _ _ _ _ _ ended c.run_live.ensures.counted).cut fault))

pub returns-in-Some-Judge-clause-write_fault : goal.returns-in-Some-Judge-clause-write_fault
returns-in-Some-Judge-clause-write_fault g c =
    (counted_at_end _ _ _ _ _ c.end_output-in-Some-Judge.ensures.ended c.judge_input.ensures.counted).cut

pub returns-in-Some-Judge-clause-no_write_fault : goal.returns-in-Some-Judge-clause-no_write_fault
returns-in-Some-Judge-clause-no_write_fault g c =
    (counted_at_end _ _ _ _ _ c.end_output-in-Some-Judge.ensures.ended c.judge_input.ensures.counted).not_counted

pub returns-in-Some-Judge-clause-judged : goal.returns-in-Some-Judge-clause-judged
returns-in-Some-Judge-clause-judged g c judge is =
    let same : c.in-Some-Judge.judge ≡ judge = cc (c.of.ensures.judge judge is, c.in-Some-Judge.is) in
    reads_end_after most_input (JudgeCalls judge) _ _ _ _ _ c.end_output-in-Some-Judge.ensures.kept _ _ _ _
    c.end_output-in-Some-Judge.ensures.ended
    (subst (λ one. JudgeEnds one c.judge_input.result (g.S.Source.left c.args.source.now)
    (g.S.Source.left c.judge_input.new.source) (g.K.Sink.held c.args.sink.now) (g.K.Sink.held c.judge_input.new.sink))
    same c.judge_input.ensures.ends)

pub returns-in-Some-Judge-clause-judge_completes : goal.returns-in-Some-Judge-clause-judge_completes
returns-in-Some-Judge-clause-judge_completes g c judge is unread unwritten =
    let ended = c.end_output-in-Some-Judge.ensures.ended in
    let asked = c.in-Some-Judge.judge in
    judge_completes _ _ _ asked c.end_output-in-Some-Judge.result _
    (reads_end_after most_input (JudgeCalls asked) _ _ _ _ _ c.end_output-in-Some-Judge.ensures.kept _ _ _ _ ended
    c.judge_input.ensures.ends)
    (λ fault. unread (c.judge_input.ensures.read_counted.read_fault (read_before _ _ _ _ ended fault)))
    (λ fault. unwritten ((counted_at_end _ _ _ _ _ ended c.judge_input.ensures.counted).cut fault))

pub returns-in-Some-Load-clause-write_fault : goal.returns-in-Some-Load-clause-write_fault
returns-in-Some-Load-clause-write_fault g c =
    (counted_at_end _ _ _ _ _ c.end_output-in-Some-Load.ensures.ended c.run_load.ensures.counted).cut

pub returns-in-Some-Load-clause-no_write_fault : goal.returns-in-Some-Load-clause-no_write_fault
returns-in-Some-Load-clause-no_write_fault g c =
    (counted_at_end _ _ _ _ _ c.end_output-in-Some-Load.ensures.ended c.run_load.ensures.counted).not_counted

pub returns-in-Some-Load-clause-loaded : goal.returns-in-Some-Load-clause-loaded
returns-in-Some-Load-clause-loaded g c start callers events is =
    let same : c.in-Some-Load.load ≡ record { start = start; callers = callers; events = events } =
    cc (c.of.ensures.load start callers events is, c.in-Some-Load.is) in
    ends_after (LoadOf start callers events) _ _ _ c.end_output-in-Some-Load.ensures.kept _ _ _ _
    c.end_output-in-Some-Load.ensures.ended
    (subst (λ load. LoadEnds load.start load.callers load.events c.run_load.result (g.K.Sink.held c.args.sink.now)
    (g.K.Sink.held c.run_load.new.sink)) same c.run_load.ensures.ends)

pub returns-in-Some-Load-clause-load_completes : goal.returns-in-Some-Load-clause-load_completes
returns-in-Some-Load-clause-load_completes g c start callers events is unwritten =
    let load = c.in-Some-Load.load in
    ends_completes (LoadOf load.start load.callers load.events) _ _ _
    (ends_after (LoadOf load.start load.callers load.events) _ _ _ c.end_output-in-Some-Load.ensures.kept _ _ _ _
    c.end_output-in-Some-Load.ensures.ended c.run_load.ensures.ends)
    (λ fault. unwritten ((counted_at_end _ _ _ _ _ c.end_output-in-Some-Load.ensures.ended c.run_load.ensures.counted).cut fault))

pub returns-in-Some-Draw-clause-write_fault : goal.returns-in-Some-Draw-clause-write_fault
returns-in-Some-Draw-clause-write_fault g c =
    (counted_at_end _ _ _ _ _ c.end_output-in-Some-Draw.ensures.ended c.run_draw.ensures.counted).cut

pub returns-in-Some-Draw-clause-no_write_fault : goal.returns-in-Some-Draw-clause-no_write_fault
returns-in-Some-Draw-clause-no_write_fault g c =
    (counted_at_end _ _ _ _ _ c.end_output-in-Some-Draw.ensures.ended c.run_draw.ensures.counted).not_counted

pub returns-in-Some-Draw-clause-drawn : goal.returns-in-Some-Draw-clause-drawn
returns-in-Some-Draw-clause-drawn g c bound count is =
    let same : c.in-Some-Draw.draw ≡ record { bound = bound; count = count } =
    cc (c.of.ensures.draw bound count is, c.in-Some-Draw.is) in
    ends_after (DrawOf bound count) _ _ _ c.end_output-in-Some-Draw.ensures.kept _ _ _ _
    c.end_output-in-Some-Draw.ensures.ended
    (subst (λ draw. DrawEnds draw.bound draw.count c.run_draw.result (g.K.Sink.held c.args.sink.now)
    (g.K.Sink.held c.run_draw.new.sink)) same c.run_draw.ensures.ends)

pub returns-in-Some-Draw-clause-draw_completes : goal.returns-in-Some-Draw-clause-draw_completes
returns-in-Some-Draw-clause-draw_completes g c bound count is unwritten =
    let draw = c.in-Some-Draw.draw in
    ends_completes (DrawOf draw.bound draw.count) _ _ _
    (ends_after (DrawOf draw.bound draw.count) _ _ _ c.end_output-in-Some-Draw.ensures.kept _ _ _ _
    c.end_output-in-Some-Draw.ensures.ended c.run_draw.ensures.ends)
    (λ fault. unwritten ((counted_at_end _ _ _ _ _ c.end_output-in-Some-Draw.ensures.ended c.run_draw.ensures.counted).cut fault))

pub returns-in-Some-Vfork-clause-write_fault : goal.returns-in-Some-Vfork-clause-write_fault
returns-in-Some-Vfork-clause-write_fault g c =
    (counted_at_end _ _ _ _ _ c.end_output-in-Some-Vfork.ensures.ended c.run_vfork.ensures.counted).cut

pub returns-in-Some-Vfork-clause-no_write_fault : goal.returns-in-Some-Vfork-clause-no_write_fault
returns-in-Some-Vfork-clause-no_write_fault g c =
    (counted_at_end _ _ _ _ _ c.end_output-in-Some-Vfork.ensures.ended c.run_vfork.ensures.counted).not_counted

pub returns-in-Some-Vfork-clause-forked : goal.returns-in-Some-Vfork-clause-forked
returns-in-Some-Vfork-clause-forked g c point attempt n is =
    let same : c.in-Some-Vfork.vfork ≡ record { point = point; attempt = attempt; len = n } =
    cc (c.of.ensures.vfork point attempt n is, c.in-Some-Vfork.is) in
    ends_after (VforkOf point attempt n) _ _ _ c.end_output-in-Some-Vfork.ensures.kept _ _ _ _
    c.end_output-in-Some-Vfork.ensures.ended
    (subst (λ vfork. VforkEnds vfork.point vfork.attempt vfork.len c.run_vfork.result (g.K.Sink.held c.args.sink.now)
    (g.K.Sink.held c.run_vfork.new.sink)) same c.run_vfork.ensures.ends)

pub returns-in-Some-Vfork-clause-vfork_completes : goal.returns-in-Some-Vfork-clause-vfork_completes
returns-in-Some-Vfork-clause-vfork_completes g c point attempt n is unwritten =
    let vfork = c.in-Some-Vfork.vfork in
    ends_completes (VforkOf vfork.point vfork.attempt vfork.len) _ _ _
    (ends_after (VforkOf vfork.point vfork.attempt vfork.len) _ _ _ c.end_output-in-Some-Vfork.ensures.kept _ _ _ _
    c.end_output-in-Some-Vfork.ensures.ended c.run_vfork.ensures.ends)
    (λ fault. unwritten ((counted_at_end _ _ _ _ _ c.end_output-in-Some-Vfork.ensures.ended c.run_vfork.ensures.counted).cut fault))

pub returns-in-Some-Vfork-clause-usage : goal.returns-in-Some-Vfork-clause-usage
returns-in-Some-Vfork-clause-usage g c =
    let vfork = c.in-Some-Vfork.vfork in
    let is_vfork : c.in-Some-Vfork.field-0 ≡ VforkCommand vfork = search rules in (
      λ is. absurd (subst (λ status. VforkEnds vfork.point vfork.attempt vfork.len status
          (g.K.Sink.held c.args.sink.now) (g.K.Sink.held c.end_output-in-Some-Vfork.new.sink)) is
          (ends_after (VforkOf vfork.point vfork.attempt vfork.len) _ _ _ c.end_output-in-Some-Vfork.ensures.kept _ _ _ _
          c.end_output-in-Some-Vfork.ensures.ended c.run_vfork.ensures.ends)),
      λ no. absurd (no.no_vfork vfork.point vfork.attempt vfork.len
          (subst (Asks c.args.words.now) is_vfork c.in-Some-Vfork.ensures.found)),
    )

pub returns-in-Some-Feed-clause-write_fault : goal.returns-in-Some-Feed-clause-write_fault
returns-in-Some-Feed-clause-write_fault g c =
    (counted_at_end _ _ _ _ _ c.end_output-in-Some-Feed.ensures.ended c.run_feed.ensures.counted).cut

pub returns-in-Some-Feed-clause-no_write_fault : goal.returns-in-Some-Feed-clause-no_write_fault
returns-in-Some-Feed-clause-no_write_fault g c =
    (counted_at_end _ _ _ _ _ c.end_output-in-Some-Feed.ensures.ended c.run_feed.ensures.counted).not_counted

pub returns-in-Some-Feed-clause-fed : goal.returns-in-Some-Feed-clause-fed
returns-in-Some-Feed-clause-fed g c start feeders samples is =
    let same : c.in-Some-Feed.feed ≡ record { start = start; feeders = feeders; samples = samples } =
    cc (c.of.ensures.feed start feeders samples is, c.in-Some-Feed.is) in
    ends_after (FeedOf start feeders samples) _ _ _ c.end_output-in-Some-Feed.ensures.kept _ _ _ _
    c.end_output-in-Some-Feed.ensures.ended
    (subst (λ feed. FeedEnds feed.start feed.feeders feed.samples c.run_feed.result (g.K.Sink.held c.args.sink.now)
    (g.K.Sink.held c.run_feed.new.sink)) same c.run_feed.ensures.ends)

pub returns-in-Some-Feed-clause-feed_completes : goal.returns-in-Some-Feed-clause-feed_completes
returns-in-Some-Feed-clause-feed_completes g c start feeders samples is unwritten =
    let feed = c.in-Some-Feed.feed in
    ends_completes (FeedOf feed.start feed.feeders feed.samples) _ _ _
    (ends_after (FeedOf feed.start feed.feeders feed.samples) _ _ _ c.end_output-in-Some-Feed.ensures.kept _ _ _ _
    c.end_output-in-Some-Feed.ensures.ended c.run_feed.ensures.ends)
    (λ fault. unwritten ((counted_at_end _ _ _ _ _ c.end_output-in-Some-Feed.ensures.ended c.run_feed.ensures.counted).cut fault))
