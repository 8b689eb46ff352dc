use Rattle.std.proofs.Common.{sym, ◌≤◌, arith}
use Rattle.std.proofs.lemmas.List.Elements.{recursion_from_All}
use Rattle.caller_run.specs.Alone.{IsEmittedOnce}
use Rattle.caller_run.specs.Says.{most_shown}
use Rattle.caller_run.proofs.alone.LoneRun.start.Goals as goal

pub returns-clause-run : goal.returns-clause-run
returns-clause-run c =
    let events = c.events.result.now in let longest = c.in-Some.ensures.longest in (
      events,
      c.events.ensures,
      c.in_ok-with_room.ensures c.args.script.now events c.requires (sym c.cpus.ensures)
          (let some = c.requires.callers.0 in omega (arith, c.if-callers-gt1.false, c.callers.ensures)) c.events.ensures
          (recursion_from_All IsEmittedOnce events c.in-Some.ensures.once)
          (recursion_from_All (λ event. most_shown event ≤ c.in-Some.longest) events longest),
    )
