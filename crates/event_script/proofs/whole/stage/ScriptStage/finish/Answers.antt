use Rattle.std.proofs.Common.{arith, sym}
use Rattle.std.specs.Prelude.{vec_len}
use Rattle.std.proofs.lemmas.Bool.{eqb-false}
use Rattle.event_script.proofs.Stages.{no_cpus, no_end, no_start, no_version, past_end}
use Rattle.event_script.proofs.whole.stage.ScriptStage.finish.Goals as goal

pub returns-in-Version : goal.returns-in-Version
returns-in-Version c = rw (c.unfinished.ensures, c.in-Version.is) (no_version c.args.front.items c.requires)

pub returns-in-Cpus : goal.returns-in-Cpus
returns-in-Cpus c = rw (c.unfinished-in-Cpus.ensures, c.in-Cpus.is) (no_cpus c.args.front.items c.requires _)

pub returns-in-Start : goal.returns-in-Start
returns-in-Start c =
    rw (c.unfinished-in-Start.ensures, c.in-Start.is) (no_start c.args.front.items c.requires c.in-Start.head)

pub returns-in-Lines : goal.returns-in-Lines
returns-in-Lines c =
    rw (c.unfinished-in-Lines.ensures, c.in-Lines.is)
    (no_end c.args.front.items c.requires c.in-Lines.draft c.in-Lines.number)

pub returns-in-Ended : goal.returns-in-Ended
returns-in-Ended c =
    rw (c.unfinished-else-is_empty.ensures, c.in-Ended.is)
    (past_end c.args.front.items c.requires c.in-Ended.draft c.in-Ended.number (omega (
      arith,
      eqb-false (vec_len c.args.front) 0 (sym c.if-is_empty.ensures),
      c.args.front.ok.0,
    )))
