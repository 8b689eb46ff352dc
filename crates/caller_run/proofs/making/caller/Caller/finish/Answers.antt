use Rattle.std.proofs.Common.{[], sym, subst, ap}
use Rattle.lane_table.specs.Calls.{view}
use Rattle.caller_run.specs.Says.{shown_by}
use Rattle.caller_run.specs.Standing.{RunEnded}
use Rattle.caller_run.specs.declared.output.reply.Reply.{Reply}
use Rattle.caller_run.proofs.Forks.HasAdvanced.{gone_all}
use Rattle.caller_run.proofs.making.caller.Caller.finish.Goals as goal

pub returns-clause-ended : goal.returns-clause-ended
returns-clause-ended g c begun events kids gone =
    let left = c.leave.ensures in let self = c.leave.new.self in
    subst (λ l. RunEnded begun events (view self.pass) l kids) (sym c.tell.ensures.lines)
    (gone_all self [] c.only-done.result c.leave.new.trace left.set (ap (λ (s : Reply). s.answer) c.only-done.ensures)
    (ap (λ (s : Reply). shown_by [] s.shows) c.only-done.ensures) left.did gone)
