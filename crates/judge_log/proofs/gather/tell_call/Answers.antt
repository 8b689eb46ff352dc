use Rattle.judge_log.proofs.Tables.TellSteps.{call_at, vread_changes}
use Rattle.judge_log.proofs.gather.tell_call.Goals as goal

pub returns-in-Alone : goal.returns-in-Alone
returns-in-Alone c = call_at c.args.set.now c.args.call.now _ _ _ c.in-Alone.is c.tell_line.ensures

pub returns-in-Vread : goal.returns-in-Vread
returns-in-Vread c = call_at c.args.set.now c.args.call.now _ _ _ c.in-Vread.is
    (vread_changes c.args.set.now c.in-Vread.len c.in-Vread.acts.items c.deref.result.now c.in-Vread.line.steps.now _ _ _
    c.deref.ensures.value c.tell_acts.ensures c.tell_line-in-Vread.ensures)
