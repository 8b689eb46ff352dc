use Rattle.std.proofs.Common.{IfOk, sym, subst}
use Rattle.judge_lines.specs.Called.{seen_call}
use Rattle.judge_log.specs.CallSays.{IsCallSaid}
use Rattle.judge_log.proofs.walk.CallerWalk.call.Goals as goal

pub returns-in-Alone-clause-said : goal.returns-in-Alone-clause-said
returns-in-Alone-clause-said g c =
    subst (λ call. IfOk c.alone.result (IsCallSaid
    (g.N.Note.IsNoted c.args.self.now.notes.how.now c.args.self.now.notes.caller) c.args.self.now.lists.now
    c.args.set.now (seen_call call) c.args.self.now.states c.alone.new.self.states c.args.self.now.notes.noted.items
    c.alone.new.self.notes.noted.items)) (sym c.in-Alone.is) c.alone.ensures.said
