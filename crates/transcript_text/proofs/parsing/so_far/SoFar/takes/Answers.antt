use Rattle.std.proofs.Common.{arith, refl}
use Rattle.transcript_text.proofs.FeedingOn.{kept_or_none, passed_or_none}
use Rattle.transcript_text.proofs.parsing.so_far.SoFar.takes.Goals as goal

pub returns-then-self-clause-taken : goal.returns-then-self-clause-taken
returns-then-self-clause-taken c =
    kept_or_none c.args.self.now _ c.args.line.now refl refl _ c.if-self.true c.take_line.ensures

pub returns-clause-taken : goal.returns-clause-taken
returns-clause-taken c =
    passed_or_none c.args.self.now _ c.args.line.now refl refl _ (omega (arith, c.if-self.false)) c.pass_line.ensures
