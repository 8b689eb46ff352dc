use Rattle.transcript_text.proofs.FeedingOn.{stays_past}
use Rattle.transcript_text.proofs.parsing.so_far.SoFar.following.Goals as goal

pub returns-in-Ended-clause-conforms : goal.returns-in-Ended-clause-conforms
returns-in-Ended-clause-conforms c = λ text following clean at.
    stays_past c.args.self.now c.args.self.now text c.args.line.now following at c.in-Ended.is
