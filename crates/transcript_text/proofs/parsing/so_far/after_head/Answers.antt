use Rattle.std.proofs.lemmas.Bool.{both_ways}
use Rattle.transcript_text.proofs.FeedingOn.{begun, not_begun}
use Rattle.transcript_text.proofs.parsing.so_far.after_head.Goals as goal

pub returns-then-spells : goal.returns-then-spells
returns-then-spells c = λ s text following none clean cut.
    begun s text c.args.line.now following none clean cut (c.spells.ensures.0 c.if-spells.true)

pub returns-else-spells : goal.returns-else-spells
returns-else-spells c = λ s text following none clean cut.
    not_begun s text c.args.line.now following clean cut (λ e. both_ways _ c.if-spells.false (c.spells.ensures.1 e))
