use Rattle.std.proofs.Common.{[], ◌∙◌}
use Rattle.transcript_text.proofs.ReadingOn.{never_too_many, read_as}
use Rattle.transcript_text.proofs.parsing.reading.read.Goals as goal

pub returns-clause-only : goal.returns-clause-only
returns-clause-only c =
    read_as c.args.text.now _ _ (c.in_ok-feed.ensures.most ∙ c.in_ok-reader.ensures.most)
    (c.finish.ensures c.args.text.now (c.in_ok-feed.ensures.fed [] c.in_ok-reader.ensures.fed)) c.requires

pub returns-clause-no_limit : goal.returns-clause-no_limit
returns-clause-no_limit c =
    never_too_many c.args.text.now _ _ (c.in_ok-feed.ensures.most ∙ c.in_ok-reader.ensures.most)
    (c.finish.ensures c.args.text.now (c.in_ok-feed.ensures.fed [] c.in_ok-reader.ensures.fed)) c.requires
