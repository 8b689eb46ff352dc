use Rattle.draw_below.proofs.LaneChains.{same_source, words_read}
use Rattle.draw_below.proofs.table_draws.draw_from.Goals as goal

pub returns-clause-source : goal.returns-clause-source
returns-clause-source g c =
    let taken = c.draw_each.ensures in same_source c.args.words.now taken.0 c.draw_each.new.words taken.1

pub returns-clause-drawn : goal.returns-clause-drawn
returns-clause-drawn g c =
    let taken = c.draw_each.ensures in
    (taken.0, words_read c.args.words.now taken.0 c.draw_each.new.words taken.1, taken.2)
