use Rattle.lane_table.proofs.Book.BookAnswers.{lawful_lanes}
use Rattle.lane_table.proofs.laws.answered_is_lawful.Goals as goal

pub returns : goal.returns
returns c = lawful_lanes
