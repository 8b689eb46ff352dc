use Rattle.lane_table.proofs.Book.BookAnswers.{half_finished}
use Rattle.lane_table.proofs.laws.half_answered_is_half_finished.Goals as goal

pub returns : goal.returns
returns c = half_finished
