use Rattle.lane_table.proofs.Book.BookMeans.{visits_give}
use Rattle.lane_table.proofs.laws.closed_gives.Goals as goal

pub returns : goal.returns
returns c = visits_give
