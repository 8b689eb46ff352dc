use Rattle.lane_table.proofs.Book.BookMeans.{lanes_replay}
use Rattle.lane_table.proofs.laws.closed_replays.Goals as goal

pub returns : goal.returns
returns c = lanes_replay
