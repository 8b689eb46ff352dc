use Rattle.lane_table.proofs.Book.BookWhole.{forward_lawful}
use Rattle.lane_table.proofs.laws.closed_is_forward_lawful.Goals as goal

pub returns : goal.returns
returns c = forward_lawful
