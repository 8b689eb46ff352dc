use Rattle.key_names.proofs.Uses.BookUses as book
use Rattle.key_names.proofs.laws.half_finished_is_disjoint.Goals as goal

pub returns : goal.returns
returns c = book.half_finished_is_disjoint
