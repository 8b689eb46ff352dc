use Rattle.key_names.proofs.Unique.UniqueBook as books
use Rattle.key_names.proofs.laws.first_fail_is_unique.Goals as goal

pub returns : goal.returns
returns c = books.first_fail_is_unique
