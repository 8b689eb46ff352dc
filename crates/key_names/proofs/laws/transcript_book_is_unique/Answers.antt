use Rattle.key_names.proofs.Unique.UniqueBook as books
use Rattle.key_names.proofs.laws.transcript_book_is_unique.Goals as goal

pub returns : goal.returns
returns c = books.book_is_unique
