use Rattle.rng_core.proofs.OwnReads as named
use Rattle.rng_core.proofs.laws.two_reads_have_a_book.Goals as goal

pub returns : goal.returns
returns c = named.two_reads_have_a_book
