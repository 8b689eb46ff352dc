use Rattle.key_audit.proofs.Books.{keeps_book}
use Rattle.key_audit.proofs.book.book_of.Goals as goal

pub returns : goal.returns
returns c script t conform made =
    keeps_book script t c.args.basis conform made c.in_ok-states.states c.in_ok-lines.lines c.in_ok-states.ensures.lists
    (c.in_ok-states.ensures.cut script t conform.parts) (c.in_ok-states.ensures.ends script t conform.parts)
    (c.in_ok-lines.ensures script t conform.parts)
