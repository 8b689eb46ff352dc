use Rattle.audit_keys.proofs.HeldIsLive.{books_tell_live}
use Rattle.audit_keys.proofs.row_laws.books_tell_live.Goals as goal

pub returns : goal.returns
returns c = books_tell_live
