use Rattle.std.proofs.Common.{ap, ◌∙◌, refl}
use Rattle.key_audit.specs.Asked.{stamps_reach}
use Rattle.key_audit.proofs.KeptLines.{stamps_kept}
use Rattle.key_audit.proofs.asked.is_there.Goals as goal

pub returns-in-Keys : goal.returns-in-Keys
returns-in-Keys c t callers of ms keeps = rw c.in-Keys.is refl

pub returns-in-Live : goal.returns-in-Live
returns-in-Live c t callers of ms keeps =
    rw c.in-Live.is (c.has_stamp.ensures ∙ ap (stamps_reach c.in-Live.stamp) c.deref.ensures.value
    ∙ stamps_kept c.in-Live.stamp t c.args.book.now.marks.items keeps.marks)

pub returns-in-LiveAfter : goal.returns-in-LiveAfter
returns-in-LiveAfter c t callers of ms keeps = rw c.in-LiveAfter.is (c.has_line.ensures t callers of ms keeps)

pub returns-in-Line : goal.returns-in-Line
returns-in-Line c t callers of ms keeps = rw c.in-Line.is (c.has_line-in-Line.ensures t callers of ms keeps)
