use Rattle.std.proofs.Common.{◌≡◌, ◌++◌, drop}
use Rattle.key_audit.specs.Texts.{rows_text}
use Rattle.key_audit.proofs.text.TextBuffer.rows.Given as goal

abbrev pub invariant-loop-row : goal.invariant-loop-row
invariant-loop-row l =
    l.self.bytes.items ++ rows_text l.moments (drop l.row-index l.rows)
    ≡ l.initial.self.bytes.items ++ rows_text l.moments l.rows
