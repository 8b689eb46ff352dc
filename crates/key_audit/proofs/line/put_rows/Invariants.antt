use Rattle.std.proofs.Common.{◌≡◌, ◌++◌, drop, map}
use Rattle.key_audit.specs.Texts.{rows_text}
use Rattle.key_audit.proofs.line.put_rows.Given as goal

abbrev pub invariant-loop-row : goal.invariant-loop-row
invariant-loop-row l =
    l.text.bytes.items ++ rows_text l.moments (map (λ row. row.now) (drop l.row-index l.rows))
    ≡ l.initial.text.bytes.items ++ rows_text l.moments (map (λ row. row.now) l.rows)
