use Rattle.key_audit.specs.Index.{IsIndexTo}
use Rattle.key_audit.proofs.row_index.RowIndex.of.Given as goal

abbrev pub invariant-loop-number : goal.invariant-loop-number
invariant-loop-number l = IsIndexTo l.number l.rows l.by_name
