use Rattle.std.proofs.Common.{ℕ, ◌≡◌, ◌++◌, drop, map, take, List}
use Rattle.std.specs.Prelude.{slice_get}
use Rattle.std.specs.List.{flat_map}
use Rattle.audit_keys.specs.declared.rows.KeyRow.{KeyRow}
use Rattle.key_audit.specs.KeptPool.{kept_bits, kept_samples}
use Rattle.key_audit.specs.Sources.{extraction_text}
use Rattle.key_audit.proofs.line.put_extractions.Given as goal

abbrev pub invariant-loop-row : goal.invariant-loop-row
invariant-loop-row l =
    let all : List KeyRow → List ℕ = flat_map (λ row. extraction_text l.moments
    (λ place. kept_samples l.script 0 (take place l.pool) l.moments.pool.items)
    (λ place. kept_bits (slice_get l.pool place)) row.key) in
    l.text.bytes.items ++ all (map (λ row. row.now) (drop l.row-index l.rows))
    ≡ l.initial.text.bytes.items ++ all (map (λ row. row.now) l.rows)
