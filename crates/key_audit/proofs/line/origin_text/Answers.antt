use Rattle.std.proofs.Common.{◌≡◌, List, ◌++◌, map, take, ap, ◌∙◌}
use Rattle.std.specs.Borrow.{Bor}
use Rattle.std.specs.Prelude.{filter, reverse, slice_get}
use Rattle.std.specs.BTreeSet.{contains}
use Rattle.std.specs.List.{flat_map}
use Rattle.key_names.specs.contracts.names.KeyNameOrd.TheImpl.{ghosts as names}
use Rattle.audit_keys.specs.declared.rows.KeyRow.{KeyRow}
use Rattle.key_audit.specs.KeptPool.{kept_bits, kept_samples}
use Rattle.key_audit.specs.Sources.{extraction_text}
use Rattle.key_audit.specs.Texts.{rows_text}
use Rattle.key_audit.proofs.line.origin_text.Goals as goal

pub returns : goal.returns
returns c =
    let chosen : List KeyRow = filter (λ row. contains names.cmp c.in_ok-keys.keys row.key) (reverse c.args.rows.now) in
    let now = λ (rows : List (Bor KeyRow)). map (λ row. row.now) rows in
    let first : now c.deref.result.now ≡ chosen = ap now c.deref.ensures.value ∙ c.in_ok-chosen.ensures in
    let second : now c.deref-2.result.now ≡ chosen = ap now c.deref-2.ensures.value ∙ c.in_ok-chosen.ensures in
    record {
      is_source = contains names.cmp c.in_ok-keys.keys;
      sources = c.in_ok-keys.ensures;
      text = c.in_ok-put_extractions.ensures
          ∙ (λ i. (c.in_ok-put_rows.ensures
          ∙ (λ j. c.new-text.ensures j ++ rows_text c.args.moments.now (first j))) i
          ++ flat_map (λ row. extraction_text c.args.moments.now
          (λ place. kept_samples c.args.script.now 0 (take place c.args.pool.now) c.args.moments.now.pool.items)
          (λ place. kept_bits (slice_get c.args.pool.now place)) row.key) (second i));
    }
