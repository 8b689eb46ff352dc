use Rattle.std.proofs.Common.{sym, ap, ◌∙◌, arith}
use Rattle.std.specs.Option.{is_some}
use Rattle.key_names.proofs.Script.HexBytes.{is_spelt}
use Rattle.key_names.proofs.Script.HexFields.{bytes_none}
use Rattle.key_names.proofs.hexes.spells_bytes.Goals as goal

pub returns-then-is_empty : goal.returns-then-is_empty
returns-then-is_empty c =
    ap is_some (sym (bytes_none c.args.field.now (sym c.is_dash.ensures ∙ c.if-is_dash.false)
    (λ found some lower e. grind arith)))

pub returns : goal.returns
returns c =
    is_spelt c.args.field.now c.is_lower_hex.result (sym c.is_dash.ensures ∙ c.if-is_dash.false) (grind arith) (grind arith)
    c.is_lower_hex.ensures
