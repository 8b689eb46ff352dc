use Rattle.std.proofs.Common.{◌≡◌, Some, length, sym, ◌∙◌, ap, arith}
use Rattle.key_names.proofs.Script.HexBytes.{written}
use Rattle.key_names.proofs.Script.HexFields.{bytes_none}
use Rattle.key_names.proofs.hexes.bytes_of.Goals as goal

pub returns-then-is_empty : goal.returns-then-is_empty
returns-then-is_empty c =
    sym (bytes_none c.args.field.now (sym c.is_dash.ensures ∙ c.if-is_dash.false) (λ found some lower e. grind arith))

pub returns : goal.returns
returns c =
    let out = c.decode.new.out in
    let same : length out ≡ length c.in_ok-bytes.bytes.items =
    c.decode.auto.out ∙ ap length c.deref_mut.ensures.value in
    let whole = written out c.in_ok-bytes.bytes.items c.in_ok-bytes.bytes.len same c.in_ok-bytes.bytes.ok.0 in
    ap Some whole ∙ (rw c.if-not-decode.false at c.decode.ensures.bytes)
