use Rattle.std.proofs.Common.{ap, length, sym, ◌∙◌, arith}
use Rattle.std.proofs.lemmas.Bool.{both_ways}
use Rattle.std.proofs.lemmas.Result.{MatchResult-at_ok}
use Rattle.hex.specs.Hex.{encode_lower}
use Rattle.key_names.proofs.Script.HexBytes.{bytes_spelt, decoded, no_dash}
use Rattle.key_names.proofs.Script.HexFields.{bytes_none}
use Rattle.key_names.proofs.hexes.decode.Goals as goal

pub returns-then-not-is_lower_hex-clause-bytes : goal.returns-then-not-is_lower_hex-clause-bytes
returns-then-not-is_lower_hex-clause-bytes c =
    sym (bytes_none c.args.field.now (no_dash c.args.field.now (length c.args.out.now) c.requires.twice)
    (λ found some lower e. both_ways _ c.if-not-is_lower_hex.true (c.is_lower_hex.ensures.1 lower)))

pub unreachable-requires : goal.unreachable-requires
unreachable-requires c =
    let made = decoded (length c.args.out.now) c.args.field.now c.requires.twice
    (c.is_lower_hex.ensures.0 c.if-not-is_lower_hex.false) in
    let is = MatchResult-at_ok _ _ made.0 made.1 c.decode_to_slice.ensures.value in
    c.in_default.not-Ok tt is.0

pub returns-clause-bytes : goal.returns-clause-bytes
returns-clause-bytes c =
    let lower = c.is_lower_hex.ensures.0 c.if-not-is_lower_hex.false in
    let made = decoded (length c.args.out.now) c.args.field.now c.requires.twice lower in
    let is = MatchResult-at_ok _ _ made.0 made.1 c.decode_to_slice.ensures.value in
    bytes_spelt c.args.field.now c.decode_to_slice.new.out
    (omega (arith, c.requires.some, c.requires.twice, c.decode_to_slice.auto.out)) lower (ap encode_lower is.1 ∙ made.2)
