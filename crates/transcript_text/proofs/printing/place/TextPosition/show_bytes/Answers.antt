use Rattle.std.proofs.Common.{ap, arith, length}
use Rattle.std.proofs.lemmas.List.{length-append}
use Rattle.hex.specs.Hex.{encode_lower, lower_digits}
use Rattle.hex.proofs.HexLemmas.{length-encode_with}
use Rattle.transcript_text.proofs.Places.{bytes_on}
use Rattle.transcript_text.proofs.printing.place.TextPosition.show_bytes.Goals as goal

pub returns-then-count-rest-clause-part : goal.returns-then-count-rest-clause-part
returns-then-count-rest-clause-part c = λ _. bytes_on c.args.self.now.shown c.min-count.result c.args.bytes.now
    c.split_at.result.1.now c.split_at-2.result.0.now c.args.piece.now c.append_hex.new.self c.split_at.ensures.back
    c.split_at-2.ensures.front c.append_hex.ensures

pub returns-else-count-rest-clause-part : goal.returns-else-count-rest-clause-part
returns-else-count-rest-clause-part c = λ _. bytes_on c.args.self.now.shown c.min-count.result c.args.bytes.now
    c.split_at.result.1.now c.split_at-2.result.0.now c.args.piece.now c.append_hex.new.self c.split_at.ensures.back
    c.split_at-2.ensures.front c.append_hex.ensures

pub returns-else-count-rest-clause-more : goal.returns-else-count-rest-clause-more
returns-else-count-rest-clause-more c = λ _.
    let put = ap length c.append_hex.ensures in
    let both = length-append c.args.piece.now (encode_lower c.split_at-2.result.0.now) in
    let digits = length-encode_with lower_digits c.split_at-2.result.0.now in
    omega (arith, put, both, digits, c.split_at-2.ensures.front_len, c.min-count.ensures, c.room.ensures, c.requires.room, c.if-count-rest.false)
