use Rattle.std.proofs.Common.{Some, eq-eqb, arith}
use Rattle.std.proofs.lemmas.List.{take_rest}
use Rattle.memchr.specs.Find.{IsFirstByte, is_byte}
use Rattle.transcript_text.proofs.Cutting.{cut_there, lacks_before}
use Rattle.transcript_text.proofs.parsing.lexing.cut_near.Goals as goal

pub returns-then-text-place : goal.returns-then-text-place
returns-then-text-place c =
    let text = c.args.text.now in
    let place = c.loop-place.place in
    let found : IsFirstByte (is_byte c.args.byte) text (Some place) = (
      record {
        low = omega arith;
        high = omega (arith, c.min-place-end.ensures, c.loop-place-test.true);
        before = c.loop-place.invariant;
      },
      eq-eqb _ _ c.if-text-place.true,
    ) in
    (rw take_rest (cut_there c.args.byte place text found), lacks_before c.args.byte place text found)
