use Rattle.std.proofs.Common.{◌≡◌, ◌*◌, ◌/◌, ◌<◌, ◌++◌, [], length, refl, sym, ap, ◌∙◌, append_assoc, append-nil, arith}
use Rattle.std.proofs.lemmas.Bool.{eqb-true}
use Rattle.std.proofs.lemmas.List.{nil_from_length}
use Rattle.transcript_text.proofs.SpeltPieces.{parts_of, spelt_begins, spelt_more, spelt_nowhere, spelt_whole}
use Rattle.transcript_text.proofs.parsing.data.append_bytes.Goals as goal

pub loop-rest-init : goal.loop-rest-init
loop-rest-init c = record {
  bytes = [];
  whole = c.in_ok-reserve.ensures.items ∙ sym (append-nil c.args.kept.now.items);
  so_far = spelt_begins c.args.text.now [] refl (omega (arith, c.if-text.false)) c.if-text-ne0.false;
}

pub returns-then-not-decode-clause-spelt : goal.returns-then-not-decode-clause-spelt
returns-then-not-decode-clause-spelt c =
    let rest = c.loop-rest.rest.now in
    let front = c.split_at.result.0.now in
    let following = c.split_at.result.1.now in
    let s = c.loop-rest.invariant in
    let some : 0 < length rest = grind arith in
    let long : length front ≡ 2 * (c.min.result / 2) =
    omega (arith, c.min.ensures, c.split_at.ensures.front_len, s.so_far.even) in
    sym (spelt_nowhere c.args.text.now s.bytes rest front following (c.min.result / 2) s.so_far
    (parts_of c.min.result rest front following c.split_at.ensures.front c.split_at.ensures.back) long
    (omega (arith, c.min.ensures, s.so_far.even, some)) (rw c.if-not-decode.true at c.decode.ensures.bytes))

pub loop-rest-preserved : goal.loop-rest-preserved
loop-rest-preserved c =
    let rest = c.loop-rest.rest.now in
    let front = c.split_at.result.0.now in
    let following = c.split_at.result.1.now in
    let piece = c.decode.new.out in
    let s = c.loop-rest.invariant in
    let some : 0 < length rest = grind arith in
    let long : length front ≡ 2 * (c.min.result / 2) =
    omega (arith, c.min.ensures, c.split_at.ensures.front_len, s.so_far.even) in
    record {
      bytes = s.bytes ++ piece;
      whole = c.in_ok-extend_from_slice-2.ensures.items ∙ ap (λ l. l ++ piece) s.whole
          ∙ append_assoc c.args.kept.now.items s.bytes piece;
      so_far = spelt_more c.args.text.now s.bytes rest front following (c.min.result / 2) s.so_far
          (parts_of c.min.result rest front following c.split_at.ensures.front c.split_at.ensures.back) long
          (omega (arith, c.min.ensures, s.so_far.even, some)) piece (s.bytes ++ piece)
          (rw c.if-not-decode.false at c.decode.ensures.bytes) refl;
    }

pub returns-clause-spelt : goal.returns-clause-spelt
returns-clause-spelt c =
    let s = c.loop-rest.invariant in
    record {
      bytes = s.bytes;
      spelt = sym (spelt_whole c.args.text.now s.bytes c.loop-rest.rest.now s.so_far
          (nil_from_length c.loop-rest.rest.now (eqb-true _ _ (sym c.loop-rest-test.ensures)))
          (omega (arith, c.if-text.false)));
      whole = s.whole;
    }
