use Rattle.std.proofs.Common.{◌≡◌, ◌<◌, ◌≤◌, ◌+◌, ◌++◌, length, take, drop, sym, ap, ◌∙◌, arith}
use Rattle.std.proofs.lemmas.List.{length-append, length-take-le}
use Rattle.key_names.specs.Kernel.Keystream.{keystream}
use Rattle.key_names.proofs.Standards.Keystreams.{length-keystream, take-keystream}
use Rattle.judge_vread.proofs.ServedBytes.{put_more, on_err}
use Rattle.judge_vread.proofs.served.put_key_by.Goals as goal

pub loop-done-preserved : goal.loop-done-preserved
loop-done-preserved c =
    let done = c.loop-done.done in
    let next = c.min-next.result in
    let piece = c.loop-done.piece in
    let fits : next ≤ length piece = omega (arith, c.min-next.ensures) in
    let whole = length-take-le next piece fits in
    let made : length c.fill.new.buf ≡ next =
    ap length c.fill.ensures ∙ length-keystream c.args.key.now (c.args.from + done) (length (take next piece)) ∙ whole in
    let some : 0 < next = omega (arith, c.min-next.ensures, c.loop-done-test.true, c.loop-done.invariant.2) in (
      omega (arith, c.min-next.ensures),
      put_more c.args.out.now.items c.loop-done.out.items c.extend_from_slice.new.self.items c.fill.new.buf
          c.args.key.now c.args.from done next c.loop-done.invariant.1
          (c.fill.ensures ∙ ap (keystream c.args.key.now (c.args.from + done)) whole)
          c.in_ok-extend_from_slice.ensures.items,
      rw (length-append c.fill.new.buf (drop next piece)) (omega (arith, made, some)),
    )

pub returns-in_err-extend_from_slice-clause-part : goal.returns-in_err-extend_from_slice-clause-part
returns-in_err-extend_from_slice-clause-part c =
    let l = c.loop-done in
    on_err c.from_residual.result _ (
      l.done,
      c.in_err-extend_from_slice.ensures.items ∙ l.invariant.1 ∙ ap (λ x. c.args.out.now.items ++ x)
          (sym (take-keystream c.args.key.now c.args.from c.args.len l.done l.invariant.0)),
    )
