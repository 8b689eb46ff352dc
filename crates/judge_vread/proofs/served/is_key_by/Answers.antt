use Rattle.std.proofs.Common.{◌≡◌, ◌<◌, ◌≤◌, ◌+◌, ◌-◌, Bool, IsTrue, length, take, drop, sym, subst, ap, ◌∙◌, rules, arith}
use Rattle.std.proofs.lemmas.List.{length-append, length-take-le}
use Rattle.key_names.specs.Kernel.Keystream.{keystream}
use Rattle.key_names.proofs.Standards.Keystreams.{length-keystream}
use Rattle.judge_vread.proofs.ServedBytes.{same_more, piece_same}
use Rattle.judge_vread.proofs.served.is_key_by.Goals as goal

pub returns-then-not-are_same : goal.returns-then-not-are_same
returns-then-not-are_same c =
    let done = c.loop-done.done in
    let next = c.min-next.result in
    let bytes = c.args.bytes.now in
    let fits : next ≤ length c.loop-done.piece = omega (arith, c.min-next.ensures) in
    let within : done + next ≤ length bytes = omega (arith, c.min-next.ensures, c.loop-done-test.true) in
    let there : done + next - done ≡ next = omega arith in
    let P : Bool → Type 0 = λ b. IsTrue b in (
      search rules,
      λ all. subst P c.if-not-are_same.true (c.are_same.ensures.1 (c.fill.ensures
          ∙ ap (keystream c.args.key.now (c.args.from + done)) (length-take-le next c.loop-done.piece fits)
          ∙ sym (piece_same bytes c.args.key.now c.args.from done next within all)
          ∙ ap (λ k. take k (drop done bytes)) (sym there))),
    )

pub loop-done-preserved : goal.loop-done-preserved
loop-done-preserved c =
    let done = c.loop-done.done in
    let next = c.min-next.result in
    let bytes = c.args.bytes.now in
    let piece = c.loop-done.piece in
    let fits : next ≤ length piece = omega (arith, c.min-next.ensures) in
    let there : done + next - done ≡ next = omega arith in
    let same : IsTrue c.are_same.result = search rules in
    let made : length c.fill.new.buf ≡ next =
    ap length c.fill.ensures ∙ length-keystream c.args.key.now (c.args.from + done) (length (take next piece))
    ∙ length-take-le next piece fits in
    let some : 0 < next = omega (arith, c.min-next.ensures, c.loop-done-test.true, c.loop-done.invariant.2) in (
      omega (arith, c.min-next.ensures, c.loop-done-test.true),
      same_more bytes c.args.key.now c.args.from done next c.loop-done.invariant.1
          (ap (λ k. take k (drop done bytes)) (sym there) ∙ sym (c.are_same.ensures.0 same) ∙ c.fill.ensures
          ∙ ap (keystream c.args.key.now (c.args.from + done)) (length-take-le next piece fits)),
      rw (length-append c.fill.new.buf (drop next piece)) (omega (arith, made, some)),
    )
