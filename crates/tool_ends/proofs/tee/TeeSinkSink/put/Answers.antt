use Rattle.std.proofs.Common.{◌++◌, length, take, ap, ◌∙◌, arith}
use Rattle.std.proofs.lemmas.List.{length-take}
use Rattle.tool_ends.proofs.Tees.{first_of, ok_holds}
use Rattle.tool_ends.proofs.tee.TeeSinkSink.put.Goals as goal

pub returns-clause-got : goal.returns-clause-got
returns-clause-got g c =
    let piece = c.args.piece.now in
    let put = c.try_extend_from_slice-kept in
    let count = c.in_ok-count.count in
    ok_holds put.result _
    (put.ensures.variant.1 (omega (
      arith,
      ap length c.clear.ensures,
      c.min-kept.ensures,
      length-take c.min-kept.result piece,
    ))) put.ensures.ok
    ∙ ap (λ l. l ++ take c.min-kept.result piece) c.clear.ensures
    ∙ ap (λ j. take j piece) c.min-kept.ensures
    ∙ first_of piece count 32
