use Rattle.std.proofs.lemmas.Result.{err_from_is_err_and}
use Rattle.event_script.proofs.Cuts.{act_fault}
use Rattle.event_script.proofs.statements.acts.inside.Goals as goal

pub returns-in_err-len : goal.returns-in_err-len
returns-in_err-len c =
    let p = err_from_is_err_and c.from_residual.result c.from_residual.ensures.1 in
    rw (p.1, p.2, c.in-Some.is, c.in-Some-cut.ensures.parts, c.in-Some-cut-2.ensures.parts)
    (act_fault c.in-Some-cut.point.now c.in-Some-cut-2.word.now c.in-Some-cut-2.last.now _ c.in_err-len.ensures)
