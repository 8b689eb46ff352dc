use Rattle.transcript_text.proofs.NumberTexts.{none_below}
use Rattle.transcript_text.proofs.parsing.lexing.number_u32.Goals as goal

pub returns-in_err-number : goal.returns-in_err-number
returns-in_err-number c =
    rw c.from_residual.ensures (none_below c.args.text.now c.in_err-number.ensures.value)
