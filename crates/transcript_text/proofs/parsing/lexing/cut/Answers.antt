use Rattle.std.proofs.lemmas.List.{take_rest}
use Rattle.transcript_text.proofs.Cutting.{nowhere, cut_there, lacks_before}
use Rattle.transcript_text.proofs.parsing.lexing.cut.Goals as goal

pub returns-in-Some : goal.returns-in-Some
returns-in-Some c = (
  rw take_rest (cut_there c.args.byte c.in-Some.place c.args.text.now c.in-Some.ensures),
  lacks_before c.args.byte c.in-Some.place c.args.text.now c.in-Some.ensures,
)

pub returns-in-None : goal.returns-in-None
returns-in-None c = nowhere c.args.byte c.args.text.now c.in-None.ensures
