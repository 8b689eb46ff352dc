use Rattle.std.proofs.lemmas.List.{take_rest}
use Rattle.transcript_text.proofs.Cutting.{nowhere, cut_there, lacks_before}
use Rattle.key_audit.proofs.ask.split_at_dot.Goals as goal

pub returns-in_err-place : goal.returns-in_err-place
returns-in_err-place c = rw c.from_residual.ensures (nowhere 46 c.args.text.now c.in_err-place.ensures)

pub returns : goal.returns
returns c = (
  rw take_rest (cut_there 46 c.in_ok-place.place c.args.text.now c.in_ok-place.ensures),
  lacks_before 46 c.in_ok-place.place c.args.text.now c.in_ok-place.ensures,
)
