use Rattle.judge_lines.proofs.RowEvents.{row_form}
use Rattle.judge_lines.proofs.laws.row_is_form.Goals as goal

-- the proof of `row_is_form` in src/laws.rt
pub returns : goal.returns
returns c = row_form
