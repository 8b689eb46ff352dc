use Rattle.judge_lines.proofs.ActLines.{lists_fit}
use Rattle.judge_lines.proofs.laws.lawful_lists_fit.Goals as goal

-- the proof of `lawful_lists_fit` in src/laws.rt
pub returns : goal.returns
returns c = lists_fit
