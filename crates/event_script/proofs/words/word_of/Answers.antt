use Rattle.std.proofs.Common.{arith}
use Rattle.event_script.proofs.Spellings.{no_word_outside}
use Rattle.event_script.proofs.words.word_of.Goals as goal

pub returns-in_default-clause-value : goal.returns-in_default-clause-value
returns-in_default-clause-value c = no_word_outside c.args.field.now (λ long. omega arith)
