use Rattle.std.proofs.Common.{sym, subst, ◌∙◌}
use Rattle.event_script.specs.Says.{said_as}
use Rattle.event_script.specs.Views.{Gives, fields_of}
use Rattle.event_script.proofs.Spellings.{says_word}
use Rattle.event_script.proofs.statements.line.said_by.Goals as goal

pub returns-in-Some-clause-value : goal.returns-in-Some-clause-value
returns-in-Some-clause-value c =
    let is = sym c.word_of.ensures.value ∙ c.in-Some.is in
    subst (λ given. Gives said_as c.said_by_word.result given)
    (sym (says_word c.args.head.version c.args.head.cpus c.args.first.now (fields_of c.args.rest) c.in-Some.word is))
    c.said_by_word.ensures.value
