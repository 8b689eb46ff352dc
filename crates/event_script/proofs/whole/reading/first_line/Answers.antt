use Rattle.std.proofs.Common.{sym, ◌∙◌}
use Rattle.event_script.proofs.FirstOfLines.{bad_line, whole_line}
use Rattle.event_script.proofs.whole.reading.first_line.Goals as goal

pub returns-then-has_bad_byte-clause-line : goal.returns-then-has_bad_byte-clause-line
returns-then-has_bad_byte-clause-line c =
    bad_line c.args.text.now c.in-Some.line.now c.in-Some.rest.now c.in-Some.ensures.parts
    (sym c.has_bad_byte.ensures ∙ c.if-has_bad_byte.true)

pub returns-clause-line : goal.returns-clause-line
returns-clause-line c =
    whole_line c.args.text.now c.in-Some.line.now c.in-Some.rest.now c.in-Some.ensures.parts
    (sym c.has_bad_byte.ensures ∙ c.if-has_bad_byte.false)
