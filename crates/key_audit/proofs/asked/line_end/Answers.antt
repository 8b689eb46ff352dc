use Rattle.std.proofs.Common.{sym, ap, ◌∙◌, List}
use Rattle.audit_keys.specs.declared.line_ends.LineEnd.{LineEnd}
use Rattle.key_audit.specs.Asked.{line_in}
use Rattle.key_audit.proofs.KeptLines.{lines_kept, lines_past}
use Rattle.key_audit.proofs.asked.line_end.Goals as goal

pub returns-in-Some : goal.returns-in-Some
returns-in-Some c =
    let found = c.in-Some.ensures.lookup in
    c.line_in.ensures
    ∙ ap (λ (lines : List LineEnd). line_in c.args.line.event lines) (c.deref.ensures.value
    ∙ lines_kept c.args.lines.now c.args.line.caller c.in-Some.list.now found.3.0 found.1)

pub returns-in-None : goal.returns-in-None
returns-in-None c =
    let found = c.in-None.ensures.lookup in
    sym (ap (line_in c.args.line.event) (lines_past c.args.lines.now c.args.line.caller found.3))
