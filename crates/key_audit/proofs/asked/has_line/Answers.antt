use Rattle.std.proofs.Common.{ap, ◌∙◌, List}
use Rattle.std.specs.Option.{is_some}
use Rattle.key_names.specs.Lanes.Book.{list_at}
use Rattle.audit_keys.specs.declared.line_ends.LineEnd.{LineEnd}
use Rattle.audit_keys.specs.LineEnds.{lines_in}
use Rattle.key_audit.specs.Asked.{line_in}
use Rattle.key_audit.proofs.asked.has_line.Goals as goal

pub returns : goal.returns
returns c t callers of ms keeps =
    c.is_some.ensures
    ∙ ap is_some (c.line_end.ensures
    ∙ ap (λ (lines : List (List LineEnd)). line_in c.args.line.event (list_at lines c.args.line.caller))
    (ap lines_in c.deref.ensures.value ∙ keeps.lines))
