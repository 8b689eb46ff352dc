use Rattle.std.proofs.Common.{◌≡◌, Some, None, List, subst, ap, ◌∙◌}
use Rattle.std.specs.Prelude.{IfOk}
use Rattle.std.proofs.lemmas.Option.{same_Some}
use Rattle.key_names.specs.Lanes.Book.{list_at}
use Rattle.audit_keys.specs.declared.line_ends.LineEnd.{LineEnd}
use Rattle.audit_keys.specs.LineEnds.{lines_in}
use Rattle.key_audit.specs.Asked.{line_in}
use Rattle.key_audit.specs.Live.{lists_after}
use Rattle.key_audit.specs.Outcome.{TellsHeld}
use Rattle.key_audit.proofs.live.after_text.Goals as goal

pub returns-in-Some : goal.returns-in-Some
returns-in-Some c t callers of ms keeps end is =
    let same : Some c.in-Some.end ≡ Some end =
    c.in-Some.ensures
    ∙ ap (λ (lines : List (List LineEnd)). line_in c.args.line.event (list_at lines c.args.line.caller))
    (ap lines_in c.deref.ensures.value ∙ keeps.lines) ∙ is in
    subst (λ (e : LineEnd). IfOk c.live_text.result
    (λ text. TellsHeld (lists_after c.args.line e callers of ms) callers of ms text.items))
    (same_Some c.in-Some.end end same) (c.live_text.ensures t callers of ms keeps)

pub returns-in-None : goal.returns-in-None
returns-in-None c t callers of ms keeps end is =
    let none : None ≡ Some end =
    c.in-None.ensures
    ∙ ap (λ (lines : List (List LineEnd)). line_in c.args.line.event (list_at lines c.args.line.caller))
    (ap lines_in c.deref.ensures.value ∙ keeps.lines) ∙ is in
    absurd cc
