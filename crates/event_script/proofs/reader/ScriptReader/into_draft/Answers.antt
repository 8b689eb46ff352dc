use Rattle.std.proofs.Common.{arith, sym, subst}
use Rattle.key_names.specs.Texts.ScriptFaults.{script_of_draft}
use Rattle.event_script.specs.Drafts.{draft_as}
use Rattle.event_script.specs.ScriptViews.{GivesUnread}
use Rattle.event_script.proofs.Feeding.{not_too_long, too_long, whole_text}
use Rattle.event_script.proofs.reader.ScriptReader.into_draft.Goals as goal

pub returns-then-len-gt-MOST_BYTES : goal.returns-then-len-gt-MOST_BYTES
returns-then-len-gt-MOST_BYTES c = λ text fed.
    rw (c.at.ensures, c.fault.ensures) (too_long text c.args.self fed c.if-len-gt-MOST_BYTES.true)

pub finish-requires : goal.finish-requires
finish-requires c =
    let short = not_too_long c.requires.0 c.args.self c.requires.1 (omega (arith, c.if-len-gt-MOST_BYTES.false)) in
    (c.requires.1.read short).clean

pub returns : goal.returns
returns c = λ text fed.
    subst (GivesUnread (λ d. script_of_draft (draft_as d)) c.finish.result)
    (sym (whole_text text c.args.self fed (omega (arith, c.if-len-gt-MOST_BYTES.false)))) c.finish.ensures
