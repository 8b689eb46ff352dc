use Rattle.std.proofs.Common.{sym, subst, ◌∙◌}
use Rattle.std.proofs.lemmas.Result.{err_from_is_err_and}
use Rattle.key_names.specs.Texts.ScriptFaults.{script_of_draft}
use Rattle.key_names.proofs.Script.ScriptTexts.{script_again, script_takes}
use Rattle.event_script.specs.Drafts.{draft_as}
use Rattle.event_script.specs.ScriptViews.{FailsAt}
use Rattle.event_script.proofs.reader.ScriptReader.finish.Goals as goal

pub returns-in_err-draft-clause-only : goal.returns-in_err-draft-clause-only
returns-in_err-draft-clause-only c = λ text fed script is.
    let p = err_from_is_err_and c.from_residual.result c.from_residual.ensures.1 in
    rw (p.1, p.2) (subst (FailsAt _) (script_again text script is) (c.in_err-draft.ensures text fed))

pub invariant_of-result : goal.invariant_of-result
invariant_of-result c =
    rw c.in_ok-callers.ensures (script_takes c.requires.0 (script_of_draft (draft_as c.in_ok-draft.draft))
    (c.in_ok-draft.ensures c.requires.0 c.requires.1)).well_formed

pub returns-clause-found : goal.returns-clause-found
returns-clause-found c = λ text fed.
    rw c.in_ok-callers.ensures (script_takes text (script_of_draft (draft_as c.in_ok-draft.draft))
    (c.in_ok-draft.ensures text fed))

pub returns-clause-only : goal.returns-clause-only
returns-clause-only c = λ text fed script is.
    rw c.in_ok-callers.ensures (sym (script_again text script is) ∙ c.in_ok-draft.ensures text fed)
