use Rattle.std.proofs.Common.{sym, ap, ◌∙◌, map}
use Rattle.std.proofs.lemmas.List.{at_drop_all}
use Rattle.judge_lines.specs.Called.{seen_call}
use Rattle.audit_keys.specs.Stamped.{States, states_from}
use Rattle.audit_keys.proofs.Over.{calls_over}
use Rattle.audit_keys.proofs.lists.caller_lists.Goals as goal

pub returns : goal.returns
returns c =
    c.lists.ensures
    ∙ ap (λ (s : States). s.lists)
    (sym (at_drop_all (λ calls. states_from c.loop-number.number c.loop-number.caller (map seen_call calls))
    c.args.calls.now c.loop-number.number c.loop-number-test.false) ∙ c.loop-number.invariant)
    ∙ calls_over c.args.stamp (map seen_call c.args.calls.now)
