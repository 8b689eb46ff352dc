use Rattle.std.proofs.Common.{sym, ◌∙◌, ap, subst}
use Rattle.lane_table.specs.declared.view.View.{View}
use Rattle.lane_table.specs.Steps.{Seated}
use Rattle.lane_table.specs.Calls.{view}
use Rattle.lane_table.proofs.Calls.HandLemmas.{has_joined}
use Rattle.caller_run.specs.Families.{SameShare}
use Rattle.caller_run.proofs.Forks.Joins.{share_both}
use Rattle.test_core.proofs.hold_tests.join_in.Goals as goal

pub returns-clause-pass : goal.returns-clause-pass
returns-clause-pass c = let p = c.requires.pass in let o = c.requires.other in
    has_joined c.args.lanes.now 0 (view c.args.other) c.args.pass.now c.join.new.pass
    (p.pass.sized ∙ sym o.pass.sized) p c.join.ensures.pass c.join.ensures.both

pub returns-clause-share : goal.returns-clause-share
returns-clause-share c = λ whole mine theirs. subst (λ (z : View). SameShare whole z)
    (sym (ap (λ (m : Seated). m.0) c.join.ensures.both))
    (share_both whole (view c.args.pass.now) (view c.args.other) mine theirs)
