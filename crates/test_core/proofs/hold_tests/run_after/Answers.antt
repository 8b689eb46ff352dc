use Rattle.std.proofs.Common.{◌≡◌, ℕ, ◌*◌, ◌^◌, sym, ◌∙◌, ap, arith}
use Rattle.lane_table.specs.declared.view.View.{View}
use Rattle.lane_table.specs.Calls.{view}
use Rattle.caller_run.specs.Families.{SameShare}
use Rattle.test_core.proofs.hold_tests.run_after.Goals as goal

-- if `p` has a quarter of the table and `w` has the same share as `p`, then `w` has a quarter too
quarter_still : (p w : View) → p.share ≡ 1 → p.halvings ≡ 2 → SameShare p w → w.share * 4 ≡ 2 ^ w.halvings
quarter_still p w one two same = sym (ap (λ (z : ℕ). w.share * 2 ^ z) two) ∙ same
    ∙ ap (λ (z : ℕ). z * 2 ^ w.halvings) one
    ∙ (let y : ℕ = 2 ^ w.halvings in let e : 1 * y ≡ y = omega arith in e)

pub returns-clause-share : goal.returns-clause-share
returns-clause-share g c = quarter_still (view c.args.pass) (view c.run_all-pass.result.0) c.requires.share.0
    c.requires.share.1 c.run_all-pass.ensures.share
