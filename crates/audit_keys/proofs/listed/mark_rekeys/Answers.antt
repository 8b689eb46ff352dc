use Rattle.std.proofs.Common.{refl, ◌∙◌}
use Rattle.key_names.specs.Keys.Uses.{rekeys_place}
use Rattle.audit_keys.proofs.Marks.{marked_more, marked_all, or_false}
use Rattle.audit_keys.proofs.listed.mark_rekeys.Goals as goal

pub loop-entry-init : goal.loop-entry-init
loop-entry-init c = record { marks = λ k low. or_false _; len = refl }

pub loop-entry-preserved : goal.loop-entry-preserved
loop-entry-preserved c = record {
  marks = marked_more (rekeys_place c.args.cpu) c.args.entries.now c.loop-entry.entry-index _ _ _ _
      c.loop-entry-test.true c.loop-entry.invariant.len c.loop-entry.invariant.marks c.mark_rekey.ensures.marks;
  len = c.mark_rekey.ensures.len ∙ c.loop-entry.invariant.len;
}

pub returns-clause-marks : goal.returns-clause-marks
returns-clause-marks c =
    marked_all (rekeys_place c.args.cpu) c.args.entries.now c.loop-entry.entry-index _ _ c.loop-entry-test.false
    c.loop-entry.invariant.marks
