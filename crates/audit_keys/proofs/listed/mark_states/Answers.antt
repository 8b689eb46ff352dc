use Rattle.std.proofs.Common.{refl, ap, ◌∙◌}
use Rattle.std.specs.Prelude.{◌||◌}
use Rattle.std.specs.Global.{Vec}
use Rattle.std.specs.List.{list_any}
use Rattle.key_names.specs.declared.entries.VEntry.{VEntry}
use Rattle.key_names.specs.Keys.Uses.{rekeys_place}
use Rattle.audit_keys.specs.Fills.{rekeys_of}
use Rattle.audit_keys.proofs.Marks.{marked_more, marked_all, or_false}
use Rattle.audit_keys.proofs.listed.mark_states.Goals as goal

pub loop-entries-init : goal.loop-entries-init
loop-entries-init c = record { marks = λ k low. or_false _; len = refl }

pub loop-entries-preserved : goal.loop-entries-preserved
loop-entries-preserved c = record {
  marks = marked_more (λ k (es : Vec VEntry). list_any (rekeys_place c.args.cpu k) es.items) c.args.states.now
      c.loop-entries.entries-index c.entries-item.result _ _ _ c.loop-entries-test.true c.loop-entries.invariant.len
      c.loop-entries.invariant.marks
      (λ k low. c.mark_rekeys.ensures.marks k low
      ∙ ap (λ es. rekeys_of c.loop-entries.places k || list_any (rekeys_place c.args.cpu k) es)
      (c.deref.ensures.value ∙ ap (λ (es : Vec VEntry). es.items) c.entries-item.is));
  len = c.mark_rekeys.ensures.len ∙ c.loop-entries.invariant.len;
}

pub returns-clause-marks : goal.returns-clause-marks
returns-clause-marks c =
    marked_all (λ k (es : Vec VEntry). list_any (rekeys_place c.args.cpu k) es.items) c.args.states.now
    c.loop-entries.entries-index _ _ c.loop-entries-test.false c.loop-entries.invariant.marks
