use Rattle.std.proofs.Common.{refl, ap, ◌∙◌, ℕ, List}
use Rattle.std.specs.Prelude.{Bool, ◌||◌}
use Rattle.std.specs.Global.{Vec}
use Rattle.std.specs.List.{list_any}
use Rattle.key_names.specs.declared.entries.VEntry.{VEntry}
use Rattle.key_names.specs.Keys.Uses.{rekeys_place}
use Rattle.audit_keys.specs.Fills.{rekeys_of}
use Rattle.audit_keys.proofs.Marks.{marked_more, marked_all, or_false}
use Rattle.audit_keys.proofs.listed.mark_callers.Goals as goal

-- whether an entry of one of the caller's states takes the read at place `k` of CPU `cpu` as its key
abbrev caller_takes : ℕ → ℕ → Vec (Vec VEntry) → Bool
caller_takes cpu k states = list_any (λ es. list_any (rekeys_place cpu k) es.items) states.items

pub loop-states-init : goal.loop-states-init
loop-states-init c = record { marks = λ k low. or_false _; len = refl }

pub loop-states-preserved : goal.loop-states-preserved
loop-states-preserved c = record {
  marks = marked_more (caller_takes c.args.cpu) c.args.callers.now c.loop-states.states-index c.states-item.result _ _ _
      c.loop-states-test.true c.loop-states.invariant.len c.loop-states.invariant.marks
      (λ k low. c.mark_states.ensures.marks k low
      ∙ ap (λ (ess : List (Vec VEntry)). rekeys_of c.loop-states.places k
      || list_any (λ (es : Vec VEntry). list_any (rekeys_place c.args.cpu k) es.items) ess)
      (c.deref.ensures.value ∙ ap (λ (ess : Vec (Vec VEntry)). ess.items) c.states-item.is));
  len = c.mark_states.ensures.len ∙ c.loop-states.invariant.len;
}

pub returns-clause-marks : goal.returns-clause-marks
returns-clause-marks c =
    marked_all (caller_takes c.args.cpu) c.args.callers.now c.loop-states.states-index _ _ c.loop-states-test.false
    c.loop-states.invariant.marks
