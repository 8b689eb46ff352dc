use Rattle.std.proofs.Common.{ℕ, refl, sym}
use Rattle.std.proofs.lemmas.List.{length-map}
use Rattle.std.specs.List.{fold}
use Rattle.std.specs.Prelude.{take}
use Rattle.key_names.specs.Lanes.BaseList.{BaseState, base_start, base_step}
use Rattle.key_names.proofs.Lists.ListFacts.{image_at}
use Rattle.judge_log.proofs.Loops.{found}
use Rattle.judge_log.specs.declared.kept.KeptBase.{KeptBase}
use Rattle.audit_keys.specs.KeptEntries.{base_entries}
use Rattle.audit_keys.proofs.BaseKeys.{BaseConforms, base_after_entry}
use Rattle.audit_keys.proofs.Conforms.{conforms_more, conforms_all}
use Rattle.audit_keys.proofs.batches.base_end.Goals as goal

pub loop-place-preserved : goal.loop-place-preserved
loop-place-preserved c =
    let es = base_entries c.args.base.now in
    let place : ℕ = c.loop-place.place in
    let s : BaseState = fold base_step base_start (take place es) in
    conforms_more base_step base_start BaseConforms es place _ c.key_after-key.result
    (image_at (λ (k : KeptBase). k.entry) c.args.base.now place _
    (found c.args.base.now c.args.base.now place _ refl c.loop-place-test.true))
    (base_after_entry s _ place c.loop-place.key c.key_after-key.result c.loop-place.invariant c.key_after-key.ensures)

pub returns : goal.returns
returns c =
    let es = base_entries c.args.base.now in
    sym (conforms_all base_step base_start BaseConforms es c.loop-place.place c.loop-place.key
    (rw length-map c.loop-place-test.false) c.loop-place.invariant).key_is
