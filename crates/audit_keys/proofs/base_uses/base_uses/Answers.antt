use Rattle.std.proofs.Common.{ℕ, refl}
use Rattle.key_names.specs.Lanes.BaseList.{base_start, base_step}
use Rattle.audit_keys.specs.UsedAt.{base_used_at}
use Rattle.key_names.proofs.Lists.ListFacts.{image_at}
use Rattle.judge_log.proofs.Loops.{found}
use Rattle.judge_log.specs.declared.kept.KeptBase.{KeptBase}
use Rattle.audit_keys.specs.KeptEntries.{base_entries}
use Rattle.audit_keys.proofs.BaseKeys.{BaseConforms, base_after_entry}
use Rattle.audit_keys.proofs.UsesMore.{so_far_more, before}
use Rattle.audit_keys.proofs.base_uses.base_uses.Goals as goal

pub loop-place-preserved : goal.loop-place-preserved
loop-place-preserved c =
    let es = base_entries c.args.base.now in
    let place : ℕ = c.loop-place.place in
    let conforms = c.loop-place.invariant.conforms in
    so_far_more base_used_at base_step base_start BaseConforms es place _ c.loop-place.key c.key_after-key.result
    c.loop-place.uses.items c.push_uses.new.uses.items
    (image_at (λ (k : KeptBase). k.entry) c.args.base.now place _
    (found c.args.base.now c.args.base.now place _ refl c.loop-place-test.true))
    c.loop-place.invariant
    (c.in_ok-push_uses.ensures (before base_used_at base_step base_start BaseConforms es place) conforms.place_is conforms.key_is)
    (base_after_entry (before base_used_at base_step base_start BaseConforms es place) _ place c.loop-place.key
    c.key_after-key.result conforms c.key_after-key.ensures)
