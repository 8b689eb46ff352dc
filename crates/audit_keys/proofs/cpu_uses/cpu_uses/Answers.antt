use Rattle.std.proofs.Common.{ℕ, refl, sym}
use Rattle.key_names.specs.Lanes.CpuList.{CpuState, cpu_start, cpu_step}
use Rattle.audit_keys.specs.UsedAt.{cpu_used_at}
use Rattle.key_names.proofs.Lists.ListFacts.{image_at}
use Rattle.judge_log.proofs.Loops.{found}
use Rattle.judge_log.specs.declared.kept.KeptCpu.{KeptCpu}
use Rattle.audit_keys.specs.Fills.{CpuConforms, rekeys_of}
use Rattle.audit_keys.specs.KeptEntries.{cpu_entries}
use Rattle.audit_keys.proofs.UsesMore.{so_far_more, before}
use Rattle.audit_keys.proofs.cpu_uses.cpu_uses.Goals as goal

pub loop-place-preserved : goal.loop-place-preserved
loop-place-preserved c = λ base.
    let es = cpu_entries c.args.lane.now in
    let place : ℕ = c.loop-place.place in
    let step = cpu_step base c.args.cpu in
    let at = cpu_used_at c.args.cpu (rekeys_of c.args.rekeyed.now) in
    let h = c.loop-place.invariant base in
    let s : CpuState = before at step cpu_start CpuConforms es place in
    so_far_more at step cpu_start CpuConforms es place _ c.loop-place.keys c.step.new.self
    c.loop-place.uses.items c.push_uses.new.uses.items
    (image_at (λ (k : KeptCpu). k.entry) c.args.lane.now place _
    (found c.args.lane.now c.args.lane.now place _ refl c.loop-place-test.true))
    h
    (c.in_ok-push_uses.ensures s (rekeys_of c.args.rekeyed.now) h.conforms (sym c.rekeys_at-rekeys.ensures))
    (c.in_ok-step.ensures.after s base h.conforms)
