use Rattle.std.proofs.Common.{◌≡◌, ◌+◌, ◌++◌, ◌∷◌, [], ℕ, suc, Some, List, sym, ap, take, ◌∙◌, arith}
use Rattle.std.specs.Prelude.{map}
use Rattle.std.specs.Global.{Vec}
use Rattle.std.proofs.lemmas.List.{map-append}
use Rattle.judge_log.proofs.Loops.{found}
use Rattle.judge_log.specs.declared.kept.KeptCpu.{KeptCpu}
use Rattle.key_names.specs.Lanes.Book.{entries_of}
use Rattle.audit_keys.specs.KeptEntries.{cpu_entries}
use Rattle.audit_keys.specs.Moments.{visits_to}
use Rattle.audit_keys.specs.Listed.{cpu_lists}
use Rattle.audit_keys.specs.Cut.{moment_lists}
use Rattle.audit_keys.proofs.Cuts.{moments_at, lane_more, visits_kept}
use Rattle.audit_keys.proofs.cut.cpus_to.Goals as goal

pub loop-cpu-preserved : goal.loop-cpu-preserved
loop-cpu-preserved c = λ book h.
    let cpu : ℕ = c.loop-cpu.cpu in
    let lanes = c.args.kept.now.cpus.items in
    let given = c.deref-lane-items.result.now in
    let same = c.deref-lane-items.ensures.value in
    let cut : Vec KeptCpu = c.in_ok-list_to.field-0 in
    ap cpu_lists c.in_ok-push.ensures.items
    ∙ map-append (λ (lane : Vec KeptCpu). cpu_entries lane.items) c.loop-cpu.cpus.items (cut ∷ [])
    ∙ ap (λ (ess : List _). ess ++ cpu_entries cut.items ∷ []) (c.loop-cpu.invariant book h)
    ∙ sym (ap (λ n. map entries_of (map (visits_to c.args.stamp) (take n book.cpus)))
    (let next : cpu + 1 ≡ suc cpu = omega arith in next)
    ∙ lane_more c.args.stamp lanes (moment_lists c.args.moments.now.cpus.items) book.cpus cpu c.lane-item.result cut
    c.of_cpu.result.now h.cpus h.cpu_stamps
    (found given lanes cpu c.lane-item.result same c.loop-cpu-test.true ∙ ap Some (sym c.lane-item.is))
    (c.of_cpu.ensures ∙ moments_at c.args.moments.now.cpus.items cpu)
    (λ visits e s. ap (λ (ks : List KeptCpu). cpu_entries ks) c.in_ok-list_to.ensures
    ∙ visits_kept (λ (k : KeptCpu). k.entry) c.args.stamp c.deref.result.now c.of_cpu.result.now visits
    (ap (λ (ks : List KeptCpu). cpu_entries ks) c.deref.ensures.value ∙ e) s))
