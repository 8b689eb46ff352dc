use Rattle.std.proofs.Common.{ℕ, ◌+◌, List, length, take, ap, sym, subst, ◌∙◌}
use Rattle.std.specs.Prelude.{All}
use Rattle.std.specs.Global.{Vec}
use Rattle.std.proofs.lemmas.List.{length_push}
use Rattle.std.proofs.lemmas.List.Elements.{All-push, All-take, All-get_or}
use Rattle.judge_log.specs.Tables.{CpuIsWide}
use Rattle.judge_log.specs.declared.inferred.InferredCpu.{InferredCpu}
use Rattle.transcript_check.specs.Rows.{AreWide}
use Rattle.transcript_check.proofs.other_entries.cut_lanes.Goals as goal

pub loop-cpu-preserved : goal.loop-cpu-preserved
loop-cpu-preserved c =
    let Wide : List InferredCpu → Type 0 = All (λ (t : InferredCpu). CpuIsWide t.entry) in
    let Is : Vec InferredCpu → Type 0 = λ lane. Wide lane.items in
    let n : ℕ = c.loop-cpu.cpu in
    let lane : Is c.index-lanes-cpu.result =
    subst Is (sym c.index-lanes-cpu.is)
    (All-get_or Is c.args.lanes.now n c.index-lanes-cpu.result c.loop-cpu-test.true c.requires) in
    let one = c.in_ok-front.ensures in
    let front : Wide c.in_ok-front.field-0.items =
    subst Wide (sym (one.1 ∙ ap (take one.0) c.deref.ensures.value))
    (All-take (λ (t : InferredCpu). CpuIsWide t.entry) one.0 c.index-lanes-cpu.result.items lane) in
    record {
      long = ap length c.in_ok-push.ensures.items ∙ length_push c.loop-cpu.cut.items c.in_ok-front.field-0
          ∙ ap (λ m. m + 1) c.loop-cpu.invariant.long;
      wide = subst AreWide (sym c.in_ok-push.ensures.items)
          (All-push Is c.loop-cpu.cut.items c.in_ok-front.field-0 c.loop-cpu.invariant.wide front);
    }
