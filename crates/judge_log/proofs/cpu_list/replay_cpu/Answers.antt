use Rattle.std.proofs.Common.{◌≡◌, ◌≤◌, ◌+◌, ◌++◌, [], ◌∷◌, length, refl, ap, ◌∙◌, arith}
use Rattle.std.proofs.lemmas.Bool.{false≢true}
use Rattle.key_names.specs.declared.entries.CpuEntry.{CpuEntry}
use Rattle.key_names.specs.Lanes.Book.{list_at, cpu_list}
use Rattle.cpu_gen.specs.CpuValue.{CpuValue, start}
use Rattle.judge_log.specs.declared.kept.BytesSource.{BytesSource}
use Rattle.judge_log.specs.declared.inferred.InferredCpu.{InferredCpu}
use Rattle.judge_log.specs.Closed.{closed}
use Rattle.judge_log.specs.CpuLane.{no_fills, cpu_entered}
use Rattle.judge_log.specs.Tables.{tables_of, CpuIsWide}
use Rattle.judge_log.proofs.CpuSteps.{CpuMay, CpuKeeps, keys_kept, cpu_begin, cpu_next, cpu_stops_at_refill, cpu_stops, cpu_more}
use Rattle.judge_log.proofs.Filling.{closed_fills}
use Rattle.judge_log.proofs.Lanes.{lane_is, element_at}
use Rattle.judge_log.proofs.Loops.{found, after_all}
use Rattle.judge_log.proofs.cpu_list.replay_cpu.Goals as goal

pub loop-place-init : goal.loop-place-init
loop-place-init c = record {
  items = c.deref-one-items.ensures.value
      ∙ lane_is c.args.inferred.now.cpus.items c.args.cpu c.index-rows.result.now c.requires.cpu c.index-rows.ensures;
  following = cpu_next (closed (tables_of c.args.inferred.now)) c.args.cpu 0 start no_fills [] c.start.result c.none.result
      c.in_ok-kept.kept.items (cpu_begin (closed (tables_of c.args.inferred.now)) c.args.cpu) c.start.ensures c.none.ensures
      c.in_ok-kept.ensures.items;
}

pub handed-requires : goal.handed-requires
handed-requires c = keys_kept (closed (tables_of c.args.inferred.now)) c.args.base.now c.requires.base

pub returns-in_default-clause-none : goal.returns-in_default-clause-none
returns-in_default-clause-none c = λ all. absurd
    (cpu_stops_at_refill (tables_of c.args.inferred.now) c.args.base.now c.requires.base c.args.cpu c.loop-place.place _
    (found c.deref-one-items.result.now (list_at (tables_of c.args.inferred.now).cpus c.args.cpu) c.loop-place.place _
    c.loop-place.invariant.items c.loop-place-test.true)
    (element_at (λ (t : InferredCpu). CpuIsWide t.entry) c.deref-one-items.result.now
    (list_at (tables_of c.args.inferred.now).cpus c.args.cpu) c.loop-place.place _ c.loop-place.invariant.items
    c.loop-place-test.true c.requires.widths)
    c.loop-place.lane.cpu c.loop-place.lane.fills c.loop-place.kept.items c.loop-place.invariant.following
    c.close-entry.result c.close-entry.ensures c.in_default.ensures all)

pub returns-then-not-fits-clause-none : goal.returns-then-not-fits-clause-none
returns-then-not-fits-clause-none c = λ all. absurd
    (cpu_stops (tables_of c.args.inferred.now) c.args.base.now c.requires.base c.args.cpu c.loop-place.place _
    (found c.deref-one-items.result.now (list_at (tables_of c.args.inferred.now).cpus c.args.cpu) c.loop-place.place _
    c.loop-place.invariant.items c.loop-place-test.true)
    (element_at (λ (t : InferredCpu). CpuIsWide t.entry) c.deref-one-items.result.now
    (list_at (tables_of c.args.inferred.now).cpus c.args.cpu) c.loop-place.place _ c.loop-place.invariant.items
    c.loop-place-test.true c.requires.widths)
    c.loop-place.lane.cpu c.loop-place.lane.fills c.loop-place.kept.items c.loop-place.invariant.following
    c.close-entry.result c.close-entry.ensures (λ fits. absurd (false≢true (c.if-not-fits.ensures.1 fits))) all)

pub loop-place-preserved : goal.loop-place-preserved
loop-place-preserved c = record {
  items = c.loop-place.invariant.items;
  following = (let entry : CpuEntry = c.close-entry.result in
      let more = cpu_more (tables_of c.args.inferred.now) c.args.base.now c.requires.base c.args.cpu c.loop-place.place _
      (found c.deref-one-items.result.now (list_at (tables_of c.args.inferred.now).cpus c.args.cpu) c.loop-place.place _
      c.loop-place.invariant.items c.loop-place-test.true)
      (element_at (λ (t : InferredCpu). CpuIsWide t.entry) c.deref-one-items.result.now
      (list_at (tables_of c.args.inferred.now).cpus c.args.cpu) c.loop-place.place _ c.loop-place.invariant.items
      c.loop-place-test.true c.requires.widths)
      c.loop-place.lane.cpu c.loop-place.lane.fills c.loop-place.kept.items c.loop-place.invariant.following entry
      c.close-entry.ensures c.in-Some.handed c.in-Some.ensures.0 c.in-Some.ensures.1
      (c.if-not-fits.ensures.0 refl) in
      cpu_next (closed (tables_of c.args.inferred.now)) c.args.cpu (c.loop-place.place + 1) _ _ _
      c.enter-source.new.self.cpu c.enter-source.new.self.fills c.push.new.self.items more c.enter-source.ensures.cpu
      c.enter-source.ensures.fills
      (c.in_ok-push.ensures.items
      ∙ ap
      (λ g. c.loop-place.kept.items ++ record { entry = entry; generation = g; source = c.enter-source.result } ∷ [])
      (c.generation.ensures ∙ ap (λ (x : CpuValue). x.generation) c.enter-source.ensures.cpu)
      ∙ ap
      (λ (s : BytesSource). c.loop-place.kept.items ++ record {
        entry = entry;
        generation = (cpu_entered entry c.in-Some.handed c.loop-place.lane.cpu).generation;
        source = s;
      } ∷ [])
      c.enter-source.ensures.source));
}

pub returns-clause-some : goal.returns-clause-some
returns-clause-some c =
    let counts : length (cpu_list (closed (tables_of c.args.inferred.now)) c.args.cpu) ≡
    length (list_at (tables_of c.args.inferred.now).cpus c.args.cpu) =
    (closed_fills (tables_of c.args.inferred.now)).cpu_count c.args.cpu in
    let same : length c.deref-one-items.result.now ≡ length (list_at (tables_of c.args.inferred.now).cpus c.args.cpu) =
    ap length c.loop-place.invariant.items in
    let up : c.loop-place.place ≤ length c.deref-one-items.result.now = c.loop-place.auto.place-end in
    let down : length c.deref-one-items.result.now ≤ c.loop-place.place = c.loop-place-test.false in
    after_all (CpuMay (closed (tables_of c.args.inferred.now)) c.args.cpu)
    (CpuKeeps (closed (tables_of c.args.inferred.now)) c.args.cpu)
    (cpu_list (closed (tables_of c.args.inferred.now)) c.args.cpu) c.loop-place.place c.loop-place.kept.items (omega arith)
    c.loop-place.invariant.following.following
