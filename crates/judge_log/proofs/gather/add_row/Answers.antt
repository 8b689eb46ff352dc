use Rattle.std.proofs.Common.{◌<◌, ◌++◌, [], ◌∷◌, List, length, refl, ap, ◌∙◌, arith}
use Rattle.judge_log.specs.declared.inferred.InferredCpu.{InferredCpu}
use Rattle.judge_log.proofs.Lanes.{lane_is}
use Rattle.judge_log.proofs.Tables.BareRows.{cpu_longer, longer_at, bare_row}
use Rattle.judge_log.proofs.gather.add_row.Goals as goal

pub returns-in_ok-push-in-Cpu : goal.returns-in_ok-push-in-Cpu
returns-in_ok-push-in-Cpu c =
    let inferred = c.args.inferred.now in
    let within : c.in-Cpu.cpu < inferred.cpus.len = c.in-Some.ensures.variant.0 refl in
    let low : c.in-Cpu.cpu < length inferred.cpus.items = omega (arith, inferred.cpus.ok) in
    let lane = lane_is inferred.cpus.items c.in-Cpu.cpu c.in-Some.rows.now low c.in-Some.ensures.value in
    longer_at c.args.lane _ _ _ c.in-Cpu.is
    (cpu_longer inferred.pool.items inferred.base.items inferred.cpus.items c.in-Cpu.cpu c.push-in-Cpu.new.self bare_row low
    (c.in_ok-push-in-Cpu.ensures.items ∙ ap (λ (xs : List InferredCpu). xs ++ bare_row ∷ []) lane))
