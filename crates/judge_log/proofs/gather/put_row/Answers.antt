use Rattle.std.proofs.Common.{◌≡◌, ◌<◌, ◌≤◌, length, refl, arith}
use Rattle.judge_log.proofs.Lanes.{lane_is, items_count}
use Rattle.judge_log.proofs.Tables.BareRows.{items_of, cpu_row_put, put_as, not_low}
use Rattle.judge_log.proofs.Tables.OneRow.{absent_put}
use Rattle.judge_log.proofs.gather.put_row.Goals as goal

pub returns-in-Some : goal.returns-in-Some
returns-in-Some c =
    let inferred = c.args.inferred.now in
    let within : c.in-Cpu.cpu < inferred.cpus.len = c.in-Some.ensures.variant.0 refl in
    let low : c.in-Cpu.cpu < length inferred.cpus.items = omega (arith, inferred.cpus.ok) in
    let lane = lane_is inferred.cpus.items c.in-Cpu.cpu c.in-Some.lane.now low c.in-Some.ensures.value in
    cpu_row_put inferred.pool.items inferred.base.items inferred.cpus.items c.in-Cpu.cpu c.put-in-Some.new.rows _ c.in-Visit.mark low
    c.in-Visit.is c.in-Cpu.is
    (put_as c.in-Some.lane.now.items _ c.put-in-Some.new.rows.items c.in-Visit.mark.place c.cpu_row.result _ lane
    c.cpu_row.ensures
    (record { at = c.put-in-Some.ensures.at; others = c.put-in-Some.ensures.others; long = c.put-in-Some.ensures.long }))

pub returns-in_default-get_mut : goal.returns-in_default-get_mut
returns-in_default-get_mut c =
    let inferred = c.args.inferred.now in
    let high : inferred.cpus.len ≤ c.in-Cpu.cpu =
    not_low c.in-Cpu.cpu inferred.cpus.len c.in_default-get_mut.ensures.variant.1 in
    let count : length (items_of inferred.cpus.items) ≡ length inferred.cpus.items = items_count inferred.cpus.items in
    absent_put _ c.in-Visit.mark _ c.in-Cpu.cpu c.in-Visit.is c.in-Cpu.is (omega (arith, inferred.cpus.ok))
