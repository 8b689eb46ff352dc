use Rattle.std.proofs.Common.{◌≡◌, ◌<◌, [], Some, get_or, length, ap, arith}
use Rattle.std.specs.Prelude.{slice_get}
use Rattle.std.proofs.lemmas.List.Sums.{sum_by_more}
use Rattle.std.proofs.lemmas.Option.{slice_get-get_or}
use Rattle.rng_tool.proofs.load.event_count.Goals as goal

pub loop-caller-preserved : goal.loop-caller-preserved
loop-caller-preserved c =
    let callers = c.args.script.now.callers in
    let n = c.loop-caller.caller in
    let lt : n < length callers = omega (arith, c.loop-caller-test.true, c.callers-caller-end.ensures) in
    let here : slice_get callers n ≡ Some (get_or callers n []) = slice_get-get_or callers n [] lt in
    let events : get_or callers n [] ≡ c.events.result.now = cc (here, c.events.ensures) in
    omega (arith, c.loop-caller.invariant, sum_by_more length callers n [] lt, ap length events)
