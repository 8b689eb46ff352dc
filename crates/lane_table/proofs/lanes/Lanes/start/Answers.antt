use Rattle.std.proofs.Common.{◌≡◌, ◌+◌, [], arith, rules, subst, sym}
use Rattle.lane_table.specs.RuleLaws.{NumbersAre}
use Rattle.lane_table.specs.Steps.{Seated, first_view}
use Rattle.lane_table.specs.Calls.{plan_of}
use Rattle.lane_table.proofs.Rule.Ending.{numbers_begin}
use Rattle.lane_table.proofs.Rule.Starting.{starts_with}
use Rattle.lane_table.proofs.lanes.Lanes.start.Goals as goal

pub new-requires : goal.new-requires
new-requires c = starts_with c.args.first _ (omega arith) c.as_slice.result.now c.in_ok-slots.slots.items
    (search rules) c.in_ok-slots.ensures

pub returns-in-Ok-clause-numbers : goal.returns-in-Ok-clause-numbers
returns-in-Ok-clause-numbers c =
    let is : c.in-Ok.seat.me ≡ (first_view (plan_of (c.args.cpus + 2) c.args.first), []) = search rules in
    let P : Seated → Type 0 = λ m. NumbersAre c.args.first m.0 in
    subst P (sym is) (numbers_begin (plan_of (c.args.cpus + 2) c.args.first))
