use Rattle.std.proofs.Common.{List, ◌++◌}
use Rattle.key_names.specs.declared.names.Step.{Step}
use Rattle.judge_lines.specs.Along.{HasGone}
use Rattle.judge_lines.specs.declared.along.OrderWalk.{OrderWalk}
use Rattle.judge_lines.proofs.Carried.{gone_on}
use Rattle.judge_lines.proofs.along.OrderWalk.go_vread.Goals as goal

pub returns : goal.returns
returns g c =
    rw (← c.cut.ensures.looks, ← c.cut.ensures.rekey, ← c.cut.ensures.rest)
    (then (then (then (then (then (then c.go.ensures c.go_at_point.ensures) c.go_at_point-2.ensures) c.go-2.ensures)
    c.go_at_point-3.ensures) c.go_at_point-4.ensures) c.go-3.ensures)
  where
    then : {walk middle on : OrderWalk} {xs ys : List Step} →
        HasGone (g.C.Carry.after c.args.carry.now) (g.C.Carry.MayFollow c.args.carry.now) walk xs middle →
        HasGone (g.C.Carry.after c.args.carry.now) (g.C.Carry.MayFollow c.args.carry.now) middle ys on →
        HasGone (g.C.Carry.after c.args.carry.now) (g.C.Carry.MayFollow c.args.carry.now) walk (xs ++ ys) on
    then {walk} {middle} {on} {xs} {ys} a b = gone_on (g.C.Carry.after c.args.carry.now)
        (g.C.Carry.MayFollow c.args.carry.now) walk middle on xs ys a b
