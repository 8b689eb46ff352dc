use Rattle.std.proofs.Common.{map}
use Rattle.key_names.specs.Callers.History.{steps_at_point}
use Rattle.judge_lines.specs.Called.{seen_act}
use Rattle.judge_lines.proofs.Carried.{gone_on}
use Rattle.judge_lines.proofs.along.OrderWalk.+go_at_point.Goals.{then-is, else-is}
use Rattle.judge_lines.proofs.along.OrderWalk.+go_at_point.Goals as goal

pub returns : goal.returns
returns g t c = rw c.in-Some.ensures.cases.0 (elim c.if-is.branch [
  | then-is w ↦ rw (← c.is.ensures, w.if-is.true)
      (gone_on (g.C.Carry.after c.args.carry.now) (g.C.Carry.MayFollow c.args.carry.now) c.args.self.now w.go.new.self
      c.go_at_point.new.self c.in-Some.act.now.line.steps.now
      (steps_at_point (map seen_act c.in-Some.rest.now) c.args.point) w.go.ensures
      (rw w.self-is at c.go_at_point.ensures))
  | else-is w ↦ rw (← c.is.ensures, w.if-is.false, ← w.self-is) c.go_at_point.ensures
])
