use Rattle.std.proofs.Common.{rules, arith, refl, sym, ap, subst, ◌∙◌, ℕ}
use Rattle.lane_table.specs.WorldRule.{at}
use Rattle.lane_table.specs.Steps.{Got, Seated}
use Rattle.lane_table.proofs.Rule.Serving.{serves}
use Rattle.lane_table.proofs.Calls.Telling.{got_pass}
use Rattle.lane_table.proofs.lanes.Lanes.wait_for.Goals as goal

pub load-requires : goal.load-requires
load-requires g c = (
  search rules,
  omega arith,
  rw c.serving_word.ensures (serves _ _ _ c.args.lane c.args.ticket _ (search rules) (search rules) (search rules)),
)

pub loop-preserved : goal.loop-preserved
loop-preserved g c = let i : ℕ = c.args.lane in let t : ℕ = c.args.ticket in let same = c.loop.invariant in (
  c.load.ensures.0 ∙ same.0,
  (c.load.ensures.2 i c.serving_word.ensures t
      (ap (λ (m : Seated). (at i m.0).stage) same.1 ∙ c.requires.lane.1)).3 c.if-load-ticket.false ∙ same.1,
  same.2,
  same.3,
)

pub returns-then-load-ticket-clause-got : goal.returns-then-load-ticket-clause-got
returns-then-load-ticket-clause-got g c = let i : ℕ = c.args.lane in let t : ℕ = c.args.ticket in let same =
    c.loop.invariant.1 in
    subst (λ (m : Seated). Got i t m c.load.new.seat.me) same
    ((c.load.ensures.2 i c.serving_word.ensures t (ap (λ (m : Seated). (at i m.0).stage) same ∙ c.requires.lane.1)).2
    c.if-load-ticket.true)

pub returns-then-load-ticket-clause-pass : goal.returns-then-load-ticket-clause-pass
returns-then-load-ticket-clause-pass g c = let i : ℕ = c.args.lane in let t : ℕ = c.args.ticket in let same =
    c.loop.invariant in
    got_pass ((c.load.ensures.2 i c.serving_word.ensures t (ap (λ (m : Seated). (at i m.0).stage) same.1 ∙ c.requires.lane.1)).2
    c.if-load-ticket.true) c.args.self.now c.args.pass.now
    record { seat = c.load.new.seat; stamp = c.loop.pass.stamp; caller = c.loop.pass.caller }
    c.requires.pass (sym same.1) refl (c.load.ensures.0 ∙ same.0) same.2 same.3
