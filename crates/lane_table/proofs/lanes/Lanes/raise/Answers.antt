use Rattle.std.proofs.Common.{rules, arith, ap, sym, length, ◌∙◌, ℕ}
use Rattle.lane_table.specs.WorldRule.{at, known_of}
use Rattle.lane_table.proofs.Lists.LawfulLists.{base_generation}
use Rattle.lane_table.proofs.Lists.VisitLists.{raises_few}
use Rattle.lane_table.proofs.Rule.Looking.{raises_generation}
use Rattle.lane_table.proofs.Calls.Telling.{raised_is}
use Rattle.lane_table.proofs.lanes.Lanes.raise.Goals as goal

pub store-requires : goal.store-requires
store-requires c = let p = c.requires.pass in let h = c.requires.held in let v = c.args.pass.now.seat.me.0 in let e =
    base_generation (known_of v 1) in let n = c.requires.next in let few = raises_few (known_of v 1) in let early =
    c.args._held.now.turn.early in
    let place = h.place ∙ ap (λ (z : ℕ). length (known_of v z)) c.requires.base in (
      search rules,
      omega arith,
      raises_generation _ _ _ c.args._held.now.turn.ticket _ _ (omega arith)
          (ap (λ (z : ℕ). (at z v).stage) (sym c.requires.base) ∙ h.stage) c.requires.once (omega arith) (omega arith),
    )

pub returns-clause-raised : goal.returns-clause-raised
returns-clause-raised c = let t = c.store.ensures.2 in
    raised_is c.args.g c.args.pass.now.seat.me c.store.new.seat.me
    (let p = c.requires.pass in let few = c.args.self.now.few in omega arith) t.0 t.1
