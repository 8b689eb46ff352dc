use Rattle.std.proofs.Common.{rules, arith, refl, ap, ◌∙◌, ℕ}
use Rattle.atomic_table.specs.Table.{rest}
use Rattle.lane_table.specs.declared.view.View.{View}
use Rattle.lane_table.specs.Steps.{Seated, after, filled}
use Rattle.lane_table.specs.Calls.{visit_by}
use Rattle.lane_table.proofs.Rule.Putting.{puts}
use Rattle.lane_table.proofs.Calls.Telling.{after_pass}
use Rattle.lane_table.proofs.lanes.Lanes.decide.Goals as goal

pub store-requires : goal.store-requires
store-requires g c = (
  search rules,
  omega arith,
  rw c.serving_word.ensures (puts _ _ _ c.args.lane c.args.ticket c.args.pass.now.seat.me _ c.args.content c.put_content.ensures.seat
      (let p = c.requires.pass in omega arith) (let p = c.requires.pass in omega arith) c.requires.lane.1 _ _
      c.requires.visit c.requires.above c.requires.later c.requires.kind c.requires.fits c.requires.names
      c.requires.replays),
)

pub returns-clause-seat : goal.returns-clause-seat
returns-clause-seat g c = let i : ℕ = c.args.lane in
    (c.store.ensures.2 i c.serving_word.ensures).0 ∙ (λ k. (
      after i (filled i (c.requires.visit k) (c.put_content.ensures.seat k).0)
          (c.put_content.ensures.seat k).0,
      rest (c.put_content.ensures.seat k).1,
    ))

pub returns-clause-consistent : goal.returns-clause-consistent
returns-clause-consistent g c = (c.store.ensures.2 c.args.lane c.serving_word.ensures).1

pub returns-clause-pass : goal.returns-clause-pass
returns-clause-pass g c = let i : ℕ = c.args.lane in let v : View = c.args.pass.now.seat.me.0 in
    after_pass i (filled i (visit_by c.args._who c.args.content.stamp (g.E.Entry.entry c.args._entry)) v)
    c.args.self.now c.args.pass.now record {
      seat = c.store.new.seat;
      stamp = c.args.content.stamp;
      caller = c.put_content.new.pass.caller;
    } c.requires.pass
    (ap (λ (m : Seated). m.0) ((c.store.ensures.2 i c.serving_word.ensures).0
    ∙ (λ k. (
      after i (filled i (c.requires.visit k) (c.put_content.ensures.seat k).0) (c.put_content.ensures.seat k).0,
      rest (c.put_content.ensures.seat k).1,
    )))) (search rules) refl c.put_content.ensures.pass.caller
