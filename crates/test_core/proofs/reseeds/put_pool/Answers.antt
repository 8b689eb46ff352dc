use Rattle.std.proofs.Common.{arith, ℕ, [], ◌∷◌, Some, None, length, replicate, inr, refl, sym, ap, subst, ◌∙◌}
use Rattle.atomic_table.specs.Table.{rest}
use Rattle.key_names.specs.declared.entries.PoolEntry.TheVariants.{Extract}
use Rattle.lane_table.specs.declared.view.LaneView.{LaneView}
use Rattle.lane_table.specs.declared.view.LaneEntry.TheVariants.{Pool}
use Rattle.lane_table.specs.Meaning.{made_of, nothing, replay, ValueRepresents}
use Rattle.lane_table.specs.WorldRule.{at, known_of}
use Rattle.lane_table.specs.Calls.{view}
use Rattle.lane_table.specs.Hands.{HoldsLanes, hand, model}
use Rattle.lane_table.proofs.Calls.HandLemmas.{has_put_naming}
use Rattle.test_core.proofs.reseeds.put_pool.Goals as goal

pub put-requires-clause-entry : goal.put-requires-clause-entry
put-requires-clause-entry c = let has = c.requires.has in let mine = has.held.0 in let other = has.held.2.0 in let v =
    view c.args.pass.now in let here = c.requires.at.0 in let there = c.requires.at.1 in let f =
    c.args.lanes.now.few in record {
      holds = record {
        near = omega arith;
        stage = mine.stage;
        last = has.out ∙ (λ q. (c.args.pool.turn.lane, None) ∷ rest (sym has.out q));
        place = mine.next;
        stamp = mine.last;
      };
      kind = here;
      makes = subst (λ (k : ℕ × ℕ). ValueRepresents k.0 c.args.pool.state
          (made_of (model c.args.pass.now k.0) (Pool (Extract (replicate 32 0) k.1)) nothing))
          (λ q. (sym here q, sym c.place.ensures q)) c.requires.makes;
      fits = tt;
      names = record {
        ahead = inr (
          1,
          c.place.result,
          refl,
          record {
            above = omega arith;
            near = (let s = has.pass.sized in omega arith);
            parent = sym here;
            next = c.place.ensures ∙ other.next ∙ ap (λ (l : ℕ). length (known_of v l)) there;
            holding = (c.args.base.now.turn.ticket, ap (λ (l : ℕ). (at l v).stage) (sym there) ∙ other.stage);
            free = ap (λ (l : ℕ). (at l v).owes) (sym there) ∙ other.owed;
          },
        );
        following = sym mine.owed;
        raise = λ one. absurd (omega arith);
      };
    }

pub returns-clause-has : goal.returns-clause-has
returns-clause-has c = let outer = c.args.base.now.turn in
    subst (λ (p : ℕ). HoldsLanes c.args.lanes.now 0 (hand outer (Some p) 0 ∷ []) c.put.new.pass)
    (sym c.put.ensures.place)
    (has_put_naming c.args.lanes.now 0 (hand c.args.pool.turn None 0) (hand outer None 0) [] _ outer.place
    c.args.pass.now c.put.new.pass (λ k. Some (sym c.requires.at.1 k, c.place.ensures k)) c.requires.has
    c.put.ensures.pass c.put.ensures.added)

pub returns-clause-kept : goal.returns-clause-kept
returns-clause-kept c = ap (λ (a : LaneView). replay a.known)
    (c.put.ensures.added.ahead 1 c.place.result refl
    (let s = c.requires.has.pass.sized in let f = c.args.lanes.now.few in omega arith))
