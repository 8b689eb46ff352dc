use Rattle.std.proofs.Common.{rules, arith, ◌∙◌, ◌<◌, sym, ap, subst, ℕ, length}
use Rattle.lane_table.specs.Steps.{Seated}
use Rattle.lane_table.proofs.Rule.Shares.{both_share, length_merged}
use Rattle.lane_table.proofs.Rule.Joining.{joins}
use Rattle.lane_table.proofs.lanes.Lanes.join.Goals as goal

pub join_seat-requires : goal.join_seat-requires
join_seat-requires c = let p = c.requires.pass in let q = c.requires.other in (
  search rules,
  search rules,
  c.requires.idle.1,
  omega arith,
  joins _ _ _ _ _ (omega arith) (omega arith) c.requires.idle.0,
)

pub returns-clause-pass : goal.returns-clause-pass
returns-clause-pass c = let e = c.join_seat.ensures.2 in let v = c.args.pass.now.seat.me.0 in let w =
    c.args.other.seat.me.0 in let mine = c.requires.pass in let theirs = c.requires.other in record {
      pass = record {
        table = search rules;
        share = subst (λ (z : ℕ). 0 < z) (sym (ap (λ (m : Seated). m.0.share) e)) (both_share v w mine.share);
        stamp = search rules;
        sized = ap (λ (m : Seated). length m.0.lanes) e ∙ length_merged v.lanes w.lanes (mine.sized ∙ sym theirs.sized)
            ∙ mine.sized;
        first = ap (λ (m : Seated). m.0.first) e ∙ mine.first;
      };
      caller = search rules;
    }
