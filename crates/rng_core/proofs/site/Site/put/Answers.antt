use Rattle.std.proofs.Common.{refl, subst, ◌∙◌, arith}
use Rattle.key_names.specs.declared.names.Who.{Who}
use Rattle.lane_table.specs.Calls.{Added, view, visit_by}
use Rattle.lane_table.specs.Steps.{filled}
use Rattle.rng_core.proofs.TellLemmas.{mark_fits, visited_at, visited_place}
use Rattle.rng_core.proofs.SiteLemmas.{one_more}
use Rattle.rng_core.proofs.site.Site.put.Goals as goal

pub returns : goal.returns
returns g c = let k = c.put-mark.ensures in let h = c.args.held in let e = g.E.Entry.entry c.args.entry in
    let s = c.args.self.now in let holds = c.requires.entry.holds in record {
      same = record { lanes = refl; set = refl; pass = refl; trace = refl };
      room = one_more _ _ _ c.push.ensures;
      pass = k.pass;
      stamp = c.put-mark.result.stamp;
      low = λ early. (let a = k.stamp in let b = h.turn.early.1 in omega arith);
      added = subst (λ (w : Who). Added h.turn.lane
          (filled h.turn.lane (visit_by w c.put-mark.result.stamp e) (view s.pass.now)) s.pass.now.seat.me
          c.put-mark.new.pass.seat.me) c.maker-who.ensures k.added;
      visited = λ lane on. visited_place _ _ _ _ _ _ _ _ _ k.place
          (visited_at s.set s.pass.now.seat.me c.put-mark.new.pass.seat.me s.trace.now c.push.new.self
          c.put-mark.result c.maker-who.result e h.turn.lane lane on k.lane (k.place ∙ holds.place)
          (let a = holds.near in let b = c.requires.pass.sized in omega arith)
          (let a = c.requires.pass.sized in let b = s.lanes.now.few in omega arith) c.maker-who.ensures c.push.ensures
          (let t = h.turn in mark_fits c.put-mark.result t.lane t.place t.stamp s.pass.now.stamp k.lane t.near k.place
          t.early.1 t.early.2 c.requires.early k.stamp) k.added);
    }
