use Rattle.std.proofs.Common.{◌+◌, ◌≤◌, [], length, ap, sym, subst, ◌∙◌, arith}
use Rattle.lane_table.specs.declared.lanes.Lanes.{Lanes}
use Rattle.lane_table.specs.Meaning.{Model}
use Rattle.lane_table.proofs.Calls.Lent.{kept}
use Rattle.rng_core.specs.declared.setting.Setting.{Setting}
use Rattle.rng_core.specs.Sites.{Holds, lane_of}
use Rattle.rng_core.proofs.SiteLemmas.{same_then, walked_then}
use Rattle.rng_core.proofs.site.Site.enter_cpu.Goals as goal

pub returns : goal.returns
returns g c = let a = c.enter-held.ensures in let b = c.look_on-look.ensures in let n = c.look_on-look.new.self in
    let cpu = c.args.self.now.set.cpu in let same = same_then _ _ _ a.walked.same b.walked.same in record {
      walked = walked_then _ _ _ [] _ a.walked b.walked;
      room = b.room ∙ ap (λ t. length t + 1) a.trace;
      holds = subst (λ (s : Setting). Holds (s.cpu + 2) c.enter-held.result n) (sym same.set) (record {
        has = b.hands _ a.holds.has;
        lane_is = a.holds.lane_is;
        value = kept _ _ _ _ (b.lanes (cpu + 2)) a.holds.value;
        early = (let e = a.holds.early in let f = b.stamp in omega arith);
      });
      above = (let k = b.above in let f = a.walked.recorded.went.sees in omega arith);
      seen = b.seen;
      small = b.small;
      not_back = subst (λ (s : Setting). (lane_of n (s.cpu + 2)).cpu.cpu.generation ≤ c.look_on-look.result)
          (sym same.set) (subst (λ (s : Model). s.cpu.cpu.generation ≤ c.look_on-look.result)
          (sym (b.lanes (cpu + 2)))
          (b.cpus cpu (let e = ap (λ (t : Lanes). t.cpus) a.walked.same.lanes in let f = c.requires.cpu in omega
          arith)));
    }
