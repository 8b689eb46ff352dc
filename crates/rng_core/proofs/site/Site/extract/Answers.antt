use Rattle.std.proofs.Common.{◌≡◌, ℕ, ◌+◌, List, ◌∷◌, [], Some, None, length, ap, sym, subst, refl, ◌∙◌, arith}
use Rattle.key_names.specs.declared.entries.PoolEntry.TheVariants.{Extract}
use Rattle.key_names.specs.declared.names.Step.{Step}
use Rattle.lane_table.specs.declared.view.Handed.{Handed}
use Rattle.lane_table.specs.declared.view.LaneEntry.{LaneEntry}
use Rattle.lane_table.specs.declared.view.LaneEntry.TheVariants.{Pool}
use Rattle.lane_table.specs.Calls.{view}
use Rattle.lane_table.specs.Hands.{hand}
use Rattle.lane_table.specs.Meaning.{got_of, nothing, parent}
use Rattle.lane_table.specs.WorldRule.{known_of}
use Rattle.lane_table.proofs.Calls.Lent.{lent, kept}
use Rattle.rng_core.specs.declared.setting.Setting.{Setting}
use Rattle.rng_core.specs.Sites.{HasInHands, lane_of}
use Rattle.rng_core.proofs.TellLemmas.{visited_is, visited_place}
use Rattle.rng_core.proofs.SiteLemmas.{same_then}
use Rattle.rng_core.proofs.SiteVisits.{can_put_naming, named, kept_under, visited_later}
use Rattle.rng_core.proofs.site.Site.extract.Goals as goal

pub put-requires-clause-pass : goal.put-requires-clause-pass
put-requires-clause-pass g c = (c.take-pool.ensures.hands _
    ((λ e. (let a = c.requires.holds.lane_is in absurd (omega arith))), tt)
    c.requires.holds.has).pass

pub put-requires-clause-own : goal.put-requires-clause-own
put-requires-clause-own g c = (c.take-pool.ensures.hands _
    ((λ e. (let a = c.requires.holds.lane_is in absurd (omega arith))), tt)
    c.requires.holds.has).own

pub put-requires-clause-entry : goal.put-requires-clause-entry
put-requires-clause-entry g c = let k = c.take-pool.ensures in let on = c.requires.holds.lane_is in
    can_put_naming 0 _ (hand c.args.base.now.turn None 0) (Pool (Extract c.take-pool.new.self.set.hw c.place.result))
    c.take-pool.new.self
    (k.hands _ ((λ e. absurd (omega arith)), tt) c.requires.holds.has) k.lane_is refl
    (λ i. Some (sym on i, c.place.ensures i)) (omega arith) (ap parent on) refl
    (c.extract-key.ensures.made _ c.place.result (lent _ _ _ _ c.state_mut.ensures.value k.value)) tt

pub returns : goal.returns
returns g c = let k = c.take-pool.ensures in let v = c.put.ensures in let base = c.args.base.now in
    let on = c.requires.holds.lane_is in let n = c.take-pool.new.self in let o = c.put.new.self in
    let e : LaneEntry = Pool (Extract n.set.hw c.place.result) in
    let m = named 0 _ base.turn e n o (k.hands _ ((λ e. absurd (omega arith)), tt) c.requires.holds.has) k.lane_is
    (λ i. Some (sym on i, c.place.ensures i)) k.early v in
    let same = kept_under 0 1 _ base None 0 _ n c.requires.holds (λ e. absurd (omega arith)) k in
    let under : lane_of o 1 ≡ lane_of c.args.self.now 1 =
    subst (λ (j : ℕ). lane_of o j ≡ lane_of n j) on m.kept ∙ same in record {
      same = same_then _ n o k.walked.same v.same;
      holds = record {
        has = subst (λ (p : ℕ). HasInHands (hand base.turn (Some p) 0 ∷ []) o) (sym c.place-place.ensures) m.has;
        lane_is = on;
        value = kept _ _ _ _ under c.requires.holds.value;
        early = m.early;
      };
      kept = under;
      key = ap (λ (p : ℕ). (got_of (Some p) (known_of (view o.pass.now) 0)).key) c.place-place.ensures
          ∙ ap (λ (h : Handed). h.key) m.gave
          ∙ sym (c.extract-key.ensures.root _ (lent _ _ _ _ c.state_mut.ensures.value k.value));
      seen = m.seen ∙ k.seen;
      room = v.room ∙ ap (λ (t : List Step). length t + 1) k.trace;
      visited = (
        lane_of n 0,
        visited_place _ _ _ _ _ _ _ _ _ (sym c.place-place.ensures)
            (visited_later (λ (s : Setting). Pool (Extract s.hw base.turn.place)) 0 _ _ nothing _ n o k.walked
            (visited_is _ _ _ _ _ _ _ _ _ (ap (λ (p : ℕ). Pool (Extract n.set.hw p)) c.place.ensures) m.visited)),
      );
    }
