use Rattle.std.proofs.Common.{◌≡◌, ℕ, ◌+◌, List, ◌∷◌, [], Some, None, length, ap, sym, subst, refl, ◌∙◌, arith}
use Rattle.key_names.specs.declared.entries.BaseEntry.TheVariants.{Refill}
use Rattle.key_names.specs.declared.names.Step.{Step}
use Rattle.lane_table.specs.declared.view.LaneEntry.{LaneEntry}
use Rattle.lane_table.specs.declared.view.LaneEntry.TheVariants.{Base}
use Rattle.lane_table.specs.Calls.{view}
use Rattle.lane_table.specs.Hands.{hand}
use Rattle.lane_table.specs.Meaning.{Model, got_of, nothing, parent, hand as handing}
use Rattle.lane_table.specs.WorldRule.{known_of}
use Rattle.lane_table.proofs.Calls.Lent.{lent, kept}
use Rattle.rng_core.specs.declared.setting.Setting.{Setting}
use Rattle.rng_core.specs.Sites.{HasInHands, HoldsWith, lane_of}
use Rattle.lane_table.proofs.Book.BookWhole.{parent_cpu}
use Rattle.rng_core.proofs.TellLemmas.{visited_is, visited_place}
use Rattle.rng_core.proofs.SiteLemmas.{same_then}
use Rattle.rng_core.proofs.SiteVisits.{can_put_naming, named, kept_under, visited_later}
use Rattle.rng_core.proofs.site.Site.refill.Goals as goal

pub put-requires-clause-pass : goal.put-requires-clause-pass
put-requires-clause-pass g c = (c.take-base.ensures.hands _
    ((λ e. (let a = c.requires.holds.lane_is in absurd (omega arith))), tt)
    c.requires.holds.has).pass

pub put-requires-clause-own : goal.put-requires-clause-own
put-requires-clause-own g c = (c.take-base.ensures.hands _
    ((λ e. (let a = c.requires.holds.lane_is in absurd (omega arith))), tt)
    c.requires.holds.has).own

pub put-requires-clause-entry : goal.put-requires-clause-entry
put-requires-clause-entry g c = let k = c.take-base.ensures in let on = c.requires.holds.lane_is in
    let set = k.walked.same.set in
    let here : c.take-base.new.self.set.cpu + 2 ≡ c.args.cpu.now.turn.lane =
    ap (λ (s : Setting). s.cpu + 2) set ∙ sym on in
    let low = k.low refl in let ready = c.requires.ready in let seen = k.seen in
    can_put_naming 1 _ (hand c.args.cpu.now.turn None 0) (Base (Refill c.take-base.new.self.set.cpu c.place.result))
    c.take-base.new.self
    (k.hands _ ((λ e. absurd (omega arith)), tt) c.requires.holds.has) k.lane_is refl
    (λ i. Some (here i, c.place.ensures i)) (omega arith)
    (ap parent on ∙ parent_cpu c.args.self.now.set.cpu) refl
    (c.hand_over-key.ensures.made _ nothing c.take-base.new.self.set.cpu c.place.result
    (lent _ _ _ _ c.state_mut.ensures.value k.value))
    ((k.agrees refl).1 (let a = low.seen in omega arith))

pub returns : goal.returns
returns g c = let k = c.take-base.ensures in let v = c.put.ensures in let cpu = c.args.cpu.now in
    let on = c.requires.holds.lane_is in let l = c.args.self.now in let n = c.take-base.new.self in
    let o = c.put.new.self in let lane : ℕ = l.set.cpu + 2 in
    let here : n.set.cpu + 2 ≡ cpu.turn.lane = ap (λ (s : Setting). s.cpu + 2) k.walked.same.set ∙ sym on in
    let e : LaneEntry = Base (Refill n.set.cpu c.place.result) in
    let m = named 1 _ cpu.turn e n o (k.hands _ ((λ e. absurd (omega arith)), tt) c.requires.holds.has) k.lane_is
    (λ i. Some (here i, c.place.ensures i)) k.early v in
    let same = same_then l n o k.walked.same v.same in
    let under : lane_of o lane ≡ lane_of l lane = subst (λ (j : ℕ). lane_of o j ≡ lane_of n j) on m.kept
    ∙ kept_under 1 lane _ cpu None 0 l n c.requires.holds (λ e. absurd (omega arith)) k in
    let base = lent _ _ _ _ c.state.ensures k.value in record {
      same = same;
      holds = subst (λ (s : Setting). HoldsWith (Some c.place-place.result) 0 (s.cpu + 2) cpu o) (sym same.set)
          (record {
            has = subst (λ (p : ℕ). HasInHands (hand cpu.turn (Some p) 0 ∷ []) o) (sym c.place-place.ensures) m.has;
            lane_is = on;
            value = kept _ _ _ _ under c.requires.holds.value;
            early = m.early;
          });
      kept = subst (λ (s : Setting). (lane_of o (s.cpu + 2)).cpu ≡ (lane_of l lane).cpu) (sym same.set)
          (ap (λ (s : Model). s.cpu) under);
      handed = ap (λ (p : ℕ). got_of (Some p) (known_of (view o.pass.now) 1)) c.place-place.ensures ∙ m.gave
          ∙ (λ i. handing (sym (c.hand_over-key.ensures.key _ (lent _ _ _ _ c.state_mut.ensures.value k.value)) i)
          (sym (c.base_generation-generation.ensures _ base) i));
      fresh = (let a = (k.low refl).seen in let b = k.seen in let d = c.base_generation-generation.ensures _ base in
          omega arith);
      room = v.room ∙ ap (λ (t : List Step). length t + 1) k.trace;
      visited = (
        lane_of n 1,
        visited_place _ _ _ _ _ _ _ _ _ (sym c.place-place.ensures)
            (visited_later (λ (s : Setting). Base (Refill s.cpu cpu.turn.place)) 1 _ _ nothing _ n o k.walked
            (visited_is _ _ _ _ _ _ _ _ _ (ap (λ (p : ℕ). Base (Refill n.set.cpu p)) c.place.ensures) m.visited)),
      );
    }
