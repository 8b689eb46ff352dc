use Rattle.std.proofs.Common.{◌≡◌, ℕ, Some, ap, ◌∙◌, arith}
use Rattle.lane_table.specs.declared.view.Handed.{Handed}
use Rattle.lane_table.specs.Meaning.{parent, got_of}
use Rattle.lane_table.specs.WorldRule.{known_of}
use Rattle.lane_table.specs.Calls.{view}
use Rattle.lane_table.proofs.Calls.Lent.{lent}
use Rattle.rng_core.specs.Sites.{lane_of, own_lane}
use Rattle.lane_table.proofs.Book.BookWhole.{parent_cpu}
use Rattle.rng_core.proofs.crng.integers.serve_refilled.Goals as goal

pub visit_cpu-requires-clause-makes : goal.visit_cpu-requires-clause-makes
visit_cpu-requires-clause-makes c = let p : ℕ = c.args.base.now.place in let s = c.args.site.now in
    let e : got_of (Some p) (known_of (view s.pass.now) (parent (own_lane s))) ≡ _ =
    ap (λ (l : ℕ). got_of (Some p) (known_of (view s.pass.now) l)) (parent_cpu s.set.cpu) ∙ c.requires.refill.handed in
    c.serve_refilled.ensures.made (own_lane s) (lane_of s (own_lane s))
    (got_of (Some p) (known_of (view s.pass.now) (parent (own_lane s)))) p (omega arith)
    (ap (λ (h : Handed). h.key) e) (ap (λ (h : Handed). h.generation) e) c.requires.fills
    (lent _ _ _ _ c.state_mut.ensures.value c.requires.holds.value)

pub returns : goal.returns
returns c = let p : ℕ = c.args.base.now.place in let s = c.args.site.now in
    let e : got_of (Some p) (known_of (view s.pass.now) (parent (own_lane s))) ≡ _ =
    ap (λ (l : ℕ). got_of (Some p) (known_of (view s.pass.now) l)) (parent_cpu s.set.cpu) ∙ c.requires.refill.handed in
    record {
      same = c.visit_cpu.ensures.same;
      has = c.visit_cpu.ensures.has;
      room = c.visit_cpu.ensures.room;
      served = record {
        model = lane_of s (own_lane s);
        got = got_of (Some p) (known_of (view s.pass.now) (parent (own_lane s)));
        visited = c.visit_cpu.ensures.visited;
        serves = c.serve_refilled.ensures.bytes (own_lane s) (lane_of s (own_lane s))
            (got_of (Some p) (known_of (view s.pass.now) (parent (own_lane s)))) p (omega arith)
            (ap (λ (h : Handed). h.key) e) (ap (λ (h : Handed). h.generation) e) c.requires.fills
            (lent _ _ _ _ c.state_mut.ensures.value c.requires.holds.value);
      };
    }
