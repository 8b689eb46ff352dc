use Rattle.std.proofs.Common.{◌≡◌, ℕ, Some, ap, ◌∙◌, arith}
use Rattle.lane_table.specs.declared.view.Handed.{Handed}
use Rattle.lane_table.specs.Meaning.{parent, got_of}
use Rattle.lane_table.specs.WorldRule.{known_of}
use Rattle.lane_table.specs.Calls.{view}
use Rattle.lane_table.proofs.Calls.Lent.{lent}
use Rattle.rng_core.specs.Sites.{own_lane}
use Rattle.lane_table.proofs.Book.BookWhole.{parent_cpu}
use Rattle.rng_core.proofs.crng.reads.read_refilled.Goals as goal

pub visit_cpu-requires-clause-makes : goal.visit_cpu-requires-clause-makes
visit_cpu-requires-clause-makes c = let p : ℕ = c.args.base.now.place in let s = c.args.site.now in
    let e : got_of (Some p) (known_of (view s.pass.now) (parent (own_lane s))) ≡ _ =
    ap (λ (l : ℕ). got_of (Some p) (known_of (view s.pass.now) l)) (parent_cpu s.set.cpu) ∙ c.requires.refill.handed in
    c.read_refilled-rest.ensures.made _ _ (got_of (Some p) (known_of (view s.pass.now) (parent (own_lane s))))
    c.args.look p (omega arith) (ap (λ (h : Handed). h.key) e) (ap (λ (h : Handed). h.generation) e)
    (lent _ _ _ _ c.state_mut.ensures.value c.requires.holds.value)
