use Rattle.std.proofs.Common.{◌∙◌, ℕ, List, Some, ap, inl, sym}
use Rattle.key_names.specs.declared.entries.BaseEntry.TheVariants.{Draw}
use Rattle.key_names.specs.Keys.KeyInUse.{taken_bytes}
use Rattle.lane_table.specs.Meaning.{got_of}
use Rattle.lane_table.specs.WorldRule.{known_of}
use Rattle.lane_table.specs.Calls.{view}
use Rattle.lane_table.proofs.Calls.Lent.{lent}
use Rattle.rng_core.proofs.SiteLemmas.{does_map}
use Rattle.rng_core.proofs.SiteReads.{serves_rooted}
use Rattle.rng_core.proofs.crng.reads.draw_rooted.Goals as goal

pub visit_base-requires-clause-makes : goal.visit_base-requires-clause-makes
visit_base-requires-clause-makes g c = let e = c.extract-root.ensures in let place = c.extract-root.result.place in
    c.draw_rooted-rest.ensures.made _ (got_of (Some place) (known_of (view c.extract-root.new.self.pass.now) 0)) place
    e.key
    (lent _ _ _ _ c.state_mut.ensures.value e.holds.value)

pub returns-clause-does : goal.returns-clause-does
returns-clause-does g c = let e = c.extract-root.ensures in
    does_map _ _ _ (λ effects h. record { form = inl h.form; bytes_are = h.bytes_are })
    (serves_rooted _ _ _ (λ (r : ℕ). Draw (Some r) c.args.taken) _ _ _ _ e.same e.room e.visited.1 c.visit_base.ensures
    (c.draw_rooted-rest.ensures.rest ∙ ap (λ (k : List ℕ). taken_bytes k c.args.taken) (sym e.key)))
