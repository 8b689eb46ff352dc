use Rattle.std.proofs.Common.{refl, arith}
use Rattle.lane_table.proofs.Calls.HandLemmas.{has_taken, has_tried}
use Rattle.rng_core.specs.declared.site.Site.{Site}
use Rattle.rng_core.proofs.SiteVisits.{took, took_later}
use Rattle.rng_core.proofs.site.Site.take.Goals as goal

pub returns-in-Ok : goal.returns-in-Ok
returns-in-Ok g c = let k = c.in-Ok.ensures in let is = c.requires.pass in
    took _ _ _ _ (record { lanes = refl; set = refl; pass = refl; trace = refl }) refl is k.pass k.taken
    (let a = k.unspent.stamp in let b = k.taken.stamp in let p = is.stamp in let q = k.pass.pass.stamp in omega arith)
    (λ hands not has. has_taken _ _ _ _ _ _ _ c.requires.lane not has k.pass k.taken)

pub returns-in-Err : goal.returns-in-Err
returns-in-Err g c = let k = c.in-Err.ensures in let is = c.requires.pass in
    let tried : Site = record c.args.self.now { pass = record c.args.self.now.pass { now = c.try_take.new.pass } } in
    took_later _ _ _ tried _ (record { lanes = refl; set = refl; pass = refl; trace = refl }) refl is k.tried
    (λ hands not has. has_tried _ _ _ _ _ _ not has k.pass k.tried)
    (took _ _ tried _ (record { lanes = refl; set = refl; pass = refl; trace = refl }) refl k.pass.pass
    c.take.ensures.pass c.take.ensures.taken c.take.ensures.early
    (λ hands not has. has_taken _ _ _ _ _ _ _ c.requires.lane not has c.take.ensures.pass c.take.ensures.taken))
