use Rattle.std.proofs.Common.{length, inr, arith}
use Rattle.key_names.specs.Callers.Forms.{IntForm}
use Rattle.rng_core.specs.Makes.{setting_of}
use Rattle.rng_core.proofs.IntFulfilling.{int_unready, int_fulfils}
use Rattle.rng_core.proofs.SiteLemmas.{does_map, does_looked}
use Rattle.rng_core.proofs.crng.integers.int.Goals as goal

pub returns-then-found-eq0 : goal.returns-then-found-eq0
returns-then-found-eq0 g c = let set = setting_of c.args.site.now.set in let width = length c.args.out.now in
    does_map _ _ _ (λ effects h. int_fulfils set width _ effects c.requires.width h)
    (does_looked (λ s. IntForm (setting_of s) width) _ _ _ _ _ _ c.look-found.ensures.looked
    (does_map _ _ _ (λ effects h. record {
      form = int_unready _ width _ effects (omega arith) h.form;
      bytes_are = h.bytes_are;
    }) c.read_after.ensures))

pub returns : goal.returns
returns g c = let set = setting_of c.args.site.now.set in let width = length c.args.out.now in
    does_map _ _ _ (λ effects h. int_fulfils set width _ effects c.requires.width h)
    (does_looked (λ s. IntForm (setting_of s) width) _ _ _ _ _ _ c.look-found.ensures.looked
    (does_map _ _ _ (λ effects h. record { form = inr (omega arith, h.form); bytes_are = h.bytes_are })
    c.serve_batched.ensures))
