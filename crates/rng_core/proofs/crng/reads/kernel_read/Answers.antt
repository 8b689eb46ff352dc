use Rattle.std.proofs.Common.{◌<◌, length, refl, rules}
use Rattle.key_names.specs.declared.entries.Taken.TheVariants.{Kernel}
use Rattle.key_names.specs.Callers.Forms.{ReadForm}
use Rattle.rng_core.specs.Makes.{setting_of}
use Rattle.rng_core.proofs.Fulfilling.{kernel_some, kernel_none}
use Rattle.rng_core.proofs.SiteLemmas.{does_map, does_looked, does_nothing}
use Rattle.rng_core.proofs.crng.reads.kernel_read.Goals as goal

pub returns-then-is_empty : goal.returns-then-is_empty
returns-then-is_empty g c = does_nothing _ _ c.requires.idle (kernel_none _ c.args.buf.now (search rules))

pub returns : goal.returns
returns g c = let n = length c.args.buf.now in let some : 0 < n = search rules in
    does_map _ _ _ (λ effects h. kernel_some (setting_of c.args.site.now.set) n n c.read_after.new.buf effects refl some h)
    (does_looked (λ set. ReadForm (setting_of set) (Kernel n)) _ _ _ _ _ _ c.look-found.ensures.looked
    c.read_after.ensures)
