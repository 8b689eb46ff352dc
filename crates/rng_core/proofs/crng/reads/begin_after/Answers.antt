use Rattle.std.proofs.Common.{inl, inr, [], ◌∙◌, arith}
use Rattle.key_names.specs.Callers.Forms.{CpuReadForm, DrawForm}
use Rattle.rng_core.specs.Makes.{Serving, setting_of}
use Rattle.rng_core.specs.Rests.{finished}
use Rattle.rng_core.proofs.SiteLemmas.{does_map, does_within, does_following, walked_then}
use Rattle.rng_core.proofs.crng.reads.begin_after.Goals as goal

pub returns-then-look-ne0-clause-does : goal.returns-then-look-ne0-clause-does
returns-then-look-ne0-clause-does g c =
    does_map _ _ _ (λ effects h. record { form = inr h.form; bytes_are = h.bytes_are }) c.begin_cpu.ensures.does

pub returns-then-ne-clause-does : goal.returns-then-ne-clause-does
returns-then-ne-clause-does g c = let a = c.enter-base.ensures in
    does_map _ _ _ (λ effects h. record { form = inl (c.if-look-ne0.false, h.form); bytes_are = h.bytes_are })
    (does_within 2 3 _ _ (omega arith) (does_following (λ set visits. Serving (DrawForm (setting_of set) c.args.taken)
    (finished c.draw.result c.draw.new.buf)) 2 _ _ _ a.walked a.trace c.draw.ensures.does))

pub returns-clause-does : goal.returns-clause-does
returns-clause-does g c = let a = c.enter-base.ensures in let b = c.give_back.ensures in
    does_map _ _ _ (λ effects h. record { form = inr h.form; bytes_are = h.bytes_are })
    (does_following (λ set visits. Serving (CpuReadForm (setting_of set) c.args.taken)
    (finished c.begin_cpu-2.result c.begin_cpu-2.new.buf)) 3 _ _ _
    (walked_then _ _ _ [] [] a.walked b.walked) (b.trace ∙ a.trace) c.begin_cpu-2.ensures.does)
