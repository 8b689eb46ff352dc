use Rattle.std.proofs.Common.{ℕ, ◌+◌, length, subst}
use Rattle.key_names.specs.declared.events.Event.TheVariants.{Dread}
use Rattle.key_names.specs.Transcripts.SeenLine.{bytes_or_none}
use Rattle.rng_core.specs.Makes.{result_answer, given}
use Rattle.rng_core.specs.Sites.{Completes}
use Rattle.rng_core.specs.SiteWaits.{waiting_at}
use Rattle.rng_core.proofs.SiteLemmas.{does_map}
use Rattle.rng_core.proofs.interface.system_call.random_file.Goals as goal

pub returns-clause-does : goal.returns-clause-does
returns-clause-does g c = let s = c.args.site.now in let n = c.getrandom.new.site in
    subst (λ (f : ℕ). Completes (4 + waiting_at s) (Dread (length c.args.buf.now) f) (result_answer c.getrandom.result)
    (bytes_or_none (given c.getrandom.result c.getrandom.new.buf)) s n) c.file_flags-flags.ensures
    (does_map _ s n (λ effects h. record { form = h.form; answers = h.answers; shows = h.shows })
    c.getrandom.ensures.does)
