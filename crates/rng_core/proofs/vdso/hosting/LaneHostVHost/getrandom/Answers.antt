use Rattle.std.proofs.Common.{length, refl, inr}
use Rattle.rng_core.proofs.Makings.{did_floor}
use Rattle.rng_core.proofs.Hosting.{published_more, answer_by, is_answer, is_read, visit_of, system_called}
use Rattle.rng_core.proofs.vdso.hosting.LaneHostVHost.getrandom.Goals as goal

pub returns-clause-answers : goal.returns-clause-answers
returns-clause-answers g c = let k = c.getrandom.ensures.does.did in (
  answer_by c.getrandom.result c.getrandom.new.buf (visit_of k.made_steps),
  is_answer c.getrandom.result c.getrandom.new.buf (visit_of k.made_steps),
  (
    record {
      core = record {
        same = c.getrandom.ensures.does.same.set;
        did = system_called _ (length c.args.buf.now) c.args.flags c.getrandom.result
            c.getrandom.new.buf _ _ k;
        served = λ good ready. is_read c.getrandom.result c.getrandom.new.buf (visit_of k.made_steps)
            (c.getrandom.ensures.served good (inr ready));
      };
      begins = c.getrandom.ensures.begins.begins;
      acts = record { attempt = refl; asks = refl; outcomes = refl };
    },
    record { site = c.getrandom.ensures.does.same; acts = refl; out = refl },
  ),
)

pub returns-clause-floor : goal.returns-clause-floor
returns-clause-floor g c = published_more _ _ (did_floor _ _ _ c.getrandom.ensures.does.did)
