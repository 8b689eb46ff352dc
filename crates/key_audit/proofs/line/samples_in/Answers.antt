use Rattle.std.proofs.Common.{◌≡◌, ◌<◌, ◌+◌, ℕ, suc, List, length, drop, get_or, sym, ap, ◌∙◌, add_assoc, add-one, arith}
use Rattle.std.specs.Prelude.{slice_get}
use Rattle.std.proofs.Math.Seq.{drop-cons}
use Rattle.key_names.specs.Texts.ScriptGrammar.{Script}
use Rattle.judge_log.specs.declared.kept.KeptPool.{KeptPool}
use Rattle.audit_keys.specs.declared.moments.Moment.{Moment}
use Rattle.key_audit.specs.KeptPool.{kept_samples, sample_count}
use Rattle.key_audit.proofs.line.samples_in.Goals as goal

one_more : (script : Script) (pool : List KeptPool) (moments : List Moment) (i : ℕ) (d : KeptPool) (count one total : ℕ) →
    i < length pool → one ≡ sample_count script (get_or pool i d) (slice_get moments i) →
    count + kept_samples script i (drop i pool) moments ≡ total →
    count + one + kept_samples script (i + 1) (drop (i + 1) pool) moments ≡ total
one_more script pool moments i d count one total low is before =
    add_assoc count one (kept_samples script (i + 1) (drop (i + 1) pool) moments)
    ∙ rw (add-one) (ap (λ n. count + (n + kept_samples script (suc i) (drop (suc i) pool) moments)) is
    ∙ ap (λ ks. count + kept_samples script i ks moments) (sym (drop-cons pool i d low)))
    ∙ before

pub loop-place-preserved : goal.loop-place-preserved
loop-place-preserved c = record {
  small = (let small = c.sample_count-count.ensures.small in let before = c.loop-place.invariant.small in omega arith);
  counted = one_more c.args.script.now c.args.pool.now c.args.moments.now c.loop-place.place _ c.loop-place.count
      c.sample_count-count.result _ c.loop-place-test.true c.sample_count-count.ensures.count c.loop-place.invariant.counted;
}
