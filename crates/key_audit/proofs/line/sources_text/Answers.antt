use Rattle.std.proofs.Common.{ℕ, List, subst, take}
use Rattle.std.specs.Prelude.{slice_get}
use Rattle.judge_log.specs.declared.kept.KeptPool.{KeptPool}
use Rattle.audit_keys.specs.declared.rows.KeyRow.{KeyRow}
use Rattle.key_audit.specs.KeptPool.{kept_bits, kept_samples}
use Rattle.key_audit.specs.Sources.{TellsSources, bits_before}
use Rattle.key_audit.proofs.KeptSamples.{same_bits, same_samples}
use Rattle.key_audit.proofs.KeptVisits.{kept_moments}
use Rattle.key_audit.proofs.line.sources_text.Goals as goal

pub returns : goal.returns
returns c t callers of ms keeps =
    let moments = c.in_ok-moments.moments in
    let are = kept_moments c.args.book.now t callers of ms keeps moments c.in_ok-moments.ensures.marks c.in_ok-moments.ensures.states in
    let pool = c.args.book.now.lanes.pool.items in
    let script = c.args.script.now in
    let text = c.in_ok-text.text.items in
    let samples : (ℕ → ℕ) → Type 0 = λ samples.
    TellsSources moments c.in_ok-rows.rows.items c.args.line samples (bits_before of) text in
    record {
      moments = moments;
      are_moments = are;
      rows = c.in_ok-rows.rows.items;
      are = c.in_ok-rows.ensures.are t callers of ms keeps;
      ordered = c.in_ok-rows.ensures.ordered;
      listed = subst samples
          (λ i place. same_samples of pool keeps.lanes.pool script moments.pool.items place are.pool i)
          (subst (λ (bits : ℕ → ℕ). TellsSources moments c.in_ok-rows.rows.items c.args.line
          (λ place. kept_samples script 0 (take place pool) moments.pool.items) bits text)
          (λ i place. same_bits of pool keeps.lanes.pool place i)
          (subst (λ (rows : List KeyRow). TellsSources moments rows c.args.line
          (λ place. kept_samples script 0 (take place pool) moments.pool.items)
          (λ place. kept_bits (slice_get pool place)) text) c.deref-2.ensures.value
          (subst (λ (kept : List KeptPool). TellsSources moments c.deref-2.result.now c.args.line
          (λ place. kept_samples script 0 (take place kept) moments.pool.items)
          (λ place. kept_bits (slice_get kept place)) text) c.deref.ensures.value c.in_ok-text.ensures)));
    }
