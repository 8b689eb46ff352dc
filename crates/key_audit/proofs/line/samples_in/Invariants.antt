use Rattle.std.proofs.Common.{◌≡◌, ◌≤◌, ◌+◌, drop}
use Rattle.key_audit.specs.KeptPool.{kept_samples}
use Rattle.key_audit.proofs.line.samples_in.Given as goal

abbrev pub invariant-loop-place : goal.invariant-loop-place
invariant-loop-place l = record {
  small : l.count ≤ l.place;
  counted : l.count + kept_samples l.script l.place (drop l.place l.pool) l.moments
      ≡ kept_samples l.script 0 l.pool l.moments;
}
