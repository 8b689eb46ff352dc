use Rattle.std.proofs.Common.{◌≡◌, drop}
use Rattle.audit_keys.specs.Stamps.{latest_of}
use Rattle.audit_keys.proofs.stamps.latest.Given as goal

abbrev pub invariant-loop-step : goal.invariant-loop-step
invariant-loop-step l = latest_of l.latest (drop l.step-index l.steps) ≡ latest_of l.fn.stamp l.steps
