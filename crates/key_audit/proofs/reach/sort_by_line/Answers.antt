use Rattle.std.proofs.Common.{rules}
use Rattle.std.proofs.lemmas.Fn.{always_returns_same}
use Rattle.audit_keys.specs.declared.moments.LineOf.{LineOf}
use Rattle.key_audit.specs.declared.reach.Copied.{Copied}
use Rattle.key_audit.proofs.reach.sort_by_line.Goals as goal

abbrev line_of : Copied → LineOf
line_of one = one.line

pub returns-clause-ordered : goal.returns-clause-ordered
returns-clause-ordered c = c.in_ok-sort_by_key.ensures.sorted line_of (always_returns_same _ _ _ (λ a r q k. search rules))

pub returns-clause-stable : goal.returns-clause-stable
returns-clause-stable c = c.in_ok-sort_by_key.ensures.stable line_of (always_returns_same _ _ _ (λ a r q k. search rules))
