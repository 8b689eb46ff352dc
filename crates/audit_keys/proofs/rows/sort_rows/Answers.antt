use Rattle.std.proofs.Common.{rules}
use Rattle.std.proofs.lemmas.Fn.{always_returns_same}
use Rattle.audit_keys.specs.MadeOrder.{made_rank}
use Rattle.audit_keys.proofs.rows.sort_rows.Goals as goal

pub returns-clause-ordered : goal.returns-clause-ordered
returns-clause-ordered c = c.in_ok-sort_by_key.ensures.sorted (made_rank c.args.moments.now)
    (always_returns_same _ _ _ (λ a r q k. search rules))
