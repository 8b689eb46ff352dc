use Rattle.std.proofs.Common.{◌%◌, rules}
use Rattle.vdso_state.proofs.Copies.{state_at}
use Rattle.vdso_state.proofs.state.VState.pass_key.Goals as goal

pub returns-clause-state : goal.returns-clause-state
returns-clause-state c =
    state_at c.args.self.now c.refill.new.self _ _ (c.args.len % 64) _ c.refill.ensures (search rules)
    c.copy_from_batch.ensures.state
