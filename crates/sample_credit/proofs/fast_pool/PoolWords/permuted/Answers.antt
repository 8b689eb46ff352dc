use Rattle.std.proofs.Common.{refl}
use Rattle.key_names.specs.Kernel.FastPool.{sip_round}
use Rattle.sample_credit.proofs.fast_pool.PoolWords.permuted.Goals as goal

pub returns : goal.returns
unfolding sip_round
returns c =
    rw (
      ← c.self.view_is,
      c.rotate_left-c.ensures,
      c.rotate_left-4.ensures,
      c.rotate_left-3.ensures,
      c.rotate_left-a.ensures,
      c.rotate_left-2.ensures,
      c.rotate_left.ensures,
    ) refl
