use Rattle.std.proofs.Common.{refl}
use Rattle.key_names.specs.Kernel.Blake2s.{mixed}
use Rattle.blake2s_core.proofs.compress.mix.Goals as goal

pub returns : goal.returns
unfolding mixed
returns c =
    rw (c.rotate_right-b-2.ensures, c.rotate_right-d-2.ensures, c.rotate_right-b.ensures, c.rotate_right-d.ensures)
    refl
