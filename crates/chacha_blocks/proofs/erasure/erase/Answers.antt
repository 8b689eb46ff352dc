use Rattle.std.proofs.Common.{length, refl, arith}
use Rattle.chacha_blocks.proofs.Pieces.{part_of}
use Rattle.chacha_blocks.proofs.erasure.erase.Goals as goal

pub returns-clause-out : goal.returns-clause-out
returns-clause-out c =
    part_of c.args.key.now c.block-bytes.result _ 0 64 32 (length c.args.out.now) 32 c.block-bytes.ensures
    c.copy_from_slice-2.ensures.after (omega arith) refl
