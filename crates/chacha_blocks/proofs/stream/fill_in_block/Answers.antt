use Rattle.std.proofs.Common.{◌*◌, ◌/◌, ◌%◌, length, arith}
use Rattle.chacha_blocks.proofs.Pieces.{part_of}
use Rattle.chacha_blocks.proofs.stream.fill_in_block.Goals as goal

pub returns-then-not-is_empty : goal.returns-then-not-is_empty
returns-then-not-is_empty c =
    let from = c.args.from in
    let len = length c.args.buf.now in
    part_of c.args.key.now c.block.result _ (64 * (from / 64)) 64 (from % 64) len from c.block.ensures
    c.copy_from_slice.ensures.after (omega arith) (omega arith)
