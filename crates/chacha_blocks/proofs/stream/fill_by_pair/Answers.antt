use Rattle.std.proofs.Common.{◌*◌, ◌∙◌, ap, length, take, arith}
use Rattle.key_names.proofs.Standards.Keystreams.{take-keystream}
use Rattle.chacha_blocks.proofs.stream.fill_by_pair.Goals as goal

pub returns-in-1-to-64 : goal.returns-in-1-to-64
returns-in-1-to-64 c =
    let len = length c.args.buf.now in
    c.copy_from_slice.ensures.after ∙ ap (take len) c.block.ensures
    ∙ take-keystream c.args.key.now (64 * c.args.first) 64 len (omega arith)

pub returns-in_default : goal.returns-in_default
returns-in_default c =
    let len = length c.args.buf.now in
    c.copy_from_slice-in_default.ensures.after ∙ ap (take len) c.two_blocks.ensures
    ∙ take-keystream c.args.key.now (64 * c.args.first) 128 len (omega arith)
