use Rattle.std.proofs.Common.{◌++◌, ◌∙◌, ap₂, length, refl, arith}
use Rattle.key_names.proofs.Standards.Keystreams.{keystream-append}
use Rattle.chacha_blocks.proofs.Pieces.{part_of}
use Rattle.chacha_blocks.proofs.erasure.erase_and_fill.Goals as goal

pub returns-else-buf-le-REST_OF_BLOCK-clause-bytes :
    goal.returns-else-buf-le-REST_OF_BLOCK-clause-bytes
returns-else-buf-le-REST_OF_BLOCK-clause-bytes c =
    let key = c.args.key.now in
    let front = length c.split_at_mut-front.result.0.now in
    let rest = length c.split_at_mut-front.result.1.now in
    let first =
    part_of key c.two_blocks-pair.result _ 0 128 32 front 32 c.two_blocks-pair.ensures
    c.copy_from_slice-else-buf-le-REST_OF_BLOCK.ensures.after (omega arith) refl in
    ap₂ ◌++◌ first c.fill_from_block.ensures
    ∙ keystream-append key 32 front 128 rest (length c.args.buf.now) (omega arith) (λ some. omega arith)
