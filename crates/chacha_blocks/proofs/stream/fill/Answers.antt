use Rattle.std.proofs.Common.{◌*◌, ◌++◌, ◌∙◌, ap₂, ℕ, length, arith}
use Rattle.key_names.proofs.Standards.Keystreams.{keystream-append}
use Rattle.chacha_blocks.proofs.stream.fill.Goals as goal

pub returns : goal.returns
returns c =
    let over = length c.split_at_mut-front.result.0.now in
    let rest = length c.split_at_mut-front.result.1.now in
    let next : ℕ = c.div_ceil-next.result in
    ap₂ ◌++◌ c.fill_in_block.ensures c.fill_from_block.ensures
    ∙ keystream-append c.args.key.now c.args.from over (64 * next) rest (length c.args.buf.now) (omega arith)
    (λ some. omega (arith, c.div_ceil-next.ensures))
