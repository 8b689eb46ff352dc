use Rattle.std.proofs.Common.{◌+◌, ◌*◌, ◌/◌, ◌++◌, ◌∙◌, ap₂, ℕ, length, arith}
use Rattle.key_names.proofs.Standards.Keystreams.{keystream-append}
use Rattle.chacha_blocks.proofs.stream.fill_from_block.Goals as goal

pub returns : goal.returns
returns c =
    let key = c.args.key.now in
    let runs = length c.split_at_mut-runs.result.0.now in
    let rest = length c.split_at_mut-runs.result.1.now in
    let front = length c.split_at_mut-front.result.0.now in
    let back = length c.split_at_mut-front.result.1.now in
    let next : ℕ = c.args.first + runs / 64 in
    let pairs =
    ap₂ ◌++◌ c.fill_by_pair.ensures c.fill_by_pair-2.ensures
    ∙ keystream-append key (64 * next) front (64 * (next + 2)) back rest (omega arith) (λ some. omega arith) in
    ap₂ ◌++◌ c.fill_by_runs.ensures pairs
    ∙ keystream-append key (64 * c.args.first) runs (64 * next) rest (length c.args.buf.now) (omega arith)
    (λ some. omega arith)
