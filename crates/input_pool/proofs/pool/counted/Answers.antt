use Rattle.std.proofs.Common.{◌++◌, ap, ◌∙◌, Some}
use Rattle.key_names.specs.Kernel.Blake2s.{blake2s}
use Rattle.input_pool.proofs.pool.counted.Goals as goal

pub returns : goal.returns
returns c =
    let hw = c.args.hw.now in let key = Some c.args.seed.now in
    c.finish.ensures key _ (c.update-2.ensures key _ (c.update.ensures key _ c.keyed-block.ensures))
    ∙ ap (λ bytes. blake2s key (hw ++ bytes)) c.to_le_bytes.ensures
