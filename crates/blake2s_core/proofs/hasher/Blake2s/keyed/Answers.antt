use Rattle.std.proofs.Common.{◌++◌, replicate, arith, length-append}
use Rattle.std.proofs.lemmas.List.{take_all}
use Rattle.blake2s_core.proofs.Callers.{Conforms_keyed}
use Rattle.blake2s_core.proofs.hasher.Blake2s.keyed.Goals as goal

pub returns : goal.returns
returns c =
    let key = c.args.key.now in
    let padded = take_all 64 (key ++ replicate 32 0) (omega (arith, length-append key (replicate 32 0))) in
    let chain = c.start.result in
    let begun = c.start.ensures in
    Conforms_keyed key chain.words chain.count _ c.told-key begun.words begun.count
    (rw c.copy_from_slice.ensures.after padded)
