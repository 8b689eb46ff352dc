use Rattle.blake2s_core.proofs.Growing.{IsAfter_more}
use Rattle.blake2s_core.proofs.hasher.Chain.hash_block.Goals as goal

pub returns : goal.returns
returns c = λ start bytes n after whole.
    let chain = c.args.self.now in
    rw c.compress-self.ensures (IsAfter_more chain.words chain.count start bytes c.args.block.now n after whole)
