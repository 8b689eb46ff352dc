use Rattle.std.proofs.Common.{◌≡◌, ℕ, ◌+◌, ◌<◌, List, [], length, get_or}
use Rattle.key_names.specs.Kernel.Blake2s.{block_bytes}
use Rattle.blake2s_core.specs.Hash.{IsAfter}
use Rattle.blake2s_core.proofs.hasher.Chain.hash_blocks.Given as goal

abbrev pub invariant-loop-block : goal.invariant-loop-block
invariant-loop-block l = (start bytes : List ℕ) (n : ℕ) → IsAfter l.fn.self.words l.fn.self.count start bytes n
    → ((k : ℕ) → k < length l.blocks → get_or l.blocks k [] ≡ block_bytes bytes (n + k))
    → IsAfter l.self.words l.self.count start bytes (n + l.block-index)
