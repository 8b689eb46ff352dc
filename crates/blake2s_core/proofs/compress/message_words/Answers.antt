use Rattle.blake2s_core.proofs.Words.{read_words}
use Rattle.blake2s_core.proofs.compress.message_words.Goals as goal

pub returns : goal.returns
returns c = read_words c.args.block.now c.read_u32_into.new.dst 16 c.read_u32_into.auto.dst c.read_u32_into.ensures
