use Rattle.std.proofs.Common.{refl}
use Rattle.key_names.specs.Kernel.Blake2s.{compressed, folded}
use Rattle.blake2s_core.proofs.compress.compress.Goals as goal

pub returns : goal.returns
unfolding compressed folded
returns c = rw (c.all_rounds-v.ensures, c.start_vector.ensures, c.message_words-words.ensures) refl
