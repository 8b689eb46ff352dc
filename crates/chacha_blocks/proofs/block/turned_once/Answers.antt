use Rattle.std.proofs.Common.{refl}
use Rattle.chacha_blocks.proofs.Rounds.{row_is}
use Rattle.chacha_blocks.proofs.block.turned_once.Goals as goal

pub returns : goal.returns
returns c = rw (row_is c.args.row c.fits-row.0) refl
