use Rattle.std.proofs.Common.{refl}
use Rattle.transcript_text.proofs.laws.written_text.Goals as goal

pub returns : goal.returns
returns c = λ callers fits own. record { fits = fits; own = own; spelled = refl }
