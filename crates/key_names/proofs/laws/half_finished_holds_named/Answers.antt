use Rattle.key_names.proofs.Values.HeldBytes as held
use Rattle.key_names.proofs.laws.half_finished_holds_named.Goals as goal

pub returns : goal.returns
returns c = held.half_finished_holds_named
