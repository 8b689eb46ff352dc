use Rattle.key_names.proofs.Values.HeldBytes as held
use Rattle.key_names.proofs.laws.lawful_holds_named.Goals as goal

pub returns : goal.returns
returns c = held.lawful_holds_named
