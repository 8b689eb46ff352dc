use Rattle.key_names.proofs.Values.ServedNamed as named
use Rattle.key_names.proofs.laws.lawful_serves_named.Goals as goal

pub returns : goal.returns
returns c = named.lawful_serves_named
