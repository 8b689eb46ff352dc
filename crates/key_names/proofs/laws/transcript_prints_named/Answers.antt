use Rattle.key_names.proofs.Values.PrintedNamed as named
use Rattle.key_names.proofs.laws.transcript_prints_named.Goals as goal

pub returns : goal.returns
returns c = named.transcript_prints_named
