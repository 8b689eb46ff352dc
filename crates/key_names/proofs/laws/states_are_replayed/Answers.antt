use Rattle.key_names.proofs.Transcripts.TranscriptReplays as named
use Rattle.key_names.proofs.laws.states_are_replayed.Goals as goal

pub returns : goal.returns
returns c = named.states_are_replayed
