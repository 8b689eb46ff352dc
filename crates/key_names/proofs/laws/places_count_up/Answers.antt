use Rattle.key_names.proofs.Transcripts.PlacesInOrder.{places_count_up}
use Rattle.key_names.proofs.laws.places_count_up.Goals as goal

-- src/laws.rt
pub returns : goal.returns
returns c = places_count_up
