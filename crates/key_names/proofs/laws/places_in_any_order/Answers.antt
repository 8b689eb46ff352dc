use Rattle.key_names.proofs.Transcripts.PlacesInOrder.{places_in_any_order}
use Rattle.key_names.proofs.laws.places_in_any_order.Goals as goal

-- src/laws.rt
pub returns : goal.returns
returns c = places_in_any_order
