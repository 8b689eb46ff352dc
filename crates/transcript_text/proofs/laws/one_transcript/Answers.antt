use Rattle.transcript_text.proofs.FirstFaults.{one_transcript}
use Rattle.transcript_text.proofs.laws.one_transcript.Goals as goal

pub returns : goal.returns
returns c = one_transcript
