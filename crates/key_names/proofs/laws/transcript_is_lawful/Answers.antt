use Rattle.key_names.proofs.Transcripts.TranscriptLaws as transcripts
use Rattle.key_names.proofs.laws.transcript_is_lawful.Goals as goal

pub returns : goal.returns
returns c = transcripts.transcript_is_lawful
