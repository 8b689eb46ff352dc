use Rattle.std.proofs.Common.{length}
use Rattle.transcript_text.proofs.SpeltPieces.{AppendedSoFar}
use Rattle.transcript_text.proofs.parsing.data.append_bytes.Given as goal

abbrev pub invariant-loop-rest : goal.invariant-loop-rest
invariant-loop-rest l = AppendedSoFar l.text l.fn.kept.items l.kept.items l.rest

abbrev pub decreases-loop-rest : goal.decreases-loop-rest
decreases-loop-rest l = length l.rest
