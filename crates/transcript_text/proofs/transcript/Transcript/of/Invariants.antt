use Rattle.std.proofs.Common.{take, All}
use Rattle.std.specs.List.{AllByRecursion}
use Rattle.key_names.specs.Texts.TranscriptGrammar.{LineFits}
use Rattle.transcript_text.proofs.transcript.Transcript.of.Given as goal

abbrev pub invariant-loop-caller : goal.invariant-loop-caller
invariant-loop-caller l = All (λ c. AllByRecursion LineFits c.lines) (take l.caller-index l.caller-items)
