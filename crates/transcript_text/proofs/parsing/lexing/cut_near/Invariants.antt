use Rattle.memchr.specs.Find.{Nowhere, Passes, is_byte}
use Rattle.transcript_text.proofs.parsing.lexing.cut_near.Given as goal

abbrev pub invariant-loop-place : goal.invariant-loop-place
invariant-loop-place l = Nowhere (Passes (is_byte l.byte) l.text) 0 l.place
