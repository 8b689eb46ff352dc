-- If a fact holds for each line of each caller, it holds for each line of the transcript.
use Rattle.std.proofs.Common.{◌≤◌, List, length, map, All, arith}
use Rattle.std.specs.List.{AllByRecursion}
use Rattle.std.proofs.lemmas.List.{length-map}
use Rattle.std.proofs.lemmas.List.Elements.{recursion_from_All, All-map}
use Rattle.key_names.specs.Texts.TranscriptGrammar.{LineFits, LastHasLines, TranscriptFits}
use Rattle.transcript_text.specs.declared.caller_lines.CallerLines.{CallerLines}

pub callers_fit : (callers : List CallerLines) → length callers ≤ 64 → LastHasLines (map (λ c. c.lines) callers)
    → All (λ c. AllByRecursion LineFits c.lines) callers → TranscriptFits (map (λ c. c.lines) callers)
callers_fit callers few last all = record {
  few_callers = omega (arith, length-map callers (λ c. c.lines));
  last = last;
  lines = recursion_from_All (AllByRecursion LineFits) (map (λ c. c.lines) callers)
      (All-map (AllByRecursion LineFits) (λ c. c.lines) callers all);
}
