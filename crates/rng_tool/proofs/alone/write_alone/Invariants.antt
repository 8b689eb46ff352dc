use Rattle.std.proofs.Common.{List, [], drop}
use Rattle.std.specs.List.{AllByRecursion}
use Rattle.key_names.specs.Transcripts.SeenLine.{SeenLine}
use Rattle.key_names.specs.Texts.ScriptGrammar.{Script}
use Rattle.key_names.specs.Texts.TranscriptGrammar.{LineFits}
use Rattle.caller_run.specs.Alone.{IsGoing}
use Rattle.rng_tool.proofs.WrittenLines.{Wrote, text_so_far}
use Rattle.rng_tool.proofs.alone.write_alone.Given as goal

abbrev pub invariant-loop-event : goal.invariant-loop-event
invariant-loop-event g l = record {
  lines : List SeenLine;
  fits : AllByRecursion LineFits lines;
  goes : (script : Script) → IsGoing script l.events l.fn.run [] → IsGoing script (drop l.event-index l.events) l.run lines;
  wrote : Wrote l.written (g.K.Sink.held l.fn.sink) (g.K.Sink.held l.sink) (g.K.Sink.faults l.fn.sink)
      (g.K.Sink.faults l.sink) (text_so_far lines);
}
