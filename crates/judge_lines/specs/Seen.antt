-- Turns lines without answers and data (`BareLine`) into lines of the definitions, with no data and an arbitrary
-- answer.
use Rattle.std.specs.Prelude.{List, map}
use Rattle.std.specs.Global.{Vec}
use Rattle.key_names.specs.declared.events.Answer.TheVariants.{Ok as Done}
use Rattle.key_names.specs.Transcripts.SeenLine.{SeenLine, no_data}
use Rattle.judge_lines.specs.declared.bare.BareLine.{BareLine}

abbrev pub seen_bare : BareLine → SeenLine
seen_bare line = record {
  caller = line.caller;
  event = line.event;
  word = line.word;
  answer = Done;
  steps = line.steps.now;
  shown = no_data;
}

abbrev pub seen_callers : List (Vec BareLine) → List (List SeenLine)
seen_callers callers = map (λ lines. map seen_bare lines.items) callers
