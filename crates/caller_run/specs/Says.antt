-- The content of a line apart from its steps.
use Rattle.std.specs.Prelude.{◌≡◌, ◌≢◌, ℕ, ⊤, List}
use Rattle.key_names.specs.declared.events.Event.{Event}
use Rattle.key_names.specs.declared.events.Event.TheVariants.{Int8, Int16, Int32, Int64}
use Rattle.key_names.specs.declared.events.Word.{Word}
use Rattle.key_names.specs.declared.events.Word.TheVariants.{Bits}
use Rattle.key_names.specs.declared.names.Step.{Step}
use Rattle.key_names.specs.Texts.ScriptGrammar.{bytes_read}
use Rattle.key_names.specs.Transcripts.SeenLine.{Shown, no_data, count, bytes_or_none, SeenLine}
use Rattle.rng_core.specs.declared.setting.Setting.{Setting}
use Rattle.caller_run.specs.declared.output.reply.LineData.{LineData}
use Rattle.caller_run.specs.declared.output.reply.LineData.TheVariants.{Nothing, Served, Count}
use Rattle.caller_run.specs.declared.output.reply.Reply.{Reply}

-- the data that a line shows; `served` has the bytes that its call served
abbrev pub shown_by : List ℕ → LineData → Shown
shown_by served Nothing = no_data
shown_by served Served = bytes_or_none served
shown_by served (Count n) = count n

abbrev pub IsNoCount : LineData → Type 0
IsNoCount Nothing = ⊤
IsNoCount Served = ⊤
IsNoCount (Count n) = ⊥

-- the most bytes that the line of an event can show: the number of bytes that the event reads, or that its integer has
abbrev pub most_shown : Event → ℕ
most_shown Int8 = 1
most_shown Int16 = 2
most_shown Int32 = 4
most_shown Int64 = 8
most_shown event = bytes_read event

-- only the line of `bits` may show a count, and only the other lines may show bytes
abbrev pub ShowsFit : Word → LineData → Type 0
ShowsFit word Nothing = ⊤
ShowsFit word Served = word ≢ Bits
ShowsFit word (Count n) = word ≡ Bits

-- the line of a call: `served` are the bytes that the call served, and `said` is its reply
abbrev pub line_of : Setting → Word → List ℕ → Reply → List Step → SeenLine
line_of set word served said steps = record {
  caller = set.caller;
  event = set.event;
  word = word;
  answer = said.answer;
  steps = steps;
  shown = shown_by served said.shows;
}
