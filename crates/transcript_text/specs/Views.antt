-- Lines that borrow their steps and bytes (`LineView`), as values in contracts.
use Rattle.std.specs.Prelude.{ℕ, List, []}
use Rattle.key_names.specs.Transcripts.SeenLine.{Shown as SeenShown, no_data, count, bytes_or_none, SeenLine}
use Rattle.transcript_text.specs.declared.view.Shown.{Shown}
use Rattle.transcript_text.specs.declared.view.Shown.TheVariants.{None as NoData, Bytes, Count}
use Rattle.transcript_text.specs.declared.view.LineView.{LineView}

-- the bytes of a line's data, if they are bytes
abbrev pub bytes_of : Shown → List ℕ
bytes_of NoData = []
bytes_of (Bytes shown) = shown.now
bytes_of (Count n) = []

-- a line's data in the form that the definitions of a transcript use, with the bytes themselves instead of a borrow
abbrev pub seen_shown : Shown → SeenShown
seen_shown NoData = no_data
seen_shown (Bytes shown) = bytes_or_none shown.now
seen_shown (Count n) = count n

abbrev pub seen : LineView → SeenLine
seen line = record {
  caller = line.caller;
  event = line.event;
  word = line.word;
  answer = line.answer;
  steps = line.steps.now;
  shown = seen_shown line.shown;
}
