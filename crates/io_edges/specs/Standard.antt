-- The parts of `StdSource` and `StdSink` that contracts refer to.
use Rattle.std.specs.Prelude.{ℕ}
use Rattle.std.specs.Global.{Global}
use Rattle.std.specs.declared.io.buffered.BufWriter.{BufWriter}
use Rattle.io_edges.specs.declared.standard.StdSource.{StdSource}
use Rattle.io_edges.specs.declared.standard.StdSink.{StdSink}

abbrev pub source_reader : {I : Type 0} → StdSource I → I
source_reader s = s.reader

abbrev pub source_faults : {I : Type 0} → StdSource I → ℕ
source_faults s = s.faults

abbrev pub sink_writer : {O : Type 0} → StdSink O → BufWriter O Global
sink_writer s = s.writer

abbrev pub sink_faults : {O : Type 0} → StdSink O → ℕ
sink_faults s = s.faults
