use Rattle.std.proofs.Common.{◌≡◌}
use Rattle.std.specs.Io.Buffered.{writer_contents}
use Rattle.std.specs.Io.KnownBytes.{Keeps}
use Rattle.io_edges.proofs.standard.StdSinkSink.put.Given as goal

-- a write that was interrupted appended nothing
abbrev pub invariant-loop : goal.invariant-loop
invariant-loop g l =
    Keeps (writer_contents g.O.Write.contents l.fn.self.writer) (writer_contents g.O.Write.contents l.self.writer)
    × (l.self.faults ≡ l.fn.self.faults)
