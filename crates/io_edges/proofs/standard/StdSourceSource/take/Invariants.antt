use Rattle.std.proofs.Common.{◌≡◌}
use Rattle.std.specs.Io.KnownBytes.{Keeps}
use Rattle.io_edges.proofs.standard.StdSourceSource.take.Given as goal

-- a read that was interrupted took nothing
abbrev pub invariant-loop : goal.invariant-loop
invariant-loop g l =
    Keeps (g.I.Read.remaining l.fn.self.reader) (g.I.Read.remaining l.self.reader) × (l.self.faults ≡ l.fn.self.faults)
