use Rattle.std.proofs.Common.{◌≡◌, ◌-◌, ◌≤◌, length, take, drop}
use Rattle.std.specs.Io.KnownBytes.{Appends}
use Rattle.io_edges.proofs.whole.put_all.Given as goal

abbrev pub invariant-loop-rest : goal.invariant-loop-rest
invariant-loop-rest g l = record {
  put : Appends (g.K.Sink.held l.fn.sink) (g.K.Sink.held l.sink) (take (length l.piece - length l.rest) l.piece);
  rest : l.rest ≡ drop (length l.piece - length l.rest) l.piece;
  within : length l.rest ≤ length l.piece;
  counted : g.K.Sink.faults l.sink ≡ g.K.Sink.faults l.fn.sink;
}

abbrev pub decreases-loop-rest : goal.decreases-loop-rest
decreases-loop-rest g l = length l.rest
