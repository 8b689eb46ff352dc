use Rattle.std.proofs.Common.{◌≡◌, ◌-◌, ◌≤◌, List, ℕ, length}
use Rattle.std.specs.Io.KnownBytes.{Appends, Consumes}
use Rattle.rng_tool.specs.LiveSteps.{SessionAt, StopsBy}
use Rattle.rng_tool.proofs.live.Session.read_all.Given as goal

abbrev pub invariant-loop-taken : goal.invariant-loop-taken
invariant-loop-taken g l = record {
  text : List ℕ;
  read : Consumes (g.S.Source.left l.fn.source) (g.S.Source.left l.source) text;
  len : length text ≡ l.taken;
  within : l.taken ≤ 16777217;
  at : StopsBy (λ emitted. SessionAt text emitted l.self) (Appends (g.K.Sink.held l.fn.sink) (g.K.Sink.held l.sink));
  read_counted : g.S.Source.faults l.source ≡ g.S.Source.faults l.fn.source;
  counted : g.K.Sink.faults l.sink ≡ g.K.Sink.faults l.fn.sink;
}

abbrev pub decreases-loop-taken : goal.decreases-loop-taken
decreases-loop-taken g l = 16777217 - l.taken
