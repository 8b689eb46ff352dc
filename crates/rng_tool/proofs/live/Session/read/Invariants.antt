use Rattle.std.proofs.Common.{◌≡◌, ℕ, ◌++◌, List, length}
use Rattle.std.specs.Prelude.{Option}
use Rattle.std.specs.Io.KnownBytes.{Appends}
use Rattle.rng_tool.specs.LiveSteps.{SessionAt, StopsBy}
use Rattle.rng_tool.proofs.live.Session.read.Given as goal

abbrev pub invariant-loop-line : goal.invariant-loop-line
invariant-loop-line g l = record {
  done : List ℕ;
  split : l.fn.piece ≡ done ++ l.left;
  at : (start : Option (List ℕ)) (text emitted : List ℕ) → SessionAt text emitted l.fn.self
      → Appends start (g.K.Sink.held l.fn.sink) emitted
      → StopsBy (λ now. SessionAt (text ++ done) now l.self) (Appends start (g.K.Sink.held l.sink));
  counted : g.K.Sink.faults l.sink ≡ g.K.Sink.faults l.fn.sink;
}

abbrev pub decreases-loop-line : goal.decreases-loop-line
decreases-loop-line g l = length l.left
