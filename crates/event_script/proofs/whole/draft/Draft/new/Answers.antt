use Rattle.std.proofs.Common.{refl}
use Rattle.event_script.proofs.Tallies.{tallied_start}
use Rattle.event_script.proofs.whole.draft.Draft.new.Goals as goal

pub invariant_of-result-clause-tallied : goal.invariant_of-result-clause-tallied
invariant_of-result-clause-tallied c = rw (c.new.ensures.items, c.in_ok-no_events.ensures) (tallied_start _ refl)
