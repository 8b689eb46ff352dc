use Rattle.tool_ends.proofs.Taking.{ok_both, on_ok}
use Rattle.tool_ends.proofs.intake.IntakeTextTaker.feed_piece.Goals as goal

pub returns : goal.returns
returns g c =
    on_ok c.take.result (λ both text fills. record {
      taken = both.0 text fills.taken;
      may = fills.may;
      made = both.1 fills.made;
    }) (ok_both _ _ c.take.result c.take.ensures.taken c.take.ensures.made)
