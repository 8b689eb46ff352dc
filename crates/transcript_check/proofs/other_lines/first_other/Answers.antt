use Rattle.transcript_check.proofs.Places.{places_too}
use Rattle.transcript_check.specs.Others.{HasOther, IsOtherAt}
use Rattle.key_names.specs.Lanes.Book.{list_at}
use Rattle.serial_replay.specs.Remade.{made_by}
use Rattle.transcript_check.proofs.other_lines.first_other.Goals as goal

pub returns-in-Made : goal.returns-in-Made
returns-in-Made g c =
    let of = rw c.in-Made.is at c.in_ok-made.ensures.of_steps in
    let found = rw c.deref.ensures.value at c.first_of_all.ensures in
    places_too
    (λ p. IsOtherAt (g.P.SaidPart.IsSaid c.args.part.now) (list_at (made_by c.in-Made.made) p.caller)
    (list_at c.args.t.now p.caller) p.line)
    (λ p. HasOther (g.P.SaidPart.IsSaid c.args.part.now) c.args.script.now c.args.t.now p.caller p.line)
    (λ p other. record { made = c.in-Made.made; says = of; other = other })
    c.first_of_all.result found
