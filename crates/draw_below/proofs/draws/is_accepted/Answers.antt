use Rattle.std.proofs.Common.{ap, nat_le, rules, ◌<◌}
use Rattle.draw_below.proofs.Bound.{negative_mod}
use Rattle.draw_below.proofs.draws.is_accepted.Goals as goal

pub returns-else-low-c : goal.returns-else-low-c
returns-else-low-c c =
    let small : c.wrapping_neg.result < 4294967296 = search rules in
    let fits : c.args.c < 4294967296 = search rules in
    ap (λ m. nat_le m c.args.low)
    (negative_mod c.wrapping_neg.result c.args.c c.wrapping_neg.ensures small c.requires fits)
