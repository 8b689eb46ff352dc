use Rattle.std.proofs.Common.{ℕ, None}
use Rattle.std.proofs.lemmas.Option.{get_or_from_slice_get}
use Rattle.audit_keys.specs.Fills.{fill_of}
use Rattle.audit_keys.proofs.FillsMore.{served_one_more}
use Rattle.audit_keys.proofs.cpu_uses.serve_more.Goals as goal

pub returns-clause-more : goal.returns-clause-more
returns-clause-more c = λ book are.
    let fills = c.args.fills.now in
    let width : ℕ = c.args.width in
    let wide = c.ranges.width.fits in
    served_one_more fills book width _ wide are (c.in_ok-fills.ensures.more (book width)
    (get_or_from_slice_get fills width (fill_of (book width)) None (are width wide)))
