use Rattle.std.proofs.Common.{map, sym, ap, ◌∙◌, arith}
use Rattle.std.proofs.lemmas.List.{take_all}
use Rattle.key_names.specs.Transcripts.SameSteps.{bare}
use Rattle.transcript_text.specs.Views.{seen}
use Rattle.judge_lines.specs.Seen.{seen_bare}
use Rattle.judge_lines.proofs.Fronts.{map_more, found_or}
use Rattle.judge_lines.proofs.seen.bare_lines.Goals as goal

pub bare_line-requires : goal.bare_line-requires
bare_line-requires c = c.line.ensures.fits.few_steps

pub loop-number-preserved : goal.loop-number-preserved
loop-number-preserved c = rw c.in_ok-push.ensures.items
    (map_more seen_bare bare c.loop-number.bares.items c.args.lines.now.lines c.loop-number.number c.bare_line.result
    (seen c.line.result) c.loop-number.invariant (omega arith)
    (c.bare_line.ensures
    ∙ ap bare (sym (found_or c.args.lines.now.lines c.loop-number.number (seen c.line.result) c.line.ensures.line))))

pub returns : goal.returns
returns c =
    c.loop-number.invariant
    ∙ ap (map bare) (take_all c.loop-number.number c.args.lines.now.lines (omega arith))
