use Rattle.std.proofs.Common.{[], map, ap, ◌∙◌, arith}
use Rattle.std.specs.Global.{Vec}
use Rattle.std.proofs.lemmas.List.{take_all}
use Rattle.key_names.specs.Transcripts.SameSteps.{bare}
use Rattle.judge_lines.specs.declared.bare.BareLine.{BareLine}
use Rattle.judge_lines.specs.Seen.{seen_bare}
use Rattle.judge_lines.proofs.Fronts.{map_more}
use Rattle.judge_lines.proofs.seen.bare_callers.Goals as goal

pub loop-caller-preserved : goal.loop-caller-preserved
loop-caller-preserved c = rw c.in_ok-push.ensures.items
    (map_more (λ (lines : Vec BareLine). map seen_bare lines.items) (map bare) c.loop-caller.callers.items c.args.t.now
    c.loop-caller.caller c.in_ok-bare_lines.field-0 [] c.loop-caller.invariant
    (omega (arith, c.callers-caller-end.ensures.number))
    (c.in_ok-bare_lines.ensures ∙ ap (map bare) c.caller.ensures))

pub returns : goal.returns
returns c =
    c.loop-caller.invariant
    ∙ ap (map (map bare))
    (take_all c.loop-caller.caller c.args.t.now (omega (arith, c.callers-caller-end.ensures.number)))
