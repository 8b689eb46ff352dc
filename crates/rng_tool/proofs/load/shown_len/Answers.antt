use Rattle.std.proofs.Common.{◌≤◌, List, length, ap, arith, ◌∙◌}
use Rattle.std.specs.List.{sum_by}
use Rattle.std.proofs.lemmas.List.{take_all}
use Rattle.key_names.specs.Transcripts.SeenLine.{SeenLine, bytes_shown}
use Rattle.rng_tool.proofs.ShownBytes.{sum_of_callers}
use Rattle.rng_tool.proofs.load.shown_len.Goals as goal

pub returns : goal.returns
returns c =
    let t = c.args.transcript.now in
    let all : length t ≤ c.loop-caller.caller =
    omega (arith, c.loop-caller-test.false, c.callers-caller-end.ensures.number) in
    c.loop-caller.invariant.so_far
    ∙ ap (λ (ls : List (List SeenLine)). sum_by (λ lines. length (bytes_shown lines)) ls)
    (take_all c.loop-caller.caller t all)
    ∙ sum_of_callers t
