use Rattle.std.proofs.Common.{All, List, subst, ◌∙◌, arith}
use Rattle.std.specs.List.{AllByRecursion}
use Rattle.std.proofs.lemmas.List.{take_all}
use Rattle.key_names.specs.Texts.TranscriptGrammar.{LineFits}
use Rattle.transcript_text.specs.declared.caller_lines.CallerLines.{CallerLines}
use Rattle.transcript_text.proofs.AllCallers.{callers_fit}
use Rattle.transcript_text.proofs.transcript.Transcript.of.Goals as goal

pub invariant_of-result : goal.invariant_of-result
invariant_of-result c =
    let all = subst (λ (xs : List CallerLines). All (λ x. AllByRecursion LineFits x.lines) xs)
    (take_all _ _ c.loop-caller-test.false ∙ c.deref-caller-items.ensures.value) c.loop-caller.invariant in
    callers_fit c.args.callers.items (omega (arith, c.args.callers.ok.0)) c.requires.last all

pub returns-clause-fits : goal.returns-clause-fits
returns-clause-fits c =
    let all = subst (λ (xs : List CallerLines). All (λ x. AllByRecursion LineFits x.lines) xs)
    (take_all _ _ c.loop-caller-test.false ∙ c.deref-caller-items.ensures.value) c.loop-caller.invariant in
    callers_fit c.args.callers.items (omega (arith, c.args.callers.ok.0)) c.requires.last all
