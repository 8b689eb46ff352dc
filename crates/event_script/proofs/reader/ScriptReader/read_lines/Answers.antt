use Rattle.std.proofs.Common.{ap, arith, length, subst, ◌∙◌, ◌++◌, ◌∷◌, []}
use Rattle.event_script.specs.Feeding.{LeadsTo}
use Rattle.event_script.proofs.Feeding.{after_is_whole, lines_read, none_read}
use Rattle.event_script.proofs.WholeLines.{no_lines}
use Rattle.event_script.proofs.reader.ScriptReader.read_lines.Goals as goal

pub returns-in_default-clause-read : goal.returns-in_default-clause-read
returns-in_default-clause-read c = λ text following at.
    none_read text c.args.lines.now following c.args.self.now c.requires.whole c.in_default.ensures.parts at

pub read-requires-2-clause-whole : goal.read-requires-2-clause-whole
read-requires-2-clause-whole c =
    after_is_whole c.args.lines.now c.in-Some.end.now c.in-Some.following.now c.requires.whole c.in-Some.ensures.parts

pub returns-clause-read : goal.returns-clause-read
returns-clause-read c = λ text following at.
    lines_read text c.args.lines.now c.in-Some.end.now c.in-Some.following.now following c.deref.result.now c.args.self.now _
    c.in_ok-stage.stage c.in-Some.ensures.parts
    (c.deref.ensures.value ∙ c.in_ok-push.ensures.items ∙ ap (λ x. x ++ 10 ∷ []) c.in_ok-extend_from_slice.ensures.items)
    c.clear.ensures.items
    (subst (λ s. LeadsTo s c.deref.result.now c.in_ok-stage.stage []) c.replace-stage.ensures.value c.in_ok-stage.ensures)
    c.in_ok-self.ensures at

pub returns-in_default-clause-rest : goal.returns-in_default-clause-rest
returns-in_default-clause-rest c = λ some.
    absurd (omega (
      arith,
      some,
      ap length (no_lines c.args.lines.now c.requires.whole c.in_default.ensures.parts),
    ))
