use Rattle.std.specs.Prelude.{codes}
use Rattle.key_audit.proofs.WordTexts.{live_word, same_text, some_asks}
use Rattle.key_audit.proofs.ask.ask_by.Goals as goal

pub returns-then-eq-clause-found : goal.returns-then-eq-clause-found
returns-then-eq-clause-found c =
    some_asks c.args.word.now c.args.argument.now c.live_of.result
    (same_text c.args.word.now (codes "live") _ c.eq.ensures c.if-eq.true)
    (rw (← c.as_bytes.ensures.value) c.live_of.ensures.found)

pub returns-then-eq-clause-only : goal.returns-then-eq-clause-only
returns-then-eq-clause-only c ask asks =
    c.live_of.ensures.only ask (rw c.as_bytes.ensures.value
    (live_word c.args.word.now c.args.argument.now
    (same_text c.args.word.now (codes "live") _ c.eq.ensures c.if-eq.true) ask asks))
