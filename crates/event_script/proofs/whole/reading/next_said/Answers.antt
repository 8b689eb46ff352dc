use Rattle.key_names.specs.Texts.Spelling.{word_text}
use Rattle.event_script.specs.ShortLines.{after_word}
use Rattle.event_script.proofs.ShortLines.{front_says}
use Rattle.event_script.proofs.whole.reading.next_said.Goals as goal

pub returns-in-Some-clause-value : goal.returns-in-Some-clause-value
returns-in-Some-clause-value c =
    let range = c.short_event.ensures.range c.args.head.version c.args.head.cpus in
    let front = front_says c.args.head.version c.args.head.cpus c.short_event.result (word_text c.in-Some.word)
    (after_word c.in-Some.numbers) c.args.text.now c.in-Some.rest.now c.args.head.few range
    c.short_event.ensures.spelt c.in-Some.ensures.spelt in
    front.says

pub returns-in-Some-clause-range : goal.returns-in-Some-clause-range
returns-in-Some-clause-range c = c.short_event.ensures.range c.args.head.version c.args.head.cpus

pub returns-in-Some-clause-rest : goal.returns-in-Some-clause-rest
returns-in-Some-clause-rest c =
    let range = c.short_event.ensures.range c.args.head.version c.args.head.cpus in
    let front = front_says c.args.head.version c.args.head.cpus c.short_event.result (word_text c.in-Some.word)
    (after_word c.in-Some.numbers) c.args.text.now c.in-Some.rest.now c.args.head.few range
    c.short_event.ensures.spelt c.in-Some.ensures.spelt in
    front.rest_is
