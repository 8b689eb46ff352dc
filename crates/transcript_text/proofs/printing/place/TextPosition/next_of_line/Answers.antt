use Rattle.std.proofs.Common.{◌+◌, ◌++◌, ap, subst, sym, drop, ◌∙◌}
use Rattle.transcript_text.specs.Places.{HasShown, lines_left}
use Rattle.transcript_text.specs.Views.{seen}
use Rattle.transcript_text.proofs.Places.{has_shown, line_ended, line_goes_on, shown_at}
use Rattle.transcript_text.proofs.printing.place.TextPosition.next_of_line.Goals as goal

pub show-requires-clause-within : goal.show-requires-clause-within
show-requires-clause-within c = shown_at c.args.self.now.shown c.args.self.now.line c.args.lines.now.lines
    (seen c.line.result) c.line.ensures.line c.requires.within

pub returns-then-show-clause-text : goal.returns-then-show-clause-text
returns-then-show-clause-text c =
    let lines = c.args.lines.now.lines in
    line_ended c.args.self.now.shown c.args.self.now.line lines (seen c.line.result) c.begin.new.piece
    c.show.new.piece c.push.new.self c.line.ensures.line c.begin.ensures.text (c.show.ensures.all c.if-show.true)
    c.push.ensures
    ∙ ap (λ line. c.push.new.self ++ lines_left 0 (drop (line + 1) lines)) (sym c.show.ensures.line)

pub returns-else-show-clause-text : goal.returns-else-show-clause-text
returns-else-show-clause-text c =
    let lines = c.args.lines.now.lines in
    line_goes_on c.args.self.now.shown c.show.new.self.shown c.args.self.now.line lines (seen c.line.result)
    c.begin.new.piece c.show.new.piece c.line.ensures.line c.begin.ensures.text (c.show.ensures.some c.if-show.false)
    (c.show.ensures.part c.if-show.false)
    ∙ ap (λ line. c.show.new.piece ++ lines_left c.show.new.self.shown (drop line lines)) (sym c.show.ensures.line)

pub returns-else-show-clause-within : goal.returns-else-show-clause-within
returns-else-show-clause-within c =
    let lines = c.args.lines.now.lines in
    subst (λ line. HasShown c.show.new.self.shown (drop line lines)) (sym c.show.ensures.line)
    (has_shown c.show.new.self.shown c.args.self.now.line lines (seen c.line.result) c.line.ensures.line
    (c.show.ensures.within c.if-show.false))
