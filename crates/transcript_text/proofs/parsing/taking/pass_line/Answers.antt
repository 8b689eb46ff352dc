use Rattle.std.proofs.Common.{sym, arith}
use Rattle.transcript_text.specs.ReadLines.{seen_read}
use Rattle.transcript_text.proofs.LineTexts.{shows_data}
use Rattle.transcript_text.proofs.parsing.taking.pass_line.Goals as goal

pub returns-then-not-spells_data : goal.returns-then-not-spells_data
returns-then-not-spells_data c = λ line fits low high e.
    let none = rw c.if-not-spells_data.true at c.spells_data.ensures in
    let shows = shows_data c.args.text.now c.in-Some.read c.in-Some.ensures.is line fits e in
    none line.shown shows.0 shows.1

pub returns : goal.returns
returns c =
    let spells = rw c.if-not-spells_data.false at c.spells_data.ensures in
    let from = c.in-Some.ensures in
    let at = c.in_ok-go_on_to.ensures.len in
    record {
      line = seen_read c.in-Some.read spells.shown;
      fits = from.is.fits spells.shown spells.fits spells.spelt;
      spelt = from.is.spelt spells.shown spells.spelt;
      own = sym at;
      later = omega (arith, at, from.later, c.len.ensures);
      below = omega (arith, at, from.below);
    }
