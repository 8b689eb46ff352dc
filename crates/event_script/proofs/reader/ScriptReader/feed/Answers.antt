use Rattle.std.proofs.Common.{◌+◌, ◌++◌, ◌≡◌, ◌∙◌, ap, append-nil, arith, length, refl, sym}
use Rattle.event_script.proofs.Feeding.{ends_line, fits_still, is_over, piece_read, too_long_now}
use Rattle.event_script.proofs.reader.ScriptReader.feed.Goals as goal

pub returns-then-self-gt-MOST_BYTES-clause-fed : goal.returns-then-self-gt-MOST_BYTES-clause-fed
returns-then-self-gt-MOST_BYTES-clause-fed c = λ text fed.
    too_long_now text c.args.piece.now c.args.self.now _ fed
    (is_over text c.args.piece.now c.args.self.now fed
    (omega (arith, c.if-self-gt-MOST_BYTES.true, c.saturating_add-self.ensures))) c.if-self-gt-MOST_BYTES.true

pub returns-clause-fed : goal.returns-clause-fed
returns-clause-fed c = λ text fed.
    let len : c.saturating_add-self.result ≡ c.args.self.now.len + length c.args.piece.now =
    omega (arith, c.saturating_add-self.ensures, c.if-self-gt-MOST_BYTES.false) in
    piece_read text c.args.piece.now c.whole_lines.result.0.now c.whole_lines.result.1.now c.args.self.now _
    c.read_lines.new.self _ fed
    (fits_still text c.args.piece.now c.args.self.now fed (omega (arith, len, c.if-self-gt-MOST_BYTES.false)))
    c.whole_lines.ensures.all c.whole_lines.ensures.clean refl refl c.in_ok-read_lines.ensures.read refl
    c.in_ok-extend_from_slice.ensures.items (c.in_ok-read_lines.ensures.len ∙ len)

pub returns-clause-line : goal.returns-clause-line
returns-clause-line c = λ front is small.
    let cut = ends_line c.whole_lines.result.0.now c.whole_lines.result.1.now front
    (sym c.whole_lines.ensures.all ∙ is) c.whole_lines.ensures.clean in
    c.in_ok-extend_from_slice.ensures.items
    ∙ ap (λ x. c.read_lines.new.self.rest.items ++ x) cut.0
    ∙ append-nil c.read_lines.new.self.rest.items
    ∙ c.in_ok-read_lines.ensures.rest cut.1
