use Rattle.std.proofs.Common.{◌≡◌, ◌+◌, ◌++◌, List, ℕ, ap, take, ◌∙◌, arith}
use Rattle.std.specs.Prelude.{decimal}
use Rattle.transcript_text.proofs.Decimals.{written_on}
use Rattle.transcript_text.proofs.printing.line_buffer.Piece.append_number.Goals as goal

pub returns-clause-text : goal.returns-clause-text
returns-clause-text c =
    let digits = decimal c.args.number in
    let len = c.self.inside.len in
    let put = c.write_digits in
    let from : put.result ≡ len = omega (arith, put.ensures.start, c.count_digits.ensures.count) in
    ap (λ k. take (len + k) put.new.buf) c.count_digits.ensures.count
    ∙ written_on len digits c.self.inside.bytes put.new.buf _ (rw from at put.ensures.before) (rw from at put.ensures.written)
    ∙ ap (λ (xs : List ℕ). xs ++ digits) c.self.view_is
