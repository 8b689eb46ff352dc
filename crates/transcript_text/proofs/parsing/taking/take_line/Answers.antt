use Rattle.std.proofs.Common.{arith}
use Rattle.std.proofs.lemmas.List.{length-map}
use Rattle.transcript_text.specs.Grouping.{seen_callers}
use Rattle.transcript_text.proofs.ReadingOn.{line_taken}
use Rattle.transcript_text.proofs.parsing.taking.take_line.Goals as goal

pub returns : goal.returns
returns c =
    let from = c.in-Some.ensures in
    line_taken c.args.text.now c.in-Some.read from.is (seen_callers c.args.done.now.items)
    (seen_callers c.go_on_to.new.done.items) c.args.current.now.lines c.go_on_to.new.current.lines
    c.push_read.new.self.lines _ c.push_read.result
    (omega (
      arith,
      from.later,
      c.len.ensures,
      length-map c.args.done.now.items (λ x. x.lines),
      c.args.done.now.ok.0,
    ))
    from.below
    (omega (
      arith,
      c.in_ok-go_on_to.ensures.len,
      length-map c.go_on_to.new.done.items (λ x. x.lines),
      c.go_on_to.new.done.ok.0,
    ))
    c.in_ok-go_on_to.ensures.groups c.push_read.ensures
