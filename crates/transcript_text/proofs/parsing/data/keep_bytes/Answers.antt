use Rattle.std.proofs.Common.{arith}
use Rattle.transcript_text.proofs.SpeltPieces.{names_none, names_bytes, spelt_short}
use Rattle.transcript_text.proofs.parsing.data.keep_bytes.Goals as goal

pub returns-then-len-eq0-clause-data : goal.returns-then-len-eq0-clause-data
returns-then-len-eq0-clause-data c =
    let appends = rw c.if-not-branch.false at c.in_ok-append_bytes.ensures.spelt in
    names_none c.args.text.now c.args.kept.now.items c.append_bytes.new.kept.items appends
    (omega (
      arith,
      c.if-len-eq0.true,
      c.len.ensures,
      c.len-start.ensures,
      c.args.kept.now.ok.0,
      c.append_bytes.new.kept.ok.0,
    ))

pub overflow_cast-result : goal.overflow_cast-result
overflow_cast-result c =
    let appends = rw c.if-not-branch.false at c.in_ok-append_bytes.ensures.spelt in
    omega (
      arith,
      spelt_short c.args.text.now c.args.kept.now.items c.append_bytes.new.kept.items appends,
      c.requires,
      c.len.ensures,
      c.len-start.ensures,
      c.args.kept.now.ok.0,
      c.append_bytes.new.kept.ok.0,
    )

pub returns-clause-data : goal.returns-clause-data
returns-clause-data c =
    let appends = rw c.if-not-branch.false at c.in_ok-append_bytes.ensures.spelt in
    names_bytes c.args.text.now c.args.kept.now.items c.append_bytes.new.kept.items c.len-start.result _ appends
    (omega (arith, c.len-start.ensures, c.args.kept.now.ok.0))
    (omega (arith, c.len.ensures, c.append_bytes.new.kept.ok.0))
    (omega (arith, c.if-len-eq0.false))
