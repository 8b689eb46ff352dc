use Rattle.std.proofs.Common.{◌≤◌, arith, length}
use Rattle.tool_ends.specs.Pairs.{IsNoPair}
use Rattle.tool_ends.proofs.Pairs.{too_long}
use Rattle.tool_ends.proofs.Taking.{broken_off, gives_apart, gives_none, no_read_fault, no_text}
use Rattle.tool_ends.proofs.pair.read_apart.Goals as goal

pub returns-in_err-count-clause-not_read : goal.returns-in_err-count-clause-not_read
returns-in_err-count-clause-not_read g c =
    broken_off 100663296 IsNoPair _ _ _ c.from_residual.result c.from_residual.ensures.1
    (no_text 100663296 IsNoPair _ _ _ c.in_err-count.ensures.not_read)

pub returns-clause-read : goal.returns-clause-read
returns-clause-read g c =
    let t = c.in_ok-count.ensures.read in
    let short : length t.text ≤ 100663296 = omega (arith, t.len, c.if-count-gt-MOST_PAIR_BYTES.false) in
    gives_apart _ _ t.text c.finish.result t.read (c.finish.ensures.read t.text t.has.taken short)

pub returns-clause-not_read : goal.returns-clause-not_read
returns-clause-not_read g c =
    let t = c.in_ok-count.ensures.read in
    let short : length t.text ≤ 100663296 = omega (arith, t.len, c.if-count-gt-MOST_PAIR_BYTES.false) in
    gives_none 100663296 IsNoPair _ _ t.text c.finish.result t.read (omega (arith, short)) (λ none. none)
    (c.finish.ensures.not_read t.text t.has.taken short)

pub returns-clause-read_fault : goal.returns-clause-read_fault
returns-clause-read_fault g c =
    let t = c.in_ok-count.ensures.read in
    no_read_fault 100663296 IsNoPair _ t.text c.finish.result (λ none. none)
    (c.finish.ensures.not_read t.text t.has.taken (omega (arith, t.len, c.if-count-gt-MOST_PAIR_BYTES.false)))

pub returns-then-count-gt-MOST_PAIR_BYTES-clause-not_read : goal.returns-then-count-gt-MOST_PAIR_BYTES-clause-not_read
returns-then-count-gt-MOST_PAIR_BYTES-clause-not_read g c =
    let t = c.in_ok-count.ensures.read in (
      t.text,
      t.read,
      too_long t.text (omega (arith, t.len, c.if-count-gt-MOST_PAIR_BYTES.true)),
    )
