use Rattle.std.proofs.Common.{◌≡◌, ℕ, ◌<◌, ◌==◌, false, List, arith, length, sym}
use Rattle.std.proofs.lemmas.Bool.{OnFalse_at, eqb-false, eqb-true}
use Rattle.event_script.specs.declared.whole.stage.ScriptStage.TheVariants.{Lines}
use Rattle.event_script.proofs.Stages.{end_read, fails_on, leads_on, line_fails, line_read, stays}
use Rattle.event_script.proofs.whole.stage.after_lines.Goals as goal

-- a text has a byte if its length is not 0
some_left : (text : List ℕ) → false ≡ (length text == 0) → 0 < length text
some_left text is = omega (arith, eqb-false (length text) 0 (sym is))

pub loop-alloc-init : goal.loop-alloc-init
loop-alloc-init c = record { leads = stays _ c.args.text.now c.requires.whole; within = omega arith }

pub returns-in-Err : goal.returns-in-Err
returns-in-Err c =
    let l = c.loop-alloc in
    rw c.at_line.ensures
    (fails_on _ (Lines l.draft l.number) c.args.text.now l.left.now _ l.invariant.leads
    (line_fails l.left.now l.invariant.leads.whole (some_left l.left.now c.loop-alloc-test.ensures) l.draft l.number
    c.in-Err.error c.in-Err.ensures.next))

pub returns-then-not-more : goal.returns-then-not-more
returns-then-not-more c =
    let l = c.loop-alloc in
    let ensured = c.in-Ok.ensures in (
      leads_on _ (Lines l.draft l.number) _ c.args.text.now l.left.now c.in-Ok.both.1.now l.invariant.leads
          (end_read l.left.now l.invariant.leads.whole (some_left l.left.now c.loop-alloc-test.ensures)
          c.in-Ok.both.1.now ensured.rest ensured.shorter l.draft c.read_line.new.draft l.number
          (rw c.if-not-more.true at ensured.next) (OnFalse_at c.if-not-more.true ensured.kept)),
      omega (arith, ensured.shorter, l.invariant.within),
    )

pub loop-alloc-preserved : goal.loop-alloc-preserved
loop-alloc-preserved c =
    let l = c.loop-alloc in
    let ensured = c.in-Ok.ensures in
    record {
      leads = leads_on _ (Lines l.draft l.number) _ c.args.text.now l.left.now c.in-Ok.both.1.now l.invariant.leads
          (line_read l.left.now l.invariant.leads.whole (some_left l.left.now c.loop-alloc-test.ensures)
          c.in-Ok.both.1.now ensured.rest ensured.shorter l.draft c.read_line.new.draft l.number
          (rw c.if-not-more.false at ensured.next));
      within = omega (arith, ensured.shorter, l.invariant.within);
    }

pub returns : goal.returns
returns c =
    let left = c.loop-alloc.left.now in
    (c.loop-alloc.invariant.leads, omega (arith, eqb-true (length left) 0 (sym c.loop-alloc-test.ensures), c.requires.some))
