use Rattle.std.proofs.Common.{sym, ◌∙◌}
use Rattle.judge_log.proofs.Lanes.{items_count}
use Rattle.judge_log.specs.Tables.{tables_of}
use Rattle.judge_log.proofs.Tables.BareRows.{rows_and_left}
use Rattle.judge_log.proofs.gather.bare_rows.Goals as goal

pub loop-of-preserved : goal.loop-of-preserved
loop-of-preserved c =
    let longer = rw c.if-not-branch.false at c.in_ok-add_row.ensures in record {
      count = sym (items_count c.add_row.new.inferred.cpus.items) ∙ longer.cpus ∙ items_count c.loop-of.inferred.cpus.items
          ∙ c.loop-of.invariant.count;
      rows = λ lane. rows_and_left lane c.args.marks.now c.loop-of.of-index _ (tables_of c.loop-of.inferred)
          (tables_of c.add_row.new.inferred) _ c.loop-of-test.true longer (c.loop-of.invariant.rows lane);
    }
