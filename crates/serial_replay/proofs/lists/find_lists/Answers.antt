use Rattle.std.proofs.Common.{List}
use Rattle.key_names.specs.Transcripts.SeenLine.{SeenLine}
use Rattle.judge_lines.specs.Seen.{seen_callers}
use Rattle.judge_log.specs.Tables.{tables_of}
use Rattle.serial_replay.proofs.RemadeLines.{early_fails, forks_rise, none_replayed}
use Rattle.serial_replay.proofs.lists.find_lists.Goals as goal

pub returns-in-No : goal.returns-in-No
returns-in-No c = early_fails c.args.script.now (seen_callers c.args.lines.now) c.in-No.clause
    (rw c.in-No.is at c.in_ok-clause.ensures)

pub all_settings-requires-clause-rise : goal.all_settings-requires-clause-rise
all_settings-requires-clause-rise c =
    let conform = rw c.in-Conforms.is at c.in_ok-clause.ensures in
    rw c.deref-2.ensures.value
    (forks_rise c.args.script.now (seen_callers c.args.lines.now) c.in-Conforms.parts conform c.requires)

pub returns-in_default-2 : goal.returns-in_default-2
returns-in_default-2 c =
    let t : List (List SeenLine) = seen_callers c.args.lines.now in
    let conform = rw c.in-Conforms.is at c.in_ok-clause.ensures in
    let gathered = rw c.in-Some.is at (c.in_ok-inferred.ensures.some t conform) in
    none_replayed c.args.script.now t c.in-Conforms.parts conform c.requires (tables_of c.in-Some.inferred) gathered
    (λ lists fills lawful. rw c.in_default-2.is at (c.in_ok-lists.ensures.only lists fills lawful))

pub returns : goal.returns
returns c =
    let t : List (List SeenLine) = seen_callers c.args.lines.now in
    let conform = rw c.in-Conforms.is at c.in_ok-clause.ensures in
    let gathered = rw c.in-Some.is at (c.in_ok-inferred.ensures.some t conform) in
    let some = rw c.in-Some-2.is at c.in_ok-lists.ensures.some in
    record {
      parts = conform;
      settings = rw c.deref.ensures.value at c.in_ok-settings.ensures;
      inferred = tables_of c.in-Some.inferred;
      gathered = gathered;
      lists = some.0;
      fills = some.1;
      lawful = some.2;
      keeps = λ lists fills lawful. rw c.in-Some-2.is at (c.in_ok-lists.ensures.only lists fills lawful);
    }
