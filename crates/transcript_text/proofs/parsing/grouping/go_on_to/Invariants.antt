use Rattle.std.proofs.Common.{◌-◌, ◌≤◌, List, vec_len}
use Rattle.key_names.specs.Transcripts.SeenLine.{SeenLine}
use Rattle.transcript_text.specs.Grouping.{Groups, seen_callers}
use Rattle.transcript_text.proofs.parsing.grouping.go_on_to.Given as goal

abbrev pub invariant-loop-alloc : goal.invariant-loop-alloc
invariant-loop-alloc l = record {
  groups : (lines : List SeenLine) → Groups (seen_callers l.fn.done.items) l.fn.current.lines lines
      → Groups (seen_callers l.done.items) l.current.lines lines;
  len : vec_len l.done ≤ l.caller;
}

abbrev pub decreases-loop-alloc : goal.decreases-loop-alloc
decreases-loop-alloc l = l.caller - vec_len l.done
