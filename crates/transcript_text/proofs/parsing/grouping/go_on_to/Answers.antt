use Rattle.std.proofs.Common.{List, ap, sym, subst, ◌∙◌, arith}
use Rattle.key_names.specs.Transcripts.SeenLine.{SeenLine}
use Rattle.transcript_text.specs.Grouping.{Groups, seen_callers}
use Rattle.transcript_text.specs.declared.caller_lines.CallerLines.{CallerLines}
use Rattle.transcript_text.proofs.GroupedLines.{groups_next, seen_callers-push}
use Rattle.transcript_text.proofs.parsing.grouping.go_on_to.Goals as goal

pub loop-alloc-preserved : goal.loop-alloc-preserved
loop-alloc-preserved c =
    let pushed = seen_callers-push c.loop-alloc.done.items c.push.new.self.items c.replace.result
    c.loop-alloc.current.lines c.in_ok-push.ensures.items
    (ap (λ (x : CallerLines). x.lines) c.replace.ensures.value) in
    record {
      groups = λ lines g.
          subst (λ (x : List SeenLine). Groups (seen_callers c.push.new.self.items) x lines)
          (sym (ap (λ (x : CallerLines). x.lines) c.replace.ensures.after ∙ c.in_ok-next.ensures.lines))
          (groups_next (seen_callers c.loop-alloc.done.items) (seen_callers c.push.new.self.items)
          c.loop-alloc.current.lines lines pushed (c.loop-alloc.invariant.groups lines g));
      len = omega (arith, c.in_ok-push.ensures.len);
    }
