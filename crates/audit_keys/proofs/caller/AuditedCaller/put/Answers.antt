use Rattle.std.proofs.Common.{◌++◌, List, ap, ◌∙◌, arith}
use Rattle.std.specs.Prelude.{slice_set}
use Rattle.audit_keys.specs.declared.entry.StateEntry.{StateEntry}
use Rattle.audit_keys.specs.Stamped.{States, current_list, left_by}
use Rattle.audit_keys.proofs.Over.{list_put}
use Rattle.audit_keys.proofs.caller.AuditedCaller.put.Goals as goal

pub returns : goal.returns
returns c =
    let more : List StateEntry = left_by c.args.call c.args.end c.args.left.now in
    ap (λ (lists : List (List StateEntry)). record {
      outlines = record { each = c.self.inside.outlines.items; current = c.self.inside.current };
      lists = lists;
      stamp = c.self.inside.stamp;
    })
    (list_put c.self.inside.lists.items c.self.inside.current c.index_mut.result.now c.put_after.new.list more
    (omega (arith, c.if-self-len.false, c.len.ensures)) c.index_mut.ensures.value c.in_ok-put_after.ensures)
    ∙ ap (λ (s : States). record {
      outlines = s.outlines;
      lists = slice_set s.lists s.outlines.current (current_list s ++ more);
      stamp = s.stamp;
    }) c.self.view_is
