use Rattle.std.proofs.Common.{◌∙◌, ap}
use Rattle.std.proofs.lemmas.List.Sorted.{All-permutation, IsPermutation-map}
use Rattle.key_names.specs.Lanes.Book.{lists_of}
use Rattle.audit_keys.specs.Rows.{IsRow, all_pieces, birth_of}
use Rattle.audit_keys.specs.Entries.{all_lists_in}
use Rattle.key_audit.proofs.KeptEntries.{has_entries}
use Rattle.key_audit.proofs.keys.rows_of.Goals as goal

pub returns-clause-are : goal.returns-clause-are
returns-clause-are c t callers of ms keeps = record {
  listed = c.in_ok-listed.listed;
  tells = c.in_ok-listed.ensures (lists_of of) (rw c.deref-2.ensures.value
      (has_entries c.args.book.now.lanes (lists_of of) keeps.lanes c.in_ok-entries.entries.items
      (c.in_ok-entries.ensures ∙ ap all_lists_in c.deref.ensures.value ∙ keeps.states)));
  each = rw (← c.in_ok-rows.ensures.births)
      (IsPermutation-map birth_of c.in_ok-rows.rows.items c.sort_rows.new.rows.items c.sort_rows.ensures.same);
  say = All-permutation (IsRow (all_pieces c.in_ok-listed.listed) c.in_ok-listed.listed.lives.endings.items) _ _ c.sort_rows.ensures.same c.in_ok-rows.ensures.rows;
}
