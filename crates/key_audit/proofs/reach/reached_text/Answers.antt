use Rattle.std.proofs.Common.{List, ◌++◌, subst, ap, ◌∙◌}
use Rattle.std.specs.Prelude.{Contains, IsPermutation, IsTrue, ◌↔◌}
use Rattle.std.specs.BTreeSet.{contains}
use Rattle.std.specs.List.Sorted.{IsStableByKey}
use Rattle.key_names.specs.declared.names.KeyName.{KeyName}
use Rattle.key_names.specs.contracts.names.KeyNameOrd.TheImpl.{ghosts as names}
use Rattle.audit_keys.specs.contracts.moments.LineOfOrd.TheImpl.{ghosts as lines}
use Rattle.key_audit.specs.declared.edges.Edge.{Edge}
use Rattle.key_audit.specs.declared.reach.Copied.{Copied}
use Rattle.key_audit.specs.Edges.{IsReached, edges_of}
use Rattle.key_audit.specs.Reach.{copied_lines, next_lines, rest_keys}
use Rattle.key_audit.proofs.reach.reached_text.Goals as goal

pub returns : goal.returns
returns c =
    let is_held = contains names.cmp c.in_ok-held.held in
    let is_known = contains names.cmp c.in_ok-known.known in
    let copied = c.sort_by_line.new.all.items in
    record {
      is_held = is_held;
      held = subst (λ (keys : List KeyName). (key : KeyName) → IsTrue (is_held key) ↔ Contains keys key)
          (c.deref.ensures.value ∙ c.in_ok-names.ensures) c.in_ok-held.ensures;
      is_known = is_known;
      known = subst
          (λ (start : List KeyName). (key : KeyName) → IsTrue (is_known key) ↔ IsReached (edges_of c.args.rows.now) start key)
          (c.deref-4.ensures.value ∙ c.in_ok-start.ensures
          ∙ ap (λ names. names ++ rest_keys c.args.rests.now c.args.rows.now) (c.deref-2.ensures.value ∙ c.in_ok-names.ensures))
          (subst
          (λ (edges : List Edge). (key : KeyName) → IsTrue (is_known key) ↔ IsReached edges c.deref-4.result.now key)
          (c.deref-3.ensures.value ∙ c.in_ok-edges.ensures) c.in_ok-known.ensures);
      copied = copied;
      each = subst (λ (all : List Copied). IsPermutation all copied) c.in_ok-copied.ensures
          c.in_ok-sort_by_line.ensures.each;
      ordered = c.in_ok-sort_by_line.ensures.ordered;
      stable = subst (λ (all : List Copied). IsStableByKey (λ one. one.line) lines.cmp all copied)
          c.in_ok-copied.ensures c.in_ok-sort_by_line.ensures.stable;
      text = c.in_ok-put_lines.ensures
          ∙ (λ i. (c.in_ok-put_next.ensures
          ∙ ap (λ ts. ts ++ next_lines c.args.moments.now is_held is_known c.args.rows.now) c.new-text.ensures) i
          ++ copied_lines (c.deref-5.ensures.value i));
    }
