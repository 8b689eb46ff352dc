use Rattle.std.proofs.Common.{◌∙◌, append_assoc}
use Rattle.judge_lines.proofs.order.push_vread.Goals as goal

pub returns : goal.returns
returns c = c.in_ok-extend_from_slice-3.ensures.items
    ∙ rw (
      c.in_ok-push_at_point-4.ensures,
      c.in_ok-push_at_point-3.ensures,
      c.in_ok-extend_from_slice-2.ensures.items,
      c.in_ok-push_at_point-2.ensures,
      c.in_ok-push_at_point.ensures,
      c.in_ok-extend_from_slice.ensures.items,
      c.cut.ensures.looks,
      c.cut.ensures.rekey,
      c.cut.ensures.rest,
    ) (simp append_assoc)
