use Rattle.std.proofs.Common.{◌∙◌, ◌++◌}
use Rattle.key_audit.specs.Texts.{rows_text}
use Rattle.key_audit.proofs.KeptVisits.{kept_moments}
use Rattle.key_audit.proofs.keys.keys_text.Goals as goal

pub returns : goal.returns
returns c t callers of ms keeps = record {
  moments = c.in_ok-moments.moments;
  are_moments = kept_moments c.args.book.now t callers of ms keeps c.in_ok-moments.moments c.in_ok-moments.ensures.marks
      c.in_ok-moments.ensures.states;
  rows = c.in_ok-rows.rows.items;
  are = c.in_ok-rows.ensures.are t callers of ms keeps;
  ordered = c.in_ok-rows.ensures.ordered;
  text = c.in_ok-rows-2.ensures
      ∙ (λ i. c.new-text.ensures i ++ rows_text c.in_ok-moments.moments (c.deref.ensures.value i));
}
