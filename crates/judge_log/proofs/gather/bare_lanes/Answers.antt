use Rattle.std.proofs.Common.{◌≡◌, ◌+◌, List, [], length, Vec, Global, sym, subst, ap, ◌∙◌}
use Rattle.std.proofs.lemmas.List.{length_push}
use Rattle.key_names.specs.Lanes.Book.{list_at}
use Rattle.judge_log.specs.declared.inferred.InferredCpu.{InferredCpu}
use Rattle.judge_log.proofs.Tables.BareRows.{items_of, bare_more}
use Rattle.judge_log.proofs.gather.bare_lanes.Goals as goal

pub loop-preserved : goal.loop-preserved
loop-preserved c = record {
  long = ap length c.in_ok-push.ensures.items ∙ length_push c.loop.lanes.items c.new.result
      ∙ ap (λ n. n + 1) c.loop.invariant.long;
  bare = λ d. subst (λ (xs : List (Vec InferredCpu Global)). list_at (items_of xs) d ≡ []) (sym c.in_ok-push.ensures.items)
      (bare_more c.loop.lanes.items c.new.result c.new.ensures.items c.loop.invariant.bare d);
}
