use Rattle.std.proofs.Common.{length, take, ap, sym, subst, ◌∙◌}
use Rattle.std.specs.Prelude.{All}
use Rattle.std.proofs.lemmas.List.Elements.{All-map, All-take}
use Rattle.judge_log.specs.Tables.{BaseIsNear, PoolIsNear}
use Rattle.transcript_check.proofs.Rows.{Wide, few_of, items, wide_of}
use Rattle.transcript_check.proofs.other_entries.begins.Goals as goal

pub cut_lanes-requires : goal.cut_lanes-requires
cut_lanes-requires c = rw c.deref-3.ensures.value (wide_of c.args.inferred.now.cpus.items c.requires.widths)

pub replay_lists-requires : goal.replay_lists-requires
replay_lists-requires c =
    let cut = c.in_ok-cut_lanes.field-0.items in
    let pool = c.in_ok-front.ensures in
    let base = c.in_ok-front-2.ensures in
    record {
      cpus_count = few_of c.args.inferred.now.cpus.items cut
          (c.in_ok-cut_lanes.ensures.long ∙ ap length c.deref-3.ensures.value) c.requires.cpus_count;
      notes = subst (All PoolIsNear) (sym (pool.1 ∙ ap (take pool.0) c.deref.ensures.value))
          (All-take PoolIsNear pool.0 c.args.inferred.now.pool.items c.requires.notes);
      moments = subst (All BaseIsNear) (sym (base.1 ∙ ap (take base.0) c.deref-2.ensures.value))
          (All-take BaseIsNear base.0 c.args.inferred.now.base.items c.requires.moments);
      widths = All-map Wide items cut c.in_ok-cut_lanes.ensures.wide;
    }
