use Rattle.std.proofs.Common.{ℕ, List, ◌++◌, ap, sym, ◌∙◌, subst}
use Rattle.key_names.specs.declared.notes.PoolNote.{PoolNote}
use Rattle.key_names.specs.Lanes.PoolList.{PoolState, pool_step}
use Rattle.key_names.specs.Lanes.PoolNotes.{entry_of}
use Rattle.input_pool.specs.PoolConforms.{PoolConforms}
use Rattle.input_pool.proofs.Callers.{PoolConforms-mix, mixed, mixed-mixed}
use Rattle.judge_log.specs.PoolLane.{LaneConforms}
use Rattle.judge_log.proofs.pool_list.PoolReplay.enter.Goals as goal

pub returns-in-Mix-clause-state : goal.returns-in-Mix-clause-state
returns-in-Mix-clause-state c = λ (s : PoolState) (h : LaneConforms c.args.self.now s).
    subst (λ (n : PoolNote). LaneConforms (record { pool = c.credit.new.self; timer = c.args.self.now.timer })
    (pool_step s (entry_of n))) (sym c.in-Mix.is)
    (record {
      pool = PoolConforms-mix c.credit.new.self s c.in-Mix.text.now c.in-Mix.bits
          (c.credit.ensures.credited (mixed s c.in-Mix.text.now) (c.mix.ensures s h.pool));
      value = h.value;
      timer = h.timer;
    })

pub returns-in-Device-clause-state : goal.returns-in-Device-clause-state
returns-in-Device-clause-state c = λ (s : PoolState) (h : LaneConforms c.args.self.now s).
    subst (λ (n : PoolNote). LaneConforms (record { pool = c.mix-in-Device-2.new.self; timer = c.args.self.now.timer })
    (pool_step s (entry_of n))) (sym c.in-Device.is)
    (record {
      pool = subst (λ (z : PoolState). PoolConforms c.mix-in-Device-2.new.self z)
          (mixed-mixed s c.to_le_bytes.result c.in-Device.text.now
          ∙ ap (λ (l : List ℕ). mixed s (l ++ c.in-Device.text.now)) c.to_le_bytes.ensures)
          (c.mix-in-Device-2.ensures (mixed s c.to_le_bytes.result) (c.mix-in-Device.ensures s h.pool));
      value = h.value;
      timer = h.timer;
    })
