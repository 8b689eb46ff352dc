-- An input event has the same effect on the code's pool and timer as on the pool of the definitions.
use Rattle.std.proofs.Common.{◌≡◌, ◌≢◌, ℕ, ◌<◌, ◌≤◌, List, sym, ap, ◌∙◌, subst, arith}
use Rattle.key_names.specs.declared.entries.PoolEntry.TheVariants.{Input}
use Rattle.key_names.specs.Kernel.InputTimer.{InputTimer, input_timer_after, timer_bits}
use Rattle.key_names.specs.Lanes.PoolList.{PoolState, pool_step}
use Rattle.input_pool.specs.PoolConforms.{PoolParts, PoolConforms}
use Rattle.input_pool.proofs.Callers.{mixed, mixed_and_credited, input_bytes, credit-none, PoolConforms-timed, PoolConforms-untimed, pool_step-timed, pool_step-untimed}
use Rattle.sample_credit.specs.LastInput.{LastInput}
use Rattle.judge_log.specs.PoolLane.{LaneConforms}

-- an input event whose value differs from the last event's value: `between` is the pool after the event's sample was
-- mixed, and `kept` records the new value
pub record Mixed (s : PoolState) (word kind code value : ℕ) (before between : PoolParts) (last kept : LastInput)
    (text : List ℕ) : Type 0 where
  pub pool : PoolConforms before s
  pub value_stood : last.value ≡ s.value
  pub timer_stood : last.timer ≡ s.timer
  pub fresh : value ≢ last.value
  pub keeps : kept ≡ record last { value = value }
  pub bytes : text ≡ input_bytes word kind code value
  pub mixes : PoolConforms between (mixed s text)

module _ (s : PoolState) (word kind code value now : ℕ) (before between : PoolParts) (last kept : LastInput)
    (text : List ℕ) (m : Mixed s word kind code value before between last kept text) where
  differs : value ≢ s.value
  differs e = m.fresh (e ∙ sym m.value_stood)

  uncredited : between.bits ≡ s.bits
  uncredited = m.mixes.credited ∙ credit-none s.bits m.pool.capped

  -- if the pool `between` is full (256 bits), nothing is credited
  pub untimed : 256 ≤ between.bits →
      LaneConforms (record { pool = between; timer = kept }) (pool_step s (Input word kind code value now))
  untimed full = let full' : 256 ≤ s.bits = (let u = uncredited in omega arith) in let e =
      pool_step-untimed s word kind code value now differs full' in record {
        pool = PoolConforms-untimed before between s word kind code value now differs m.pool full'
            (subst (λ (t : List ℕ). PoolConforms between (mixed s t)) m.bytes m.mixes);
        value = ap (λ (k : LastInput). k.value) m.keeps ∙ sym (ap (λ (z : PoolState). z.value) e);
        timer = ap (λ (k : LastInput). k.timer) m.keeps ∙ m.timer_stood ∙ sym (ap (λ (z : PoolState). z.timer) e);
      }

  -- if the pool `between` is not full, the timer determines the credited bits
  module _ (after : PoolParts) (next : LastInput) (bits : ℕ) (room : between.bits < 256)
      (worth : bits ≡ timer_bits kept.timer now) (credits : PoolConforms after (mixed_and_credited s text bits)) where
    room' : s.bits < 256
    room' = let u = uncredited in omega arith

    timer_is : kept.timer ≡ s.timer
    timer_is = ap (λ (k : LastInput). k.timer) m.keeps ∙ m.timer_stood

    worth' : bits ≡ timer_bits s.timer now
    worth' = worth ∙ ap (λ (t : InputTimer). timer_bits t now) timer_is

    pub timed : next ≡ record kept { timer = input_timer_after kept.timer now } →
        LaneConforms (record { pool = after; timer = next }) (pool_step s (Input word kind code value now))
    timed times = let e = pool_step-timed s word kind code value now differs room' in record {
      pool = PoolConforms-timed after s word kind code value now differs room'
          (subst (λ (b : ℕ). PoolConforms after (mixed_and_credited s (input_bytes word kind code value) b)) worth'
          (subst (λ (t : List ℕ). PoolConforms after (mixed_and_credited s t bits)) m.bytes credits));
      value = ap (λ (k : LastInput). k.value) times ∙ ap (λ (k : LastInput). k.value) m.keeps
          ∙ sym (ap (λ (z : PoolState). z.value) e);
      timer = ap (λ (k : LastInput). k.timer) times ∙ ap (λ (t : InputTimer). input_timer_after t now) timer_is
          ∙ sym (ap (λ (z : PoolState). z.timer) e);
    }
