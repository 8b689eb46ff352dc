-- The facts of src/rules.rt, which the prover computes.
use Rattle.std.proofs.Common.{◌≡◌, ℕ, true, false, [], ◌∷◌, ◌++◌, refl, Some, replicate}
use Rattle.std.specs.Prelude.{map}
use Rattle.key_names.specs.declared.entries.PoolEntry.TheVariants.{Input}
use Rattle.key_names.specs.declared.entries.BaseEntry.TheVariants.{Reseed, Tick}
use Rattle.key_names.specs.declared.entries.CpuEntry.TheVariants.{Irq, Online}
use Rattle.key_names.specs.Kernel.FastPool.{sip_round, word_mixed, fast_start, fast_after, makes_due, dump_bits}
use Rattle.key_names.specs.Lanes.PoolList.{credit, crossing, ready, early, none, pool_after}
use Rattle.key_names.specs.Lanes.BaseList.{base_after, interval}
use Rattle.worked_cases.specs.Rules.{bits_after, timer_at, finished, rounds, siphash_start}

pub crossings : map (λ (n : ℕ). crossing n (credit n 1)) (126 ∷ 127 ∷ 254 ∷ 255 ∷ 256 ∷ [])
    ≡ none ∷ early ∷ none ∷ ready ∷ none ∷ []
crossings = refl

pub early_is_skipped : crossing 100 (credit 100 300) ≡ ready
early_is_skipped = refl

pub bits_of_inputs : map bits_after (1 ∷ 2 ∷ 3 ∷ 4 ∷ []) ≡ 9 ∷ 9 ∷ 19 ∷ 19 ∷ []
bits_of_inputs = refl

pub text_of_inputs : (pool_after (Input 0 1 30 1 1000 ∷ Input 0 1 30 1 2000 ∷ [])).text
    ≡ 0 ∷ 0 ∷ 0 ∷ 0 ∷ 0 ∷ 0 ∷ 0 ∷ 0 ∷ 14 ∷ 0 ∷ 0 ∷ 0 ∷ []
text_of_inputs = refl

pub due_by_time : map (makes_due fast_start) (1000 ∷ 1001 ∷ []) ≡ false ∷ true ∷ []
due_by_time = refl

pub due_by_count : makes_due (fast_after (replicate 1023 (Irq 1 2 0))) 0 ≡ true
unfolding word_mixed sip_round
due_by_count = refl

pub bits_of_count : dump_bits (fast_after (replicate 1024 (Irq 1 2 0))) ≡ 16
unfolding word_mixed sip_round
bits_of_count = refl

pub bits_after_online : dump_bits (fast_after (replicate 1024 (Irq 1 2 0) ++ Online ∷ [])) ≡ 1
unfolding word_mixed sip_round
bits_after_online = refl

pub intervals : map (interval true) (0 ∷ 1999 ∷ 5000 ∷ 119999 ∷ 120000 ∷ []) ≡ 1000 ∷ 1000 ∷ 2000 ∷ 59000 ∷ 60000 ∷ []
intervals = refl

pub late_interval : (base_after (Reseed 0 120000 ∷ Tick 180000 (Some 1) ∷ [])).timer ≡ Some 240000
late_interval = refl

pub timers : map timer_at (1 ∷ 2 ∷ 3 ∷ 4 ∷ 5 ∷ 6 ∷ [])
    ≡ Some 1000 ∷ Some 1000 ∷ Some 2000 ∷ Some 2000 ∷ Some 2000 ∷ Some 3000 ∷ []
timers = refl

pub siphash_of_nothing : finished (rounds 2 siphash_start) ≡ 0x726fdb47dd0e0e31
unfolding sip_round
siphash_of_nothing = refl
