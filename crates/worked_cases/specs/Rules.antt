-- Definitions for the worked rules: lists of entries up to a place, and SipHash by rounds.
use Rattle.std.specs.Prelude.{ℕ, zero, suc, Option, Some, None, [], ◌∷◌, bit_xor, take}
use Rattle.key_names.specs.declared.entries.PoolEntry.TheVariants.{Input}
use Rattle.key_names.specs.declared.entries.BaseEntry.TheVariants.{Reseed, Tick}
use Rattle.key_names.specs.Kernel.FastPool.{FastWords, sip_round}
use Rattle.key_names.specs.Lanes.PoolList.{pool_after}
use Rattle.key_names.specs.Lanes.BaseList.{base_after}

-- the pool's bits after the first `n` of four input events; the last event repeats the value of the event before
abbrev pub bits_after : ℕ → ℕ
bits_after n = (pool_after (take n
    (Input 0 1 30 1 1000 ∷ Input 0 1 30 2 3000 ∷ Input 0 1 30 3 8000 ∷ Input 0 1 30 3 8000 ∷ []))).bits

-- the timer after the first `n` of six entries; a forced reseed does not change the timer, and a tick that fires sets
-- the timer
abbrev pub timer_at : ℕ → Option ℕ
timer_at n = (base_after (take n
    (Reseed 0 0 ∷ Tick 999 None ∷ Tick 1000 (Some 1) ∷ Reseed 2 1500 ∷ Tick 1999 None ∷ Tick 2000
    (Some 3) ∷ []))).timer

-- the words of SipHash after the given number of rounds
abbrev pub rounds : ℕ → FastWords → FastWords
rounds zero s = s
rounds (suc n) s = rounds n (sip_round s)

-- the words with which SipHash begins for the key 00 01 .. 0f
abbrev pub siphash_start : FastWords
siphash_start = record {
  s0 = bit_xor 0x736f6d6570736575 0x0706050403020100;
  s1 = bit_xor 0x646f72616e646f6d 0x0f0e0d0c0b0a0908;
  s2 = bit_xor 0x6c7967656e657261 0x0706050403020100;
  s3 = bit_xor 0x7465646279746573 0x0f0e0d0c0b0a0908;
}

-- the hash that SipHash's last four rounds make of the given words
abbrev pub finished : FastWords → ℕ
finished s = let t = rounds 4 (record s { s2 = bit_xor s.s2 0xff }) in bit_xor (bit_xor t.s0 t.s1) (bit_xor t.s2 t.s3)
