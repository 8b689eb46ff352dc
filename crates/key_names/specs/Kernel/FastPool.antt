-- A CPU's fast pool: four words that interrupts are mixed into, and when the pool is dumped (add_interrupt_randomness).
use Rattle.std.specs.Prelude.{ℕ, ◌+◌, ◌/◌, ◌%◌, ◌^◌, max, min, Bool, ◌&&◌, ◌||◌, List, ◌++◌, bit_xor, nat_lt, nat_le}
use Rattle.std.specs.Prelude.{if◌then◌else◌}
use Rattle.std.specs.Int.{w64, rotate_left, to_le_bytes}
use Rattle.std.specs.List.{fold}
use Rattle.key_names.specs.declared.entries.CpuEntry.{CpuEntry}
use Rattle.key_names.specs.declared.entries.CpuEntry.TheVariants.{Read, Int, Irq, Dump, Prepare, Online}

pub record FastWords : Type 0 where
  pub s0 : ℕ
  pub s1 : ℕ
  pub s2 : ℕ
  pub s3 : ℕ

-- the words; the 32-bit count, whose bit 31 marks a pending dump (MIX_INFLIGHT); and the moment of the last dump
pub record FastPool : Type 0 where
  pub words : FastWords
  pub count : ℕ
  pub last : ℕ

abbrev pub fast_start : FastPool
fast_start = record {
  words = record { s0 = 0x736f6d6570736575; s1 = 0x646f72616e646f6d; s2 = 0x6c7967656e657261; s3 = 0x7465646279746573 };
  count = 0;
  last = 0;
}

abbrev pub sum64 : ℕ → ℕ → ℕ
sum64 x y = (x + y) % 2 ^ 64

-- one round of SipHash (SIPHASH_PERMUTATION)
unfoldable pub sip_round : FastWords → FastWords
sip_round s =
    let a1 = sum64 s.s0 s.s1 in
    let b1 = bit_xor (rotate_left w64 s.s1 13) a1 in
    let a2 = rotate_left w64 a1 32 in
    let c1 = sum64 s.s2 s.s3 in
    let d1 = bit_xor (rotate_left w64 s.s3 16) c1 in
    let a3 = sum64 a2 d1 in
    let d2 = bit_xor (rotate_left w64 d1 21) a3 in
    let c2 = sum64 c1 b1 in
    let b2 = bit_xor (rotate_left w64 b1 17) c2 in
    record { s0 = a3; s1 = b2; s2 = rotate_left w64 c2 32; s3 = d2 }

-- mixes in one word: xors it into s3 before a round, and into s0 after the round
unfoldable pub word_mixed : FastWords → ℕ → FastWords
word_mixed s v =
    let t = sip_round (record s { s3 = bit_xor s.s3 v }) in
    record t { s0 = bit_xor t.s0 v }

abbrev pub words_after : FastWords → ℕ → ℕ → FastWords
words_after s v1 v2 = word_mixed (word_mixed s v1) v2

abbrev pub in_flight : ℕ
in_flight = 2 ^ 31

abbrev pub count_next : FastPool → ℕ
count_next f = (f.count + 1) % 2 ^ 32

-- whether an interrupt at this moment makes a dump due
abbrev pub makes_due : FastPool → ℕ → Bool
makes_due f now = nat_lt (count_next f) in_flight && (nat_le 1024 (count_next f) || nat_lt (f.last + 1000) now)

abbrev pub fast_after_irq : FastPool → ℕ → ℕ → ℕ → FastPool
fast_after_irq f v1 v2 now = record f {
  words = words_after f.words v1 v2;
  count = if makes_due f now then count_next f + in_flight else count_next f;
}

abbrev pub fast_step : FastPool → CpuEntry → FastPool
fast_step f (Read look refill taken) = f
fast_step f (Int look refill width filled) = f
fast_step f (Irq v1 v2 now) = fast_after_irq f v1 v2 now
fast_step f (Dump now) = record f { count = 0; last = now }
fast_step f Prepare = f
fast_step f Online = record f { count = 0 }

abbrev pub fast_after : List CpuEntry → FastPool
fast_after = fold fast_step fast_start

-- the 16 bytes of a dump: the first two words of the fast pool
abbrev pub dump_bytes : FastPool → List ℕ
dump_bytes f = to_le_bytes w64 f.words.s0 ++ to_le_bytes w64 f.words.s1

-- the bits that a dump credits, 1 to 128
abbrev pub dump_bits : FastPool → ℕ
dump_bits f = max 1 (min 128 (f.count % 2 ^ 16 / 64))
