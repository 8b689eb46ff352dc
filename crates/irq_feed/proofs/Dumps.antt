-- If all interrupts of a CPU come at moment 0, the CPU makes a dump after each 1,024th. The lemmas give the bits of the
-- pool after these dumps.
use Rattle.std.proofs.Common.{◌≡◌, inl, inr, ℕ, ◌+◌, ◌*◌, ◌/◌, ◌%◌, ◌<◌, ◌≤◌, ◌^◌, List, [], ◌∷◌, ◌++◌, length, map, refl, sym, ap, ◌∙◌, arith, true, false, cond, nat_le, ◌&&◌, ◌||◌, length-append, append_assoc, lit<}
use Rattle.std.specs.Prelude.{nat_lt, min, max}
use Rattle.std.specs.List.{fold}
use Rattle.std.proofs.Math.Bool.{or-false}
use Rattle.std.proofs.Math.Nat.{mod-eq_of_lt, min-eq_left, min-eq_right}
use Rattle.std.proofs.lemmas.Bool.{lt-ltb, le-ltb, leb-true, leb-false}
use Rattle.std.proofs.lemmas.Bool.Decides.{leb_tells}
use Rattle.std.proofs.lemmas.List.{map-append}
use Rattle.std.proofs.lemmas.List.Sums.{fold-append}
use Rattle.std.proofs.lemmas.Nat.{div-mul-add}
use Rattle.key_names.specs.declared.entries.PoolEntry.{PoolEntry}
use Rattle.key_names.specs.declared.entries.PoolEntry.TheVariants.{Mix}
use Rattle.key_names.specs.declared.entries.CpuEntry.{CpuEntry}
use Rattle.key_names.specs.declared.entries.CpuEntry.TheVariants.{Dump}
use Rattle.key_names.specs.Kernel.FastPool.{FastPool, fast_after, fast_after_irq, fast_start, fast_step, makes_due, count_next, in_flight, dump_bits}
use Rattle.key_names.specs.Lanes.PoolList.{PoolState, credit, pool_after, pool_start, pool_step}
use Rattle.irq_feed.specs.declared.samples.Sample.{Sample}
use Rattle.irq_feed.specs.TableFeed.{dumps_in, irq_entry, irq_here, irqs_in}

irqs_append : (xs ys : List CpuEntry) → irqs_in (xs ++ ys) ≡ irqs_in xs ++ irqs_in ys
irqs_append [] ys = refl
irqs_append (x ∷ xs) ys =
    ap (λ l. irq_here x ++ l) (irqs_append xs ys) ∙ sym (append_assoc (irq_here x) (irqs_in xs) (irqs_in ys))

dumps_append : (xs ys : List CpuEntry) → dumps_in (xs ++ ys) ≡ dumps_in xs + dumps_in ys
dumps_append [] ys = omega arith
dumps_append (x ∷ xs) ys = (let rest = dumps_append xs ys in omega arith)

-- `cpu` and `pool` are the lists of the CPU and of the pool after one interrupt for each sample of `samples`, all at
-- moment 0. There were `q` dumps so far, and `r` samples since the last dump
pub record Dumped (samples : List Sample) (cpu : List CpuEntry) (pool : List PoolEntry) : Type 0 where
  pub q : ℕ
  pub r : ℕ
  pub many : length samples ≡ q * 1024 + r
  pub low : r < 1024
  pub count : (fast_after cpu).count ≡ r
  pub last : (fast_after cpu).last ≡ 0
  pub irqs : irqs_in cpu ≡ map irq_entry samples
  pub dumps : dumps_in cpu ≡ q
  pub bits : (pool_after pool).bits ≡ min 256 (16 * q)

pub none_dumped : Dumped [] [] []
none_dumped = record {
  q = 0;
  r = 0;
  many = refl;
  low = lit< tt;
  count = refl;
  last = refl;
  irqs = refl;
  dumps = refl;
  bits = refl;
}

-- the number of dumps is the number of samples divided by 1,024, rounded down
pub dumps_are : (samples : List Sample) (cpu : List CpuEntry) (pool : List PoolEntry) (d : Dumped samples cpu pool) →
    length samples / 1024 ≡ d.q
dumps_are samples cpu pool d = ap (λ n. n / 1024) d.many ∙ div-mul-add d.q 1024 d.r d.low

-- ---- The lists after one more interrupt

more_count : (f : FastPool) (r : ℕ) → f.count ≡ r → r < 1024 → count_next f ≡ r + 1
more_count f r is low =
    ap (λ c. (c + 1) % 2 ^ 32) is ∙ mod-eq_of_lt (omega arith)

more_due : (f : FastPool) (r : ℕ) → f.count ≡ r → r < 1024 → f.last ≡ 0 → makes_due f 0 ≡ nat_le 1024 (r + 1)
more_due f r is low last =
    let next = more_count f r is low in
    let short : nat_lt (r + 1) in_flight ≡ true = lt-ltb (r + 1) in_flight (omega arith) in
    let never : nat_lt (f.last + 1000) 0 ≡ false = le-ltb (f.last + 1000) 0 (omega arith) in
    (λ i. nat_lt (next i) in_flight && (nat_le 1024 (next i) || never i))
    ∙ ap (λ b. b && (nat_le 1024 (r + 1) || false)) short
    ∙ or-false (nat_le 1024 (r + 1))

module _ (samples : List Sample) (cpu : List CpuEntry) (pool : List PoolEntry) (d : Dumped samples cpu pool)
    (x : Sample) where
  abbrev f : FastPool
  f = fast_after cpu

  abbrev after_irq : FastPool
  after_irq = fast_after_irq f x.v1 x.v2 0

  due_is : makes_due f 0 ≡ nat_le 1024 (d.r + 1)
  due_is = more_due f d.r d.count d.low d.last

  one_more : length (samples ++ x ∷ []) ≡ d.q * 1024 + d.r + 1
  one_more = length-append samples (x ∷ []) ∙ (let m = d.many in omega arith)

  irq_more : (es : List CpuEntry) → irqs_in es ≡ irq_entry x ∷ [] →
      irqs_in (cpu ++ es) ≡ map irq_entry (samples ++ x ∷ [])
  irq_more es is =
      irqs_append cpu es ∙ (λ i. d.irqs i ++ is i) ∙ sym (map-append irq_entry samples (x ∷ []))

  pub quiet_more : makes_due f 0 ≡ false → Dumped (samples ++ x ∷ []) (cpu ++ irq_entry x ∷ []) pool
  quiet_more quiet =
      let below : d.r + 1 < 1024 = leb-false 1024 (d.r + 1) (sym due_is ∙ quiet) in
      let fast : fast_after (cpu ++ irq_entry x ∷ []) ≡ after_irq = fold-append fast_step fast_start cpu (irq_entry x ∷ []) in
      record {
        q = d.q;
        r = d.r + 1;
        many = one_more ∙ omega arith;
        low = below;
        count = ap (λ (g : FastPool). g.count) fast ∙ ap (λ b. cond b (count_next f + in_flight) (count_next f)) quiet
            ∙ more_count f d.r d.count d.low;
        last = ap (λ (g : FastPool). g.last) fast ∙ d.last;
        irqs = irq_more (irq_entry x ∷ []) refl;
        dumps = dumps_append cpu (irq_entry x ∷ []) ∙ (let k = d.dumps in omega arith);
        bits = d.bits;
      }

  pub bits_at_dump : makes_due f 0 ≡ true → dump_bits (fast_after (cpu ++ irq_entry x ∷ [])) ≡ 16
  bits_at_dump due =
      let above : 1024 ≤ d.r + 1 = leb-true 1024 (d.r + 1) (sym due_is ∙ due) in
      let last_one : d.r + 1 ≡ 1024 = (let low = d.low in omega arith) in
      let count : (fast_after (cpu ++ irq_entry x ∷ [])).count ≡ 1024 + in_flight =
      ap (λ (g : FastPool). g.count) (fold-append fast_step fast_start cpu (irq_entry x ∷ []))
      ∙ ap (λ b. cond b (count_next f + in_flight) (count_next f)) due
      ∙ ap (λ n. n + in_flight) (more_count f d.r d.count d.low ∙ last_one) in
      ap (λ c. max 1 (min 128 (c % 2 ^ 16 / 64))) count

  -- after `q` dumps the pool has 16 `q` bits, capped at 256: the credit of one more dump adds 16 bits, up to that cap
  credit_more : (q : ℕ) → credit (min 256 (16 * q)) 16 ≡ min 256 (16 * (q + 1))
  credit_more q = elim (leb_tells (16 * q) 256) [
    | inl low ↦ (let under : 16 * q ≤ 256 = low.1 in
        let is : 16 * q + 16 ≡ 16 * (q + 1) = omega arith in
        ap (λ b. min 256 (b + 16)) (min-eq_right under) ∙ ap (min 256) is)
    | inr high ↦ (let over : 256 < 16 * q = high.1 in
        let first : min 256 (16 * q) ≡ 256 = min-eq_left (omega arith) in
        let second : min 256 (16 * (q + 1)) ≡ 256 = min-eq_left (omega arith) in
        ap (λ b. min 256 (b + 16)) first ∙ sym second)
  ]

  pub due_more : (text : List ℕ) (bits : ℕ) (rest : List PoolEntry) → makes_due f 0 ≡ true → bits ≡ 16 →
      ((s : PoolState) → (fold pool_step s rest).bits ≡ s.bits) →
      Dumped (samples ++ x ∷ []) (cpu ++ irq_entry x ∷ Dump 0 ∷ []) (pool ++ Mix text bits ∷ rest)
  due_more text bits rest due sixteen none =
      let above : 1024 ≤ d.r + 1 = leb-true 1024 (d.r + 1) (sym due_is ∙ due) in
      let last_one : d.r + 1 ≡ 1024 = (let low = d.low in omega arith) in
      let fast : fast_after (cpu ++ irq_entry x ∷ Dump 0 ∷ []) ≡ fast_step after_irq (Dump 0) =
      fold-append fast_step fast_start cpu (irq_entry x ∷ Dump 0 ∷ []) in
      record {
        q = d.q + 1;
        r = 0;
        many = one_more ∙ (let e = last_one in omega arith);
        low = lit< tt;
        count = ap (λ (g : FastPool). g.count) fast;
        last = ap (λ (g : FastPool). g.last) fast;
        irqs = irq_more (irq_entry x ∷ Dump 0 ∷ []) refl;
        dumps = dumps_append cpu (irq_entry x ∷ Dump 0 ∷ []) ∙ (let k = d.dumps in omega arith);
        bits = ap (λ (s : PoolState). s.bits) (fold-append pool_step pool_start pool (Mix text bits ∷ rest))
            ∙ none (pool_step (pool_after pool) (Mix text bits))
            ∙ (λ i. credit (d.bits i) (sixteen i)) ∙ credit_more d.q;
      }
