-- If the entries of an event's line fit their lanes and its samples are correct, each visit has the entry that is
-- inferred from the steps around it.
use Rattle.std.proofs.Common.{◌≡◌, ℕ, zero, suc, ◌≤◌, Bool, true, false, List, [], ◌∷◌, ◌⊎◌, inl, inr, refl, sym, subst}
use Rattle.std.proofs.Common.{ap, ◌∙◌, arith, None}
use Rattle.std.specs.Prelude.{◌==◌, MatchBool}
use Rattle.key_names.specs.declared.entries.Taken.TheVariants.{User, Kernel}
use Rattle.key_names.specs.declared.entries.PoolEntry.{PoolEntry}
use Rattle.key_names.specs.declared.entries.PoolEntry.TheVariants.{Mix, Input as InputSample, Bits as ReadBits}
use Rattle.key_names.specs.declared.entries.BaseEntry.{BaseEntry}
use Rattle.key_names.specs.declared.entries.CpuEntry.{CpuEntry}
use Rattle.key_names.specs.declared.entries.CpuEntry.TheVariants.{Int, Dump, Prepare as Prepared, Online as Onlined}
use Rattle.key_names.specs.declared.events.Event.{Event}
use Rattle.key_names.specs.declared.events.Event.TheVariants.{Device, Write, Add, Credit, Bits, Irq, Input}
use Rattle.key_names.specs.declared.events.Event.TheVariants.{Read, Vread, Kread, Dread, Uread, Int8, Int16, Int32}
use Rattle.key_names.specs.declared.events.Event.TheVariants.{Int64, Reseed, Tick, Fork, Inside, Prepare, Online}
use Rattle.key_names.specs.declared.events.Event.TheVariants.{Vmfork}
use Rattle.key_names.specs.Lanes.CpuList.{CpuState, CpuFits}
use Rattle.key_names.specs.Kernel.Batches.{must_fill}
use Rattle.key_names.specs.Kernel.FastPool.{dump_bytes, dump_bits}
use Rattle.key_names.specs.Lanes.PoolList.{Crossing, ready, early, none, crossing}
use Rattle.key_names.specs.Callers.Calls.{Setting}
use Rattle.key_names.specs.Callers.Effects.{Effect, looked, at_pool, at_base, at_cpu, nothing_there, PoolVisit, CpuVisit}
use Rattle.key_names.specs.Callers.Forms.{IntForm, ReseedForm, CreditForm, IrqForm, DumpForm, Cross, Looked, ReadForm}
use Rattle.key_names.specs.Callers.Forms.{VmforkForm, device_entry, PoolOnly, CpuOnly}
use Rattle.judge_lines.specs.LaneFacts.{LaneFacts, AllFit}
use Rattle.judge_lines.specs.Inferred.{AllFill, Fills, crossed_entry, LineFills, Telling, reads, ints, mixes, credits}
use Rattle.judge_lines.specs.Inferred.{samples, reseeds, ticks, forks, prepares, vmforks, ends, silent}
use Rattle.key_names.specs.Callers.LineSamples.{SamplesConform, EntryIsQuiet}
use Rattle.judge_lines.specs.Laws.{FormIsInferred, EndIsInferred}
use Rattle.judge_lines.specs.declared.inferred.Sign.{Sign}
use Rattle.judge_lines.specs.declared.inferred.Sign.TheVariants.{Saw as saw, Nowhere as nowhere, InPool as in_pool}
use Rattle.judge_lines.specs.declared.inferred.Sign.TheVariants.{InBase as in_base, InCpu as in_cpu}
use Rattle.judge_lines.proofs.InferredReads.{filled_at, fit_at, read_inferred, draw_inferred, cpu_read_inferred, system_inferred}

module _ (c : LaneFacts) (set : Setting) where
  line_at : (t : Telling) {ds xs : List Effect} → ds ≡ xs → LineFills c set t xs → LineFills c set t ds
  line_at t {ds = ds} {xs = xs} p fill = let P : List Effect → Type 0 = λ x. LineFills c set t x in subst P (sym p) fill

  pub none_inferred : (t : Telling) (ds : List Effect) → ds ≡ [] → LineFills c set t ds
  none_inferred t ds p = line_at t p tt

  -- ---- the inferred entries of reads

  looked_read_inferred : (e : Event) (ds : List Effect) →
      (n : ℕ) → MatchBool (n == 0) (ds ≡ []) (Looked (ReadForm set (Kernel n)) ds) →
      LineFills c set (reads (Kernel n)) ds
  looked_read_inferred e ds n form = go (n == 0) form
    where
      go : (b : Bool) → MatchBool b (ds ≡ []) (Looked (ReadForm set (Kernel n)) ds) →
          LineFills c set (reads (Kernel n)) ds
      go true p = none_inferred (reads (Kernel n)) ds p
      go false f = line_at (reads (Kernel n)) f.2 (tt, read_inferred c set (Kernel n) (saw f.0) nowhere f.0 f.1 f.3)

  user_read_inferred : (e : Event) (ds : List Effect) →
      (n : ℕ) → MatchBool (n == 0) (ds ≡ []) (Looked (ReadForm set (User n)) ds) →
      LineFills c set (reads (User n)) ds
  user_read_inferred e ds n form = go (n == 0) form
    where
      go : (b : Bool) → MatchBool b (ds ≡ []) (Looked (ReadForm set (User n)) ds) → LineFills c set (reads (User n)) ds
      go true p = none_inferred (reads (User n)) ds p
      go false f = line_at (reads (User n)) f.2 (tt, read_inferred c set (User n) (saw f.0) nowhere f.0 f.1 f.3)

  -- ---- the inferred entries of random integers

  -- if the line's first look found generation 0, the entries inferred for a random integer are those inferred for a
  -- read by the kernel
  as_int : (w : ℕ) (first : Sign) (a b : Sign) (ds : List Effect) →
      AllFill (Fills c set (reads (Kernel w)) first) a b ds →
      AllFill (Fills c set (ints w) (saw 0)) a b ds
  as_int w first a b [] h = tt
  as_int w first a b (looked g ∷ ds) h = (tt, as_int w first b (saw g) ds h.1)
  as_int w first a b (at_pool v ∷ ds) h = (h.0, as_int w first b (in_pool v.place) ds h.1)
  as_int w first a b (at_base v ∷ ds) h = (h.0, as_int w first b (in_base v.place) ds h.1)
  as_int w first a b (at_cpu v ∷ ds) h = (h.0, as_int w first b (in_cpu v.cpu v.place) ds h.1)
  as_int w first a b (nothing_there ∷ ds) h = (tt, as_int w first b nowhere ds h.1)

  -- if the entry of a random integer without a refill fits the CPU's state, the integer fills its batch exactly if
  -- `must_fill` is true
  batch_fills : (s : CpuState) (e : CpuEntry) (look w : ℕ) (filled : Bool) → e ≡ Int look None w filled → CpuFits s e →
      e ≡ Int look None w (must_fill look w (s.fills w))
  batch_fills s e look w filled is fits =
      let P : CpuEntry → Type 0 = λ e. CpuFits s e in
      let f : CpuFits s (Int look None w filled) = subst P is fits in
      is ∙ ap (λ b. Int look None w b) f.fills

  int_after : (w g : ℕ) (ds : List Effect) → IntForm set w g ds → AllFit c ds →
      AllFill (Fills c set (ints w) (saw g)) nowhere (saw g) ds
  int_after w zero ds (inl (p, inl f)) fit =
      as_int w (saw 0) nowhere (saw 0) ds (draw_inferred c set (Kernel w) (saw 0) nowhere 0 ds f)
  int_after w zero ds (inl (p, inr f)) fit =
      as_int w (saw 0) nowhere (saw 0) ds (cpu_read_inferred c set (Kernel w) (saw 0) nowhere (saw 0) ds f)
  int_after w zero ds (inr (p, f)) fit = absurd (let q : 1 ≤ 0 = p in grind (arith))
  int_after w (suc g) ds (inl (p, f)) fit = cc
  int_after w (suc g) ds (inr (p, inl f)) fit =
      filled_at (Fills c set (ints w) (saw (suc g))) nowhere (saw (suc g)) f.effects_are
      (tt, (batch_fills f.cpu.before f.cpu.entry f.look w f.filled f.serves (fit_at c f.effects_are fit).1.0, tt))
  int_after w (suc g) ds (inr (p, inr f)) fit =
      filled_at (Fills c set (ints w) (saw (suc g))) nowhere (saw (suc g)) f.effects_are (tt, (f.refills, (f.serves, tt)))

  int_line : (w : ℕ) (ds : List Effect) → Looked (IntForm set w) ds → AllFit c ds → LineFills c set (ints w) ds
  int_line w ds f fit = line_at (ints w) f.2 (tt, int_after w f.0 f.1 f.3 (fit_at c f.2 fit).1)

  -- ---- the inferred entries of credits of the pool

  -- if the crossings x and y are equal, they give the base the same entry
  crossed_as : (x y : Crossing) (root : ℕ) (e : BaseEntry) → x ≡ y → e ≡ crossed_entry y root set.now →
      e ≡ crossed_entry x root set.now
  crossed_as x y root e p is = is ∙ ap (λ k. crossed_entry k root set.now) (sym p)

  credit_line : (e : PoolEntry) (ds : List Effect) → CreditForm set e ds → AllFit c ds → LineFills c set (credits e) ds
  credit_line e ds f fit = go (crossing f.pool.before.bits f.pool.after.bits) refl f.crosses
    where
      closed : c.crossed_at f.pool.place ≡ crossing f.pool.before.bits f.pool.after.bits
      closed = (fit_at c f.effects_are fit).0

      go : (x : Crossing) → crossing f.pool.before.bits f.pool.after.bits ≡ x → Cross set x f.rest →
          LineFills c set (credits e) ds
      go none is p = line_at (credits e) (f.effects_are ∙ ap (λ r. at_pool f.pool ∷ r) p) (f.credits, tt)
      go ready is r = line_at (credits e) (f.effects_are ∙ ap (λ x. at_pool f.pool ∷ x) r.effects_are) (
        f.credits,
        (
          r.extracts,
          (crossed_as (c.crossed_at f.pool.place) ready r.pool.place r.base.entry (closed ∙ is) r.names, tt),
        ),
      )
      go early is (inl r) = line_at (credits e) (f.effects_are ∙ ap (λ x. at_pool f.pool ∷ x) r.effects_are) (
        f.credits,
        (
          r.extracts,
          (crossed_as (c.crossed_at f.pool.place) early r.pool.place r.base.entry (closed ∙ is) r.names, tt),
        ),
      )
      go early is (inr r) =
          line_at (credits e) (f.effects_are ∙ ap (λ x. at_pool f.pool ∷ x) r.effects_are) (f.credits, (r.is, tt))

  -- ---- the inferred entries of interrupts

  -- the mix in an interrupt's line has the bytes and the bits of the dump in this line
  mixed : (sample dump : CpuVisit) (mix : PoolVisit) (rest : List Effect) → dump.entry ≡ Dump set.now →
      SamplesConform c.fast (at_cpu sample ∷ at_cpu dump ∷ at_pool mix ∷ rest) →
      mix.entry ≡ Mix (dump_bytes (c.fast dump.cpu dump.place)) (dump_bits (c.fast dump.cpu dump.place))
  mixed sample dump mix rest is (inl quiet) =
      let P : CpuEntry → Type 0 = λ e. EntryIsQuiet (c.fast dump.cpu dump.place) e in absurd (subst P is quiet.1.0)
  mixed sample dump mix rest is (inr d) =
      let p : dump ≡ d.dump = (let q = d.effects_are in cc) in
      let q : mix ≡ d.mix = (let q = d.effects_are in cc) in
      let P : CpuVisit → Type 0 =
      λ v. d.mix.entry ≡ Mix (dump_bytes (c.fast v.cpu v.place)) (dump_bits (c.fast v.cpu v.place)) in
      ap (λ v. v.entry) q ∙ subst P (sym p) d.mixes

  irq_line : (v1 v2 : ℕ) (ds : List Effect) → IrqForm set v1 v2 ds → AllFit c ds → SamplesConform c.fast ds →
      LineFills c set (samples v1 v2) ds
  irq_line v1 v2 ds f fit conform = go f.dumps
    where
      dumped : (d : DumpForm set f.rest) →
          (x : Crossing) → crossing d.mixes.pool.before.bits d.mixes.pool.after.bits ≡ x →
          Cross set x d.mixes.rest → LineFills c set (samples v1 v2) ds
      dumped d x is cross = go x is cross
        where
          all : ds ≡ at_cpu f.sample ∷ at_cpu d.dump ∷ at_pool d.mixes.pool ∷ d.mixes.rest
          all = f.effects_are
              ∙ ap (λ r. at_cpu f.sample ∷ r) (d.effects_are ∙ ap (λ r. at_cpu d.dump ∷ r) d.mixes.effects_are)

          with_rest : {xs : List Effect} → d.mixes.rest ≡ xs →
              ds ≡ at_cpu f.sample ∷ at_cpu d.dump ∷ at_pool d.mixes.pool ∷ xs
          with_rest p = all ∙ ap (λ r. at_cpu f.sample ∷ at_cpu d.dump ∷ at_pool d.mixes.pool ∷ r) p

          mix : d.mixes.pool.entry ≡ Mix (dump_bytes (c.fast d.dump.cpu d.dump.place))
              (dump_bits (c.fast d.dump.cpu d.dump.place))
          mix = mixed f.sample d.dump d.mixes.pool d.mixes.rest d.dumps
              (let P : List Effect → Type 0 = λ x. SamplesConform c.fast x in subst P all conform)

          closed : c.crossed_at d.mixes.pool.place ≡ crossing d.mixes.pool.before.bits d.mixes.pool.after.bits
          closed = (fit_at c all fit).1.1.0

          go : (x : Crossing) → crossing d.mixes.pool.before.bits d.mixes.pool.after.bits ≡ x →
              Cross set x d.mixes.rest →
              LineFills c set (samples v1 v2) ds
          go none is p = line_at (samples v1 v2) (with_rest p) (f.samples, (d.dumps, (mix, tt)))
          go ready is r = line_at (samples v1 v2) (with_rest r.effects_are) (
            f.samples,
            (
              d.dumps,
              (
                mix,
                (
                  r.extracts,
                  (
                    crossed_as (c.crossed_at d.mixes.pool.place) ready r.pool.place r.base.entry (closed ∙ is) r.names,
                    tt,
                  ),
                ),
              ),
            ),
          )
          go early is (inl r) = line_at (samples v1 v2) (with_rest r.effects_are) (
            f.samples,
            (
              d.dumps,
              (
                mix,
                (
                  r.extracts,
                  (
                    crossed_as (c.crossed_at d.mixes.pool.place) early r.pool.place r.base.entry (closed ∙ is) r.names,
                    tt,
                  ),
                ),
              ),
            ),
          )
          go early is (inr r) =
              line_at (samples v1 v2) (with_rest r.effects_are) (f.samples, (d.dumps, (mix, (r.is, tt))))

      go : (f.rest ≡ []) ⊎ DumpForm set f.rest → LineFills c set (samples v1 v2) ds
      go (inl p) = line_at (samples v1 v2) (f.effects_are ∙ ap (λ r. at_cpu f.sample ∷ r) p) (f.samples, tt)
      go (inr d) = dumped d (crossing d.mixes.pool.before.bits d.mixes.pool.after.bits) refl d.mixes.crosses

  -- ---- the inferred entries of the other events

  pool_line : (e : PoolEntry) (ds : List Effect) → PoolOnly e ds → LineFills c set (mixes e) ds
  pool_line e ds f = line_at (mixes e) f.effects_are (f.is, tt)

  cpu_line : (cpu : ℕ) (e : CpuEntry) (ds : List Effect) → CpuOnly cpu e ds → LineFills c set (prepares e) ds
  cpu_line cpu e ds f = line_at (prepares e) f.effects_are (f.is, tt)

  pub reseed_line : (ds : List Effect) → Looked (ReseedForm set) ds → LineFills c set reseeds ds
  reseed_line ds (g, rest, is, inl f) = line_at reseeds (is ∙ ap (λ r. looked g ∷ r) f.1) (tt, tt)
  reseed_line ds (g, rest, is, inr f) = line_at reseeds (is ∙ ap (λ r. looked g ∷ r) f.1.effects_are)
      (tt, (f.1.extracts, (f.1.names, tt)))

  vmfork_line : (word : ℕ) (text : List ℕ) (ds : List Effect) → VmforkForm set word text ds →
      LineFills c set (vmforks (device_entry word text)) ds
  vmfork_line word text ds f = go f.reseeds
    where
      t : Telling
      t = vmforks (device_entry word text)

      go : Looked (ReseedForm set) f.rest → LineFills c set t ds
      go (g, rest, is, inl r) = line_at t
          (f.effects_are ∙ ap (λ x. at_pool f.pool ∷ x) (is ∙ ap (λ r. looked g ∷ r) r.1)) (f.mixes, (tt, tt))
      go (g, rest, is, inr r) = line_at t
          (f.effects_are ∙ ap (λ x. at_pool f.pool ∷ x) (is ∙ ap (λ r. looked g ∷ r) r.1.effects_are))
          (f.mixes, (tt, (r.1.extracts, (r.1.names, tt))))

pub form_inferred : FormIsInferred
form_inferred c set (Write text) ds form fit conform = pool_line c set (Mix text 0) ds form
form_inferred c set (Device word text) ds form fit conform = pool_line c set (device_entry word text) ds form
form_inferred c set Bits ds form fit conform = pool_line c set ReadBits ds form
form_inferred c set (Add text bits) ds form fit conform = credit_line c set (Mix text bits) ds form fit
form_inferred c set (Credit bits) ds form fit conform = credit_line c set (Mix [] bits) ds form fit
form_inferred c set (Input word kind code value) ds form fit conform =
    credit_line c set (InputSample word kind code value set.now) ds form fit
form_inferred c set (Kread len) ds form fit conform = looked_read_inferred c set (Kread len) ds len form
form_inferred c set (Uread len) ds form fit conform = user_read_inferred c set (Uread len) ds len form
form_inferred c set (Read len flags) ds form fit conform = system_inferred c set len flags ds form fit
form_inferred c set (Dread len flag) ds form fit conform = system_inferred c set len flag ds form fit
form_inferred c set Int8 ds form fit conform = int_line c set 1 ds form fit
form_inferred c set Int16 ds form fit conform = int_line c set 2 ds form fit
form_inferred c set Int32 ds form fit conform = int_line c set 4 ds form fit
form_inferred c set Int64 ds form fit conform = int_line c set 8 ds form fit
form_inferred c set Reseed ds form fit conform = reseed_line c set ds form
form_inferred c set Tick ds (inl f) fit conform = line_at c set ticks f.effects_are (f.is, tt)
form_inferred c set Tick ds (inr f) fit conform = line_at c set ticks f.effects_are (f.extracts, (f.names, tt))
form_inferred c set (Fork child) ds (inl f) fit conform = line_at c set (forks child) f.effects_are (f.is, tt)
form_inferred c set (Fork child) ds (inr f) fit conform =
    line_at c set (forks child) f.effects_are (f.forks, (f.stalls, (f.unstalls, tt)))
form_inferred c set (Prepare cpu) ds form fit conform = cpu_line c set cpu Prepared ds form
form_inferred c set (Online cpu) ds form fit conform = cpu_line c set cpu Onlined ds form
form_inferred c set (Vmfork word text) ds form fit conform = vmfork_line c set word text ds form
form_inferred c set (Irq v1 v2) ds form fit conform = irq_line c set v1 v2 ds form fit conform
form_inferred c set (Vread len flags) ds form fit conform = absurd form
form_inferred c set (Inside point act) ds form fit conform = absurd form
form_inferred c set _ ds form fit conform = none_inferred c set silent ds form

pub end_inferred : EndIsInferred
end_inferred c set ds f = line_at c set ends f.effects_are (f.is, tt)
