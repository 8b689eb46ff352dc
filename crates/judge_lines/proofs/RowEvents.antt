-- If the steps of an event's line have the inferred entries, and their kinds are a row of the event, they are a form of
-- the event.
use Rattle.std.proofs.Common.{◌≡◌, ℕ, zero, suc, ◌≤◌, Bool, true, false, List, [], ◌∷◌, ◌⊎◌, inl, inr, refl, sym, subst}
use Rattle.std.proofs.Common.{ap, ◌∙◌, arith, None}
use Rattle.std.specs.Prelude.{◌==◌, MatchBool}
use Rattle.key_names.specs.declared.entries.Taken.{Taken}
use Rattle.key_names.specs.declared.entries.Taken.TheVariants.{User, Kernel}
use Rattle.key_names.specs.declared.entries.PoolEntry.{PoolEntry}
use Rattle.key_names.specs.declared.entries.PoolEntry.TheVariants.{Mix, Extract, Input as InputSample, Bits as ReadBits}
use Rattle.key_names.specs.declared.entries.BaseEntry.TheVariants.{Early}
use Rattle.key_names.specs.declared.entries.CpuEntry.{CpuEntry}
use Rattle.key_names.specs.declared.entries.CpuEntry.TheVariants.{Prepare as Prepared, Online as Onlined}
use Rattle.key_names.specs.declared.events.Event.TheVariants.{Device, Write, Add, Credit, Bits, Irq, Input}
use Rattle.key_names.specs.declared.events.Event.TheVariants.{Read, Vread, Kread, Dread, Uread, Int8, Int16, Int32}
use Rattle.key_names.specs.declared.events.Event.TheVariants.{Int64, Reseed, Tick, Fork, Inside, Prepare, Online}
use Rattle.key_names.specs.declared.events.Event.TheVariants.{Vmfork}
use Rattle.key_names.specs.Kernel.Batches.{must_fill}
use Rattle.key_names.specs.Kernel.FastPool.{dump_bytes, dump_bits}
use Rattle.key_names.specs.Lanes.PoolList.{Crossing, crossing}
use Rattle.key_names.specs.Callers.Calls.{Setting}
use Rattle.key_names.specs.Callers.Effects.{Effect, looked, at_pool, at_base, at_cpu, nothing_there, PoolVisit, BaseVisit, CpuVisit}
use Rattle.key_names.specs.Callers.Forms.{Form, IntForm, ReseedForm, CreditForm, IrqForm, Cross, Looked, ReadForm}
use Rattle.key_names.specs.Callers.Forms.{VmforkForm, device_entry, PoolOnly, CpuOnly}
use Rattle.input_pool.specs.declared.pool.Crossing.{Crossing as Crossed}
use Rattle.input_pool.specs.declared.pool.Crossing.TheVariants.{None as Nothing, Early as CrossedEarly}
use Rattle.input_pool.specs.declared.pool.Crossing.TheVariants.{Ready as CrossedReady}
use Rattle.judge_lines.specs.declared.kind.Kind.TheVariants.{Unready, Ready, Pool, Base, Cpu}
use Rattle.judge_lines.specs.Kinds.{kinds_of}
use Rattle.judge_lines.specs.Rows.{IsRow, IsDraw, IsCpuRead, IsRead, IsLookedRead, IsInt, IsAfterCredit}
use Rattle.judge_lines.specs.Rows.{IsCredit, IsInterrupt, IsReseed, IsVmfork, IsPlainRead}
use Rattle.judge_lines.specs.LaneFacts.{LaneFacts, first_crossing, CrossingsKnown}
use Rattle.judge_lines.specs.Inferred.{AllFill, Fills, crossed_entry, LineFills, Telling, reads, ints, mixes, credits}
use Rattle.judge_lines.specs.Inferred.{samples, reseeds, ticks, forks, prepares, vmforks, ends}
use Rattle.input_pool.specs.PoolConforms.{crossing_of}
use Rattle.judge_lines.specs.Laws.{RowIsForm, EndRowIsForm}
use Rattle.judge_lines.specs.declared.inferred.Sign.{Sign}
use Rattle.judge_lines.specs.declared.inferred.Sign.TheVariants.{Saw as saw, Nowhere as nowhere, InPool as in_pool}
use Rattle.judge_lines.specs.declared.inferred.Sign.TheVariants.{InBase as in_base, InCpu as in_cpu}
use Rattle.judge_lines.proofs.RowShapes.{shaped, effects_in, kinds_in}
use Rattle.judge_lines.proofs.RowReads.{draw_row, cpu_read_row, system_rows, no_more}

module _ (c : LaneFacts) (set : Setting) where
  line_at : (t : Telling) {ds xs : List Effect} → ds ≡ xs → LineFills c set t ds → LineFills c set t xs
  line_at t {ds = ds} {xs = xs} p fill = let P : List Effect → Type 0 = λ x. LineFills c set t x in subst P p fill

  close_at : {ds xs : List Effect} → ds ≡ xs → CrossingsKnown c ds → CrossingsKnown c xs
  close_at {ds = ds} {xs = xs} p close = let P : List Effect → Type 0 = λ x. CrossingsKnown c x in subst P p close

  -- ---- rows of reads

  looked_read : (taken : Taken) (ds : List Effect) → LineFills c set (reads taken) ds →
      IsLookedRead (kinds_of set.cpu ds) →
      Looked (ReadForm set taken) ds
  looked_read taken ds fill (inl (rest, p, row)) =
      let s = shaped set.cpu (Unready ∷ rest) ds p in
      let r : List Effect = effects_in set.cpu rest s.0.1 in
      let f = line_at (reads taken) s.1 fill in
      let row : IsRead false (kinds_of set.cpu r) =
      subst (λ ks. IsRead false ks) (sym (kinds_in set.cpu rest s.0.1)) row in
      (s.0.0.0, r, s.1, go s.0.0.0 s.0.0.1 r f.1 row)
    where
      go : (g : ℕ) → g ≡ 0 → (r : List Effect) → AllFill (Fills c set (reads taken) (saw g)) nowhere (saw g) r →
          IsRead false (kinds_of set.cpu r) → ReadForm set taken g r
      go g found r fill (inl x) = inl (found, draw_row c set taken (saw g) nowhere g r fill x.1)
      go g found r fill (inr x) = inr (cpu_read_row c set taken (saw g) nowhere (saw g) r fill x)
  looked_read taken ds fill (inr (rest, p, row)) =
      let s = shaped set.cpu (Ready ∷ rest) ds p in
      let r : List Effect = effects_in set.cpu rest s.0.1 in
      let f = line_at (reads taken) s.1 fill in
      let row : IsRead true (kinds_of set.cpu r) =
      subst (λ ks. IsRead true ks) (sym (kinds_in set.cpu rest s.0.1)) row in
      (s.0.0.0, r, s.1, go s.0.0.0 r f.1 row)
    where
      go : (g : ℕ) → (r : List Effect) → AllFill (Fills c set (reads taken) (saw g)) nowhere (saw g) r →
          IsRead true (kinds_of set.cpu r) → ReadForm set taken g r
      go g r fill (inl x) = (let no : true ≡ false = x.0 in cc)
      go g r fill (inr x) = inr (cpu_read_row c set taken (saw g) nowhere (saw g) r fill x)

  plain_read : (taken : Taken) (n : ℕ) (ds : List Effect) → LineFills c set (reads taken) ds →
      IsPlainRead n (kinds_of set.cpu ds) → MatchBool (n == 0) (ds ≡ []) (Looked (ReadForm set taken) ds)
  plain_read taken n ds fill row = go (n == 0) row
    where
      go : (b : Bool) → MatchBool b (kinds_of set.cpu ds ≡ []) (IsLookedRead (kinds_of set.cpu ds)) →
          MatchBool b (ds ≡ []) (Looked (ReadForm set taken) ds)
      go true p = no_more set.cpu ds p
      go false row = looked_read taken ds fill row

  -- ---- rows of random integers

  as_read : (w : ℕ) (first : Sign) (a b : Sign) (ds : List Effect) → AllFill (Fills c set (ints w) (saw 0)) a b ds →
      AllFill (Fills c set (reads (Kernel w)) first) a b ds
  as_read w first a b [] h = tt
  as_read w first a b (looked g ∷ ds) h = (tt, as_read w first b (saw g) ds h.1)
  as_read w first a b (at_pool v ∷ ds) h = (h.0, as_read w first b (in_pool v.place) ds h.1)
  as_read w first a b (at_base v ∷ ds) h = (h.0, as_read w first b (in_base v.place) ds h.1)
  as_read w first a b (at_cpu v ∷ ds) h = (h.0, as_read w first b (in_cpu v.cpu v.place) ds h.1)
  as_read w first a b (nothing_there ∷ ds) h = (tt, as_read w first b nowhere ds h.1)

  int_unready : (w g : ℕ) (r : List Effect) → g ≡ 0 → AllFill (Fills c set (ints w) (saw g)) nowhere (saw g) r →
      IsDraw (kinds_of set.cpu r) ⊎ IsCpuRead (kinds_of set.cpu r) → IntForm set w g r
  int_unready w g r p fill row = go row
    where
      P : ℕ → Type 0
      P = λ g. AllFill (Fills c set (ints w) (saw g)) nowhere (saw g) r

      h : AllFill (Fills c set (reads (Kernel w)) (saw 0)) nowhere (saw 0) r
      h = as_read w (saw 0) nowhere (saw 0) r (subst P p fill)

      go : IsDraw (kinds_of set.cpu r) ⊎ IsCpuRead (kinds_of set.cpu r) → IntForm set w g r
      go (inl x) = inl (p, inl (draw_row c set (Kernel w) (saw 0) nowhere 0 r h x))
      go (inr x) = inl (p, inr (cpu_read_row c set (Kernel w) (saw 0) nowhere (saw 0) r h x))

  int_at : (w g : ℕ) (a b : Sign) {ds xs : List Effect} → ds ≡ xs → AllFill (Fills c set (ints w) (saw g)) a b ds →
      AllFill (Fills c set (ints w) (saw g)) a b xs
  int_at w g a b {ds = ds} {xs = xs} p fill =
      let P : List Effect → Type 0 = λ x. AllFill (Fills c set (ints w) (saw g)) a b x in subst P p fill

  int_ready : (w g : ℕ) (r : List Effect) → 1 ≤ g → AllFill (Fills c set (ints w) (saw g)) nowhere (saw g) r →
      IsCpuRead (kinds_of set.cpu r) → IntForm set w g r
  int_ready w zero r p fill row = absurd (let q : 1 ≤ 0 = p in grind (arith))
  int_ready w (suc g) r p fill (inl k) =
      let s = shaped set.cpu (Ready ∷ Cpu ∷ []) r k in
      let f = int_at w (suc g) nowhere (saw (suc g)) s.1 fill in
      let v : CpuVisit = s.0.1.0.0 in
      inr (
        p,
        inl (record {
          look = s.0.0.0;
          cpu = v;
          filled = must_fill s.0.0.0 w (v.before.fills w);
          effects_are = s.1;
          on = s.0.1.0.1;
          serves = f.1.0;
        }),
      )
  int_ready w (suc g) r p fill (inr k) =
      let s = shaped set.cpu (Ready ∷ Base ∷ Cpu ∷ []) r k in
      let f = int_at w (suc g) nowhere (saw (suc g)) s.1 fill in
      inr (
        p,
        inr (record {
          look = s.0.0.0;
          base = s.0.1.0.0;
          cpu = s.0.1.1.0.0;
          effects_are = s.1;
          on = s.0.1.1.0.1;
          refills = f.1.0;
          serves = f.1.1.0;
        }),
      )

  int_row : (w : ℕ) (ds : List Effect) → LineFills c set (ints w) ds → IsInt (kinds_of set.cpu ds) →
      Looked (IntForm set w) ds
  int_row w ds fill (inl (rest, p, row)) =
      let s = shaped set.cpu (Unready ∷ rest) ds p in
      let r : List Effect = effects_in set.cpu rest s.0.1 in
      let f = line_at (ints w) s.1 fill in (
        s.0.0.0,
        r,
        s.1,
        int_unready w s.0.0.0 r s.0.0.1 f.1
            (subst (λ ks. IsDraw ks ⊎ IsCpuRead ks) (sym (kinds_in set.cpu rest s.0.1)) row),
      )
  int_row w ds fill (inr (rest, p, row)) =
      let s = shaped set.cpu (Ready ∷ rest) ds p in
      let r : List Effect = effects_in set.cpu rest s.0.1 in
      let f = line_at (ints w) s.1 fill in (
        s.0.0.0,
        r,
        s.1,
        int_ready w s.0.0.0 r s.0.0.1 f.1
            (subst (λ ks. IsCpuRead ks) (sym (kinds_in set.cpu rest s.0.1)) row),
      )

  -- ---- rows of credits of the pool

  -- suppose that the steps after a credit have the inferred entries, and that their kinds are a row. Then they are the
  -- steps that the threshold crossed by the credit requires
  cross_row : (v : PoolVisit) (crossed : Crossed) (r : List Effect) →
      crossing_of crossed ≡ crossing v.before.bits v.after.bits →
      c.crossed_at v.place ≡ crossing v.before.bits v.after.bits → IsAfterCredit crossed (kinds_of set.cpu r) →
      ((p : PoolVisit) (w : BaseVisit) → r ≡ at_pool p ∷ at_base w ∷ [] →
      (p.entry ≡ Extract set.hw w.place) × (w.entry ≡ crossed_entry (c.crossed_at v.place) p.place set.now)) →
      ((w : BaseVisit) → r ≡ at_base w ∷ [] → w.entry ≡ Early None) → Cross set (crossing v.before.bits v.after.bits) r
  cross_row v crossed r is closed row rooted alone =
      let P : Crossing → Type 0 = λ x. Cross set x r in
      subst P is (go crossed refl row)
    where
      named : (x : Crossed) → crossed ≡ x → (p : PoolVisit) (w : BaseVisit) →
          w.entry ≡ crossed_entry (c.crossed_at v.place) p.place set.now →
          w.entry ≡ crossed_entry (crossing_of x) p.place set.now
      named x q p w e = e ∙ ap (λ k. crossed_entry k p.place set.now) (closed ∙ sym is ∙ ap crossing_of q)

      go : (x : Crossed) → crossed ≡ x → IsAfterCredit x (kinds_of set.cpu r) → Cross set (crossing_of crossed) r
      go Nothing q k = let P : Crossing → Type 0 = λ x. Cross set x r in
          subst P (sym (ap crossing_of q)) (no_more set.cpu r k)
      go CrossedReady q k =
          let s = shaped set.cpu (Pool ∷ Base ∷ []) r k in
          let f = rooted s.0.0 s.0.1.0.0 s.1 in
          let P : Crossing → Type 0 = λ x. Cross set x r in
          subst P (sym (ap crossing_of q)) (record {
            pool = s.0.0;
            base = s.0.1.0.0;
            effects_are = s.1;
            extracts = f.0;
            names = named CrossedReady q s.0.0 s.0.1.0.0 f.1;
          })
      go CrossedEarly q (inl k) =
          let s = shaped set.cpu (Pool ∷ Base ∷ []) r k in
          let f = rooted s.0.0 s.0.1.0.0 s.1 in
          let P : Crossing → Type 0 = λ x. Cross set x r in
          subst P (sym (ap crossing_of q)) (inl (record {
            pool = s.0.0;
            base = s.0.1.0.0;
            effects_are = s.1;
            extracts = f.0;
            names = named CrossedEarly q s.0.0 s.0.1.0.0 f.1;
          }))
      go CrossedEarly q (inr k) =
          let s = shaped set.cpu (Base ∷ []) r k in
          let P : Crossing → Type 0 = λ x. Cross set x r in
          subst P (sym (ap crossing_of q)) (inr (record { base = s.0.0.0; effects_are = s.1; is = alone s.0.0.0 s.1 }))

  credit_row : (e : PoolEntry) (crossed : Crossed) (ds : List Effect) → crossing_of crossed ≡ first_crossing ds →
      CrossingsKnown c ds →
      LineFills c set (credits e) ds → IsCredit crossed (kinds_of set.cpu ds) → CreditForm set e ds
  credit_row e crossed ds is close fill (rest, p, row) =
      let s = shaped set.cpu (Pool ∷ rest) ds p in
      let v : PoolVisit = s.0.0 in
      let r : List Effect = effects_in set.cpu rest s.0.1 in
      let f = line_at (credits e) s.1 fill in
      record {
        pool = v;
        rest = r;
        effects_are = s.1;
        credits = f.0;
        crosses = cross_row v crossed r (is ∙ ap first_crossing s.1) (close_at s.1 close).0
            (subst (λ ks. IsAfterCredit crossed ks) (sym (kinds_in set.cpu rest s.0.1)) row)
            (λ p w q. (let g = line_at (credits e) (s.1 ∙ ap (λ x. at_pool v ∷ x) q) fill in (g.1.0, g.1.1.0)))
            (λ w q. (let g = line_at (credits e) (s.1 ∙ ap (λ x. at_pool v ∷ x) q) fill in g.1.0));
      }

  irq_row : (v1 v2 : ℕ) (crossed : Crossed) (ds : List Effect) → crossing_of crossed ≡ first_crossing ds →
      CrossingsKnown c ds →
      LineFills c set (samples v1 v2) ds → IsInterrupt crossed (kinds_of set.cpu ds) → IrqForm set v1 v2 ds
  irq_row v1 v2 crossed ds is close fill (inl k) =
      let s = shaped set.cpu (Cpu ∷ []) ds k in
      let f = line_at (samples v1 v2) s.1 fill in
      record { sample = s.0.0.0; rest = []; effects_are = s.1; on = s.0.0.1; samples = f.0; dumps = inl refl }
  irq_row v1 v2 crossed ds is close fill (inr (rest, p, row)) =
      let s = shaped set.cpu (Cpu ∷ Cpu ∷ Pool ∷ rest) ds p in
      let sample : CpuVisit = s.0.0.0 in
      let dump : CpuVisit = s.0.1.0.0 in
      let v : PoolVisit = s.0.1.1.0 in
      let r : List Effect = effects_in set.cpu rest s.0.1.1.1 in
      let f = line_at (samples v1 v2) s.1 fill in
      let cross : Cross set (crossing v.before.bits v.after.bits) r =
      cross_row v crossed r (is ∙ ap first_crossing s.1) (close_at s.1 close).1.1.0
      (subst (λ ks. IsAfterCredit crossed ks) (sym (kinds_in set.cpu rest s.0.1.1.1)) row)
      (λ p w q. (let g = line_at (samples v1 v2) (s.1 ∙ ap (λ x. at_cpu sample ∷ at_cpu dump ∷ at_pool v ∷ x) q) fill in
      (g.1.1.1.0, g.1.1.1.1.0)))
      (λ w q. (let g = line_at (samples v1 v2) (s.1 ∙ ap (λ x. at_cpu sample ∷ at_cpu dump ∷ at_pool v ∷ x) q) fill in
      g.1.1.1.0)) in
      record {
        sample = sample;
        rest = at_cpu dump ∷ at_pool v ∷ r;
        effects_are = s.1;
        on = s.0.0.1;
        samples = f.0;
        dumps = inr (record {
          dump = dump;
          text = dump_bytes (c.fast dump.cpu dump.place);
          bits = dump_bits (c.fast dump.cpu dump.place);
          rest = at_pool v ∷ r;
          effects_are = refl;
          on = s.0.1.0.1;
          dumps = f.1.0;
          mixes = record { pool = v; rest = r; effects_are = refl; credits = f.1.1.0; crosses = cross };
        });
      }

  -- ---- rows of the other events

  pool_row : (e : PoolEntry) (ds : List Effect) → LineFills c set (mixes e) ds → kinds_of set.cpu ds ≡ Pool ∷ [] →
      PoolOnly e ds
  pool_row e ds fill k =
      let s = shaped set.cpu (Pool ∷ []) ds k in
      let f = line_at (mixes e) s.1 fill in
      record { pool = s.0.0; effects_are = s.1; is = f.0 }

  cpu_row : (cpu : ℕ) (e : CpuEntry) (ds : List Effect) → LineFills c set (prepares e) ds → kinds_of cpu ds ≡ Cpu ∷ [] →
      CpuOnly cpu e ds
  cpu_row cpu e ds fill k =
      let s = shaped cpu (Cpu ∷ []) ds k in
      let f = line_at (prepares e) s.1 fill in
      record { visit = s.0.0.0; effects_are = s.1; on = s.0.0.1; is = f.0 }

  pub reseed_row : (ds : List Effect) → LineFills c set reseeds ds → IsReseed (kinds_of set.cpu ds) →
      Looked (ReseedForm set) ds
  reseed_row ds fill (inl k) =
      let s = shaped set.cpu (Unready ∷ []) ds k in
      (s.0.0.0, [], s.1, inl (s.0.0.1, refl))
  reseed_row ds fill (inr k) =
      let s = shaped set.cpu (Ready ∷ Pool ∷ Base ∷ []) ds k in
      let f = line_at reseeds s.1 fill in
      let p : PoolVisit = s.0.1.0 in
      let w : BaseVisit = s.0.1.1.0.0 in (
        s.0.0.0,
        at_pool p ∷ at_base w ∷ [],
        s.1,
        inr (s.0.0.1, record { pool = p; base = w; effects_are = refl; extracts = f.1.0; names = f.1.1.0 }),
      )

  vmfork_row : (word : ℕ) (text : List ℕ) (ds : List Effect) → LineFills c set (vmforks (device_entry word text)) ds →
      IsVmfork (kinds_of set.cpu ds) → VmforkForm set word text ds
  vmfork_row word text ds fill (inl k) =
      let s = shaped set.cpu (Pool ∷ Unready ∷ []) ds k in
      let f = line_at (vmforks (device_entry word text)) s.1 fill in
      record {
        pool = s.0.0;
        rest = looked s.0.1.0.0 ∷ [];
        effects_are = s.1;
        mixes = f.0;
        reseeds = (s.0.1.0.0, [], refl, inl (s.0.1.0.1, refl));
      }
  vmfork_row word text ds fill (inr k) =
      let s = shaped set.cpu (Pool ∷ Ready ∷ Pool ∷ Base ∷ []) ds k in
      let f = line_at (vmforks (device_entry word text)) s.1 fill in
      let p : PoolVisit = s.0.1.1.0 in
      let w : BaseVisit = s.0.1.1.1.0.0 in
      record {
        pool = s.0.0;
        rest = looked s.0.1.0.0 ∷ at_pool p ∷ at_base w ∷ [];
        effects_are = s.1;
        mixes = f.0;
        reseeds = (
          s.0.1.0.0,
          at_pool p ∷ at_base w ∷ [],
          refl,
          inr (s.0.1.0.1, record { pool = p; base = w; effects_are = refl; extracts = f.1.1.0; names = f.1.1.1.0 }),
        );
      }

  tick_row : (ds : List Effect) → LineFills c set ticks ds → IsRow Tick Nothing (kinds_of set.cpu ds) → Form set Tick ds
  tick_row ds fill (inl k) =
      let s = shaped set.cpu (Base ∷ []) ds k in
      let f = line_at ticks s.1 fill in
      inl (record { base = s.0.0.0; effects_are = s.1; is = f.0 })
  tick_row ds fill (inr k) =
      let s = shaped set.cpu (Pool ∷ Base ∷ []) ds k in
      let f = line_at ticks s.1 fill in
      inr (record { pool = s.0.0; base = s.0.1.0.0; effects_are = s.1; extracts = f.0; names = f.1.0 })

  fork_row : (child : ℕ) (ds : List Effect) → LineFills c set (forks child) ds →
      IsRow (Fork child) Nothing (kinds_of set.cpu ds) → Form set (Fork child) ds
  fork_row child ds fill (inl k) =
      let s = shaped set.cpu (Base ∷ []) ds k in
      let f = line_at (forks child) s.1 fill in
      inl (record { base = s.0.0.0; effects_are = s.1; is = f.0 })
  fork_row child ds fill (inr k) =
      let s = shaped set.cpu (Base ∷ Base ∷ Base ∷ []) ds k in
      let f = line_at (forks child) s.1 fill in
      inr (record {
        fork = s.0.0.0;
        stall = s.0.1.0.0;
        unstall = s.0.1.1.0.0;
        effects_are = s.1;
        forks = f.0;
        stalls = f.1.0;
        unstalls = f.1.1.0;
      })

pub row_form : RowIsForm
row_form c set (Write text) x ds is close fill row = pool_row c set (Mix text 0) ds fill row
row_form c set (Device word text) x ds is close fill row = pool_row c set (device_entry word text) ds fill row
row_form c set Bits x ds is close fill row = pool_row c set ReadBits ds fill row
row_form c set (Add text bits) x ds is close fill row = credit_row c set (Mix text bits) x ds is close fill row
row_form c set (Credit bits) x ds is close fill row = credit_row c set (Mix [] bits) x ds is close fill row
row_form c set (Input word kind code value) x ds is close fill row =
    credit_row c set (InputSample word kind code value set.now) x ds is close fill row
row_form c set (Kread len) x ds is close fill row = plain_read c set (Kernel len) len ds fill row
row_form c set (Uread len) x ds is close fill row = plain_read c set (User len) len ds fill row
row_form c set (Read len flags) x ds is close fill row = system_rows c set len flags ds fill row
row_form c set (Dread len flag) x ds is close fill row = system_rows c set len flag ds fill row
row_form c set Int8 x ds is close fill row = int_row c set 1 ds fill row
row_form c set Int16 x ds is close fill row = int_row c set 2 ds fill row
row_form c set Int32 x ds is close fill row = int_row c set 4 ds fill row
row_form c set Int64 x ds is close fill row = int_row c set 8 ds fill row
row_form c set Reseed x ds is close fill row = reseed_row c set ds fill row
row_form c set Tick x ds is close fill row = tick_row c set ds fill row
row_form c set (Fork child) x ds is close fill row = fork_row c set child ds fill row
row_form c set (Prepare cpu) x ds is close fill row = cpu_row c set cpu Prepared ds fill row
row_form c set (Online cpu) x ds is close fill row = cpu_row c set cpu Onlined ds fill row
row_form c set (Vmfork word text) x ds is close fill row = vmfork_row c set word text ds fill row
row_form c set (Irq v1 v2) x ds is close fill row = irq_row c set v1 v2 x ds is close fill row
row_form c set (Vread len flags) x ds is close fill row = absurd row
row_form c set (Inside point act) x ds is close fill row = absurd row
row_form c set _ x ds is close fill row = no_more set.cpu ds row

pub end_row : EndRowIsForm
end_row c set ds fill k =
    let s = shaped set.cpu (Base ∷ []) ds k in
    let f = line_at c set ends s.1 fill in
    record { base = s.0.0.0; effects_are = s.1; is = f.0 }
