-- If the entries of a form fit, the kinds of the form's steps are a row of its event.
use Rattle.std.proofs.Common.{◌≡◌, ℕ, ◌≤◌, Bool, true, false, List, [], ◌∷◌, ◌⊎◌, inl, inr, refl, sym, subst, ap, ◌∙◌}
use Rattle.std.proofs.Common.{arith, Option, Some, None}
use Rattle.std.specs.Prelude.{◌==◌, ◌&&◌, not, MatchBool}
use Rattle.std.proofs.lemmas.Bool.Decides.{nat_tests}
use Rattle.key_names.specs.declared.entries.Taken.{Taken}
use Rattle.key_names.specs.declared.entries.Taken.TheVariants.{User, Kernel}
use Rattle.key_names.specs.declared.entries.PoolEntry.{PoolEntry}
use Rattle.key_names.specs.declared.entries.BaseEntry.{BaseEntry}
use Rattle.key_names.specs.declared.entries.BaseEntry.TheVariants.{Early, Reseed as Reseeded, Draw}
use Rattle.key_names.specs.declared.entries.CpuEntry.{CpuEntry}
use Rattle.key_names.specs.declared.entries.CpuEntry.TheVariants.{Read as CpuRead, Int}
use Rattle.key_names.specs.declared.events.Event.TheVariants.{Device, Write, Add, Credit, Bits, Irq, Input}
use Rattle.key_names.specs.declared.events.Event.TheVariants.{Read, Vread, Kread, Dread, Uread, Int8, Int16, Int32}
use Rattle.key_names.specs.declared.events.Event.TheVariants.{Int64, Reseed, Tick, Fork, Inside, Prepare, Online}
use Rattle.key_names.specs.declared.events.Event.TheVariants.{Vmfork}
use Rattle.key_names.specs.Lanes.CpuList.{CpuState, CpuFits}
use Rattle.key_names.specs.Lanes.PoolList.{Crossing, crossing}
use Rattle.key_names.specs.Kernel.Flags.{is_bad, is_nonblock, is_insecure}
use Rattle.key_names.specs.Callers.Calls.{Setting}
use Rattle.key_names.specs.Callers.Effects.{Effect, looked, at_pool, at_cpu, PoolVisit, CpuVisit}
use Rattle.key_names.specs.Callers.Forms.{Form, IntForm, ReseedForm, CreditForm, IrqForm, DumpForm, Cross, Looked, ReadForm}
use Rattle.key_names.specs.Callers.Forms.{VmforkForm, PoolOnly, CpuOnly, DrawForm, CpuReadForm, Rooted, BaseOnly, SysForm}
use Rattle.key_names.specs.Callers.Forms.{LookedForm}
use Rattle.key_names.specs.Callers.Forms.{WaitedInVain, Waited}
use Rattle.key_names.proofs.Unique.UniqueAttempts.{not_zero}
use Rattle.input_pool.specs.declared.pool.Crossing.{Crossing as Crossed}
use Rattle.input_pool.specs.declared.pool.Crossing.TheVariants.{None as Nothing, Early as CrossedEarly}
use Rattle.input_pool.specs.declared.pool.Crossing.TheVariants.{Ready as CrossedReady}
use Rattle.judge_lines.specs.declared.kind.Kind.{Kind}
use Rattle.judge_lines.specs.declared.kind.Kind.TheVariants.{Unready, Ready, Pool, Base, Resumed, Cpu}
use Rattle.judge_lines.specs.Kinds.{look_kind, base_kind, kind_of, kinds_of}
use Rattle.judge_lines.specs.Rows.{IsRow, IsDraw, IsCpuRead, IsRead, IsWait, IsAfterLook, IsSystemCall}
use Rattle.judge_lines.specs.Rows.{IsLookedRead, IsPlainRead, IsInt, IsAfterCredit, IsCredit, IsInterrupt}
use Rattle.judge_lines.specs.Rows.{IsReseed, IsVmfork}
use Rattle.judge_lines.specs.LaneFacts.{LaneFacts, AllFit, first_crossing}
use Rattle.input_pool.specs.PoolConforms.{crossing_of}
use Rattle.judge_lines.specs.Laws.{FormIsRow, EndFormIsRow, SystemFormIsRow}
use Rattle.judge_lines.proofs.RowShapes.{row_of, look_kind_is, effect_kind, is_zero}
use Rattle.judge_lines.proofs.InferredReads.{fit_at}

unready : (g : ℕ) → g ≡ 0 → look_kind g ≡ Unready
unready g p = look_kind_is 0 g true (is_zero g p)

is_ready : (g : ℕ) → 1 ≤ g → look_kind g ≡ Ready
is_ready g p = look_kind_is 0 g false (not_zero g p)

-- if a read's entry in a CPU's list fits the CPU's state, the look before it found a generation above 0
read_known : (s : CpuState) (e : CpuEntry) (look : ℕ) (refill : Option ℕ) (taken : Taken) →
    e ≡ CpuRead look refill taken →
    CpuFits s e → 1 ≤ look
read_known s e look refill taken is fits =
    let P : CpuEntry → Type 0 = λ e. CpuFits s e in
    let f : CpuFits s (CpuRead look refill taken) = subst P is fits in f.looks.known

int_known : (s : CpuState) (e : CpuEntry) (look : ℕ) (refill : Option ℕ) (w : ℕ) (filled : Bool) →
    e ≡ Int look refill w filled → CpuFits s e → 1 ≤ look
int_known s e look refill w filled is fits =
    let P : CpuEntry → Type 0 = λ e. CpuFits s e in
    let f : CpuFits s (Int look refill w filled) = subst P is fits in f.looks.known

module _ (c : LaneFacts) (set : Setting) where
  abbrev K : List Effect → List Kind
  K ds = kinds_of set.cpu ds

  pub none_row : (ds : List Effect) → ds ≡ [] → K ds ≡ []
  none_row ds p = ap K p

  -- if the steps `ds` begin with step d, the kinds of `ds` begin with the kind of d
  first_is : (d : Effect) (k : Kind) (ds rest : List Effect) → ds ≡ d ∷ rest → K (d ∷ rest) ≡ k ∷ K rest → K ds ≡ k ∷ K rest
  first_is d k ds rest is p = ap K is ∙ p

  looked_is : (g : ℕ) (k : Kind) (ds rest : List Effect) → ds ≡ looked g ∷ rest → look_kind g ≡ k → K ds ≡ k ∷ K rest
  looked_is g k ds rest is p = ap K is ∙ ap (λ x. x ∷ K rest) p

  rooted_row : (entry : ℕ → BaseEntry) → ((r : ℕ) → base_kind (entry r) ≡ Base) →
      (ds : List Effect) → Rooted set entry ds →
      K ds ≡ Pool ∷ Base ∷ []
  rooted_row entry h ds f =
      row_of set.cpu (Pool ∷ Base ∷ []) (f.pool, ((f.base, ap base_kind f.names ∙ h f.pool.place), tt)) f.effects_are

  base_row : (e : BaseEntry) → base_kind e ≡ Base → (ds : List Effect) → BaseOnly e ds → K ds ≡ Base ∷ []
  base_row e h ds f = row_of set.cpu (Base ∷ []) ((f.base, ap base_kind f.is ∙ h), tt) f.effects_are

  -- ---- the step kinds of reads

  draw : (taken : Taken) (ds : List Effect) → DrawForm set taken ds → IsDraw (K ds)
  draw taken ds (inl f) = inl (rooted_row (λ r. Draw (Some r) taken) (λ r. refl) ds f)
  draw taken ds (inr f) = inr (base_row (Draw None taken) refl ds f)

  cpu_read : (taken : Taken) (ds : List Effect) → CpuReadForm set taken ds → AllFit c ds → IsCpuRead (K ds)
  cpu_read taken ds (inl f) fit =
      let known = read_known f.cpu.before f.cpu.entry f.look None taken f.reads (fit_at c f.effects_are fit).1.0 in
      inl (row_of set.cpu (Ready ∷ Cpu ∷ []) ((f.look, known), ((f.cpu, f.on), tt)) f.effects_are)
  cpu_read taken ds (inr f) fit =
      let known = read_known f.cpu.before f.cpu.entry f.look (Some f.base.place) taken f.reads
      (fit_at c f.effects_are fit).1.1.0 in
      inr (row_of set.cpu (Ready ∷ Base ∷ Cpu ∷ [])
      ((f.look, known), ((f.base, ap base_kind f.refills), ((f.cpu, f.on), tt))) f.effects_are)

  read : (taken : Taken) (g : ℕ) (b : Bool) → (g == 0) ≡ b → (ds : List Effect) → ReadForm set taken g ds → AllFit c ds →
      IsRead (not b) (K ds)
  read taken g true is ds (inl f) fit = inl (refl, draw taken ds f.1)
  read taken g false is ds (inl f) fit = absurd (let p : g ≡ 0 = f.0 in grind (arith, nat_tests))
  read taken g b is ds (inr f) fit = inr (cpu_read taken ds f fit)

  zero_of : (g : ℕ) → (g == 0) ≡ true → g ≡ 0
  zero_of g p = grind (arith, nat_tests)

  some_of : (g : ℕ) → (g == 0) ≡ false → 1 ≤ g
  some_of g p = grind (arith, nat_tests)

  looked_read : (taken : Taken) (ds : List Effect) → Looked (ReadForm set taken) ds → AllFit c ds → IsLookedRead (K ds)
  looked_read taken ds (g, rest, is, form) fit = go (g == 0) refl
    where
      go : (b : Bool) → (g == 0) ≡ b → IsLookedRead (K ds)
      go true z = inl (
        K rest,
        looked_is g Unready ds rest is (unready g (zero_of g z)),
        read taken g true z rest form (fit_at c is fit).1,
      )
      go false z = inr (
        K rest,
        looked_is g Ready ds rest is (is_ready g (some_of g z)),
        read taken g false z rest form (fit_at c is fit).1,
      )

  plain_read : (taken : Taken) (n : ℕ) (ds : List Effect) →
      MatchBool (n == 0) (ds ≡ []) (Looked (ReadForm set taken) ds) →
      AllFit c ds → IsPlainRead n (K ds)
  plain_read taken n ds form fit = go (n == 0) form
    where
      go : (b : Bool) → MatchBool b (ds ≡ []) (Looked (ReadForm set taken) ds) →
          MatchBool b (K ds ≡ []) (IsLookedRead (K ds))
      go true p = none_row ds p
      go false f = looked_read taken ds f fit

  -- ---- the step kinds of system calls

  two : (x y : Kind) (ks : List Kind) → x ≡ Base → y ≡ Resumed → x ∷ y ∷ ks ≡ Base ∷ Resumed ∷ ks
  two x y ks p q = cc

  wait : (n : ℕ) (ds : List Effect) → WaitedInVain ds ⊎ Waited set n ds → AllFit c ds → IsWait n (K ds)
  wait n ds (inl f) fit = inl (row_of set.cpu (Base ∷ Base ∷ [])
      ((f.wait, ap base_kind f.waits), ((f.interrupt, ap base_kind f.interrupts), tt)) f.effects_are)
  wait n ds (inr f) fit =
      inr (
        K f.rest,
        ap K f.effects_are ∙ two (base_kind f.wait.entry) (base_kind f.resume.entry) (K f.rest) (ap base_kind f.waits)
            (ap base_kind f.resumes),
        go (n == 0) f.reads,
      )
    where
      go : (b : Bool) → MatchBool b (f.rest ≡ []) (CpuReadForm set (User n) f.rest) →
          MatchBool b (K f.rest ≡ []) (IsCpuRead (K f.rest))
      go true p = none_row f.rest p
      go false r = cpu_read (User n) f.rest r (fit_at c f.effects_are fit).1.1

  following : (n flags g : ℕ) (z : Bool) → (g == 0) ≡ z → (ds : List Effect) → LookedForm set n flags g ds → AllFit c ds →
      IsAfterLook n flags (not z) (K ds)
  following n flags g z is ds form fit =
      let P : Bool → Type 0 = λ z. MatchBool (z && not (is_insecure flags))
      (MatchBool (is_nonblock flags) (ds ≡ []) (WaitedInVain ds ⊎ Waited set n ds))
      (MatchBool (n == 0) (ds ≡ []) (ReadForm set (User n) g ds)) in
      go z (is_insecure flags) (is_nonblock flags) (n == 0) is (subst P is form)
    where
      go : (z i b e : Bool) → (g == 0) ≡ z →
          MatchBool (z && not i) (MatchBool b (ds ≡ []) (WaitedInVain ds ⊎ Waited set n ds))
          (MatchBool e (ds ≡ []) (ReadForm set (User n) g ds)) →
          MatchBool (not (not z) && not i) (MatchBool b (K ds ≡ []) (IsWait n (K ds)))
          (MatchBool e (K ds ≡ []) (IsRead (not z) (K ds)))
      go true false true e is h = none_row ds h
      go true false false e is h = wait n ds h fit
      go true true b true is h = none_row ds h
      go true true b false is h = read (User n) g true is ds h fit
      go false false b true is h = none_row ds h
      go false true b true is h = none_row ds h
      go false false b false is h = read (User n) g false is ds h fit
      go false true b false is h = read (User n) g false is ds h fit

  system : (n flags : ℕ) (ds : List Effect) → SysForm set n flags ds → AllFit c ds → IsSystemCall n flags (K ds)
  system n flags ds form fit = go (is_bad flags) form
    where
      Row : Type 0
      Row = ((rest : List Kind) × (K ds ≡ Unready ∷ rest) × IsAfterLook n flags false rest)
          ⊎ ((rest : List Kind) × (K ds ≡ Ready ∷ rest) × IsAfterLook n flags true rest)

      by : (g : ℕ) (rest : List Effect) → ds ≡ looked g ∷ rest → LookedForm set n flags g rest → (z : Bool) →
          (g == 0) ≡ z → Row
      by g rest is f true z = inl (
        K rest,
        looked_is g Unready ds rest is (unready g (zero_of g z)),
        following n flags g true z rest f (fit_at c is fit).1,
      )
      by g rest is f false z = inr (
        K rest,
        looked_is g Ready ds rest is (is_ready g (some_of g z)),
        following n flags g false z rest f (fit_at c is fit).1,
      )

      go : (b : Bool) → MatchBool b (ds ≡ []) (Looked (LookedForm set n flags) ds) → MatchBool b (K ds ≡ []) Row
      go true p = none_row ds p
      go false (g, rest, is, f) = by g rest is f (g == 0) refl

  -- ---- the step kinds of random integers

  int : (w : ℕ) (ds : List Effect) → Looked (IntForm set w) ds → AllFit c ds → IsInt (K ds)
  int w ds (g, rest, is, form) fit = go form
    where
      fits : AllFit c rest
      fits = (fit_at c is fit).1

      go : IntForm set w g rest → IsInt (K ds)
      go (inl (p, inl f)) = inl (K rest, looked_is g Unready ds rest is (unready g p), inl (draw (Kernel w) rest f))
      go (inl (p, inr f)) =
          inl (K rest, looked_is g Unready ds rest is (unready g p), inr (cpu_read (Kernel w) rest f fits))
      go (inr (p, inl f)) =
          let known =
          int_known f.cpu.before f.cpu.entry f.look None w f.filled f.serves (fit_at c f.effects_are fits).1.0 in
          inr (
            K rest,
            looked_is g Ready ds rest is (is_ready g p),
            inl (row_of set.cpu (Ready ∷ Cpu ∷ []) ((f.look, known), ((f.cpu, f.on), tt)) f.effects_are),
          )
      go (inr (p, inr f)) =
          let known = int_known f.cpu.before f.cpu.entry f.look (Some f.base.place) w true f.serves
          (fit_at c f.effects_are fits).1.1.0 in
          inr (
            K rest,
            looked_is g Ready ds rest is (is_ready g p),
            inr (row_of set.cpu (Ready ∷ Base ∷ Cpu ∷ [])
                ((f.look, known), ((f.base, ap base_kind f.refills), ((f.cpu, f.on), tt))) f.effects_are),
          )

  -- ---- the step kinds of credits of the pool

  cross : (crossed : Crossed) (x : Crossing) (ds : List Effect) → crossing_of crossed ≡ x → Cross set x ds →
      IsAfterCredit crossed (K ds)
  cross crossed x ds is form = let P : Crossing → Type 0 = λ x. Cross set x ds in go crossed (subst P (sym is) form)
    where
      go : (k : Crossed) → Cross set (crossing_of k) ds → IsAfterCredit k (K ds)
      go Nothing p = none_row ds p
      go CrossedReady f = rooted_row (λ r. Reseeded r set.now) (λ r. refl) ds f
      go CrossedEarly (inl f) = inl (rooted_row (λ r. Early (Some r)) (λ r. refl) ds f)
      go CrossedEarly (inr f) = inr (base_row (Early None) refl ds f)

  credit : (e : PoolEntry) (crossed : Crossed) (ds : List Effect) → crossing_of crossed ≡ first_crossing ds →
      CreditForm set e ds → IsCredit crossed (K ds)
  credit e crossed ds is f = (
    K f.rest,
    ap K f.effects_are,
    cross crossed (crossing f.pool.before.bits f.pool.after.bits) f.rest (is ∙ ap first_crossing f.effects_are) f.crosses,
  )

  three : (x y z : Kind) (ks : List Kind) → x ≡ Cpu → y ≡ Cpu → z ≡ Pool → x ∷ y ∷ z ∷ ks ≡ Cpu ∷ Cpu ∷ Pool ∷ ks
  three x y z ks p q r = cc

  irq : (v1 v2 : ℕ) (crossed : Crossed) (ds : List Effect) → crossing_of crossed ≡ first_crossing ds →
      IrqForm set v1 v2 ds → IsInterrupt crossed (K ds)
  irq v1 v2 crossed ds is f = go f.dumps
    where
      go : (f.rest ≡ []) ⊎ DumpForm set f.rest → IsInterrupt crossed (K ds)
      go (inl p) =
          inl (row_of set.cpu (Cpu ∷ []) ((f.sample, f.on), tt) (f.effects_are ∙ ap (λ r. at_cpu f.sample ∷ r) p))
      go (inr d) =
          let all : ds ≡ at_cpu f.sample ∷ at_cpu d.dump ∷ at_pool d.mixes.pool ∷ d.mixes.rest =
          f.effects_are ∙ ap (λ r. at_cpu f.sample ∷ r) (d.effects_are ∙ ap (λ r. at_cpu d.dump ∷ r) d.mixes.effects_are) in
          inr (
            K d.mixes.rest,
            ap K all ∙ ap (λ ks. ks) (tops d.mixes.rest f.sample d.dump d.mixes.pool f.on d.on),
            cross crossed (crossing d.mixes.pool.before.bits d.mixes.pool.after.bits) d.mixes.rest
                (is ∙ ap first_crossing all)
                d.mixes.crosses,
          )
        where
          tops : (rest : List Effect) (s t : CpuVisit) (v : PoolVisit) → s.cpu ≡ set.cpu → t.cpu ≡ set.cpu →
              K (at_cpu s ∷ at_cpu t ∷ at_pool v ∷ rest) ≡ Cpu ∷ Cpu ∷ Pool ∷ K rest
          tops rest s t v p q = three (kind_of set.cpu (at_cpu s)) (kind_of set.cpu (at_cpu t)) Pool (K rest)
              (effect_kind set.cpu Cpu (s, p)) (effect_kind set.cpu Cpu (t, q)) refl

  -- ---- the step kinds of the other events

  pool : (e : PoolEntry) (ds : List Effect) → PoolOnly e ds → K ds ≡ Pool ∷ []
  pool e ds f = row_of set.cpu (Pool ∷ []) (f.pool, tt) f.effects_are

  cpu_only : (cpu : ℕ) (e : CpuEntry) (ds : List Effect) → CpuOnly cpu e ds → kinds_of cpu ds ≡ Cpu ∷ []
  cpu_only cpu e ds f = row_of cpu (Cpu ∷ []) ((f.visit, f.on), tt) f.effects_are

  pub reseed : (ds : List Effect) → Looked (ReseedForm set) ds → IsReseed (K ds)
  reseed ds (g, rest, is, inl f) =
      inl (row_of set.cpu (Unready ∷ []) ((g, f.0), tt) (is ∙ ap (λ r. looked g ∷ r) f.1))
  reseed ds (g, rest, is, inr f) =
      inr (row_of set.cpu (Ready ∷ Pool ∷ Base ∷ []) ((g, f.0), (f.1.pool, ((f.1.base, ap base_kind f.1.names), tt)))
      (is ∙ ap (λ r. looked g ∷ r) f.1.effects_are))

  vmfork : (word : ℕ) (text : List ℕ) (ds : List Effect) → VmforkForm set word text ds → IsVmfork (K ds)
  vmfork word text ds f = go f.reseeds
    where
      go : Looked (ReseedForm set) f.rest → IsVmfork (K ds)
      go (g, rest, is, inl r) = inl (row_of set.cpu (Pool ∷ Unready ∷ []) (f.pool, ((g, r.0), tt))
          (f.effects_are ∙ ap (λ x. at_pool f.pool ∷ x) (is ∙ ap (λ x. looked g ∷ x) r.1)))
      go (g, rest, is, inr r) = inr (row_of set.cpu (Pool ∷ Ready ∷ Pool ∷ Base ∷ [])
          (f.pool, ((g, r.0), (r.1.pool, ((r.1.base, ap base_kind r.1.names), tt))))
          (f.effects_are ∙ ap (λ x. at_pool f.pool ∷ x) (is ∙ ap (λ x. looked g ∷ x) r.1.effects_are)))

  tick : (ds : List Effect) → Form set Tick ds → IsRow Tick Nothing (K ds)
  tick ds (inl f) = inl (row_of set.cpu (Base ∷ []) ((f.base, ap base_kind f.is), tt) f.effects_are)
  tick ds (inr f) = inr (row_of set.cpu (Pool ∷ Base ∷ []) (f.pool, ((f.base, ap base_kind f.names), tt)) f.effects_are)

  fork : (child : ℕ) (ds : List Effect) → Form set (Fork child) ds → IsRow (Fork child) Nothing (K ds)
  fork child ds (inl f) = inl (row_of set.cpu (Base ∷ []) ((f.base, ap base_kind f.is), tt) f.effects_are)
  fork child ds (inr f) = inr (row_of set.cpu (Base ∷ Base ∷ Base ∷ [])
      ((f.fork, ap base_kind f.forks), ((f.stall, ap base_kind f.stalls), ((f.unstall, ap base_kind f.unstalls), tt)))
      f.effects_are)

pub form_row : FormIsRow
form_row c set (Write text) x ds is form fit = pool c set _ ds form
form_row c set (Device word text) x ds is form fit = pool c set _ ds form
form_row c set Bits x ds is form fit = pool c set _ ds form
form_row c set (Add text bits) x ds is form fit = credit c set _ x ds is form
form_row c set (Credit bits) x ds is form fit = credit c set _ x ds is form
form_row c set (Input word kind code value) x ds is form fit = credit c set _ x ds is form
form_row c set (Kread len) x ds is form fit = plain_read c set (Kernel len) len ds form fit
form_row c set (Uread len) x ds is form fit = plain_read c set (User len) len ds form fit
form_row c set (Read len flags) x ds is form fit = system c set len flags ds form fit
form_row c set (Dread len flag) x ds is form fit = system c set len flag ds form fit
form_row c set Int8 x ds is form fit = int c set 1 ds form fit
form_row c set Int16 x ds is form fit = int c set 2 ds form fit
form_row c set Int32 x ds is form fit = int c set 4 ds form fit
form_row c set Int64 x ds is form fit = int c set 8 ds form fit
form_row c set Reseed x ds is form fit = reseed c set ds form
form_row c set Tick x ds is form fit = tick c set ds form
form_row c set (Fork child) x ds is form fit = fork c set child ds form
form_row c set (Prepare cpu) x ds is form fit = cpu_only c set cpu _ ds form
form_row c set (Online cpu) x ds is form fit = cpu_only c set cpu _ ds form
form_row c set (Vmfork word text) x ds is form fit = vmfork c set word text ds form
form_row c set (Irq v1 v2) x ds is form fit = irq c set v1 v2 x ds is form
form_row c set (Vread len flags) x ds is form fit = absurd form
form_row c set (Inside point act) x ds is form fit = absurd form
form_row c set _ x ds is form fit = none_row c set ds form

pub end_form : EndFormIsRow
end_form set ds f = row_of set.cpu (Base ∷ []) ((f.base, ap base_kind f.is), tt) f.effects_are

pub system_form : SystemFormIsRow
system_form c set n flags ds form fit = system c set n flags ds form fit
