-- If the steps of a read or a system call have the inferred entries, and their kinds are a row, they are a form.
use Rattle.std.proofs.Common.{◌≡◌, ℕ, Bool, true, false, List, [], ◌∷◌, ◌⊎◌, inl, inr, refl, ◌++◌, sym, subst, ap, ◌∙◌}
use Rattle.std.proofs.Common.{arith}
use Rattle.std.specs.Prelude.{◌==◌, ◌&&◌, not, nat_le, if◌then◌else◌, MatchBool}
use Rattle.std.proofs.lemmas.Bool.Decides.{nat_tests}
use Rattle.key_names.specs.declared.entries.Taken.{Taken}
use Rattle.key_names.specs.declared.entries.Taken.TheVariants.{User}
use Rattle.key_names.specs.declared.entries.BaseEntry.TheVariants.{Resume, Interrupt, Wait}
use Rattle.key_names.specs.Kernel.Flags.{is_bad, is_nonblock, is_insecure}
use Rattle.key_names.specs.Callers.Calls.{Setting}
use Rattle.key_names.specs.Callers.Effects.{Effect, looked, at_pool, at_base, at_cpu, nothing_there, BaseVisit, CpuVisit}
use Rattle.key_names.specs.Callers.Forms.{DrawForm, CpuReadForm, ReadForm, LookedForm, SysForm, WaitedInVain, Waited}
use Rattle.key_names.proofs.Unique.UniqueAttempts.{not_zero}
use Rattle.judge_lines.specs.declared.kind.Kind.{Kind}
use Rattle.judge_lines.specs.declared.kind.Kind.TheVariants.{Unready, Ready, Pool, Base, Resumed, Cpu}
use Rattle.judge_lines.specs.Kinds.{base_kind, kinds_of}
use Rattle.judge_lines.specs.Rows.{IsDraw, IsCpuRead, IsRead, IsWait, IsAfterLook, IsSystemCall}
use Rattle.judge_lines.specs.Inferred.{FillsPart, AllThere, sign_of, AllFill, Fills, FillsBase, LineFills}
use Rattle.judge_lines.specs.Inferred.{first_sign, reads}
use Rattle.judge_lines.specs.LaneFacts.{LaneFacts}
use Rattle.judge_lines.specs.Laws.{KeyRowIsCall, LastRowIsCall}
use Rattle.judge_lines.specs.declared.inferred.Sign.{Sign}
use Rattle.judge_lines.specs.declared.inferred.Sign.TheVariants.{Saw as saw, Nowhere as nowhere}
use Rattle.judge_lines.specs.declared.inferred.BaseInferred.TheVariants.{Woken as woken}
use Rattle.judge_lines.proofs.InferredReads.{same_taken}
use Rattle.judge_lines.proofs.RowShapes.{Shape, effects_in, shaped, kinds_in, is_zero}

pub no_more : (cpu : ℕ) (ds : List Effect) → kinds_of cpu ds ≡ [] → ds ≡ []
no_more cpu [] p = refl
no_more cpu (d ∷ ds) p = cc

module _ (c : LaneFacts) (set : Setting) (sooner taken : Taken) (first : Sign) where
  abbrev Fill : Sign → Sign → List Effect → Type 0
  Fill = AllFill (FillsPart c set sooner taken first)

  pub at : (a b : Sign) {ds xs : List Effect} → ds ≡ xs → Fill a b ds → Fill a b xs
  at a b {ds = ds} {xs = xs} p fill = let P : List Effect → Type 0 = λ x. Fill a b x in subst P p fill

  pub draw_by : (a : Sign) (g : ℕ) (ds : List Effect) → Fill a (saw g) ds → IsDraw (kinds_of set.cpu ds) →
      DrawForm set taken ds
  draw_by a g ds fill (inl p) =
      let s = shaped set.cpu (Pool ∷ Base ∷ []) ds p in
      let f = at a (saw g) s.1 fill in
      inl (record { pool = s.0.0; base = s.0.1.0.0; effects_are = s.1; extracts = f.0; names = f.1.0 })
  draw_by a g ds fill (inr p) =
      let s = shaped set.cpu (Base ∷ []) ds p in
      let f = at a (saw g) s.1 fill in
      inr (record { base = s.0.0.0; effects_are = s.1; is = f.0 })

  pub cpu_read_by : (a b : Sign) (ds : List Effect) → Fill a b ds → IsCpuRead (kinds_of set.cpu ds) →
      CpuReadForm set taken ds
  cpu_read_by a b ds fill (inl p) =
      let s = shaped set.cpu (Ready ∷ Cpu ∷ []) ds p in
      let f = at a b s.1 fill in
      inl (record { look = s.0.0.0; cpu = s.0.1.0.0; effects_are = s.1; on = s.0.1.0.1; reads = f.1.0 })
  cpu_read_by a b ds fill (inr p) =
      let s = shaped set.cpu (Ready ∷ Base ∷ Cpu ∷ []) ds p in
      let f = at a b s.1 fill in
      inr (record {
        look = s.0.0.0;
        base = s.0.1.0.0;
        cpu = s.0.1.1.0.0;
        effects_are = s.1;
        on = s.0.1.1.0.1;
        refills = f.1.0;
        reads = f.1.1.0;
      })

  abbrev pub ready_of : ℕ → Bool
  ready_of g = not (g == 0)

  pub read_by : (a : Sign) (g : ℕ) (ds : List Effect) → Fill a (saw g) ds → IsRead (ready_of g) (kinds_of set.cpu ds) →
      ReadForm set taken g ds
  read_by a g ds fill (inl r) =
      let zero : g ≡ 0 = (let unready : not (g == 0) ≡ false = r.0 in grind (arith, nat_tests)) in
      inl (zero, draw_by a g ds fill r.1)
  read_by a g ds fill (inr r) = inr (cpu_read_by a (saw g) ds fill r)

module _ (c : LaneFacts) (set : Setting) (sooner : Taken) (n : ℕ) (first : Sign) where
  abbrev FillU : Sign → Sign → List Effect → Type 0
  FillU = AllFill (FillsPart c set sooner (User n) first)

  -- if the visit `v` ended a wait and its kind is `Base`, not `Resumed`, its entry is `Interrupt`
  not_resumed : (v : BaseVisit) → FillsBase c woken v → base_kind v.entry ≡ Base → v.entry ≡ Interrupt
  not_resumed v fills kind = go (nat_le 1 v.before.generation) fills
    where
      go : (b : Bool) → v.entry ≡ (if b then Resume else Interrupt) → v.entry ≡ Interrupt
      go true is = (let k : Resumed ≡ Base = sym (ap base_kind is) ∙ kind in cc)
      go false is = is

  went_on : (v : BaseVisit) → FillsBase c woken v → base_kind v.entry ≡ Resumed → v.entry ≡ Resume
  went_on v fills kind = go (nat_le 1 v.before.generation) fills
    where
      go : (b : Bool) → v.entry ≡ (if b then Resume else Interrupt) → v.entry ≡ Resume
      go true is = is
      go false is = (let k : Base ≡ Resumed = sym (ap base_kind is) ∙ kind in cc)

  -- if the entries `Wait` and `Resume` come first, and then the steps of a read, all these steps are a wait that ended
  -- because the core was ready
  goes_on : (ds : List Effect) (v w : BaseVisit) (rest : List Effect) → ds ≡ at_base v ∷ at_base w ∷ rest →
      v.entry ≡ Wait → w.entry ≡ Resume → MatchBool (n == 0) (rest ≡ []) (CpuReadForm set (User n) rest) →
      Waited set n ds
  goes_on ds v w rest is waits resumes rests =
      record { wait = v; resume = w; rest = rest; effects_are = is; waits = waits; resumes = resumes; reads = rests }

  wait_row : (a0 : Sign) (g : ℕ) (ds : List Effect) → FillU a0 (saw g) ds → IsWait n (kinds_of set.cpu ds) →
      WaitedInVain ds ⊎ Waited set n ds
  wait_row a0 g ds fill (inl p) =
      let s = shaped set.cpu (Base ∷ Base ∷ []) ds p in
      let f = at c set sooner (User n) first a0 (saw g) s.1 fill in
      let w : BaseVisit = s.0.1.0.0 in
      inl (record {
        wait = s.0.0.0;
        interrupt = w;
        effects_are = s.1;
        waits = f.0;
        interrupts = not_resumed w f.1.0 s.0.1.0.1;
      })
  wait_row a0 g ds fill (inr (rest, p, more)) = inr (go (n == 0) refl more)
    where
      Reads : Bool → List Effect → Type 0
      Reads b rest = MatchBool b (rest ≡ []) (CpuReadForm set (User n) rest)

      shape : (ks : List Kind) → rest ≡ ks →
          (s : Shape set.cpu (Base ∷ Resumed ∷ ks)) × (ds ≡ effects_in set.cpu (Base ∷ Resumed ∷ ks) s)
      shape ks is = shaped set.cpu (Base ∷ Resumed ∷ ks) ds (p ∙ ap (λ ks. Base ∷ Resumed ∷ ks) is)

      go : (b : Bool) → (n == 0) ≡ b → MatchBool b (rest ≡ []) (IsCpuRead rest) → Waited set n ds
      go true zero none =
          let s = shape [] none in
          let f = at c set sooner (User n) first a0 (saw g) s.1 fill in
          let w : BaseVisit = s.0.1.0.0 in
          let nothing : List Effect = [] in
          goes_on ds s.0.0.0 w nothing s.1 f.0 (went_on w f.1.0 s.0.1.0.1)
          (subst (λ (b : Bool). Reads b nothing) (sym zero) refl)
      go false some (inl is) =
          let s = shape (Ready ∷ Cpu ∷ []) is in
          let f = at c set sooner (User n) first a0 (saw g) s.1 fill in
          let w : BaseVisit = s.0.1.0.0 in
          let found : ℕ = s.0.1.1.0.0 in
          let v : CpuVisit = s.0.1.1.1.0.0 in
          let read : List Effect = looked found ∷ at_cpu v ∷ [] in
          let form : CpuReadForm set (User n) read =
          inl (record { look = found; cpu = v; effects_are = refl; on = s.0.1.1.1.0.1; reads = f.1.1.1.0 }) in
          goes_on ds s.0.0.0 w read s.1 f.0 (went_on w f.1.0 s.0.1.0.1)
          (subst (λ (b : Bool). Reads b read) (sym some) form)
      go false some (inr is) =
          let s = shape (Ready ∷ Base ∷ Cpu ∷ []) is in
          let f = at c set sooner (User n) first a0 (saw g) s.1 fill in
          let w : BaseVisit = s.0.1.0.0 in
          let found : ℕ = s.0.1.1.0.0 in
          let b : BaseVisit = s.0.1.1.1.0.0 in
          let v : CpuVisit = s.0.1.1.1.1.0.0 in
          let read : List Effect = looked found ∷ at_base b ∷ at_cpu v ∷ [] in
          let form : CpuReadForm set (User n) read =
          inr (record {
            look = found;
            base = b;
            cpu = v;
            effects_are = refl;
            on = s.0.1.1.1.1.0.1;
            refills = f.1.1.1.0;
            reads = f.1.1.1.1.0;
          }) in
          goes_on ds s.0.0.0 w read s.1 f.0 (went_on w f.1.0 s.0.1.0.1)
          (subst (λ (b : Bool). Reads b read) (sym some) form)

  pub after_row : (a0 : Sign) (flags g : ℕ) (ds : List Effect) → FillU a0 (saw g) ds →
      IsAfterLook n flags (not (g == 0)) (kinds_of set.cpu ds) → LookedForm set n flags g ds
  after_row a0 flags g ds fill row = go (g == 0) (is_insecure flags) (is_nonblock flags) (n == 0) refl row
    where
      go : (z i b e : Bool) → (g == 0) ≡ z →
          MatchBool (not (not z) && not i) (MatchBool b (kinds_of set.cpu ds ≡ []) (IsWait n (kinds_of set.cpu ds)))
          (MatchBool e (kinds_of set.cpu ds ≡ []) (IsRead (not z) (kinds_of set.cpu ds))) →
          MatchBool (z && not i) (MatchBool b (ds ≡ []) (WaitedInVain ds ⊎ Waited set n ds))
          (MatchBool e (ds ≡ []) (ReadForm set (User n) g ds))
      go true false true e is h = no_more set.cpu ds h
      go true false false e is h = wait_row a0 g ds fill h
      go true true b true is h = no_more set.cpu ds h
      go true true b false is h = read_by c set sooner (User n) first a0 g ds fill
          (subst (λ (z : Bool). IsRead (not z) (kinds_of set.cpu ds)) (sym is) h)
      go false false b true is h = no_more set.cpu ds h
      go false true b true is h = no_more set.cpu ds h
      go false false b false is h = read_by c set sooner (User n) first a0 g ds fill
          (subst (λ (z : Bool). IsRead (not z) (kinds_of set.cpu ds)) (sym is) h)
      go false true b false is h = read_by c set sooner (User n) first a0 g ds fill
          (subst (λ (z : Bool). IsRead (not z) (kinds_of set.cpu ds)) (sym is) h)

abbrev Row : ℕ → ℕ → List Kind → Type 0
Row n flags kinds = ((rest : List Kind) × (kinds ≡ Unready ∷ rest) × IsAfterLook n flags false rest)
    ⊎ ((rest : List Kind) × (kinds ≡ Ready ∷ rest) × IsAfterLook n flags true rest)

abbrev Form : Setting → ℕ → ℕ → List Effect → Type 0
Form set n flags effects = (g : ℕ) × (rest : List Effect) × (effects ≡ looked g ∷ rest) × LookedForm set n flags g rest

pub system_by : (c : LaneFacts) (set : Setting) (sooner : Taken) (n flags : ℕ) (first a b : Sign) (effects : List Effect) →
    AllFill (FillsPart c set sooner (User n) first) a b effects → IsSystemCall n flags (kinds_of set.cpu effects) →
    SysForm set n flags effects
system_by c set sooner n flags first a b0 effects fill row = go (is_bad flags) row
  where
    by : (g : ℕ) (z : Bool) → (g == 0) ≡ z → (rest : List Kind) (s : Shape set.cpu rest) →
        effects ≡ looked g ∷ effects_in set.cpu rest s → IsAfterLook n flags (not z) rest → Form set n flags effects
    by g z is rest s all following =
        let r : List Effect = effects_in set.cpu rest s in
        let f = at c set sooner (User n) first a b0 all fill in (
          g,
          r,
          all,
          after_row c set sooner n first b0 flags g r f.1
              (subst (λ (z : Bool). IsAfterLook n flags (not z) (kinds_of set.cpu r)) (sym is)
              (subst (λ ks. IsAfterLook n flags (not z) ks) (sym (kinds_in set.cpu rest s)) following)),
        )

    go : (b : Bool) → MatchBool b (kinds_of set.cpu effects ≡ []) (Row n flags (kinds_of set.cpu effects)) →
        MatchBool b (effects ≡ []) (Form set n flags effects)
    go true none = no_more set.cpu effects none
    go false (inl (rest, p, following)) =
        let s = shaped set.cpu (Unready ∷ rest) effects p in
        by s.0.0.0 true (is_zero s.0.0.0 s.0.0.1) rest s.0.1 s.1 following
    go false (inr (rest, p, following)) =
        let s = shaped set.cpu (Ready ∷ rest) effects p in
        by s.0.0.0 false (not_zero s.0.0.0 s.0.0.1) rest s.0.1 s.1 following

module _ (c : LaneFacts) (set : Setting) (taken : Taken) (first : Sign) where
  pub unlike : (a b : Sign) (ds : List Effect) → AllFill (Fills c set (reads taken) first) a b ds →
      AllFill (FillsPart c set taken taken first) a b ds
  unlike a b [] h = tt
  unlike a b (d ∷ ds) h =
      let P : Taken → Type 0 = λ t. Fills c set (reads t) first
      (record { second_before = a; before = b; following = first_sign ds }) d in
      (subst P (sym (same_taken c set taken first (first_sign ds))) h.0, unlike b (sign_of d) ds h.1)

  pub draw_row : (a : Sign) (g : ℕ) (ds : List Effect) → AllFill (Fills c set (reads taken) first) a (saw g) ds →
      IsDraw (kinds_of set.cpu ds) → DrawForm set taken ds
  draw_row a g ds fill row = draw_by c set taken taken first a g ds (unlike a (saw g) ds fill) row

  pub cpu_read_row : (a b : Sign) (ds : List Effect) → AllFill (Fills c set (reads taken) first) a b ds →
      IsCpuRead (kinds_of set.cpu ds) → CpuReadForm set taken ds
  cpu_read_row a b ds fill row = cpu_read_by c set taken taken first a b ds (unlike a b ds fill) row

pub system_rows : (c : LaneFacts) (set : Setting) (n flags : ℕ) (effects : List Effect) →
    LineFills c set (reads (User n)) effects → IsSystemCall n flags (kinds_of set.cpu effects) → SysForm set n flags effects
system_rows c set n flags effects fill row =
    system_by c set (User n) n flags (first_sign effects) nowhere nowhere effects
    (unlike c set (User n) (first_sign effects) nowhere nowhere effects fill) row

-- the entry of a step before a look is inferred as if the line ended with that step
module _ (c : LaneFacts) (set : Setting) (sooner taken : Taken) (first : Sign) where
  abbrev OneOf : Taken → Sign → Sign → Sign → Effect → Type 0
  OneOf t a b following d = Fills c set (reads t) first (record { second_before = a; before = b; following = following }) d

  without_the_look : (a b : Sign) (h : ℕ) (d : Effect) → OneOf sooner a b (saw h) d → OneOf sooner a b nowhere d
  without_the_look a b h (looked g) f = tt
  without_the_look a b h (at_pool v) f = f
  without_the_look a b h (at_base v) f = f
  without_the_look a b h (at_cpu v) f = f
  without_the_look a b h nothing_there f = tt

  pub the_front : (xs : List Effect) (h : ℕ) (ys : List Effect) (a b : Sign) → AllThere xs →
      AllFill (FillsPart c set sooner taken first) a b (xs ++ looked h ∷ ys) →
      AllFill (FillsPart c set sooner sooner first) a b xs
  the_front [] h ys a b there fill = tt
  the_front (d ∷ []) h ys a b there fill = (without_the_look a b h d fill.0, tt)
  the_front (d ∷ looked g ∷ xs) h ys a b there fill =
      (fill.0, the_front (looked g ∷ xs) h ys b (sign_of d) there.1 fill.1)
  the_front (d ∷ at_pool v ∷ xs) h ys a b there fill =
      (fill.0, the_front (at_pool v ∷ xs) h ys b (sign_of d) there.1 fill.1)
  the_front (d ∷ at_base v ∷ xs) h ys a b there fill =
      (fill.0, the_front (at_base v ∷ xs) h ys b (sign_of d) there.1 fill.1)
  the_front (d ∷ at_cpu v ∷ xs) h ys a b there fill =
      (fill.0, the_front (at_cpu v ∷ xs) h ys b (sign_of d) there.1 fill.1)
  the_front (d ∷ nothing_there ∷ xs) h ys a b there fill = absurd there.1.0

pub key_row : KeyRowIsCall
key_row c set n first xs h ys a b there fill row =
    system_by c set (User 32) 32 0 first a b xs (the_front c set (User 32) (User n) first xs h ys a b there fill) row

pub last_row : LastRowIsCall
last_row c set n flags first xs a b fill row = system_by c set (User 32) n flags first a b xs fill row
