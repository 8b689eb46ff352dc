-- If the entries of a read or a system call fit their lanes, each visit has the entry that is inferred from the steps
-- around it.
use Rattle.std.proofs.Common.{◌≡◌, ℕ, ◌≤◌, Bool, true, false, List, [], ◌∷◌, ◌⊎◌, inl, inr, refl, ◌++◌, sym, subst, ap}
use Rattle.std.proofs.Common.{◌∙◌, arith}
use Rattle.std.specs.Prelude.{◌==◌, ◌&&◌, not, nat_le, if◌then◌else◌, MatchBool}
use Rattle.std.proofs.lemmas.Bool.Decides.{nat_tests}
use Rattle.key_names.specs.declared.entries.Taken.{Taken}
use Rattle.key_names.specs.declared.entries.Taken.TheVariants.{User}
use Rattle.key_names.specs.declared.entries.BaseEntry.{BaseEntry}
use Rattle.key_names.specs.declared.entries.BaseEntry.TheVariants.{Resume, Interrupt}
use Rattle.key_names.specs.Lanes.BaseList.{BaseState, BaseFits}
use Rattle.key_names.specs.Kernel.Flags.{is_bad, is_nonblock, is_insecure}
use Rattle.key_names.specs.Callers.Calls.{Setting}
use Rattle.key_names.specs.Callers.Effects.{Effect, looked, at_pool, at_base, at_cpu, nothing_there}
use Rattle.key_names.specs.Callers.Forms.{DrawForm, CpuReadForm, ReadForm, LookedForm, SysForm, WaitedInVain, Waited}
use Rattle.judge_lines.specs.LaneFacts.{LaneFacts, AllFit}
use Rattle.judge_lines.specs.Inferred.{AllFill, Fills, LineFills, FillsPart, taken_by, AllThere, sign_of, reads}
use Rattle.judge_lines.specs.Inferred.{first_sign}
use Rattle.judge_lines.specs.Laws.{KeyCallIsInferred, LastCallIsInferred}
use Rattle.judge_lines.specs.declared.inferred.Sign.{Sign}
use Rattle.judge_lines.specs.declared.inferred.Sign.TheVariants.{Saw as saw, Nowhere as nowhere}
use Rattle.judge_lines.specs.declared.inferred.Neighbours.{Neighbours}

module _ (F : Neighbours → Effect → Type 0) where
  pub filled_at : (a b : Sign) {ds xs : List Effect} → ds ≡ xs → AllFill F a b xs → AllFill F a b ds
  filled_at a b {ds = ds} {xs = xs} p fill = let P : List Effect → Type 0 = λ x. AllFill F a b x in subst P (sym p) fill

pub fit_at : (c : LaneFacts) {ds xs : List Effect} → ds ≡ xs → AllFit c ds → AllFit c xs
fit_at c {ds = ds} {xs = xs} p fit = let P : List Effect → Type 0 = λ x. AllFit c x in subst P p fit

module _ (c : LaneFacts) (set : Setting) (early taken : Taken) (first : Sign) where
  abbrev Fill : Sign → Sign → List Effect → Type 0
  Fill = AllFill (FillsPart c set early taken first)

  fill_at : (a b : Sign) {ds xs : List Effect} → ds ≡ xs → Fill a b xs → Fill a b ds
  fill_at = filled_at (FillsPart c set early taken first)

  pub draw_by : (a : Sign) (g : ℕ) (ds : List Effect) → DrawForm set taken ds → Fill a (saw g) ds
  draw_by a g ds (inl f) = fill_at a (saw g) f.effects_are (f.extracts, (f.names, tt))
  draw_by a g ds (inr f) = fill_at a (saw g) f.effects_are (f.is, tt)

  pub cpu_read_by : (a b : Sign) (ds : List Effect) → CpuReadForm set taken ds → Fill a b ds
  cpu_read_by a b ds (inl f) = fill_at a b f.effects_are (tt, (f.reads, tt))
  cpu_read_by a b ds (inr f) = fill_at a b f.effects_are (tt, (f.refills, (f.reads, tt)))

  pub read_by : (a : Sign) (g : ℕ) (ds : List Effect) → ReadForm set taken g ds → Fill a (saw g) ds
  read_by a g ds (inl f) = draw_by a g ds f.1
  read_by a g ds (inr f) = cpu_read_by a (saw g) ds f

-- if the entry `Resume`, by which a waiter goes on, fits the base's state `s`, the generation was at least 1, so
-- `Resume` is also the inferred entry
went_on : (s : BaseState) (e : BaseEntry) → e ≡ Resume → BaseFits s e →
    e ≡ (if nat_le 1 s.generation then Resume else Interrupt)
went_on s e p fits =
    let P : BaseEntry → Type 0 = λ e. BaseFits s e in
    let some : 1 ≤ s.generation = subst P p fits in
    let is : nat_le 1 s.generation ≡ true = grind (arith, nat_tests) in
    p ∙ ap (λ b. if b then Resume else Interrupt) (sym is)

stopped : (s : BaseState) (e : BaseEntry) → e ≡ Interrupt → BaseFits s e →
    e ≡ (if nat_le 1 s.generation then Resume else Interrupt)
stopped s e p fits =
    let P : BaseEntry → Type 0 = λ e. BaseFits s e in
    let none : (s.generation ≡ 0) × (s.running ≡ 0) = subst P p fits in
    let zero : s.generation ≡ 0 = none.0 in
    let is : nat_le 1 s.generation ≡ false = grind (arith, nat_tests) in
    p ∙ ap (λ b. if b then Resume else Interrupt) (sym is)

module _ (c : LaneFacts) (set : Setting) (early : Taken) (n : ℕ) (first : Sign) where
  abbrev FillU : Sign → Sign → List Effect → Type 0
  FillU = AllFill (FillsPart c set early (User n) first)

  in_vain_inferred : (a : Sign) (g : ℕ) (ds : List Effect) → WaitedInVain ds → AllFit c ds → FillU a (saw g) ds
  in_vain_inferred a g ds f fit =
      let fits = fit_at c f.effects_are fit in
      fill_at c set early (User n) first a (saw g) f.effects_are
      (f.waits, (stopped f.interrupt.before f.interrupt.entry f.interrupts fits.1.0, tt))

  -- if a wait ended because the core was ready, its steps have the inferred entries, since the next step is a look or
  -- there is none
  resumed : (a : Sign) (g : ℕ) (ds : List Effect) → Waited set n ds → AllFit c ds → FillU a (saw g) ds
  resumed a g ds f fit = go (n == 0) f.rest f.reads f.effects_are
    where
      go : (b : Bool) (rest : List Effect) → MatchBool b (rest ≡ []) (CpuReadForm set (User n) rest) →
          ds ≡ at_base f.wait ∷ at_base f.resume ∷ rest → FillU a (saw g) ds
      go true rest none is =
          let p : ds ≡ at_base f.wait ∷ at_base f.resume ∷ [] =
          is ∙ ap (λ xs. at_base f.wait ∷ at_base f.resume ∷ xs) none in
          let fits = fit_at c p fit in
          fill_at c set early (User n) first a (saw g) p
          (f.waits, (went_on f.resume.before f.resume.entry f.resumes fits.1.0, tt))
      go false rest (inl read) is =
          let p = is ∙ ap (λ xs. at_base f.wait ∷ at_base f.resume ∷ xs) read.effects_are in
          let fits = fit_at c p fit in
          fill_at c set early (User n) first a (saw g) p
          (f.waits, (went_on f.resume.before f.resume.entry f.resumes fits.1.0, (tt, (read.reads, tt))))
      go false rest (inr read) is =
          let p = is ∙ ap (λ xs. at_base f.wait ∷ at_base f.resume ∷ xs) read.effects_are in
          let fits = fit_at c p fit in
          fill_at c set early (User n) first a (saw g) p
          (f.waits, (went_on f.resume.before f.resume.entry f.resumes fits.1.0, (tt, (read.refills, (read.reads, tt)))))

  none_inferred : (a b : Sign) (ds : List Effect) → ds ≡ [] → FillU a b ds
  none_inferred a b ds p = fill_at c set early (User n) first a b p tt

  looked_inferred : (a : Sign) (flags g : ℕ) (ds : List Effect) → LookedForm set n flags g ds → AllFit c ds →
      FillU a (saw g) ds
  looked_inferred a flags g ds form fit = go (g == 0 && not (is_insecure flags)) form
    where
      waits : (b : Bool) → MatchBool b (ds ≡ []) (WaitedInVain ds ⊎ Waited set n ds) → FillU a (saw g) ds
      waits true none = none_inferred a (saw g) ds none
      waits false (inl f) = in_vain_inferred a g ds f fit
      waits false (inr f) = resumed a g ds f fit

      reads : (b : Bool) → MatchBool b (ds ≡ []) (ReadForm set (User n) g ds) → FillU a (saw g) ds
      reads true none = none_inferred a (saw g) ds none
      reads false f = read_by c set early (User n) first a g ds f

      go : (b : Bool) → MatchBool b (MatchBool (is_nonblock flags) (ds ≡ []) (WaitedInVain ds ⊎ Waited set n ds))
          (MatchBool (n == 0) (ds ≡ []) (ReadForm set (User n) g ds)) → FillU a (saw g) ds
      go true f = waits (is_nonblock flags) f
      go false f = reads (n == 0) f

abbrev After : Setting → ℕ → ℕ → List Effect → Type 0
After set n flags effects = (g : ℕ) × (rest : List Effect) × (effects ≡ looked g ∷ rest) × LookedForm set n flags g rest

pub system_by : (c : LaneFacts) (set : Setting) (early : Taken) (n flags : ℕ) (first a b : Sign) (effects : List Effect) →
    SysForm set n flags effects → AllFit c effects → AllFill (FillsPart c set early (User n) first) a b effects
system_by c set early n flags first a b effects form fit = go (is_bad flags) form
  where
    go : (x : Bool) → MatchBool x (effects ≡ []) (After set n flags effects) →
        AllFill (FillsPart c set early (User n) first) a b effects
    go true none = none_inferred c set early n first a b effects none
    go false f = fill_at c set early (User n) first a b f.2
        (tt, looked_inferred c set early n first b flags f.0 f.1 f.3 (fit_at c f.2 fit).1)

module _ (c : LaneFacts) (set : Setting) (taken : Taken) (first : Sign) where
  pub same_taken : (s : Sign) → taken_by taken taken s ≡ taken
  same_taken nowhere = refl
  same_taken _ = refl

  -- if all reads of a line take the same bytes, the entries of the line are inferred as for one read
  pub alike : (a b : Sign) (ds : List Effect) → AllFill (FillsPart c set taken taken first) a b ds →
      AllFill (Fills c set (reads taken) first) a b ds
  alike a b [] h = tt
  alike a b (d ∷ ds) h =
      let P : Taken → Type 0 = λ t. Fills c set (reads t) first
      (record { second_before = a; before = b; following = first_sign ds }) d in
      (subst P (same_taken (first_sign ds)) h.0, alike b (sign_of d) ds h.1)

  pub draw_inferred : (a : Sign) (g : ℕ) (ds : List Effect) → DrawForm set taken ds →
      AllFill (Fills c set (reads taken) first) a (saw g) ds
  draw_inferred a g ds f = alike a (saw g) ds (draw_by c set taken taken first a g ds f)

  pub cpu_read_inferred : (a b : Sign) (ds : List Effect) → CpuReadForm set taken ds →
      AllFill (Fills c set (reads taken) first) a b ds
  cpu_read_inferred a b ds f = alike a b ds (cpu_read_by c set taken taken first a b ds f)

  pub read_inferred : (a : Sign) (g : ℕ) (ds : List Effect) → ReadForm set taken g ds →
      AllFill (Fills c set (reads taken) first) a (saw g) ds
  read_inferred a g ds f = alike a (saw g) ds (read_by c set taken taken first a g ds f)

pub system_inferred : (c : LaneFacts) (set : Setting) (n flags : ℕ) (effects : List Effect) → SysForm set n flags effects →
    AllFit c effects → LineFills c set (reads (User n)) effects
system_inferred c set n flags effects form fit =
    alike c set (User n) (first_sign effects) nowhere nowhere effects
    (system_by c set (User n) n flags (first_sign effects) nowhere nowhere effects form fit)

-- the entries of the system call that reads a key are inferred as if no step came after the call, since the next step
-- is a look
module _ (c : LaneFacts) (set : Setting) (early taken : Taken) (first : Sign) where
  abbrev One : Taken → Sign → Sign → Sign → Effect → Type 0
  One t a b following d = Fills c set (reads t) first (record { second_before = a; before = b; following = following }) d

  before_a_look : (a b : Sign) (h : ℕ) (d : Effect) → One early a b nowhere d → One early a b (saw h) d
  before_a_look a b h (looked g) f = tt
  before_a_look a b h (at_pool v) f = f
  before_a_look a b h (at_base v) f = f
  before_a_look a b h (at_cpu v) f = f
  before_a_look a b h nothing_there f = tt

  pub in_front : (xs : List Effect) (h : ℕ) (ys : List Effect) (a b : Sign) → AllThere xs →
      AllFill (FillsPart c set early early first) a b xs →
      ((a b : Sign) → AllFill (FillsPart c set early taken first) a b (looked h ∷ ys)) →
      AllFill (FillsPart c set early taken first) a b (xs ++ looked h ∷ ys)
  in_front [] h ys a b there fill more = more a b
  in_front (d ∷ []) h ys a b there fill more =
      (before_a_look a b h d fill.0, more b (sign_of d))
  in_front (d ∷ looked g ∷ xs) h ys a b there fill more =
      (fill.0, in_front (looked g ∷ xs) h ys b (sign_of d) there.1 fill.1 more)
  in_front (d ∷ at_pool v ∷ xs) h ys a b there fill more =
      (fill.0, in_front (at_pool v ∷ xs) h ys b (sign_of d) there.1 fill.1 more)
  in_front (d ∷ at_base v ∷ xs) h ys a b there fill more =
      (fill.0, in_front (at_base v ∷ xs) h ys b (sign_of d) there.1 fill.1 more)
  in_front (d ∷ at_cpu v ∷ xs) h ys a b there fill more =
      (fill.0, in_front (at_cpu v ∷ xs) h ys b (sign_of d) there.1 fill.1 more)
  in_front (d ∷ nothing_there ∷ xs) h ys a b there fill more = absurd there.1.0

-- suppose that the entries of the system call that reads a key fit their lanes. If the look after the call and the
-- later steps have the inferred entries, the steps of the call have them too
pub key_inferred : KeyCallIsInferred
key_inferred c set n first xs h ys a b there form fit more =
    in_front c set (User 32) (User n) first xs h ys a b there
    (system_by c set (User 32) 32 0 first a b xs form fit) more

pub last_inferred : LastCallIsInferred
last_inferred c set n flags first xs a b form fit = system_by c set (User 32) n flags first a b xs form fit
