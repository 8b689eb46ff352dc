-- A vread that has the same steps in two books reads its keys from the same visits in both, though the values of the
-- keys may differ.
use Rattle.std.proofs.Common.{◌≡◌, ℕ, ◌≤◌, Bool, true, false, List, [], ◌∷◌, ◌++◌, ◌⊎◌, inl, inr, refl, sym, subst, ap}
use Rattle.std.proofs.Common.{◌∙◌, arith, Some, Option}
use Rattle.std.specs.Prelude.{◌==◌, ◌&&◌, MatchBool}
use Rattle.std.specs.List.{AllByRecursion}
use Rattle.key_names.specs.declared.names.Who.{Who}
use Rattle.key_names.specs.declared.entries.Taken.TheVariants.{User}
use Rattle.key_names.specs.Lanes.Book.{Book, lists_of}
use Rattle.key_names.specs.Callers.Calls.{Setting}
use Rattle.key_names.specs.Callers.Effects.{BaseVisit, Effect, CpuVisit, looked, at_base, at_cpu}
use Rattle.key_names.specs.Callers.Forms.{SysForm, ReadForm, Waited, WaitedInVain}
use Rattle.key_names.specs.Callers.Answers.{served_bytes, was_interrupted}
use Rattle.key_names.specs.Kernel.Vgetrandom.{CpuPlace, SystemAnswer, read, HostStep, publishes, system_call}
use Rattle.key_names.specs.Callers.VreadSteps.{published_by, last_place, errno_of, answer_with, answer_after, Shows}
use Rattle.key_names.specs.Callers.VreadSteps.{PointReached, points_of, looks_of}
use Rattle.std.proofs.lemmas.Bool.{eqb-true}
use Rattle.key_names.proofs.Transcripts.KeyVisits.{answers_done}
use Rattle.key_names.proofs.Unique.TwoBooks.{SameCpu, SameSteps, AllInferred, same_at, inferred_at, same_looks}
use Rattle.key_names.proofs.Unique.UniqueForms.{inferred_system}

-- let `b` and `b'` be equal. If C follows from A and A', and also from B and B', then C follows from the two choices by
-- `b` and `b'`
pub match_both : (A B A' B' C : Type 0) (b b' : Bool) → b ≡ b' → ((b ≡ true) → A → A' → C) → ((b ≡ false) → B → B' →
    C) →
    MatchBool b A B → MatchBool b' A' B' → C
match_both A B A' B' C true true p f g x y = f refl x y
match_both A B A' B' C false false p f g x y = g refl x y
match_both A B A' B' C true false p f g x y = cc
match_both A B A' B' C false true p f g x y = cc

-- each look among the effects found the core ready
abbrev pub AllReady : List Effect → Type 0
AllReady ds = AllByRecursion (λ g. 1 ≤ g) (looks_of ds)

pub ready_at : {ds xs : List Effect} → ds ≡ xs → AllReady ds → AllReady xs
ready_at {ds = ds} {xs = xs} p ready = let P : List Effect → Type 0 = λ x. AllReady x in subst P p ready

pub not_zero : (g : ℕ) → 1 ≤ g → (g == 0) ≡ false
not_zero g some = go (g == 0) refl
  where
    go : (b : Bool) → (g == 0) ≡ b → (g == 0) ≡ false
    go true is = let zero_is : g ≡ 0 = eqb-true g 0 is in absurd (omega arith)
    go false is = is

-- `call` lists the effects of a system call that reads a key from a CPU: `PlainKey` without a refill, `RefilledKey`
-- with one
record PlainKey (call : List Effect) : Type 0 where
  g : ℕ
  look : ℕ
  cpu : CpuVisit
  is : call ≡ looked g ∷ looked look ∷ at_cpu cpu ∷ []

record RefilledKey (call : List Effect) : Type 0 where
  g : ℕ
  look : ℕ
  base : BaseVisit
  cpu : CpuVisit
  is : call ≡ looked g ∷ looked look ∷ at_base base ∷ at_cpu cpu ∷ []

-- if each look of a system call for a new key found the core ready, then the call is a PlainKey or a RefilledKey
key_read : (set : Setting) (call more : List Effect) → SysForm set 32 0 call → AllReady (call ++ more) →
    PlainKey call ⊎ RefilledKey call
key_read set call more form ready =
    let r : AllReady (looked form.0 ∷ (form.1 ++ more)) = ready_at (ap (λ ds. ds ++ more) form.2) ready in
    let P : Bool → Type 0 = λ b. MatchBool (b && true) (WaitedInVain form.1 ⊎ Waited set 32 form.1)
    (ReadForm set (User 32) form.0 form.1) in
    go (subst P (not_zero form.0 r.0) form.3) r.0
  where
    go : ReadForm set (User 32) form.0 form.1 → 1 ≤ form.0 → PlainKey call ⊎ RefilledKey call
    go (inl draw) some = let none : form.0 ≡ 0 = draw.0 in absurd (omega arith)
    go (inr (inl f)) some = inl (record {
      g = form.0;
      look = f.look;
      cpu = f.cpu;
      is = form.2 ∙ ap (λ ds. looked form.0 ∷ ds) f.effects_are;
    })
    go (inr (inr f)) some = inr (record {
      g = form.0;
      look = f.look;
      base = f.base;
      cpu = f.cpu;
      is = form.2 ∙ ap (λ ds. looked form.0 ∷ ds) f.effects_are;
    })

abbrev visit_of : CpuVisit → Option CpuPlace
visit_of cpu = Some (record { cpu = cpu.cpu; place = cpu.place })

-- the system call with the effects `front` was not interrupted, and the last of these effects is `cpu`, the visit that
-- serves the key
record Ends (front : List Effect) (cpu : CpuVisit) : Type 0 where
  calm : was_interrupted front ≡ false
  serves : served_bytes front ≡ cpu.serves
  at : last_place front ≡ visit_of cpu

answers : (call front : List Effect) (cpu : CpuVisit) → call ≡ front → Ends front cpu →
    answer_after 0 call ≡ read cpu.serves (visit_of cpu)
answers call front cpu p ends =
    ap (answer_after 0) p ∙ ap (λ a. answer_with (errno_of a) front) (answers_done front ends.calm)
    ∙ ap (λ bytes. read bytes (last_place front)) ends.serves ∙ ap (λ v. read cpu.serves v) ends.at

module _ (book book' : Book) (who : Who) (set : Setting) where
  abbrev H : Type 0
  H = lists_of book ≡ lists_of book'

  abbrev Same : List Effect → List Effect → Type 0
  Same = SameSteps book book' who

  abbrev Inferred : List Effect → List Effect → Type 0
  Inferred = AllInferred book book' who

  -- if the looks of some steps found the core ready in one book, they found it ready in the other, too
  same_ready : (ds ds' : List Effect) → Same ds ds' → AllReady ds → AllReady ds'
  same_ready ds ds' same ready = let P : List ℕ → Type 0 = λ gs. AllByRecursion (λ g. 1 ≤ g) gs in
      subst P (same_looks book book' who ds ds' same) ready

  -- the system calls with the effects `call` and `call'`, one in each book, end at the same step, and read their keys
  -- from the same visit
  record SameRead (call call' more more' : List Effect) : Type 0 where
    key : List ℕ
    key' : List ℕ
    visit : Option CpuPlace
    is : answer_after 0 call ≡ read key visit
    is' : answer_after 0 call' ≡ read key' visit
    equal : H → key ≡ key'
    same_call : Same call call'
    same : Same more more'
    ready : AllReady more
    inferred : Inferred call call' → Inferred more more' → Inferred (call ++ more) (call' ++ more')

  ended : (call call' more more' front front' : List Effect) (cpu cpu' : CpuVisit) → call ≡ front → call' ≡ front' →
      Ends front cpu → Ends front' cpu' → SameCpu book book' who cpu cpu' → Same front front' → Same more more' →
      AllReady more → (Inferred front front' → Inferred more more' → Inferred (front ++ more) (front' ++ more')) →
      SameRead call call' more more'
  ended call call' more more' front front' cpu cpu' p q ends ends' same fronts mores ready inferred = record {
    key = cpu.serves;
    key' = cpu'.serves;
    visit = visit_of cpu;
    is = answers call front cpu p ends;
    is' = (let at : visit_of cpu' ≡ visit_of cpu =
        λ i. Some (record { cpu = sym same.cpu i; place = sym same.place i }) in
        answers call' front' cpu' q ends' ∙ ap (λ v. read cpu'.serves v) at);
    equal = λ h. ap (λ (v : CpuVisit). v.serves) (same.equal h);
    same_call = same_at book book' who (sym p) (sym q) fronts;
    same = mores;
    ready = ready;
    inferred = λ t u. inferred_at book book' who (ap (λ ds. ds ++ more) p) (ap (λ ds. ds ++ more') q)
        (inferred (inferred_at book book' who (sym p) (sym q) t) u);
  }

  read_alike : (call call' more more' : List Effect) → PlainKey call ⊎ RefilledKey call →
      PlainKey call' ⊎ RefilledKey call' →
      Same (call ++ more) (call' ++ more') → AllReady (call ++ more) → SameRead call call' more more'
  read_alike call call' more more' (inl k) (inl k') same ready =
      let s = same_at book book' who (ap (λ ds. ds ++ more) k.is) (ap (λ ds. ds ++ more') k'.is) same in
      let r = ready_at (ap (λ ds. ds ++ more) k.is) ready in
      ended call call' more more' _ _ k.cpu k'.cpu k.is k'.is (record { calm = refl; serves = refl; at = refl })
      (record { calm = refl; serves = refl; at = refl }) s.1.1.0 (s.0, (s.1.0, (s.1.1.0, tt))) s.1.1.1 r.1.1
      (λ t u. (tt, (tt, (t.1.1.0, u))))
  read_alike call call' more more' (inl k) (inr k') same ready =
      let s = same_at book book' who (ap (λ ds. ds ++ more) k.is) (ap (λ ds. ds ++ more') k'.is) same in absurd s.1.1.0
  read_alike call call' more more' (inr k) (inl k') same ready =
      let s = same_at book book' who (ap (λ ds. ds ++ more) k.is) (ap (λ ds. ds ++ more') k'.is) same in absurd s.1.1.0
  read_alike call call' more more' (inr k) (inr k') same ready =
      let s = same_at book book' who (ap (λ ds. ds ++ more) k.is) (ap (λ ds. ds ++ more') k'.is) same in
      let r = ready_at (ap (λ ds. ds ++ more) k.is) ready in
      ended call call' more more' _ _ k.cpu k'.cpu k.is k'.is (record { calm = refl; serves = refl; at = refl })
      (record { calm = refl; serves = refl; at = refl }) s.1.1.1.0 (s.0, (s.1.0, (s.1.1.0, (s.1.1.1.0, tt)))) s.1.1.1.1
      r.1.1 (λ t u. (tt, (tt, (t.1.1.0, (t.1.1.1.0, u)))))

  -- what is left of a vread in the two books: the host's steps and the effects. V holds for the points that are left
  pub record Here (V : List PointReached → Type 0) (steps steps' : List HostStep) (ds ds' : List Effect) : Type 0 where
    pub shows : Shows set steps ds
    pub shows' : Shows set steps' ds'
    pub same : Same ds ds'
    pub ready : AllReady ds
    pub points : V (points_of steps)
    pub points' : V (points_of steps')

  -- a later moment of the vread, at which the host's steps `steps` and `steps'` are left in the two books
  pub record Further (V : List PointReached → Type 0) (steps steps' : List HostStep) (ds ds' : List Effect) : Type 0 where
    pub effects : List Effect
    pub effects' : List Effect
    pub here : Here V steps steps' effects effects'
    pub inferred : Inferred effects effects' → Inferred ds ds'

  pub here_at : (V : List PointReached → Type 0) (steps steps' xs xs' : List HostStep) (ds ds' : List Effect) →
      steps ≡ xs →
      steps' ≡ xs' → Here V steps steps' ds ds' → Here V xs xs' ds ds'
  here_at V steps steps' xs xs' ds ds' p q here =
      let P : List HostStep → Type 0 = λ x. Here V x steps' ds ds' in
      let Q : List HostStep → Type 0 = λ y. Here V xs y ds ds' in subst Q q (subst P p here)

  -- a look publishes the same generation in both books
  pub at_look : (V : List PointReached → Type 0) (g g' : ℕ) (steps steps' : List HostStep) (ds ds' : List Effect) →
      Here V (publishes g ∷ steps) (publishes g' ∷ steps') ds ds' → (g ≡ g') × Further V steps steps' ds ds'
  at_look V g g' steps steps' ds ds' here =
      let s = same_at book book' who here.shows.2 here.shows'.2 here.same in
      let r = ready_at here.shows.2 here.ready in (
        here.shows.3.0 ∙ ap published_by s.0 ∙ sym here.shows'.3.0,
        record {
          effects = here.shows.1;
          effects' = here.shows'.1;
          here = record {
            shows = here.shows.3.1;
            shows' = here.shows'.3.1;
            same = s.1;
            ready = r.1;
            points = here.points;
            points' = here.points';
          };
          inferred = λ t. inferred_at book book' who here.shows.2 here.shows'.2 (tt, t);
        },
      )

  -- a system call for a new key reads the key from the same visit in both books
  pub record Keys (V : List PointReached → Type 0) (answer answer' : SystemAnswer) (steps steps' : List HostStep)
      (ds ds' : List Effect) : Type 0 where
    pub key : List ℕ
    pub key' : List ℕ
    pub visit : Option CpuPlace
    pub is : answer ≡ read key visit
    pub is' : answer' ≡ read key' visit
    pub equal : H → key ≡ key'
    pub further : Further V steps steps' ds ds'

  pub at_key : (V : List PointReached → Type 0) (answer answer' : SystemAnswer) (steps steps' : List HostStep)
      (ds ds' : List Effect) →
      Here V (system_call 32 0 answer ∷ steps) (system_call 32 0 answer' ∷ steps') ds ds' →
      Keys V answer answer' steps steps' ds ds'
  at_key V answer answer' steps steps' ds ds' here =
      let c = here.shows in let c' = here.shows' in
      let same = same_at book book' who c.effects_are c'.effects_are here.same in
      let ready = ready_at c.effects_are here.ready in
      let ready' = same_ready (c.call ++ c.rest) (c'.call ++ c'.rest) same ready in
      let r = read_alike c.call c'.call c.rest c'.rest (key_read set c.call c.rest c.form ready)
      (key_read set c'.call c'.rest c'.form ready') same ready in
      record {
        key = r.key;
        key' = r.key';
        visit = r.visit;
        is = c.answers ∙ r.is;
        is' = c'.answers ∙ r.is';
        equal = r.equal;
        further = record {
          effects = c.rest;
          effects' = c'.rest;
          here = record {
            shows = c.goes_on;
            shows' = c'.goes_on;
            same = r.same;
            ready = r.ready;
            points = here.points;
            points' = here.points';
          };
          inferred = λ t. inferred_at book book' who c.effects_are c'.effects_are
              (r.inferred (inferred_system book book' who set 32 0 c.call c'.call c.form c'.form r.same_call) t);
        };
      }
