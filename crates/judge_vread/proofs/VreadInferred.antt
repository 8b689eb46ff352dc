-- If all entries of a vread fit (its lanes allow them), each visit has the entry that is inferred from the steps around
-- it.
use Rattle.std.proofs.Common.{◌≡◌, ℕ, ◌⊎◌, inl, inr, Bool, true, false, List, [], ◌∷◌, ◌++◌, refl, sym, subst, ap, ◌∙◌, append-nil}
use Rattle.std.specs.Prelude.{◌==◌, ◌&&◌, not, MatchBool}
use Rattle.key_names.specs.declared.entries.Taken.TheVariants.{User}
use Rattle.key_names.specs.declared.point.Point.TheVariants.{Start, Written, Serve}
use Rattle.key_names.specs.Kernel.Flags.{is_bad, is_nonblock, is_insecure}
use Rattle.key_names.specs.Callers.Calls.{Setting}
use Rattle.key_names.specs.Callers.Effects.{Effect, looked}
use Rattle.key_names.specs.Callers.Forms.{SysForm, LookedForm, ReadForm, CpuReadForm, DrawForm, WaitedInVain, Waited, Looked}
use Rattle.key_names.specs.Kernel.VgetrandomState.{VgetrandomState, state_left}
use Rattle.key_names.specs.Kernel.Vgetrandom.{SystemAnswer, read, failed, HostStep, publishes, at_point, AttemptEnd, holds, outdated, not_keyed, Attempt, prefix_attempt, wipe_entry}
use Rattle.key_names.specs.Kernel.Vgetrandom.{Outcome, AtPoint, FromServe, AfterKeyRead, FromWritten, FromStart, IsAttempt, BySystem, ByNothing, AfterAttempt, AttemptAndRest, AfterBoth, SecondAttempt, FirstAttempt, FromPublished, FromLook, IsCall}
use Rattle.key_names.specs.Kernel.BatchCopy.{serves_locally}
use Rattle.key_names.specs.Callers.VreadSteps.{Shows, published_by}
use Rattle.key_names.specs.Callers.Meaning.{current_state, ByLocalCopy, ByVgetrandom, LocalOrCall, tries_local}
use Rattle.judge_lines.specs.LaneFacts.{LaneFacts, AllFit}
use Rattle.judge_lines.specs.Inferred.{AllFill, FillsPart, AllThere, first_sign, sign_of}
use Rattle.judge_lines.specs.declared.inferred.Sign.{Sign}
use Rattle.judge_lines.specs.declared.inferred.Sign.TheVariants.{Nowhere as nowhere}
use Rattle.judge_lines.proofs.InferredReads.{key_inferred, last_inferred}
use Rattle.judge_vread.specs.Laws.{VreadIsInferred}
use Rattle.judge_vread.proofs.AttemptShapes.{copied}
use Rattle.judge_vread.proofs.CallsFollowed.{fit_after}

there_at : {ds xs : List Effect} → ds ≡ xs → AllThere xs → AllThere ds
there_at {ds = ds} {xs = xs} p h = let P : List Effect → Type 0 = λ x. AllThere x in subst P (sym p) h

fit_front : (c : LaneFacts) (front rest : List Effect) → AllFit c (front ++ rest) → AllFit c front
fit_front c [] rest fit = tt
fit_front c (d ∷ front) rest fit = (fit.0, fit_front c front rest fit.1)

-- ---- each step of a system call is a look, or a visit that is in the lists

cpu_there : (set : Setting) (n : ℕ) (ds : List Effect) → CpuReadForm set (User n) ds → AllThere ds
cpu_there set n ds (inl f) = there_at f.effects_are (tt, (tt, tt))
cpu_there set n ds (inr f) = there_at f.effects_are (tt, (tt, (tt, tt)))

read_there : (set : Setting) (n g : ℕ) (ds : List Effect) → ReadForm set (User n) g ds → AllThere ds
read_there set n g ds (inl f) = draw f.1
  where
    draw : DrawForm set (User n) ds → AllThere ds
    draw (inl f) = there_at f.effects_are (tt, (tt, tt))
    draw (inr f) = there_at f.effects_are (tt, tt)
read_there set n g ds (inr f) = cpu_there set n ds f

waited_there : (set : Setting) (n : ℕ) (ds : List Effect) → Waited set n ds → AllThere ds
waited_there set n ds f = there_at f.effects_are (tt, (tt, go (n == 0) f.reads))
  where
    go : (b : Bool) → MatchBool b (f.rest ≡ []) (CpuReadForm set (User n) f.rest) → AllThere f.rest
    go true none = there_at none tt
    go false form = cpu_there set n f.rest form

looked_there : (set : Setting) (n flags g : ℕ) (ds : List Effect) → LookedForm set n flags g ds → AllThere ds
looked_there set n flags g ds form =
    go (g == 0 && not (is_insecure flags)) (is_nonblock flags) (n == 0) form
  where
    go : (a b z : Bool) → MatchBool a (MatchBool b (ds ≡ []) (WaitedInVain ds ⊎ Waited set n ds))
        (MatchBool z (ds ≡ []) (ReadForm set (User n) g ds)) → AllThere ds
    go true true z none = there_at none tt
    go true false z (inl f) = there_at f.effects_are (tt, (tt, tt))
    go true false z (inr f) = waited_there set n ds f
    go false b true none = there_at none tt
    go false b false f = read_there set n g ds f

abbrev After : Setting → ℕ → ℕ → List Effect → Type 0
After set n flags effects = Looked (LookedForm set n flags) effects

system_there : (set : Setting) (n flags : ℕ) (ds : List Effect) → SysForm set n flags ds → AllThere ds
system_there set n flags ds form = go (is_bad flags) form
  where
    go : (b : Bool) → MatchBool b (ds ≡ []) (After set n flags ds) → AllThere ds
    go true none = there_at none tt
    go false (g, r, is, form) = there_at is (tt, looked_there set n flags g r form)

-- ---- a vgetrandom call

module _ (cf : LaneFacts) (set : Setting) (n flags : ℕ) (first : Sign) where
  abbrev Fill : Sign → Sign → List Effect → Type 0
  Fill = AllFill (FillsPart cf set (User 32) (User n) first)

  fill_at : (x y : Sign) {ds xs : List Effect} → ds ≡ xs → Fill x y xs → Fill x y ds
  fill_at x y {ds = ds} {xs = xs} p h = let P : List Effect → Type 0 = λ d. Fill x y d in subst P (sym p) h

  fit_at : {ds xs : List Effect} → ds ≡ xs → AllFit cf ds → AllFit cf xs
  fit_at {ds = ds} {xs = xs} p h = let P : List Effect → Type 0 = λ d. AllFit cf d in subst P p h

  shows_at : {steps xs : List HostStep} (ds : List Effect) → steps ≡ xs → Shows set steps ds → Shows set xs ds
  shows_at {steps = steps} {xs = xs} ds p h = let P : List HostStep → Type 0 = λ x. Shows set x ds in subst P p h

  -- each visit in `ds` has the inferred entry, whatever steps come before `ds`
  abbrev Filled : List Effect → Type 0
  Filled ds = (x y : Sign) → Fill x y ds

  abbrev Starts : List Effect → Type 0
  Starts ds = (h : ℕ) × (rest : List Effect) × (ds ≡ looked h ∷ rest)

  whole : (s : VgetrandomState) (steps : List HostStep) (outcome : Outcome) (ds : List Effect) →
      BySystem n flags s steps outcome → Shows set steps ds → SysForm set n flags ds
  whole s steps outcome ds by shows =
      let call = shows_at ds by.steps_are shows in
      let is : call.call ≡ ds = sym (call.effects_are ∙ ap (λ x. call.call ++ x) call.goes_on ∙ append-nil call.call) in
      let P : List Effect → Type 0 = λ x. SysForm set n flags x in subst P is call.form

  system_filled : (s : VgetrandomState) (steps : List HostStep) (outcome : Outcome) (ds : List Effect) →
      BySystem n flags s steps outcome → Shows set steps ds → AllFit cf ds → Filled ds
  system_filled s steps outcome ds by shows fit x y =
      last_inferred cf set n flags first ds x y (whole s steps outcome ds by shows) fit

  system_starts : is_bad flags ≡ false → (s : VgetrandomState) (steps : List HostStep) (outcome : Outcome)
      (ds : List Effect) → BySystem n flags s steps outcome → Shows set steps ds → Starts ds
  system_starts good s steps outcome ds by shows =
      let P : Bool → Type 0 = λ b. MatchBool b (ds ≡ []) (After set n flags ds) in
      let f = subst P good (whole s steps outcome ds by shows) in (f.0, f.1, f.2)

  -- suppose that after an attempt the host makes the steps `more`, whose visits have the inferred entries
  module _ (more : List HostStep) (after : (rest : List Effect) → Shows set more rest → AllFit cf rest → Filled rest) where
    served : (c : ℕ) (s : VgetrandomState) (steps : List HostStep) (ds : List Effect) (a : Attempt) →
        AtPoint Serve (FromServe n c) s steps a → Shows set (steps ++ more) ds → AllFit cf ds → Starts ds × Filled ds
    served c s steps ds a at shows fit =
        let k = copied set more n c s steps ds a at shows in (
          (k.h, k.rest, k.effects_are),
          λ x y. fill_at x y k.effects_are (tt, after k.rest k.shows (fit_at k.effects_are fit).1 y (sign_of (looked k.h))),
        )

    key_filled : (ds call rest : List Effect) → ds ≡ call ++ rest → SysForm set 32 0 call → AllFit cf ds → Starts rest →
        Filled rest → Filled ds
    key_filled ds call rest is form fit starts filled x y =
        let all = is ∙ ap (λ z. call ++ z) starts.2 in
        fill_at x y all (key_inferred cf set n first call starts.0 starts.1 x y (system_there set 32 0 call form) form
        (fit_front cf call rest (fit_at is fit)) (λ a b. fill_at a b (sym starts.2) (filled a b)))

    written : (c : ℕ) (s : VgetrandomState) (steps : List HostStep) (ds : List Effect) (a : Attempt) →
        FromWritten n c s steps a → Shows set (steps ++ more) ds → AllFit cf ds →
        (a.end ≡ not_keyed → (rest : List Effect) → Shows set more rest → Starts rest) → Filled ds
    written c s steps ds a w shows fit starts =
        let call = shows_at ds (ap (λ x. x ++ more) w.steps_are) shows in
        let fit' = fit_after cf call.call call.rest (fit_at call.effects_are fit) in
        go w.answer w.goes_on call.call call.rest call.effects_are call.form call.goes_on fit'
      where
        go : (answer : SystemAnswer) → AfterKeyRead n c answer s w.rest a → (call rest : List Effect) → ds ≡ call ++ rest →
            SysForm set 32 0 call → Shows set (w.rest ++ more) rest → AllFit cf rest → Filled ds
        go (read key visit) k call rest is form shows fit' =
            let r = served c (record s { key = key; pos = 96 }) w.rest rest k.attempt_after k.goes_on shows fit' in
            key_filled ds call rest is form fit r.0 r.1
        go (failed errno) k call rest is form shows fit' =
            let shows' = shows_at rest (ap (λ x. x ++ more) k.steps_are) shows in
            key_filled ds call rest is form fit (starts (ap (λ (t : Attempt). t.end) k.attempt_is) rest shows')
            (after rest shows' fit')

    attempt_filled : (c : ℕ) (s : VgetrandomState) (steps : List HostStep) (ds : List Effect) (a : Attempt) →
        IsAttempt n c s steps a → Shows set (steps ++ more) ds → AllFit cf ds →
        (a.end ≡ not_keyed → (rest : List Effect) → Shows set more rest → Starts rest) → Filled ds
    attempt_filled c s steps ds a t shows fit starts x y =
        fill_at x y look.2 (tt, go ((state_left st.wiped s).generation == t.published) st.goes_on y (sign_of (looked look.0)))
      where
        st : AtPoint Start (FromStart n c t.published) s t.rest a
        st = t.goes_on

        look : Shows set (publishes t.published ∷ at_point Start st.wiped ∷ st.rest ++ more) ds
        look =
            shows_at ds (ap (λ z. z ++ more) (t.steps_are ∙ ap (λ z. publishes t.published ∷ z) st.steps_are)) shows

        following : AllFit cf look.1
        following = (fit_at look.2 fit).1

        go : (b : Bool) → MatchBool b (AtPoint Serve (FromServe n c) (state_left st.wiped s) st.rest st.attempt_after)
            (AtPoint Written (FromWritten n c) (record (state_left st.wiped s) { generation = t.published }) st.rest
            st.attempt_after) → Filled look.1
        go true k = (served c (state_left st.wiped s) st.rest look.1 st.attempt_after k look.3.1 following).1
        go false k =
            written c (state_left k.wiped (record (state_left st.wiped s) { generation = t.published })) k.rest look.1
            k.attempt_after k.goes_on (shows_at look.1 (ap (λ z. z ++ more) k.steps_are) look.3.1) following
            (λ e. starts (ap (λ (w : Attempt). w.end) (st.attempt_is
            ∙ ap (prefix_attempt (wipe_entry st.wiped)) k.attempt_is) ∙ e))

  -- all visits of an attempt, and of the steps after it, have the inferred entries
  tried_filled : is_bad flags ≡ false → (Outdated : ℕ → VgetrandomState → List HostStep → Outcome → Type 0) →
      ((c : ℕ) (s : VgetrandomState) (steps : List HostStep) (outcome : Outcome) (ds : List Effect) →
      Outdated c s steps outcome → Shows set steps ds → AllFit cf ds → Filled ds) →
      (c : ℕ) (s : VgetrandomState) (steps : List HostStep) (outcome : Outcome) (ds : List Effect) →
      AttemptAndRest n flags Outdated (IsAttempt n c s) steps outcome → Shows set steps ds → AllFit cf ds → Filled ds
  tried_filled good Outdated again c s steps outcome ds by shows fit =
      attempt_filled by.rest (λ rest shows fit. after by.attempt.end by.goes_on rest shows fit) c s by.tried ds by.attempt
      by.tries (shows_at ds by.steps_are shows) fit (λ e rest shows.
      let P : AttemptEnd → Type 0 = λ z. AfterAttempt n flags Outdated z by.attempt by.rest by.outcome_after in
      let k = subst P e by.goes_on in
      system_starts good _ by.rest by.outcome_after rest k shows)
    where
      after : (end : AttemptEnd) → AfterAttempt n flags Outdated end by.attempt by.rest by.outcome_after →
          (rest : List Effect) → Shows set by.rest rest → AllFit cf rest → Filled rest
      after holds k rest shows fit = λ x y. fill_at x y (shows_at rest k.steps_are shows) tt
      after outdated k rest shows fit =
          again by.attempt.next_block by.attempt.state by.rest by.outcome_after rest k shows fit
      after not_keyed k rest shows fit = system_filled _ by.rest by.outcome_after rest k shows fit

  first_filled : is_bad flags ≡ false → (s : VgetrandomState) (steps : List HostStep) (outcome : Outcome)
      (ds : List Effect) → FirstAttempt n flags s steps outcome → Shows set steps ds → AllFit cf ds → Filled ds
  first_filled good s steps outcome ds by shows fit =
      tried_filled good (SecondAttempt n flags) (λ c s steps outcome ds by shows fit.
      tried_filled good (AfterBoth n flags) (λ c s steps outcome ds by shows fit.
      system_filled _ steps outcome ds by shows fit) c s steps outcome ds by shows fit) 0 s steps outcome ds by shows fit

  pub call_filled : (s : VgetrandomState) (steps : List HostStep) (outcome : Outcome) (ds : List Effect) →
      IsCall n flags s steps outcome → Shows set steps ds → AllFit cf ds → Filled ds
  call_filled s steps outcome ds by shows fit = go (is_bad flags) refl by
    where
      published : is_bad flags ≡ false → (p : ℕ) (steps : List HostStep) (ds : List Effect) →
          FromPublished n flags s p steps outcome → Shows set steps ds → AllFit cf ds → Filled ds
      published good p steps ds by shows fit = go (p == 0) (n == 0) s.in_use by
        where
          go : (a z u : Bool) → MatchBool a (BySystem n flags s steps outcome)
              (MatchBool z (ByNothing s steps outcome)
              (MatchBool u (BySystem n flags s steps outcome)
              (FirstAttempt n flags (record s { in_use = true }) steps outcome))) → Filled ds
          go true z u by = system_filled s steps outcome ds by shows fit
          go false true u by = λ x y. fill_at x y (shows_at ds by.steps_are shows) tt
          go false false true by = system_filled s steps outcome ds by shows fit
          go false false false by = first_filled good (record s { in_use = true }) steps outcome ds by shows fit

      go : (b : Bool) → is_bad flags ≡ b → MatchBool b (BySystem n flags s steps outcome)
          (FromLook n flags s steps outcome) → Filled ds
      go true bad by = system_filled s steps outcome ds by shows fit
      go false good by =
          let look = shows_at ds by.steps_are shows in
          λ x y. fill_at x y look.2 (
            tt,
            published good by.published by.rest look.1 by.goes_on look.3.1 (fit_at look.2 fit).1 y
                (sign_of (looked look.0)),
          )

pub vread_inferred : VreadIsInferred
vread_inferred c n flags acts m v fit = go (tries_local n flags acts) v.done_by
  where
    called : ByVgetrandom n flags acts m →
        AllFill (FillsPart c m.before.setting (User 32) (User n) (first_sign m.own.effects)) nowhere nowhere m.own.effects
    called k =
        call_filled c m.before.setting n flags (first_sign m.own.effects) (current_state m.before) k.steps k.outcome
        m.own.effects k.is_call k.shows fit nowhere nowhere

    by_copy : (g : ℕ) (rest : List Effect) → m.own.effects ≡ looked g ∷ rest → (b : Bool) →
        MatchBool b (ByLocalCopy n rest m) (ByVgetrandom n flags acts m) →
        AllFill (FillsPart c m.before.setting (User 32) (User n) (first_sign m.own.effects)) nowhere nowhere m.own.effects
    by_copy g rest is true k =
        let P : List Effect → Type 0 = λ d.
        AllFill (FillsPart c m.before.setting (User 32) (User n) (first_sign m.own.effects)) nowhere nowhere d in
        subst P (sym (is ∙ ap (λ x. looked g ∷ x) k.no_more)) (tt, tt)
    by_copy g rest is false k = called k

    go : (b : Bool) → MatchBool b (Looked (LocalOrCall n flags acts m) m.own.effects) (ByVgetrandom n flags acts m) →
        AllFill (FillsPart c m.before.setting (User 32) (User n) (first_sign m.own.effects)) nowhere nowhere m.own.effects
    go true (g, rest, is, done_by) =
        by_copy g rest is (serves_locally (published_by g) (current_state m.before) n) done_by
    go false k = called k
