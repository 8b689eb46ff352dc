-- vgetrandom calls with the same steps in two books have the same points, entries and endings. Only bytes of keys may
-- differ.
use Rattle.std.proofs.Common.{◌≡◌, ℕ, zero, suc, ◌≤◌, Bool, true, false, List, [], ◌∷◌, ◌++◌, refl, sym, subst, ap, ◌∙◌}
use Rattle.std.proofs.Common.{arith, append-nil}
use Rattle.std.specs.Prelude.{◌==◌}
use Rattle.std.specs.List.{AllByRecursion}
use Rattle.key_names.specs.declared.names.Who.{Who}
use Rattle.key_names.specs.declared.point.Point.{Point}
use Rattle.key_names.specs.declared.point.Point.TheVariants.{Start, Written, Serve as ServePoint, End}
use Rattle.key_names.specs.Lanes.Book.{Book, lists_of}
use Rattle.key_names.specs.Callers.Calls.{Setting, BoundAct}
use Rattle.key_names.specs.Callers.Effects.{Effect}
use Rattle.key_names.specs.Kernel.Flags.{is_bad}
use Rattle.key_names.specs.Callers.Forms.{SysForm}
use Rattle.key_names.specs.Kernel.VgetrandomState.{VgetrandomState}
use Rattle.key_names.specs.Kernel.Vgetrandom.{SystemAnswer, HostStep, publishes, system_call, AttemptEnd, holds, outdated}
use Rattle.key_names.specs.Kernel.Vgetrandom.{not_keyed, Attempt, IsAttempt, no_bytes, by_batch, by_system, Outcome, BySystem}
use Rattle.key_names.specs.Kernel.Vgetrandom.{ByBatch, ByNothing, AfterAttempt, AttemptAndRest, AfterBoth, state_after_call}
use Rattle.key_names.specs.Kernel.Vgetrandom.{SecondAttempt, FirstAttempt, FromPublished, FromLook, IsCall}
use Rattle.key_names.specs.Kernel.Points.{number_of}
use Rattle.key_names.specs.Callers.VreadSteps.{published_by, answer_after, Shows, PointReached, points_of}
use Rattle.key_names.specs.Callers.VreadSteps.{before_start, from_start, is_wiped, WipesConform, looks_of, NeverFall}
use Rattle.key_names.proofs.Unique.TwoBooks.{SameSteps, AllInferred, same_at, inferred_at, inferred_nothing, same_effects}
use Rattle.key_names.proofs.Unique.UniqueForms.{inferred_system}
use Rattle.key_names.proofs.Unique.UniqueStates.{SameState, SameOutcome, same_marked, outcomes_at, outcome_same_after}
use Rattle.key_names.proofs.Unique.UniqueAttempts.{match_both, AllReady, Here, here_at}
use Rattle.key_names.proofs.Unique.UniqueTries.{reached, attempt_alike}

-- if the looks never fall, and the first look found the core ready, then all looks found it ready
pub all_ready : (g : ℕ) (gs : List ℕ) → 1 ≤ g → NeverFall (g ∷ gs) → AllByRecursion (λ g. 1 ≤ g) gs
all_ready g [] some fall = tt
all_ready g (next ∷ gs) some fall =
    let le : g ≤ next = fall.0 in let more : 1 ≤ next = omega arith in (more, all_ready next gs more fall.1)

module _ (book book' : Book) (who : Who) (set : Setting) where
  abbrev H : Type 0
  H = lists_of book ≡ lists_of book'

  -- two calls, one in each book: their outcomes are alike (`SameOutcome`), their points are equal, and AllInferred
  -- holds for their effects
  pub record CallAlike (steps steps' : List HostStep) (ds ds' : List Effect) (o o' : Outcome) : Type 0 where
    pub inferred : AllInferred book book' who ds ds'
    pub outcome : SameOutcome H o o'
    pub points : points_of steps ≡ points_of steps'

  abbrev GoAlike : (List PointReached → Type 0) → (List HostStep → Outcome → Type 0) → (List HostStep → Outcome →
      Type 0) →
      Type 0
  GoAlike V F F' = (steps steps' : List HostStep) (o o' : Outcome) (ds ds' : List Effect) → F steps o → F' steps' o' →
      Here book book' who set V steps steps' ds ds' → CallAlike steps steps' ds ds' o o'

  shows_at : (steps xs : List HostStep) (ds : List Effect) → steps ≡ xs → Shows set steps ds → Shows set xs ds
  shows_at steps xs ds p shows = let P : List HostStep → Type 0 = λ x. Shows set x ds in subst P p shows

  -- the effects `ds` that are left are the effects of one system call, which gives this answer
  record Left (n flags : ℕ) (answer : SystemAnswer) (ds : List Effect) : Type 0 where
    form : SysForm set n flags ds
    answers : answer ≡ answer_after flags ds

  left_call : (n flags : ℕ) (answer : SystemAnswer) (ds : List Effect) → Shows set (system_call n flags answer ∷ []) ds →
      Left n flags answer ds
  left_call n flags answer ds shows =
      let p : shows.call ≡ ds = sym (append-nil shows.call) ∙ ap (λ x. shows.call ++ x) (sym shows.goes_on)
      ∙ sym shows.effects_are in
      let P : List Effect → Type 0 = λ x. SysForm set n flags x in
      record { form = subst P p shows.form; answers = shows.answers ∙ ap (λ x. answer_after flags x) p }

  system_alike : (n flags : ℕ) (s s' : VgetrandomState) → SameState H s s' →
      (steps steps' : List HostStep) (o o' : Outcome) (ds ds' : List Effect) →
      BySystem n flags s steps o → BySystem n flags s' steps' o' → Shows set steps ds → Shows set steps' ds' →
      SameSteps book book' who ds ds' → CallAlike steps steps' ds ds' o o'
  system_alike n flags s s' same steps steps' o o' ds ds' by by' shows shows' following =
      let l = left_call n flags by.answer ds (shows_at steps _ ds by.steps_are shows) in
      let l' = left_call n flags by'.answer ds' (shows_at steps' _ ds' by'.steps_are shows') in
      record {
        inferred = inferred_system book book' who set n flags ds ds' l.form l'.form following;
        outcome = outcomes_at H o o' _ _ by.outcome_is by'.outcome_is (record {
          entries = refl;
          state = same;
          equal = λ h i. record {
            ending =
                by_system ((l.answers ∙ ap (answer_after flags) (same_effects book book' who ds ds' following h)
                ∙ sym l'.answers) i);
            state = same.equal h i;
            entries = [];
          };
        });
        points = ap points_of by.steps_are ∙ sym (ap points_of by'.steps_are);
      }

  batch_alike : (V : List PointReached → Type 0) (out out' : List ℕ) → (H → out ≡ out') → (s s' : VgetrandomState) →
      SameState H s s' → GoAlike V (ByBatch out s) (ByBatch out' s')
  batch_alike V out out' outs s s' same steps steps' o o' ds ds' by by' here = record {
    inferred = inferred_nothing book book' who ds ds' (shows_at steps [] ds by.steps_are here.shows)
        (shows_at steps' [] ds' by'.steps_are here.shows') here.same;
    outcome = outcomes_at H o o' _ _ by.outcome_is by'.outcome_is (record {
      entries = refl;
      state = same_marked H false s s' same;
      equal = λ h i. record { ending = by_batch (outs h i); state = state_after_call (same.equal h i); entries = [] };
    });
    points = ap points_of by.steps_are ∙ sym (ap points_of by'.steps_are);
  }

  -- let the states before an attempt be alike. If what follows an outdated attempt is alike in both books, then so are
  -- the attempt and the rest of its call together
  tried_alike : (W V : List PointReached → Type 0) (wipes : Point → Bool) →
      ((wiped : Bool) (points : List PointReached) → W (reached Start wiped ∷ points) →
      (wiped ≡ wipes Start) × V points) →
      ((point : Point) → (number_of point == 1) ≡ false → (wiped : Bool) (points : List PointReached) →
      V (reached point wiped ∷ points) → (wiped ≡ wipes point) × V points) →
      (n flags c : ℕ) (Outdated : ℕ → VgetrandomState → List HostStep → Outcome → Type 0) →
      ((c : ℕ) (r r' : VgetrandomState) → SameState H r r' → GoAlike V (Outdated c r) (Outdated c r')) →
      (s s' : VgetrandomState) → SameState H s s' →
      GoAlike W (AttemptAndRest n flags Outdated (IsAttempt n c s)) (AttemptAndRest n flags Outdated (IsAttempt n c s'))
  tried_alike W V wipes starts goes_on n flags c Outdated on s s' same steps steps' o o' ds ds' t t' here =
      let r = attempt_alike book book' who set W V wipes starts goes_on t.rest t'.rest n c s s' same t.tried t'.tried
      t.attempt t'.attempt ds ds' t.tries t'.tries
      (here_at book book' who set W _ _ _ _ ds ds' t.steps_are t'.steps_are here) in
      let E : AttemptEnd → Type 0 = λ e. AfterAttempt n flags Outdated e t'.attempt t'.rest t'.outcome_after in
      let N : ℕ → Type 0 = λ x. Outdated x t'.attempt.state t'.rest t'.outcome_after in
      let rest = go t.attempt.end r.further.effects r.further.effects' t.goes_on (subst E (sym r.attempt.end) t'.goes_on)
      r.further.here r.attempt.state (λ h. ap (λ (a : Attempt). a.out) (r.attempt.equal h))
      (λ by. subst N (sym r.attempt.next_block) by) in
      record {
        inferred = r.further.inferred rest.inferred;
        outcome = outcomes_at H o o' _ _ t.outcome_is t'.outcome_is
            (outcome_same_after H t.attempt.entries t'.attempt.entries r.attempt.entries t.outcome_after
            t'.outcome_after
            rest.outcome);
        points = ap points_of t.steps_are ∙ r.points rest.points ∙ sym (ap points_of t'.steps_are);
      }
    where
      go : (end : AttemptEnd) (more more' : List Effect) →
          AfterAttempt n flags Outdated end t.attempt t.rest t.outcome_after →
          AfterAttempt n flags Outdated end t'.attempt t'.rest t'.outcome_after →
          Here book book' who set V t.rest t'.rest more more' → SameState H t.attempt.state t'.attempt.state →
          (H → t.attempt.out ≡ t'.attempt.out) →
          (Outdated t'.attempt.next_block t'.attempt.state t'.rest t'.outcome_after →
          Outdated t.attempt.next_block t'.attempt.state t'.rest t'.outcome_after) →
          CallAlike t.rest t'.rest more more' t.outcome_after t'.outcome_after
      go holds more more' by by' h states outs next =
          batch_alike V t.attempt.out t'.attempt.out outs t.attempt.state t'.attempt.state states t.rest t'.rest
          t.outcome_after t'.outcome_after more more' by by' h
      go outdated more more' by by' h states outs next =
          on t.attempt.next_block t.attempt.state t'.attempt.state states t.rest t'.rest t.outcome_after
          t'.outcome_after
          more more' by (next by') h
      go not_keyed more more' by by' h states outs next =
          system_alike n flags (state_after_call t.attempt.state) (state_after_call t'.attempt.state)
          (same_marked H false t.attempt.state t'.attempt.state states) t.rest t'.rest t.outcome_after t'.outcome_after
          more more' by by' h.shows h.shows' h.same

  module _ (acts : List BoundAct) where
    -- what WipesConform requires, during the first attempt, of the points that are left; below, the same during the
    -- second
    abbrev InFirst : List PointReached → Type 0
    InFirst points = AllByRecursion (λ r. r.wiped ≡ is_wiped acts r.point) (before_start points)
        × AllByRecursion (λ r. r.wiped ≡ false) (from_start points)

    abbrev InSecond : List PointReached → Type 0
    InSecond points = AllByRecursion (λ r. r.wiped ≡ false) points

    first_goes_on : (point : Point) → (number_of point == 1) ≡ false → (wiped : Bool) (points : List PointReached) →
        InFirst (reached point wiped ∷ points) → (wiped ≡ is_wiped acts point) × InFirst points
    first_goes_on Start not wiped points known = cc
    first_goes_on Written not wiped points known = (known.0.0, (known.0.1, known.1))
    first_goes_on ServePoint not wiped points known = (known.0.0, (known.0.1, known.1))
    first_goes_on End not wiped points known = (known.0.0, (known.0.1, known.1))

    second_alike : (n flags c : ℕ) (s s' : VgetrandomState) → SameState H s s' →
        GoAlike InFirst (SecondAttempt n flags c s) (SecondAttempt n flags c s')
    second_alike n flags c =
        tried_alike InFirst InSecond (λ point. false) (λ wiped points known. (known.1.0, known.1.1))
        (λ point not wiped points known. (known.0, known.1)) n flags c (AfterBoth n flags)
        (λ c r r' same steps steps' o o' ds ds' by by' here.
        system_alike n flags (state_after_call r) (state_after_call r')
        (same_marked H false r r' same) steps steps' o o'
        ds ds' by by' here.shows here.shows' here.same)

    first_alike : (n flags : ℕ) (s s' : VgetrandomState) → SameState H s s' →
        GoAlike (WipesConform acts) (FirstAttempt n flags s) (FirstAttempt n flags s')
    first_alike n flags =
        tried_alike (WipesConform acts) InFirst (is_wiped acts)
        (λ wiped points known. (known.first.0, (known.first.1, known.second)))
        first_goes_on n flags 0 (SecondAttempt n flags) (second_alike n flags)

    nothing_alike : (s s' : VgetrandomState) → SameState H s s' →
        (steps steps' : List HostStep) (o o' : Outcome) (ds ds' : List Effect) →
        ByNothing s steps o → ByNothing s' steps' o' → Shows set steps ds → Shows set steps' ds' →
        SameSteps book book' who ds ds' → CallAlike steps steps' ds ds' o o'
    nothing_alike s s' same steps steps' o o' ds ds' by by' shows shows' following = record {
      inferred = inferred_nothing book book' who ds ds' (shows_at steps [] ds by.steps_are shows)
          (shows_at steps' [] ds' by'.steps_are shows') following;
      outcome = outcomes_at H o o' _ _ by.outcome_is by'.outcome_is (record {
        entries = refl;
        state = same;
        equal = λ h i. record { ending = no_bytes; state = same.equal h i; entries = [] };
      });
      points = ap points_of by.steps_are ∙ sym (ap points_of by'.steps_are);
    }

    -- if two calls have the same steps, on states that are alike, then the parts after their first looks are alike
    published_alike : (n flags published : ℕ) (s s' : VgetrandomState) → SameState H s s' →
        (steps steps' : List HostStep) (o o' : Outcome) (ds ds' : List Effect) →
        FromPublished n flags s published steps o → FromPublished n flags s' published steps' o' →
        Shows set steps ds → Shows set steps' ds' → SameSteps book book' who ds ds' →
        ((published == 0) ≡ false → AllReady ds) → WipesConform acts (points_of steps) →
        WipesConform acts (points_of steps') →
        CallAlike steps steps' ds ds' o o'
    published_alike n flags published s s' same steps steps' o o' ds ds' f f' shows shows' following ready wipes wipes' =
        match_both (BySystem n flags s steps o) _ (BySystem n flags s' steps' o') _ (CallAlike steps steps' ds ds' o o')
        (published == 0) (published == 0) refl
        (λ is x y. system_alike n flags s s' same steps steps' o o' ds ds' x y shows shows' following)
        (λ known. match_both (ByNothing s steps o) _ (ByNothing s' steps' o') _ (CallAlike steps steps' ds ds' o o')
        (n == 0) (n == 0) refl
        (λ is x y. nothing_alike s s' same steps steps' o o' ds ds' x y shows shows' following)
        (λ is. match_both (BySystem n flags s steps o) (FirstAttempt n flags (record s { in_use = true }) steps o)
        (BySystem n flags s' steps' o') (FirstAttempt n flags (record s' { in_use = true }) steps' o')
        (CallAlike steps steps' ds ds' o o') s.in_use s'.in_use same.in_use
        (λ is x y. system_alike n flags s s' same steps steps' o o' ds ds' x y shows shows' following)
        (λ is x y. first_alike n flags (record s { in_use = true }) (record s' { in_use = true })
        (same_marked H true s s' same) steps steps' o o' ds ds' x y
        (record {
          shows = shows;
          shows' = shows';
          same = following;
          ready = ready known;
          points = wipes;
          points' = wipes';
        }))))
        f f'

    -- if two calls have the same steps, on states that are alike, then the calls are alike (`CallAlike`)
    pub call_alike : (n flags : ℕ) (s s' : VgetrandomState) → SameState H s s' →
        (steps steps' : List HostStep) (o o' : Outcome) (ds ds' : List Effect) →
        IsCall n flags s steps o → IsCall n flags s' steps' o' → Shows set steps ds → Shows set steps' ds' →
        SameSteps book book' who ds ds' → NeverFall (looks_of ds) →
        WipesConform acts (points_of steps) → WipesConform acts (points_of steps') → CallAlike steps steps' ds ds' o o'
    call_alike n flags s s' same steps steps' o o' ds ds' is is' shows shows' following fall wipes wipes' =
        match_both (BySystem n flags s steps o) (FromLook n flags s steps o) (BySystem n flags s' steps' o')
        (FromLook n flags s' steps' o') (CallAlike steps steps' ds ds' o o') (is_bad flags) (is_bad flags) refl
        (λ bad x y. system_alike n flags s s' same steps steps' o o' ds ds' x y shows shows' following)
        (λ good x y. looked_alike x y (shows_at steps _ ds x.steps_are shows)
        (shows_at steps' _ ds' y.steps_are shows'))
        is is'
      where
        known : (g published : ℕ) (more : List Effect) → published ≡ published_by g → NeverFall (g ∷ looks_of more) →
            (published == 0) ≡ false → AllReady more
        known zero published more p fall not = let no : (published == 0) ≡ true = ap (λ x. x == 0) p in cc
        known (suc g) published more p fall not = all_ready (suc g) (looks_of more) (omega arith) fall

        looked_alike : (x : FromLook n flags s steps o) (y : FromLook n flags s' steps' o') →
            Shows set (publishes x.published ∷ x.rest) ds → Shows set (publishes y.published ∷ y.rest) ds' →
            CallAlike steps steps' ds ds' o o'
        looked_alike x y look look' =
            let b = same_at book book' who look.2 look'.2 following in
            let p : x.published ≡ y.published = look.3.0 ∙ ap published_by b.0 ∙ sym look'.3.0 in
            let P : ℕ → Type 0 = λ g. FromPublished n flags s' g y.rest o' in
            let F : List Effect → Type 0 = λ x. NeverFall (looks_of x) in
            let W : List PointReached → Type 0 = λ x. WipesConform acts x in
            let r = published_alike n flags x.published s s' same x.rest y.rest o o' look.1 look'.1 x.goes_on
            (subst P (sym p) y.goes_on) look.3.1 look'.3.1 b.1
            (known look.0 x.published look.1 look.3.0 (subst F look.2 fall))
            (subst W (ap points_of x.steps_are) wipes) (subst W (ap points_of y.steps_are) wipes') in
            record {
              inferred = inferred_at book book' who look.2 look'.2 (tt, r.inferred);
              outcome = r.outcome;
              points = ap points_of x.steps_are ∙ r.points ∙ sym (ap points_of y.steps_are);
            }
