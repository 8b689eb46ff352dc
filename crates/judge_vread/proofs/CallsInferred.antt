-- If the code can follow steps as a vgetrandom call, the steps are a vgetrandom call of the definitions.
use Rattle.std.proofs.Common.{◌≡◌, ℕ, inl, inr, Bool, true, false, List, [], ◌∷◌, ◌++◌, Some, None, Option, refl, sym, subst, ap, ◌∙◌, append-nil}
use Rattle.std.specs.Prelude.{◌==◌, MatchBool, if◌then◌else◌}
use Rattle.std.specs.List.{AllByRecursion}
use Rattle.std.specs.Option.{option_map}
use Rattle.key_names.specs.declared.entries.Taken.TheVariants.{User}
use Rattle.key_names.specs.Kernel.Flags.{is_bad}
use Rattle.key_names.specs.Callers.Calls.{Setting, BoundAct}
use Rattle.key_names.specs.Callers.Effects.{Effect, looked}
use Rattle.key_names.specs.Transcripts.SeenLine.{bytes_or_none}
use Rattle.key_names.specs.Kernel.VgetrandomState.{VgetrandomState}
use Rattle.key_names.specs.Kernel.Vgetrandom.{HostStep, publishes, system_call, AttemptEnd, holds, outdated, Attempt, Outcome, prefix_outcome, by_system, by_batch, no_bytes}
use Rattle.key_names.specs.Kernel.Vgetrandom.{BySystem, ByBatch, ByNothing, state_after_call, AfterAttempt, AttemptAndRest, SecondAttempt, FirstAttempt, FromPublished, FromLook, IsCall, IsAttempt}
use Rattle.key_names.specs.Callers.VreadSteps.{PointReached, points_of, published_by, Shows, answer_after, WipesConform, is_reached, ending_answer, ending_shown}
use Rattle.judge_lines.specs.LaneFacts.{LaneFacts}
use Rattle.judge_lines.specs.declared.inferred.Sign.{Sign}
use Rattle.judge_lines.proofs.RowReads.{last_row}
use Rattle.key_names.proofs.Vgetrandom.Attempts.{match_false}
use Rattle.judge_vread.specs.declared.seen.SeenStep.{SeenStep}
use Rattle.judge_vread.specs.declared.seen.SeenStep.TheVariants.{Unready, Ready}
use Rattle.judge_vread.specs.declared.inside.Inside.{Inside}
use Rattle.judge_vread.specs.declared.inside.Reached.{Reached}
use Rattle.judge_vread.specs.declared.inside.Reached.TheVariants.{Nothing}
use Rattle.judge_vread.specs.declared.system_call.SystemCallResult.{SystemCallResult}
use Rattle.judge_vread.specs.Recipe.{Recipe, bytes_made, no_recipe}
use Rattle.judge_vread.specs.Seen.{LookFits}
use Rattle.judge_vread.specs.Inside.{inside_of, includes, reached_by}
use Rattle.judge_vread.specs.Called.{called}
use Rattle.judge_vread.specs.Path as path
use Rattle.judge_vread.specs.Path.{After, Followed, attempted, leaving, at_end, tried_again, tried_once, from_ready, from_look, by_vgetrandom}
use Rattle.judge_vread.proofs.SeenShapes.{Shape, effects_in}
use Rattle.judge_vread.proofs.CalledSays.{called_says}
use Rattle.judge_vread.proofs.AttemptShapes.{published_some}
use Rattle.judge_vread.proofs.AttemptsInferred.{Fill, Found, attempt_found, row_of_called}
use Rattle.judge_vread.proofs.CallPoints.{attempt_points, EndPoints, Unwiped, none_conform, wipes_conform, none_reached, which_reached}

module _ (cf : LaneFacts) (set : Setting) (n flags : ℕ) (first : Sign) where
  abbrev F : Sign → Sign → List Effect → Type 0
  F = Fill cf set n first

  abbrev ds : (seen : List SeenStep) → Shape set.cpu seen → List Effect
  ds seen sh = effects_in set.cpu seen sh

  -- the host of a call gives it generations and system calls. Some steps of this host lead to the result of `f`, and
  -- `effects` show these steps
  pub record CallInferred (Leads : List HostStep → Outcome → Type 0) (Points : List PointReached → Type 0) (r : Reached)
      (effects : List Effect) (f : Followed) : Type 0 where
    pub steps : List HostStep
    pub outcome : Outcome
    pub leads : Leads steps outcome
    pub shows : Shows set steps effects
    pub answer : f.path.answer ≡ ending_answer outcome.ending
    pub shown : bytes_or_none (bytes_made f.path.served) ≡ ending_shown outcome.ending
    pub state : outcome.state ≡ f.state
    pub points : Points (points_of steps)
    pub reached : f.path.reached ≡ r

  abbrev None_ : List PointReached → Type 0
  None_ ps = ps ≡ []

  call_at : {Leads : List HostStep → Outcome → Type 0} {Points : List PointReached → Type 0} {r : Reached}
      {effects : List Effect} {f f' : Followed} → Some f ≡ Some f' → CallInferred Leads Points r effects f →
      CallInferred Leads Points r effects f'
  call_at {Leads = Leads} {Points = Points} {r = r} {effects = effects} {f = f} {f' = f'} e inferred =
      let is : f ≡ f' = cc in let P : Followed → Type 0 = λ x. CallInferred Leads Points r effects x in subst P is inferred

  -- if the code follows steps as a vgetrandom call that a system call answers, they are such a call; `s` and `t` are
  -- equal states of the definitions and of the code
  system_inferred : (r : Reached) (s t : VgetrandomState) → s ≡ t → (seen : List SeenStep) (sh : Shape set.cpu seen)
      (f : Followed) (x y : Sign) → F x y (ds seen sh) → leaving t (path.by_system n flags r seen) ≡ Some f →
      CallInferred (BySystem n flags s) None_ r (ds seen sh) f
  system_inferred r s t same seen sh f x y fill e = go (called n flags seen) refl e
    where
      go : (o : Option SystemCallResult) → called n flags seen ≡ o →
          leaving t (option_map (λ c. record { answer = c.answer; served = c.served; reached = r }) o) ≡ Some f →
          CallInferred (BySystem n flags s) None_ r (ds seen sh) f
      go None is e = absurd cc
      go (Some c) is e =
          let says = called_says cf set (User 32) n flags first x y seen sh c fill is in
          let answer = answer_after flags (ds seen sh) in
          call_at e (record {
            steps = system_call n flags answer ∷ [];
            outcome = record { ending = by_system answer; state = s; entries = [] };
            leads = record { answer = answer; steps_are = refl; outcome_is = refl };
            shows = record {
              call = ds seen sh;
              rest = [];
              effects_are = sym (append-nil (ds seen sh));
              form = last_row cf set n flags first (ds seen sh) x y fill (row_of_called set n flags seen sh c is);
              answers = refl;
              goes_on = refl;
            };
            answer = says.line;
            shown = says.shown;
            state = same;
            points = refl;
            reached = refl;
          })

  batch_inferred : (r : Reached) (a : Attempt) (recipe : Recipe) (t : VgetrandomState) → a.out ≡ bytes_made recipe →
      a.state ≡ t → (seen : List SeenStep) (sh : Shape set.cpu seen) (f : Followed) →
      leaving (state_after_call t) (at_end recipe r seen) ≡ Some f →
      CallInferred (ByBatch a.out a.state) None_ r (ds seen sh) f
  batch_inferred r a recipe t out same [] sh f e = call_at e (record {
    steps = [];
    outcome = record { ending = by_batch a.out; state = state_after_call a.state; entries = [] };
    leads = record { steps_are = refl; outcome_is = refl };
    shows = refl;
    answer = refl;
    shown = ap bytes_or_none (sym out);
    state = ap state_after_call same;
    points = refl;
    reached = refl;
  })
  batch_inferred r a recipe t out same (z ∷ seen) sh f e = absurd cc

  -- the steps `seen` begin with an attempt, whose result is `b`, and the rest of the vgetrandom call comes after it
  module _ (inside : Inside) (c : ℕ) (s : VgetrandomState) (seen : List SeenStep) (sh : Shape set.cpu seen) (b : After)
      (found : Found cf set n first inside c s (ds seen sh) b) where
    ended : (t : Bool) → b.tried.holds ≡ t → found.attempt.end ≡ (if t then holds else outdated)
    ended t is = found.matches.end ∙ ap (λ x. if x then holds else outdated) is

    after_attempt : {Outdated : ℕ → VgetrandomState → List HostStep → Outcome → Type 0}
        {Points Q : List PointReached → Type 0} {r : Reached} {f : Followed} (end : AttemptEnd) →
        found.attempt.end ≡ end →
        ((ps ps' : List PointReached) → ps' ≡ attempt_points b.tried.keyed inside.start inside.written inside.serve
        inside.end ps → Points ps → Q ps') →
        CallInferred (AfterAttempt n flags Outdated end found.attempt) Points r (ds b.rest found.shape) f →
        CallInferred (AttemptAndRest n flags Outdated (IsAttempt n c s)) Q r (ds seen sh) f
    after_attempt {Outdated = Outdated} end is points k = record {
      steps = found.steps ++ k.steps;
      outcome = prefix_outcome found.attempt.entries k.outcome;
      leads = record {
        tried = found.steps;
        rest = k.steps;
        attempt = found.attempt;
        outcome_after = k.outcome;
        steps_are = refl;
        tries = found.tries;
        goes_on = (let P : AttemptEnd → Type 0 = λ x. AfterAttempt n flags Outdated x found.attempt k.steps k.outcome in
            subst P (sym is) k.leads);
        outcome_is = refl;
      };
      shows = found.shows k.steps k.shows;
      answer = k.answer;
      shown = k.shown;
      state = k.state;
      points = points (points_of k.steps) (points_of (found.steps ++ k.steps)) (found.points k.steps) k.points;
      reached = k.reached;
    }

  second_inferred : (r : Reached) (c : ℕ) (s t : VgetrandomState) → s ≡ t → (seen : List SeenStep) (sh : Shape set.cpu seen)
      (f : Followed) (x y : Sign) → F x y (ds seen sh) → AllByRecursion LookFits seen →
      tried_again n flags r (attempted (inside_of []) n c t seen) ≡ Some f →
      CallInferred (SecondAttempt n flags c s) Unwiped r (ds seen sh) f
  second_inferred r c s t same seen sh f x y fill fits e =
      let P : VgetrandomState → Type 0 = λ z. CallInferred (SecondAttempt n flags c z) Unwiped r (ds seen sh) f in
      subst P (sym same) (go (attempted (inside_of []) n c t seen) refl e)
    where
      go : (o : Option After) → attempted (inside_of []) n c t seen ≡ o → tried_again n flags r o ≡ Some f →
          CallInferred (SecondAttempt n flags c t) Unwiped r (ds seen sh) f
      go None is e = absurd cc
      go (Some b) is e = ends b.tried.holds refl e
        where
          found : Found cf set n first (inside_of []) c t (ds seen sh) b
          found = attempt_found cf set n first (inside_of []) c t seen sh b x y fill fits is

          ends : (h : Bool) → b.tried.holds ≡ h → leaving (state_after_call b.state)
              (if h then at_end b.tried.served r b.rest else path.by_system n flags r b.rest) ≡ Some f →
              CallInferred (SecondAttempt n flags c t) Unwiped r (ds seen sh) f
          ends true h e =
              after_attempt (inside_of []) c t seen sh b found holds
              (ended (inside_of []) c t seen sh b found true h)
              (λ ps ps' is none. inr (b.tried.keyed, is ∙ ap (attempt_points b.tried.keyed false false false false) none))
              (batch_inferred r found.attempt b.tried.served b.state found.matches.out found.matches.state b.rest found.shape
              f e)
          ends false h e =
              after_attempt (inside_of []) c t seen sh b found outdated
              (ended (inside_of []) c t seen sh b found false h)
              (λ ps ps' is none. inr (b.tried.keyed, is ∙ ap (attempt_points b.tried.keyed false false false false) none))
              (system_inferred r (state_after_call found.attempt.state) (state_after_call b.state)
              (ap state_after_call found.matches.state) b.rest found.shape f found.x found.y found.fills e)

  -- `all` has the points of the first attempt, wiped as in `inside`. If there is a second attempt, its points follow,
  -- without wipes
  abbrev First : Inside → Bool → List PointReached → Type 0
  First inside keyed all = (ps : List PointReached)
      × (all ≡ attempt_points keyed inside.start inside.written inside.serve inside.end ps) × Unwiped ps

  record FirstInferred (inside : Inside) (s : VgetrandomState) (effects : List Effect) (f : Followed) : Type 0 where
    keyed : Bool
    inferred : CallInferred (FirstAttempt n flags s) (First inside keyed) (reached_by keyed) effects f

  first_inferred : (inside : Inside) (s : VgetrandomState) (seen : List SeenStep) (sh : Shape set.cpu seen)
      (f : Followed) (x y : Sign) → F x y (ds seen sh) → AllByRecursion LookFits seen →
      tried_once n flags (attempted inside n 0 s seen) ≡ Some f → FirstInferred inside s (ds seen sh) f
  first_inferred inside s seen sh f x y fill fits e = go (attempted inside n 0 s seen) refl e
    where
      go : (o : Option After) → attempted inside n 0 s seen ≡ o → tried_once n flags o ≡ Some f →
          FirstInferred inside s (ds seen sh) f
      go None is e = absurd cc
      go (Some b) is e = record { keyed = b.tried.keyed; inferred = ends b.tried.holds refl e }
        where
          found : Found cf set n first inside 0 s (ds seen sh) b
          found = attempt_found cf set n first inside 0 s seen sh b x y fill fits is

          r : Reached
          r = reached_by b.tried.keyed

          ends : (h : Bool) → b.tried.holds ≡ h →
              (if h then leaving (state_after_call b.state) (at_end b.tried.served r b.rest)
              else tried_again n flags r (attempted (inside_of []) n b.tried.next_block b.state b.rest)) ≡ Some f →
              CallInferred (FirstAttempt n flags s) (First inside b.tried.keyed) r (ds seen sh) f
          ends true h e =
              after_attempt inside 0 s seen sh b found holds (ended inside 0 s seen sh b found true h)
              (λ ps ps' is none. (ps, is, inl none))
              (batch_inferred r found.attempt b.tried.served b.state found.matches.out found.matches.state b.rest found.shape
              f e)
          ends false h e =
              let P : ℕ → Type 0 = λ c. CallInferred (SecondAttempt n flags c found.attempt.state) Unwiped r
              (ds b.rest found.shape) f in
              after_attempt inside 0 s seen sh b found outdated (ended inside 0 s seen sh b found false h)
              (λ ps ps' is conform. (ps, is, conform))
              (subst P (sym found.matches.next_block)
              (second_inferred r b.tried.next_block found.attempt.state b.state found.matches.state b.rest found.shape f
              found.x found.y found.fills found.fits e))

  -- ---- a whole vgetrandom call

  pub record Call (acts : List BoundAct) (Leads : List HostStep → Outcome → Type 0) (effects : List Effect)
      (f : Followed) : Type 0 where
    pub steps : List HostStep
    pub outcome : Outcome
    pub leads : Leads steps outcome
    pub shows : Shows set steps effects
    pub answer : f.path.answer ≡ ending_answer outcome.ending
    pub shown : bytes_or_none (bytes_made f.path.served) ≡ ending_shown outcome.ending
    pub state : outcome.state ≡ f.state
    pub wipes : WipesConform acts (points_of steps)
    pub which : (act : BoundAct) → is_reached (points_of steps) act ≡ includes f.path.reached act.point

  no_points : (acts : List BoundAct) (Leads : List HostStep → Outcome → Type 0) (effects : List Effect) (f : Followed) →
      CallInferred Leads None_ Nothing effects f → Call acts Leads effects f
  no_points acts Leads effects f k = record {
    steps = k.steps;
    outcome = k.outcome;
    leads = k.leads;
    shows = k.shows;
    answer = k.answer;
    shown = k.shown;
    state = k.state;
    wipes = none_conform acts (points_of k.steps) k.points;
    which = λ act. none_reached (points_of k.steps) k.points act ∙ ap (λ r. includes r act.point) (sym k.reached);
  }

  end_points : (ps : List PointReached) → Unwiped ps → EndPoints ps
  end_points ps (inl none) = inl none
  end_points ps (inr (keyed, is)) =
      inr (record { keyed = keyed; w1 = false; w2 = false; w3 = false; w4 = false; is = is })

  tried_points : (acts : List BoundAct) (s : VgetrandomState) (effects : List Effect) (f : Followed) →
      FirstInferred (inside_of acts) s effects f → Call acts (FirstAttempt n flags s) effects f
  tried_points acts s effects f k = let t = k.inferred in record {
    steps = t.steps;
    outcome = t.outcome;
    leads = t.leads;
    shows = t.shows;
    answer = t.answer;
    shown = t.shown;
    state = t.state;
    wipes = wipes_conform acts k.keyed (points_of t.steps) t.points.0 t.points.1 t.points.2;
    which = λ act. which_reached k.keyed _ _ _ _ (points_of t.steps) t.points.0 t.points.1
        (end_points t.points.0 t.points.2) act ∙ ap (λ r. includes r act.point) (sym t.reached);
  }

  nothing_inferred : (s : VgetrandomState) (seen : List SeenStep) (sh : Shape set.cpu seen) (f : Followed) →
      leaving s (at_end no_recipe Nothing seen) ≡ Some f → CallInferred (ByNothing s) None_ Nothing (ds seen sh) f
  nothing_inferred s [] sh f e = call_at e (record {
    steps = [];
    outcome = record { ending = no_bytes; state = s; entries = [] };
    leads = record { steps_are = refl; outcome_is = refl };
    shows = refl;
    answer = refl;
    shown = refl;
    state = refl;
    points = refl;
    reached = refl;
  })
  nothing_inferred s (z ∷ seen) sh f e = absurd cc

  module _ (acts : List BoundAct) (s : VgetrandomState) where
    abbrev Ready_ : List HostStep → Outcome → Type 0
    Ready_ steps outcome = MatchBool (n == 0) (ByNothing s steps outcome)
        (MatchBool s.in_use (BySystem n flags s steps outcome)
        (FirstAttempt n flags (record s { in_use = true }) steps outcome))

    -- let the relation `L` between host steps and outcome imply `M`. If `f` is a call by `L`, it is a call by `M`
    turned : {L M : List HostStep → Outcome → Type 0} {effects : List Effect} {f : Followed} →
        ((steps : List HostStep) (outcome : Outcome) → L steps outcome → M steps outcome) → Call acts L effects f →
        Call acts M effects f
    turned turn k = record {
      steps = k.steps;
      outcome = k.outcome;
      leads = turn k.steps k.outcome k.leads;
      shows = k.shows;
      answer = k.answer;
      shown = k.shown;
      state = k.state;
      wipes = k.wipes;
      which = k.which;
    }

    ready_inferred : (seen : List SeenStep) (sh : Shape set.cpu seen) (f : Followed) (x y : Sign) → F x y (ds seen sh) →
        AllByRecursion LookFits seen → from_ready n flags (inside_of acts) s seen ≡ Some f →
        Call acts Ready_ (ds seen sh) f
    ready_inferred seen sh f x y fill fits e = go (n == 0) s.in_use e
      where
        go : (z u : Bool) → (if z then leaving s (at_end no_recipe Nothing seen)
            else (if u then leaving s (path.by_system n flags Nothing seen)
            else tried_once n flags (attempted (inside_of acts) n 0 (record s { in_use = true }) seen))) ≡ Some f →
            Call acts (λ steps outcome. MatchBool z (ByNothing s steps outcome)
            (MatchBool u (BySystem n flags s steps outcome)
            (FirstAttempt n flags (record s { in_use = true }) steps outcome))) (ds seen sh) f
        go true u e = turned (λ steps outcome h. h) (no_points acts (ByNothing s) (ds seen sh) f (nothing_inferred s seen sh f e))
        go false true e =
            turned (λ steps outcome h. h) (no_points acts (BySystem n flags s) (ds seen sh) f
            (system_inferred Nothing s s refl seen sh f x y fill e))
        go false false e =
            turned (λ steps outcome h. h) (tried_points acts (record s { in_use = true }) (ds seen sh) f
            (first_inferred (inside_of acts) (record s { in_use = true }) seen sh f x y fill fits e))

    after_look : (g : ℕ) (effects : List Effect) (f : Followed) → Call acts (FromPublished n flags s (published_by g)) effects f →
        Call acts (FromLook n flags s) (looked g ∷ effects) f
    after_look g effects f k = record {
      steps = publishes (published_by g) ∷ k.steps;
      outcome = k.outcome;
      leads = record { published = published_by g; rest = k.steps; steps_are = refl; goes_on = k.leads };
      shows = (g, effects, refl, (refl, k.shows));
      answer = k.answer;
      shown = k.shown;
      state = k.state;
      wipes = k.wipes;
      which = k.which;
    }

    look_inferred : (seen : List SeenStep) (sh : Shape set.cpu seen) (f : Followed) (x y : Sign) → F x y (ds seen sh) →
        AllByRecursion LookFits seen → from_look n flags (inside_of acts) s seen ≡ Some f →
        Call acts (FromLook n flags s) (ds seen sh) f
    look_inferred (Unready ∷ seen) sh f x y fill fits e =
        after_look 0 (ds seen sh.1) f (turned (λ steps outcome h. h) (no_points acts (BySystem n flags s) (ds seen sh.1) f
        (system_inferred Nothing s s refl seen sh.1 f y _ fill.1 e)))
    look_inferred (Ready g ∷ seen) sh f x y fill fits e =
        after_look g (ds seen sh.1) f (turned (λ steps outcome h. match_false (BySystem n flags s steps outcome)
        (Ready_ steps outcome) (published_by g == 0) (published_some g sh.0) h)
        (ready_inferred seen sh.1 f y _ fill.1 fits.1 e))
    look_inferred _ sh f x y fill fits e = absurd cc

    pub vgetrandom_inferred : (seen : List SeenStep) (sh : Shape set.cpu seen) (f : Followed) (x y : Sign) → F x y (ds seen sh) →
        AllByRecursion LookFits seen → by_vgetrandom n flags (inside_of acts) s seen ≡ Some f →
        Call acts (IsCall n flags s) (ds seen sh) f
    vgetrandom_inferred seen sh f x y fill fits e = go (is_bad flags) e
      where
        go : (z : Bool) → (if z then leaving s (path.by_system n flags Nothing seen)
            else from_look n flags (inside_of acts) s seen) ≡ Some f →
            Call acts (λ steps outcome. MatchBool z (BySystem n flags s steps outcome) (FromLook n flags s steps outcome))
            (ds seen sh) f
        go true e =
            turned (λ steps outcome h. h) (no_points acts (BySystem n flags s) (ds seen sh) f
            (system_inferred Nothing s s refl seen sh f x y fill e))
        go false e = turned (λ steps outcome h. h) (look_inferred seen sh f x y fill fits e)
