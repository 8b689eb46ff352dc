-- If steps are a vgetrandom call of the definitions, the code can follow them as this call, with the same result.
use Rattle.std.proofs.Common.{◌≡◌, ℕ, ◌≤◌, inl, inr, Bool, true, false, List, [], ◌∷◌, ◌++◌, Some, Option, refl, sym, subst, ap, ◌∙◌, append-nil}
use Rattle.std.specs.Prelude.{◌==◌, MatchBool, if◌then◌else◌}
use Rattle.std.specs.Option.{option_map}
use Rattle.key_names.specs.declared.events.Answer.TheVariants.{Ok as Done}
use Rattle.key_names.specs.declared.point.Point.TheVariants.{Written}
use Rattle.key_names.specs.Kernel.Flags.{is_bad}
use Rattle.key_names.specs.Callers.Calls.{Setting, BoundAct}
use Rattle.key_names.specs.Callers.Effects.{Effect, looked}
use Rattle.key_names.specs.Callers.Forms.{SysForm}
use Rattle.key_names.specs.Transcripts.SeenLine.{bytes_or_none}
use Rattle.key_names.specs.Kernel.VgetrandomState.{VgetrandomState}
use Rattle.key_names.specs.Kernel.Vgetrandom.{HostStep, publishes, AttemptEnd, holds, outdated, Attempt, Outcome, Ending, by_system, by_batch}
use Rattle.key_names.specs.Kernel.Vgetrandom.{BySystem, ByBatch, ByNothing, state_after_call, AfterAttempt, AfterBoth, SecondAttempt, FirstAttempt, FromPublished, FromLook, IsCall}
use Rattle.key_names.specs.Callers.VreadSteps.{PointReached, points_of, published_by, Shows, answer_after, WipesConform, is_wiped, is_reached, ending_answer, ending_shown}
use Rattle.judge_lines.specs.declared.kind.Kind.{Kind}
use Rattle.judge_lines.specs.Rows.{IsSystemCall}
use Rattle.key_names.specs.declared.entries.Taken.TheVariants.{User}
use Rattle.judge_lines.specs.LaneFacts.{LaneFacts, AllFit}
use Rattle.judge_lines.specs.Inferred.{AllFill, FillsPart}
use Rattle.judge_lines.specs.declared.inferred.Sign.TheVariants.{Nowhere as nowhere}
use Rattle.judge_lines.proofs.InferredReads.{last_inferred}
use Rattle.judge_lines.proofs.FormRows.{system_form}
use Rattle.judge_vread.specs.declared.seen.SeenStep.{SeenStep}
use Rattle.judge_vread.specs.declared.seen.SeenStep.TheVariants.{Unready, Ready}
use Rattle.judge_vread.specs.declared.inside.Inside.{Inside}
use Rattle.judge_vread.specs.declared.inside.Reached.{Reached}
use Rattle.judge_vread.specs.declared.inside.Reached.TheVariants.{Nothing}
use Rattle.judge_vread.specs.declared.system_call.SystemCallResult.{SystemCallResult}
use Rattle.judge_vread.specs.Recipe.{bytes_made, no_recipe}
use Rattle.judge_vread.specs.Seen.{AllSeen}
use Rattle.judge_vread.specs.Inside.{inside_of, includes, reached_by}
use Rattle.judge_vread.specs.Called.{called}
use Rattle.judge_vread.specs.Path as path
use Rattle.judge_vread.specs.Path.{After, Followed, attempted, leaving, at_end, tried_again, tried_once, from_ready, from_look, by_vgetrandom}
use Rattle.judge_vread.proofs.SeenShapes.{shaped, kinds_seen, seen_nothing, see_at}
use Rattle.judge_vread.proofs.CalledRows.{row_called}
use Rattle.judge_vread.proofs.CalledSays.{Says, called_says}
use Rattle.judge_vread.proofs.AttemptShapes.{published_some, Known, wiping, Matches, InferredAs, AttemptShape, attempt_shape}
use Rattle.judge_vread.proofs.CallPoints.{attempt_points, EndPoints, Second, none_reached, which_reached, AsInferred, first_as_inferred, NotWiped, second_not_wiped}

pub fit_after : (c : LaneFacts) (front rest : List Effect) → AllFit c (front ++ rest) → AllFit c rest
fit_after c [] rest fit = fit
fit_after c (d ∷ front) rest fit = fit_after c front rest fit.1

module _ (cf : LaneFacts) (set : Setting) (n flags : ℕ) where
  -- `o` is a result of the code: it has the answer and bytes of `ending`, the state `state`, and the reached points `r`
  pub record Follows (o : Option Followed) (ending : Ending) (state : VgetrandomState) (r : Reached) : Type 0 where
    pub f : Followed
    pub is : o ≡ Some f
    pub answer : f.path.answer ≡ ending_answer ending
    pub shown : bytes_or_none (bytes_made f.path.served) ≡ ending_shown ending
    pub state_is : state ≡ f.state
    pub reached : f.path.reached ≡ r

  follows_at : {o o' : Option Followed} {ending ending' : Ending} {state state' : VgetrandomState} {r : Reached} →
      o' ≡ o → ending' ≡ ending → state' ≡ state → Follows o ending state r → Follows o' ending' state' r
  follows_at p q w k = record {
    f = k.f;
    is = p ∙ k.is;
    answer = k.answer ∙ ap ending_answer (sym q);
    shown = k.shown ∙ ap ending_shown (sym q);
    state_is = w ∙ k.state_is;
    reached = k.reached;
  }

  -- ---- the system call that answers a vgetrandom call

  record SystemSeen (seen : List SeenStep) (effects : List Effect) : Type 0 where
    c : SystemCallResult
    is : called n flags seen ≡ Some c
    says : Says flags effects c

  system_seen : (seen : List SeenStep) (effects : List Effect) → SysForm set n flags effects → AllFit cf effects →
      AllSeen set.cpu seen effects → SystemSeen seen effects
  system_seen seen effects form fit sees =
      let P : List Kind → Type 0 = λ ks. IsSystemCall n flags ks in
      let k = row_called n flags seen (subst P (kinds_seen set.cpu seen effects sees) (system_form cf set n flags effects form fit))
      in
      let s = shaped set.cpu seen effects sees in
      let D : List Effect → Type 0 = λ x. AllFill (FillsPart cf set (User 32) (User n) nowhere) nowhere nowhere x in
      let fill = subst D s.1 (last_inferred cf set n flags nowhere effects nowhere nowhere form fit) in
      let Q : List Effect → Type 0 = λ x. Says flags x k.0 in record {
        c = k.0;
        is = k.1;
        says = subst Q (sym s.1) (called_says cf set (User 32) n flags nowhere nowhere nowhere seen s.0 k.0 fill k.1);
      }

  system_followed : (r : Reached) (s t : VgetrandomState) → s ≡ t → (seen : List SeenStep) (effects : List Effect)
      (steps : List HostStep) (outcome : Outcome) → BySystem n flags s steps outcome → Shows set steps effects →
      AllFit cf effects → AllSeen set.cpu seen effects →
      Follows (leaving t (path.by_system n flags r seen)) outcome.ending outcome.state r
  system_followed r s t same seen effects steps outcome by shows fit sees =
      let P : List HostStep → Type 0 = λ x. Shows set x effects in
      let call = subst P by.steps_are shows in
      let is : call.call ≡ effects =
      sym (call.effects_are ∙ ap (λ x. call.call ++ x) call.goes_on ∙ append-nil call.call) in
      let Q : List Effect → Type 0 = λ x. SysForm set n flags x in
      let k = system_seen seen effects (subst Q is call.form) fit sees in
      let ending : outcome.ending ≡ by_system (answer_after flags effects) =
      ap (λ (o : Outcome). o.ending) by.outcome_is ∙ ap by_system (call.answers ∙ ap (answer_after flags) is) in
      let c = k.c in
      follows_at (ap (λ o. leaving t (option_map (λ (c : SystemCallResult).
      record { answer = c.answer; served = c.served; reached = r }) o)) k.is) ending
      (ap (λ (o : Outcome). o.state) by.outcome_is ∙ same) (record {
        f = record { path = record { answer = c.answer; served = c.served; reached = r }; state = t };
        is = refl;
        answer = k.says.line;
        shown = k.says.shown;
        state_is = refl;
        reached = refl;
      })

  batch_followed : (r : Reached) (a : Attempt) (b : After) → Matches a b → (effects : List Effect) (steps : List HostStep)
      (outcome : Outcome) → ByBatch a.out a.state steps outcome → Shows set steps effects → AllSeen set.cpu b.rest effects →
      Follows (leaving (state_after_call b.state) (at_end b.tried.served r b.rest)) outcome.ending outcome.state r
  batch_followed r a b m effects steps outcome by shows sees =
      let P : List HostStep → Type 0 = λ x. Shows set x effects in
      let none : effects ≡ [] = subst P by.steps_are shows in
      let rest : b.rest ≡ [] = seen_nothing set.cpu b.rest (see_at set.cpu b.rest none sees) in
      follows_at (ap (λ x. leaving (state_after_call b.state) (at_end b.tried.served r x)) rest)
      (ap (λ (o : Outcome). o.ending) by.outcome_is ∙ ap by_batch m.out)
      (ap (λ (o : Outcome). o.state) by.outcome_is ∙ ap state_after_call m.state) (record {
        f = record {
          path = record { answer = Done; served = b.tried.served; reached = r };
          state = state_after_call b.state;
        };
        is = refl;
        answer = refl;
        shown = refl;
        state_is = refl;
        reached = refl;
      })

  after_at : (Outdated : ℕ → VgetrandomState → List HostStep → Outcome → Type 0) (a : Attempt) (steps : List HostStep)
      (outcome : Outcome) {end end' : AttemptEnd} → end ≡ end' → AfterAttempt n flags Outdated end a steps outcome →
      AfterAttempt n flags Outdated end' a steps outcome
  after_at Outdated a steps outcome {end = end} {end' = end'} is after =
      let P : AttemptEnd → Type 0 = λ x. AfterAttempt n flags Outdated x a steps outcome in subst P is after

  -- ---- the second attempt of a vgetrandom call

  -- the code has followed the second attempt as one without wipes; `ps` has the attempt's points
  record SecondFollows (o : Option Followed) (ending : Ending) (state : VgetrandomState) (r : Reached)
      (ps : List PointReached) : Type 0 where
    follows : Follows o ending state r
    points : Second ps

  second_followed : (acts : List BoundAct) (k w1 w2 w3 w4 : Bool) (all : List PointReached) (r : Reached) (c : ℕ)
      (s : VgetrandomState) (seen : List SeenStep) (effects : List Effect) (steps : List HostStep) (outcome : Outcome) →
      SecondAttempt n flags c s steps outcome → Shows set steps effects → AllFit cf effects → AllSeen set.cpu seen effects →
      Known effects → all ≡ attempt_points k w1 w2 w3 w4 (points_of steps) → WipesConform acts all →
      SecondFollows (tried_again n flags r (attempted (inside_of []) n c s seen)) outcome.ending outcome.state r
      (points_of steps)
  second_followed acts k w1 w2 w3 w4 all r c s seen effects steps outcome by shows fit sees known points conform =
      record {
        follows = ends t.b.tried.holds refl;
        points = record {
          keyed = sh.keyed;
          w1 = sh.w1;
          w2 = sh.w2;
          w3 = sh.w3;
          w4 = sh.w4;
          is = second ∙ ap (attempt_points sh.keyed sh.w1 sh.w2 sh.w3 sh.w4) no_more;
        };
      }
    where
      shows' : Shows set (by.tried ++ by.rest) effects
      shows' = let P : List HostStep → Type 0 = λ x. Shows set x effects in subst P by.steps_are shows

      sh : AttemptShape set by.rest n c s by.tried effects seen by.attempt
      sh = attempt_shape set by.rest n c s by.tried effects seen by.attempt by.tries shows' sees known

      second : points_of steps ≡ attempt_points sh.keyed sh.w1 sh.w2 sh.w3 sh.w4 (points_of by.rest)
      second = ap points_of by.steps_are ∙ sh.points

      not_wiped : NotWiped sh.keyed sh.w1 sh.w2 sh.w3 sh.w4
      not_wiped = second_not_wiped acts k w1 w2 w3 w4 sh.keyed sh.w1 sh.w2 sh.w3 sh.w4 all (points_of steps)
          (points_of by.rest) points second conform

      no_inside : wiping false sh.w1 false sh.w3 sh.w4 ≡ inside_of []
      no_inside = λ i. record {
        any = false;
        start = not_wiped.start i;
        written = false;
        serve = not_wiped.serve i;
        end = not_wiped.end i;
      }

      t : InferredAs set by.rest (attempted (inside_of []) n c s seen) by.attempt sh.keyed sh.following
      t =
          let P : Inside → Type 0 = λ x. InferredAs set by.rest (attempted x n c s seen) by.attempt sh.keyed sh.following in
          subst P no_inside (sh.inferred false false not_wiped.written)

      fit' : AllFit cf sh.rest
      fit' =
          let P : List Effect → Type 0 = λ x. AllFit cf x in fit_after cf sh.front sh.rest (subst P sh.effects_are fit)

      sees' : AllSeen set.cpu t.b.rest sh.rest
      sees' = let P : List SeenStep → Type 0 = λ x. AllSeen set.cpu x sh.rest in subst P (sym t.rest) sh.sees

      goes_on : AfterAttempt n flags (AfterBoth n flags) (if t.b.tried.holds then holds else outdated) by.attempt by.rest
          by.outcome_after
      goes_on = after_at (AfterBoth n flags) by.attempt by.rest by.outcome_after t.matches.end by.goes_on

      no_more : points_of by.rest ≡ []
      no_more = go t.b.tried.holds goes_on
        where
          go : (h : Bool) → AfterAttempt n flags (AfterBoth n flags) (if h then holds else outdated) by.attempt by.rest
              by.outcome_after → points_of by.rest ≡ []
          go true g = ap points_of g.steps_are
          go false g = ap points_of g.steps_are

      ends : (h : Bool) → t.b.tried.holds ≡ h →
          Follows (tried_again n flags r (attempted (inside_of []) n c s seen)) outcome.ending outcome.state r
      ends true h =
          follows_at (ap (tried_again n flags r) t.is ∙ ap (λ z. leaving (state_after_call t.b.state)
          (if z then at_end t.b.tried.served r t.b.rest else path.by_system n flags r t.b.rest)) h)
          (ap (λ (o : Outcome). o.ending) by.outcome_is) (ap (λ (o : Outcome). o.state) by.outcome_is)
          (batch_followed r by.attempt t.b t.matches sh.rest by.rest by.outcome_after
          (after_at (AfterBoth n flags) by.attempt by.rest by.outcome_after (ap (λ z. if z then holds else outdated) h) goes_on) sh.shows
          sees')
      ends false h =
          follows_at (ap (tried_again n flags r) t.is ∙ ap (λ z. leaving (state_after_call t.b.state)
          (if z then at_end t.b.tried.served r t.b.rest else path.by_system n flags r t.b.rest)) h)
          (ap (λ (o : Outcome). o.ending) by.outcome_is) (ap (λ (o : Outcome). o.state) by.outcome_is)
          (system_followed r (state_after_call by.attempt.state) (state_after_call t.b.state)
          (ap state_after_call t.matches.state) t.b.rest sh.rest by.rest by.outcome_after
          (after_at (AfterBoth n flags) by.attempt by.rest by.outcome_after (ap (λ z. if z then holds else outdated) h) goes_on) sh.shows fit'
          sees')

  -- ---- the first attempt of a vgetrandom call

  record FirstFollows (o : Option Followed) (ending : Ending) (state : VgetrandomState)
      (all : List PointReached) : Type 0 where
    r : Reached
    follows : Follows o ending state r
    which : (act : BoundAct) → is_reached all act ≡ includes r act.point

  first_followed : (acts : List BoundAct) (s : VgetrandomState) (seen : List SeenStep) (effects : List Effect)
      (steps : List HostStep) (outcome : Outcome) → FirstAttempt n flags s steps outcome → Shows set steps effects →
      AllFit cf effects → AllSeen set.cpu seen effects → Known effects → WipesConform acts (points_of steps) →
      FirstFollows (tried_once n flags (attempted (inside_of acts) n 0 s seen)) outcome.ending outcome.state
      (points_of steps)
  first_followed acts s seen effects steps outcome by shows fit sees known conform = ends t.b.tried.holds refl
    where
      shows' : Shows set (by.tried ++ by.rest) effects
      shows' = let P : List HostStep → Type 0 = λ x. Shows set x effects in subst P by.steps_are shows

      sh : AttemptShape set by.rest n 0 s by.tried effects seen by.attempt
      sh = attempt_shape set by.rest n 0 s by.tried effects seen by.attempt by.tries shows' sees known

      points : points_of steps ≡ attempt_points sh.keyed sh.w1 sh.w2 sh.w3 sh.w4 (points_of by.rest)
      points = ap points_of by.steps_are ∙ sh.points

      inferred : AsInferred acts sh.keyed sh.w1 sh.w2 sh.w3 sh.w4
      inferred = first_as_inferred acts sh.keyed sh.w1 sh.w2 sh.w3 sh.w4 (points_of steps) (points_of by.rest) points conform

      inside_is : wiping (inside_of acts).any sh.w1 (is_wiped acts Written) sh.w3 sh.w4 ≡ inside_of acts
      inside_is = λ i. record {
        any = (inside_of acts).any;
        start = inferred.start i;
        written = is_wiped acts Written;
        serve = inferred.serve i;
        end = inferred.end i;
      }

      t : InferredAs set by.rest (attempted (inside_of acts) n 0 s seen) by.attempt sh.keyed sh.following
      t =
          let P : Inside → Type 0 = λ x. InferredAs set by.rest (attempted x n 0 s seen) by.attempt sh.keyed sh.following in
          subst P inside_is (sh.inferred (inside_of acts).any (is_wiped acts Written) inferred.written)

      fit' : AllFit cf sh.rest
      fit' =
          let P : List Effect → Type 0 = λ x. AllFit cf x in fit_after cf sh.front sh.rest (subst P sh.effects_are fit)

      sees' : AllSeen set.cpu t.b.rest sh.rest
      sees' = let P : List SeenStep → Type 0 = λ x. AllSeen set.cpu x sh.rest in subst P (sym t.rest) sh.sees

      goes_on : AfterAttempt n flags (SecondAttempt n flags) (if t.b.tried.holds then holds else outdated) by.attempt
          by.rest by.outcome_after
      goes_on = after_at (SecondAttempt n flags) by.attempt by.rest by.outcome_after t.matches.end by.goes_on

      which : EndPoints (points_of by.rest) → (act : BoundAct) →
          is_reached (points_of steps) act ≡ includes (reached_by t.b.tried.keyed) act.point
      which end act =
          which_reached sh.keyed sh.w1 sh.w2 sh.w3 sh.w4 (points_of steps) (points_of by.rest) points end act
          ∙ ap (λ k. includes (reached_by k) act.point) (sym t.keyed_is)

      follow_is : (h : Bool) → t.b.tried.holds ≡ h → tried_once n flags (attempted (inside_of acts) n 0 s seen)
          ≡ (if h then leaving (state_after_call t.b.state) (at_end t.b.tried.served (reached_by t.b.tried.keyed) t.b.rest)
          else tried_again n flags (reached_by t.b.tried.keyed)
          (attempted (inside_of []) n t.b.tried.next_block t.b.state t.b.rest))
      follow_is h is = ap (tried_once n flags) t.is ∙ ap (λ z. if z
          then leaving (state_after_call t.b.state) (at_end t.b.tried.served (reached_by t.b.tried.keyed) t.b.rest)
          else tried_again n flags (reached_by t.b.tried.keyed)
          (attempted (inside_of []) n t.b.tried.next_block t.b.state t.b.rest)) is

      ends : (h : Bool) → t.b.tried.holds ≡ h →
          FirstFollows (tried_once n flags (attempted (inside_of acts) n 0 s seen)) outcome.ending outcome.state
          (points_of steps)
      ends true h =
          let after = after_at (SecondAttempt n flags) by.attempt by.rest by.outcome_after (ap (λ z. if z then holds else outdated) h) goes_on in
          record {
            r = reached_by t.b.tried.keyed;
            follows = follows_at (follow_is true h) (ap (λ (o : Outcome). o.ending) by.outcome_is)
                (ap (λ (o : Outcome). o.state) by.outcome_is)
                (batch_followed (reached_by t.b.tried.keyed) by.attempt t.b t.matches sh.rest by.rest by.outcome_after
                after sh.shows sees');
            which = which (inl (ap points_of after.steps_are));
          }
      ends false h =
          let after = after_at (SecondAttempt n flags) by.attempt by.rest by.outcome_after (ap (λ z. if z then holds else outdated) h) goes_on in
          let A : ℕ → Type 0 = λ c. SecondAttempt n flags c by.attempt.state by.rest by.outcome_after in
          let B : VgetrandomState → Type 0 = λ z. SecondAttempt n flags t.b.tried.next_block z by.rest by.outcome_after in
          let second = second_followed acts sh.keyed sh.w1 sh.w2 sh.w3 sh.w4 (points_of steps)
          (reached_by t.b.tried.keyed) t.b.tried.next_block t.b.state t.b.rest sh.rest by.rest by.outcome_after
          (subst B t.matches.state (subst A t.matches.next_block after)) sh.shows fit' sees' sh.known points conform in
          record {
            r = reached_by t.b.tried.keyed;
            follows = follows_at (follow_is false h) (ap (λ (o : Outcome). o.ending) by.outcome_is)
                (ap (λ (o : Outcome). o.state) by.outcome_is) second.follows;
            which = which (inr second.points);
          }

  -- ---- a whole vgetrandom call

  pub record CallFollows (o : Option Followed) (ending : Ending) (state : VgetrandomState)
      (all : List PointReached) : Type 0 where
    pub r : Reached
    pub follows : Follows o ending state r
    pub which : (act : BoundAct) → is_reached all act ≡ includes r act.point

  no_attempt : {o : Option Followed} {ending : Ending} {state : VgetrandomState} (all : List PointReached) → all ≡ [] →
      Follows o ending state Nothing → CallFollows o ending state all
  no_attempt all none k = record { r = Nothing; follows = k; which = none_reached all none }

  system_alone : (s : VgetrandomState) (seen : List SeenStep) (effects : List Effect) (steps : List HostStep)
      (outcome : Outcome) → BySystem n flags s steps outcome → Shows set steps effects → AllFit cf effects →
      AllSeen set.cpu seen effects →
      CallFollows (leaving s (path.by_system n flags Nothing seen)) outcome.ending outcome.state (points_of steps)
  system_alone s seen effects steps outcome by shows fit sees =
      no_attempt (points_of steps) (ap points_of by.steps_are)
      (system_followed Nothing s s refl seen effects steps outcome by shows fit sees)

  ready_followed : (acts : List BoundAct) (s : VgetrandomState) (seen : List SeenStep) (effects : List Effect)
      (steps : List HostStep) (outcome : Outcome) → MatchBool (n == 0) (ByNothing s steps outcome)
      (MatchBool s.in_use (BySystem n flags s steps outcome)
      (FirstAttempt n flags (record s { in_use = true }) steps outcome)) → Shows set steps effects → AllFit cf effects →
      AllSeen set.cpu seen effects → Known effects → WipesConform acts (points_of steps) →
      CallFollows (from_ready n flags (inside_of acts) s seen) outcome.ending outcome.state (points_of steps)
  ready_followed acts s seen effects steps outcome by shows fit sees known conform = go (n == 0) s.in_use by
    where
      go : (z u : Bool) → MatchBool z (ByNothing s steps outcome) (MatchBool u (BySystem n flags s steps outcome)
          (FirstAttempt n flags (record s { in_use = true }) steps outcome)) →
          CallFollows (if z then leaving s (at_end no_recipe Nothing seen)
          else (if u then leaving s (path.by_system n flags Nothing seen)
          else tried_once n flags (attempted (inside_of acts) n 0 (record s { in_use = true }) seen)))
          outcome.ending outcome.state (points_of steps)
      go true u by =
          let P : List HostStep → Type 0 = λ x. Shows set x effects in
          let none : effects ≡ [] = subst P by.steps_are shows in
          let rest : seen ≡ [] = seen_nothing set.cpu seen (see_at set.cpu seen none sees) in
          no_attempt (points_of steps) (ap points_of by.steps_are)
          (follows_at (ap (λ x. leaving s (at_end no_recipe Nothing x)) rest)
          (ap (λ (o : Outcome). o.ending) by.outcome_is) (ap (λ (o : Outcome). o.state) by.outcome_is) (record {
            f = record { path = record { answer = Done; served = no_recipe; reached = Nothing }; state = s };
            is = refl;
            answer = refl;
            shown = refl;
            state_is = refl;
            reached = refl;
          }))
      go false true by = system_alone s seen effects steps outcome by shows fit sees
      go false false by =
          let k = first_followed acts (record s { in_use = true }) seen effects steps outcome by shows fit sees known conform in
          record { r = k.r; follows = k.follows; which = k.which }

  look_followed : (acts : List BoundAct) (s : VgetrandomState) (seen : List SeenStep) (effects : List Effect)
      (steps : List HostStep) (outcome : Outcome) → FromLook n flags s steps outcome → Shows set steps effects →
      AllFit cf effects → AllSeen set.cpu seen effects → WipesConform acts (points_of steps) →
      ((g : ℕ) (rest : List Effect) → effects ≡ looked g ∷ rest → 1 ≤ g → Known rest) →
      CallFollows (from_look n flags (inside_of acts) s seen) outcome.ending outcome.state (points_of steps)
  look_followed acts s seen effects steps outcome by shows fit sees conform known =
      let P : List PointReached → Type 0 = λ x.
      CallFollows (from_look n flags (inside_of acts) s seen) outcome.ending outcome.state x in
      subst P (sym (ap points_of by.steps_are)) (go seen (see_at set.cpu seen y.2 sees))
    where
      y : Shows set (publishes by.published ∷ by.rest) effects
      y = let P : List HostStep → Type 0 = λ x. Shows set x effects in subst P by.steps_are shows

      fits : AllFit cf (looked y.0 ∷ y.1)
      fits = let P : List Effect → Type 0 = λ x. AllFit cf x in subst P y.2 fit

      conforms : WipesConform acts (points_of by.rest)
      conforms =
          let P : List PointReached → Type 0 = λ x. WipesConform acts x in subst P (ap points_of by.steps_are) conform

      go : (seen : List SeenStep) → AllSeen set.cpu seen (looked y.0 ∷ y.1) →
          CallFollows (from_look n flags (inside_of acts) s seen) outcome.ending outcome.state (points_of by.rest)
      go [] h = absurd h
      go (Unready ∷ xs) h =
          let P : ℕ → Type 0 = λ p. FromPublished n flags s p by.rest outcome in
          system_alone s xs y.1 by.rest outcome (subst P (y.3.0 ∙ ap published_by h.0) by.goes_on) y.3.1 fits.1 h.1
      go (Ready g ∷ xs) h =
          let S : ℕ → Type 0 = λ x. 1 ≤ x in
          let some : 1 ≤ y.0 = subst S (sym h.0.0) h.0.1 in
          let P : Bool → Type 0 = λ b. MatchBool b (BySystem n flags s by.rest outcome)
          (MatchBool (n == 0) (ByNothing s by.rest outcome)
          (MatchBool s.in_use (BySystem n flags s by.rest outcome)
          (FirstAttempt n flags (record s { in_use = true }) by.rest outcome))) in
          ready_followed acts s xs y.1 by.rest outcome
          (subst P (ap (λ p. p == 0) y.3.0 ∙ published_some y.0 some) by.goes_on) y.3.1 fits.1 h.1
          (known y.0 y.1 y.2 some) conforms
      go (x ∷ xs) h = absurd h.0

  pub vgetrandom_followed : (acts : List BoundAct) (s : VgetrandomState) (seen : List SeenStep) (effects : List Effect)
      (steps : List HostStep) (outcome : Outcome) → IsCall n flags s steps outcome → Shows set steps effects →
      AllFit cf effects → AllSeen set.cpu seen effects → WipesConform acts (points_of steps) →
      ((g : ℕ) (rest : List Effect) → effects ≡ looked g ∷ rest → 1 ≤ g → Known rest) →
      CallFollows (by_vgetrandom n flags (inside_of acts) s seen) outcome.ending outcome.state (points_of steps)
  vgetrandom_followed acts s seen effects steps outcome by shows fit sees conform known = go (is_bad flags) by
    where
      go : (z : Bool) → MatchBool z (BySystem n flags s steps outcome) (FromLook n flags s steps outcome) →
          CallFollows (if z then leaving s (path.by_system n flags Nothing seen)
          else from_look n flags (inside_of acts) s seen) outcome.ending outcome.state (points_of steps)
      go true by = system_alone s seen effects steps outcome by shows fit sees
      go false by = look_followed acts s seen effects steps outcome by shows fit sees conform known
