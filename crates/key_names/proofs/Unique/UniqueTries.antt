-- If a vread has the same steps in two books, its attempts in both are alike (`Alike`), from each of their points on.
use Rattle.std.proofs.Common.{◌≡◌, ℕ, Bool, false, List, [], ◌∷◌, ◌++◌, refl, sym, subst, ap, ◌∙◌, Option}
use Rattle.std.specs.Prelude.{◌==◌, if◌then◌else◌}
use Rattle.key_names.specs.declared.names.Who.{Who}
use Rattle.key_names.specs.declared.point.Point.{Point}
use Rattle.key_names.specs.declared.point.Point.TheVariants.{Start, Written, Serve as ServePoint, End}
use Rattle.key_names.specs.Lanes.Book.{Book, lists_of}
use Rattle.key_names.specs.Callers.Calls.{Setting}
use Rattle.key_names.specs.Callers.Effects.{Effect}
use Rattle.key_names.specs.Kernel.VgetrandomState.{VgetrandomState, state_left}
use Rattle.key_names.specs.Kernel.BatchCopy.{copy_bytes, state_after_copy, block_after_copy, copy_entries}
use Rattle.key_names.specs.Kernel.Vgetrandom.{CpuPlace, SystemAnswer, HostStep, holds, outdated, Attempt, wipe_entry}
use Rattle.key_names.specs.Kernel.Vgetrandom.{rekey_entry, AtPoint, FromEnd, FromServe, Keyed, AfterKeyRead, FromWritten}
use Rattle.key_names.specs.Kernel.Vgetrandom.{FromStart, IsAttempt}
use Rattle.key_names.specs.Kernel.Points.{number_of}
use Rattle.key_names.specs.Callers.VreadSteps.{PointReached, points_of}
use Rattle.key_names.proofs.Unique.UniqueStates.{SameState, SameAttempt, same_left, same_generation, same_keyed, same_entries}
use Rattle.key_names.proofs.Unique.UniqueStates.{same_block, same_copy, same_after, attempts_at}
use Rattle.key_names.proofs.Unique.UniqueAttempts.{match_both, Here, Further, here_at, at_look, at_key}

abbrev pub reached : Point → Bool → PointReached
reached point wiped = record { point = point; wiped = wiped }

-- W holds for an attempt's points from Start on, and V for the points after Start. W and V both determine where the
-- host wiped. `more` has the host's steps after the attempt
module _ (book book' : Book) (who : Who) (set : Setting) (W V : List PointReached → Type 0) (wipes : Point → Bool)
    (starts : (wiped : Bool) (points : List PointReached) → W (reached Start wiped ∷ points) →
    (wiped ≡ wipes Start) × V points)
    (goes_on : (point : Point) → (number_of point == 1) ≡ false → (wiped : Bool) (points : List PointReached) →
    V (reached point wiped ∷ points) → (wiped ≡ wipes point) × V points)
    (more more' : List HostStep) where
  abbrev H : Type 0
  H = lists_of book ≡ lists_of book'

  pub record Alike (steps steps' : List HostStep) (ds ds' : List Effect) (a a' : Attempt) : Type 0 where
    pub further : Further book book' who set V more more' ds ds'
    pub attempt : SameAttempt H a a'
    pub points : points_of more ≡ points_of more' → points_of (steps ++ more) ≡ points_of (steps' ++ more')

  -- if F and F' hold for two attempts with the same steps, and U holds for the points that are left, then the attempts
  -- are alike
  abbrev pub GoAlike : (List PointReached → Type 0) → (List HostStep → Attempt → Type 0) →
      (List HostStep → Attempt → Type 0) → Type 0
  GoAlike U F F' = (steps steps' : List HostStep) (a a' : Attempt) (ds ds' : List Effect) → F steps a → F' steps' a' →
      Here book book' who set U (steps ++ more) (steps' ++ more') ds ds' → Alike steps steps' ds ds' a a'

  point_alike : (U : List PointReached → Type 0) (point : Point) →
      ((wiped : Bool) (points : List PointReached) → U (reached point wiped ∷ points) →
      (wiped ≡ wipes point) × V points) →
      (G G' : VgetrandomState → List HostStep → Attempt → Type 0) (s s' : VgetrandomState) → SameState H s s' →
      ((r r' : VgetrandomState) → SameState H r r' → GoAlike V (G r) (G' r')) →
      GoAlike U (AtPoint point G s) (AtPoint point G' s')
  point_alike U point split G G' s s' same on steps steps' a a' ds ds' at at' here =
      let h = here_at book book' who set U _ _ _ _ ds ds' (ap (λ x. x ++ more) at.steps_are)
      (ap (λ x. x ++ more') at'.steps_are) here in
      let p = split at.wiped (points_of (at.rest ++ more)) h.points in
      let p' = split at'.wiped (points_of (at'.rest ++ more')) h.points' in
      let w : at.wiped ≡ at'.wiped = p.0 ∙ sym p'.0 in
      let S : Bool → Type 0 = λ x. SameState H (state_left at.wiped s) (state_left x s') in
      let r = on (state_left at.wiped s) (state_left at'.wiped s') (subst S w (same_left H at.wiped s s' same))
      at.rest at'.rest at.attempt_after at'.attempt_after ds ds' at.goes_on at'.goes_on
      (record { shows = h.shows; shows' = h.shows'; same = h.same; ready = h.ready; points = p.1; points' = p'.1 }) in
      record {
        further = r.further;
        attempt = attempts_at H a a' _ _ at.attempt_is at'.attempt_is
            (same_after H (wipe_entry at.wiped) (wipe_entry at'.wiped)
            (ap wipe_entry w) at.attempt_after at'.attempt_after
            r.attempt);
        points = λ q. ap (λ x. points_of (x ++ more)) at.steps_are
            ∙ ap (λ x. reached point x ∷ points_of (at.rest ++ more)) w
            ∙ ap (λ xs. reached point at'.wiped ∷ xs) (r.points q)
            ∙ sym (ap (λ x. points_of (x ++ more')) at'.steps_are);
      }

  end_alike : (out out' : List ℕ) → (H → out ≡ out') → (c c' : ℕ) → c ≡ c' → (s s' : VgetrandomState) →
      SameState H s s' → GoAlike V (FromEnd out c s) (FromEnd out' c' s')
  end_alike out out' outs c c' blocks s s' same steps steps' a a' ds ds' e e' here =
      let h = here_at book book' who set V _ _ _ _ ds ds' (ap (λ x. x ++ more) e.steps_are)
      (ap (λ x. x ++ more') e'.steps_are) here in
      let look = at_look book book' who set V e.published e'.published more more' ds ds' h in
      let ends : (if s.generation == e.published then holds else outdated)
      ≡ (if s'.generation == e'.published then holds else outdated) =
      ap (λ g. if g == e.published then holds else outdated) same.generation
      ∙ ap (λ g. if s'.generation == g then holds else outdated) look.0 in
      record {
        further = look.1;
        attempt = attempts_at H a a' _ _ e.attempt_is e'.attempt_is (record {
          end = ends;
          next_block = blocks;
          entries = refl;
          state = same;
          equal = λ x i. record {
            out = outs x i;
            state = same.equal x i;
            next_block = blocks i;
            entries = [];
            end = ends i;
          };
        });
        points = λ q. ap (λ x. points_of (x ++ more)) e.steps_are ∙ q
            ∙ sym (ap (λ x. points_of (x ++ more')) e'.steps_are);
      }

  serve_alike : (n c : ℕ) (s s' : VgetrandomState) → SameState H s s' → GoAlike V (FromServe n c s) (FromServe n c s')
  serve_alike n c s s' same steps steps' a a' ds ds' f f' here =
      let r = point_alike V End (goes_on End refl) (FromEnd (copy_bytes s c n) (block_after_copy s c n))
      (FromEnd (copy_bytes s' c n) (block_after_copy s' c n)) (state_after_copy s c n) (state_after_copy s' c n)
      (same_copy H c n s s' same)
      (end_alike (copy_bytes s c n) (copy_bytes s' c n) (λ h. ap (λ x. copy_bytes x c n) (same.equal h))
      (block_after_copy s c n) (block_after_copy s' c n) (same_block H c n s s' same))
      steps steps' f.attempt_after f'.attempt_after ds ds' f.goes_on f'.goes_on here in
      record {
        further = r.further;
        attempt = attempts_at H a a' _ _ f.attempt_is f'.attempt_is
            (same_after H (copy_entries s c n) (copy_entries s' c n) (same_entries H c n s s' same)
            f.attempt_after f'.attempt_after r.attempt);
        points = r.points;
      }

  serve_point_alike : (n c : ℕ) (s s' : VgetrandomState) → SameState H s s' →
      GoAlike V (AtPoint ServePoint (FromServe n c) s) (AtPoint ServePoint (FromServe n c) s')
  serve_point_alike n c s s' same =
      point_alike V ServePoint (goes_on ServePoint refl) (FromServe n c) (FromServe n c) s s' same (serve_alike n c)

  keyed_alike : (n c : ℕ) (key key' : List ℕ) (visit : Option CpuPlace) → (H → key ≡ key') → (s s' : VgetrandomState) →
      SameState H s s' → GoAlike V (Keyed n c key visit s) (Keyed n c key' visit s')
  keyed_alike n c key key' visit keys s s' same steps steps' a a' ds ds' k k' here =
      let r = serve_point_alike n c (record s { key = key; pos = 96 }) (record s' { key = key'; pos = 96 })
      (same_keyed H key key' keys s s' same) steps steps' k.attempt_after k'.attempt_after ds ds' k.goes_on k'.goes_on
      here in
      record {
        further = r.further;
        attempt = attempts_at H a a' _ _ k.attempt_is k'.attempt_is
            (same_after H (rekey_entry visit) (rekey_entry visit) refl k.attempt_after k'.attempt_after r.attempt);
        points = r.points;
      }

  written_alike : (n c : ℕ) (s s' : VgetrandomState) → SameState H s s' →
      GoAlike V (FromWritten n c s) (FromWritten n c s')
  written_alike n c s s' same steps steps' a a' ds ds' w w' here =
      let h = here_at book book' who set V _ _ _ _ ds ds' (ap (λ x. x ++ more) w.steps_are)
      (ap (λ x. x ++ more') w'.steps_are) here in
      let k = at_key book book' who set V w.answer w'.answer (w.rest ++ more) (w'.rest ++ more') ds ds' h in
      let A : SystemAnswer → Type 0 = λ x. AfterKeyRead n c x s w.rest a in
      let B : SystemAnswer → Type 0 = λ x. AfterKeyRead n c x s' w'.rest a' in
      let r = keyed_alike n c k.key k.key' k.visit k.equal s s' same w.rest w'.rest a a' k.further.effects
      k.further.effects'
      (subst A k.is w.goes_on) (subst B k.is' w'.goes_on) k.further.here in
      record {
        further = record {
          effects = r.further.effects;
          effects' = r.further.effects';
          here = r.further.here;
          inferred = λ t. k.further.inferred (r.further.inferred t);
        };
        attempt = r.attempt;
        points = λ q. ap (λ x. points_of (x ++ more)) w.steps_are ∙ r.points q
            ∙ sym (ap (λ x. points_of (x ++ more')) w'.steps_are);
      }

  start_alike : (n c published : ℕ) (s s' : VgetrandomState) → SameState H s s' →
      GoAlike V (FromStart n c published s) (FromStart n c published s')
  start_alike n c published s s' same steps steps' a a' ds ds' f f' here =
      match_both (AtPoint ServePoint (FromServe n c) s steps a)
      (AtPoint Written (FromWritten n c) (record s { generation = published }) steps a)
      (AtPoint ServePoint (FromServe n c) s' steps' a')
      (AtPoint Written (FromWritten n c) (record s' { generation = published }) steps' a')
      (Alike steps steps' ds ds' a a') (s.generation == published) (s'.generation == published)
      (ap (λ g. g == published) same.generation)
      (λ is x y. serve_point_alike n c s s' same steps steps' a a' ds ds' x y here)
      (λ is x y. point_alike V Written (goes_on Written refl) (FromWritten n c) (FromWritten n c)
      (record s { generation = published }) (record s' { generation = published })
      (same_generation H published s s' same)
      (written_alike n c) steps steps' a a' ds ds' x y here)
      f f'

  -- if two attempts have the same steps, on states that are alike, then the attempts are alike
  pub attempt_alike : (n c : ℕ) (s s' : VgetrandomState) → SameState H s s' →
      GoAlike W (IsAttempt n c s) (IsAttempt n c s')
  attempt_alike n c s s' same steps steps' a a' ds ds' is is' here =
      let h = here_at book book' who set W _ _ _ _ ds ds' (ap (λ x. x ++ more) is.steps_are)
      (ap (λ x. x ++ more') is'.steps_are) here in
      let look = at_look book book' who set W is.published is'.published (is.rest ++ more)
      (is'.rest ++ more') ds ds' h in
      let A : ℕ → Type 0 = λ g. AtPoint Start (FromStart n c g) s' is'.rest a' in
      let r = point_alike W Start starts (FromStart n c is.published) (FromStart n c is.published) s s' same
      (start_alike n c is.published) is.rest is'.rest a a' look.1.effects look.1.effects' is.goes_on
      (subst A (sym look.0) is'.goes_on) look.1.here in
      record {
        further = record {
          effects = r.further.effects;
          effects' = r.further.effects';
          here = r.further.here;
          inferred = λ t. look.1.inferred (r.further.inferred t);
        };
        attempt = r.attempt;
        points = λ q. ap (λ x. points_of (x ++ more)) is.steps_are ∙ r.points q
            ∙ sym (ap (λ x. points_of (x ++ more')) is'.steps_are);
      }
