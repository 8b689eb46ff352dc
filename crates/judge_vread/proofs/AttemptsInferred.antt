-- If the code can follow steps as an attempt (one try of a vgetrandom call), the steps are an attempt of the
-- definitions.
use Rattle.std.proofs.Common.{◌≡◌, ℕ, ◌<◌, ◌≤◌, ◌^◌, Bool, true, false, List, [], ◌∷◌, ◌++◌, Some, refl, sym, subst, ap, ◌∙◌}
use Rattle.std.specs.Prelude.{◌==◌, if◌then◌else◌}
use Rattle.std.specs.List.{AllByRecursion}
use Rattle.key_names.specs.declared.point.Point.TheVariants.{Start, Serve, End}
use Rattle.key_names.specs.declared.entries.Taken.TheVariants.{User}
use Rattle.key_names.specs.Callers.Calls.{Setting}
use Rattle.key_names.specs.Kernel.Keystream.{keystream}
use Rattle.key_names.specs.Callers.Effects.{Effect, looked}
use Rattle.key_names.specs.Callers.Forms.{SysForm}
use Rattle.key_names.specs.Kernel.VgetrandomState.{VgetrandomState, state_left}
use Rattle.key_names.specs.Kernel.BatchCopy.{state_after_copy}
use Rattle.key_names.specs.Kernel.Vgetrandom.{read, HostStep, Attempt, IsAttempt}
use Rattle.key_names.specs.Callers.VreadSteps.{points_of, Shows, answer_after, answer_with, errno_of, last_place}
use Rattle.key_names.proofs.Vgetrandom.Attempts.{current_attempt, current_steps, keyed_attempt, keyed_steps}
use Rattle.key_names.proofs.Unique.UniqueTries.{reached}
use Rattle.judge_lines.specs.LaneFacts.{LaneFacts}
use Rattle.judge_lines.specs.declared.kind.Kind.{Kind}
use Rattle.judge_lines.specs.Kinds.{kinds_of}
use Rattle.judge_lines.specs.Rows.{IsSystemCall}
use Rattle.judge_lines.specs.Inferred.{AllFill, FillsPart, AllThere}
use Rattle.judge_lines.specs.declared.inferred.Sign.{Sign}
use Rattle.judge_lines.proofs.RowReads.{key_row, the_front}
use Rattle.judge_vread.specs.declared.seen.SeenStep.{SeenStep}
use Rattle.judge_vread.specs.declared.seen.SeenStep.TheVariants.{Ready, Base, Cpu}
use Rattle.judge_vread.specs.declared.inside.Inside.{Inside}
use Rattle.judge_vread.specs.declared.system_call.SystemCallResult.{SystemCallResult}
use Rattle.judge_vread.specs.Recipe.{user_recipe}
use Rattle.judge_vread.specs.Seen.{LookFits}
use Rattle.judge_vread.specs.Called.{serving, called}
use Rattle.judge_vread.specs.Path.{published, After, looked_again, key_in_front, from_serve, with_key, attempted}
use Rattle.judge_vread.proofs.SeenShapes.{Shape, effects_in, kinds_seen, shape_seen}
use Rattle.judge_vread.proofs.CalledRows.{called_row}
use Rattle.judge_vread.proofs.CalledSays.{called_says}
use Rattle.judge_vread.proofs.AttemptShapes.{published_is, with_written, Matches}

-- if the code recognizes steps as a system call, the list of their kinds is a row of a system call
pub row_of_called : (set : Setting) (n flags : ℕ) (seen : List SeenStep) (s : Shape set.cpu seen) (c : SystemCallResult) →
    called n flags seen ≡ Some c → IsSystemCall n flags (kinds_of set.cpu (effects_in set.cpu seen s))
row_of_called set n flags seen s c e =
    let P : List Kind → Type 0 = λ ks. IsSystemCall n flags ks in
    subst P (sym (kinds_seen set.cpu seen (effects_in set.cpu seen s) (shape_seen set.cpu seen s)))
    (called_row n flags seen c e)

module _ (cf : LaneFacts) (set : Setting) (n : ℕ) (first : Sign) where
  abbrev pub Fill : Sign → Sign → List Effect → Type 0
  Fill = AllFill (FillsPart cf set (User 32) (User n) first)

  pub record Found (inside : Inside) (c : ℕ) (s : VgetrandomState) (effects : List Effect) (b : After) : Type 0 where
    pub steps : List HostStep
    pub attempt : Attempt
    pub tries : IsAttempt n c s steps attempt
    pub matches : Matches attempt b
    pub shape : Shape set.cpu b.rest
    pub x : Sign
    pub y : Sign
    pub fills : Fill x y (effects_in set.cpu b.rest shape)
    pub fits : AllByRecursion LookFits b.rest
    pub shows : (more : List HostStep) → Shows set more (effects_in set.cpu b.rest shape) → Shows set (steps ++ more) effects
    pub points : (more : List HostStep) → points_of (steps ++ more)
        ≡ reached Start inside.start ∷ with_written b.tried.keyed inside.written
        (reached Serve inside.serve ∷ reached End inside.end ∷ points_of more)

  found_at : (inside : Inside) (c : ℕ) (s : VgetrandomState) (effects : List Effect) {b b' : After} → Some b ≡ Some b' →
      Found inside c s effects b → Found inside c s effects b'
  found_at inside c s effects {b = b} {b' = b'} e found =
      let is : b ≡ b' = cc in let P : After → Type 0 = λ x. Found inside c s effects x in subst P is found

  -- the steps `call`, which come before a look, are a system call that reads the key `key`
  record KeyCall (call : List Effect) (key : List ℕ) : Type 0 where
    form : SysForm set 32 0 call
    answer : read (keystream key 32 32) (last_place call) ≡ answer_after 0 call

  key_call : (seen : List SeenStep) (s : Shape set.cpu seen) (key : List ℕ) →
      called 32 0 seen ≡ Some (serving (user_recipe key 32)) → AllThere (effects_in set.cpu seen s) → (h : ℕ) (rest : List Effect)
      (a b : Sign) → Fill a b (effects_in set.cpu seen s ++ looked h ∷ rest) → KeyCall (effects_in set.cpu seen s) key
  key_call seen s key e there h rest a b fill =
      let call : List Effect = effects_in set.cpu seen s in
      let says = called_says cf set (User 32) 32 0 first a b seen s (serving (user_recipe key 32))
      (the_front cf set (User 32) (User n) first call h rest a b there fill) e in
      record {
        form = key_row cf set n first call h rest a b there fill
            (row_of_called set 32 0 seen s (serving (user_recipe key 32)) e);
        answer = sym (ap (λ x. answer_with (errno_of x) call) (sym says.answer)
            ∙ ap (λ x. read x (last_place call)) (sym says.bytes));
      }

  module _ (inside : Inside) (c : ℕ) (s : VgetrandomState) (g : ℕ) (some : 1 ≤ g) (small : g < 2 ^ 63) where
    abbrev s1 : VgetrandomState
    s1 = state_left inside.start s

    current : (s1.generation == published g) ≡ true → (seen : List SeenStep) (sh : Shape set.cpu seen) (b : After)
        (x y : Sign) → Fill x y (effects_in set.cpu seen sh) → AllByRecursion LookFits seen →
        from_serve inside n c false s1 seen ≡ Some b → Found inside c s (looked g ∷ effects_in set.cpu seen sh) b
    current t (Ready h ∷ following) sh b x y fill fits e =
        found_at inside c s (looked g ∷ effects_in set.cpu (Ready h ∷ following) sh) e (record {
          steps = current_steps (published g) inside.start inside.serve inside.end (published h);
          attempt = _;
          tries = current_attempt n c (published g) (published h) inside.start inside.serve inside.end s t;
          matches = record { out = refl; state = refl; next_block = refl; end = refl };
          shape = sh.1;
          x = y;
          y = _;
          fills = fill.1;
          fits = fits.1;
          shows = λ more shows. (
            g,
            _,
            refl,
            (
              sym (published_is g some small),
              (h, effects_in set.cpu following sh.1, refl, (sym (published_is h sh.0 fits.0), shows)),
            ),
          );
          points = λ more. refl;
        })
    current t _ sh b x y fill fits e = absurd cc

    -- if the state's generation is not the published one, a look, a system call for a key, and the steps from a second
    -- look on are together an attempt
    keyed : (s1.generation == published g) ≡ false → (call : List Effect) (key : List ℕ) → KeyCall call key → (h : ℕ) →
        1 ≤ h → h < 2 ^ 63 → (following : List SeenStep) (sh : Shape set.cpu following) (x y : Sign) →
        Fill x y (effects_in set.cpu following sh) → AllByRecursion LookFits following →
        Found inside c s (looked g ∷ call ++ looked h ∷ effects_in set.cpu following sh)
        (looked_again n c true
        (state_left inside.serve (record (state_left inside.written (record s1 { generation = published g }))
        { key = keystream key 32 32; pos = 96 }))
        (state_left inside.end (state_after_copy (state_left inside.serve
        (record (state_left inside.written (record s1 { generation = published g }))
        { key = keystream key 32 32; pos = 96 })) c n)) h following)
    keyed t call key k h known low following sh x y fill fits = record {
      steps = keyed_steps (published g) (keystream key 32 32) (last_place call) inside.start inside.written inside.serve
          inside.end (published h);
      attempt = _;
      tries = keyed_attempt n c (published g) (published h) (keystream key 32 32) (last_place call) inside.start
          inside.written inside.serve inside.end s t;
      matches = record { out = refl; state = refl; next_block = refl; end = refl };
      shape = sh;
      x = x;
      y = y;
      fills = fill;
      fits = fits;
      shows = λ more shows. (
        g,
        _,
        refl,
        (
          sym (published_is g some small),
          record {
            call = call;
            rest = looked h ∷ effects_in set.cpu following sh;
            effects_are = refl;
            form = k.form;
            answers = k.answer;
            goes_on = (h, effects_in set.cpu following sh, refl, (sym (published_is h known low), shows));
          },
        ),
      );
      points = λ more. refl;
    }

    rekeyed : (s1.generation == published g) ≡ false → (seen : List SeenStep) (sh : Shape set.cpu seen) (b : After)
        (x y : Sign) → Fill x y (effects_in set.cpu seen sh) → AllByRecursion LookFits seen →
        with_key inside n c (state_left inside.written (record s1 { generation = published g })) (key_in_front seen)
        ≡ Some b → Found inside c s (looked g ∷ effects_in set.cpu seen sh) b
    rekeyed t (Ready v ∷ Ready w ∷ Cpu key ∷ Ready h ∷ following) sh b x y fill fits e =
        let front : List SeenStep = Ready v ∷ Ready w ∷ Cpu key ∷ [] in
        let fs : Shape set.cpu front = (sh.0, (sh.1.0, (sh.1.1.0, tt))) in
        let rest : List Effect = effects_in set.cpu following sh.1.1.1.1 in
        found_at inside c s (looked g ∷ effects_in set.cpu (Ready v ∷ Ready w ∷ Cpu key ∷ Ready h ∷ following) sh) e
        (keyed t (effects_in set.cpu front fs) key (key_call front fs key refl (tt, (tt, (tt, tt))) h rest x y fill) h
        sh.1.1.1.0 fits.1.1.1.0 following sh.1.1.1.1 _ _ fill.1.1.1.1 fits.1.1.1.1)
    rekeyed t (Ready v ∷ Ready w ∷ Base other ∷ Cpu key ∷ Ready h ∷ following) sh b x y fill fits e =
        let front : List SeenStep = Ready v ∷ Ready w ∷ Base other ∷ Cpu key ∷ [] in
        let fs : Shape set.cpu front = (sh.0, (sh.1.0, (sh.1.1.0, (sh.1.1.1.0, tt)))) in
        let rest : List Effect = effects_in set.cpu following sh.1.1.1.1.1 in
        found_at inside c s
        (looked g ∷ effects_in set.cpu (Ready v ∷ Ready w ∷ Base other ∷ Cpu key ∷ Ready h ∷ following) sh) e
        (keyed t (effects_in set.cpu front fs) key (key_call front fs key refl (tt, (tt, (tt, (tt, tt)))) h rest x y fill) h
        sh.1.1.1.1.0 fits.1.1.1.1.0 following sh.1.1.1.1.1 _ _ fill.1.1.1.1.1 fits.1.1.1.1.1)
    rekeyed t _ sh b x y fill fits e = absurd cc

  pub attempt_found : (inside : Inside) (c : ℕ) (s : VgetrandomState) (seen : List SeenStep) (sh : Shape set.cpu seen)
      (b : After) (x y : Sign) → Fill x y (effects_in set.cpu seen sh) → AllByRecursion LookFits seen →
      attempted inside n c s seen ≡ Some b → Found inside c s (effects_in set.cpu seen sh) b
  attempt_found inside c s (Ready g ∷ seen) sh b x y fill fits e =
      go ((state_left inside.start s).generation == published g) refl e
    where
      go : (t : Bool) → ((state_left inside.start s).generation == published g) ≡ t →
          (if t then from_serve inside n c false (state_left inside.start s) seen
          else with_key inside n c (state_left inside.written (record (state_left inside.start s) { generation = published g }))
          (key_in_front seen)) ≡ Some b → Found inside c s (effects_in set.cpu (Ready g ∷ seen) sh) b
      go true t e = current inside c s g sh.0 fits.0 t seen sh.1 b y _ fill.1 fits.1 e
      go false t e = rekeyed inside c s g sh.0 fits.0 t seen sh.1 b y _ fill.1 fits.1 e
  attempt_found inside c s _ sh b x y fill fits e = absurd cc
