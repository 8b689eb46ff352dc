-- The law `VreadLeaves`: whatever meaning a vread has, `vread_left` gives the entries of this meaning, and the outline
-- of the state after the vread.
use Rattle.std.proofs.Common.{◌≡◌, ℕ, zero, suc, ◌≤◌, Bool, true, false, ◌+◌, List, [], ◌∷◌, ◌++◌, refl, sym, subst, ap, ◌∙◌, append_assoc, append-nil, length, arith}
use Rattle.std.specs.Prelude.{◌==◌, ◌&&◌, ◌||◌, not, MatchBool, if◌then◌else◌}
use Rattle.key_names.specs.declared.names.Step.{Step}
use Rattle.key_names.specs.declared.names.Step.TheVariants.{Look}
use Rattle.key_names.specs.Lanes.Book.{Lists}
use Rattle.key_names.specs.Callers.Calls.{Setting, BoundAct}
use Rattle.key_names.specs.Callers.Effects.{Effect, looked, effects_of}
use Rattle.key_names.specs.Kernel.Flags.{is_bad}
use Rattle.key_names.specs.Callers.Forms.{Looked}
use Rattle.key_names.specs.Kernel.VgetrandomState.{VgetrandomState}
use Rattle.key_names.specs.Kernel.BatchCopy.{has_left, whole_blocks, new_batch_bytes, state_of_same_batch, state_of_new_batch, state_after_copy, serves_locally}
use Rattle.key_names.specs.Kernel.Vgetrandom.{HostStep, publishes, AttemptEnd, holds, outdated, Attempt, Outcome, prefix_outcome, BySystem, ByNothing, AfterAttempt, AfterBoth, SecondAttempt, FirstAttempt, FromPublished, FromLook}
use Rattle.key_names.specs.Callers.VreadSteps.{PointReached, points_of, published_by, Shows, WipesConform, looks_of, NeverFall}
use Rattle.key_names.specs.Callers.Meaning.{CallMeaning, current_state, ByLocalCopy, ByVgetrandom, LocalOrCall, VreadMeans}
use Rattle.key_names.proofs.Unique.UniqueAttempts.{AllReady}
use Rattle.key_names.proofs.Unique.UniqueCalls.{all_ready}
use Rattle.judge_vread.proofs.CallPoints.{attempt_points, first_as_inferred, second_not_wiped}
use Rattle.audit_keys.specs.Outline.{IsOutline, IsBetweenCalls, outlined}
use Rattle.audit_keys.specs.Left.{Left, After, copied, attempted, tried_twice, copies_alone, first_look, vread_left}
use Rattle.audit_keys.specs.Laws.{Leaves, VreadLeaves}
use Rattle.audit_keys.proofs.Outlines.{same_test, sym_test, generation_test, same_entries, same_left, copy_outline}
use Rattle.audit_keys.proofs.KeySteps.{FirstStep, first_step}
use Rattle.audit_keys.proofs.AttemptsLeave.{Gives, WipesAre, AttemptLeaves, attempt_leaves}

-- `new` has the entries of `l`, and then the entries of `outcome`. The outline of `new` is the outline of the state of
-- `outcome`
pub record CallLeaves (l : Left) (outcome : Outcome) (new : Left) : Type 0 where
  pub entries : new.entries ≡ l.entries ++ outcome.entries
  pub conforms : IsBetweenCalls new.outline outcome.state

leaves_at : (l : Left) (o o' : Outcome) (new new' : Left) → o ≡ o' → new ≡ new' → CallLeaves l o' new' →
    CallLeaves l o new
leaves_at l o o' new new' p q h =
    let P : Outcome → Type 0 = λ x. CallLeaves l x new in let Q : Left → Type 0 = λ x. CallLeaves l o' x in
    subst P (sym p) (subst Q (sym q) h)

-- if the call `o` leaves no entries, and `l` has the outline of the state after the call, `CallLeaves` holds with `l`
-- unchanged
nothing_more : (l : Left) (o : Outcome) → o.entries ≡ [] → IsBetweenCalls l.outline o.state → CallLeaves l o l
nothing_more l o none is =
    record { entries = sym (append-nil l.entries) ∙ ap (λ es. l.entries ++ es) (sym none); conforms = is }

-- if the call ends with the attempt `a`, the call leaves the entries and the outline that `a` leaves
attempt_alone : (l : Left) (rest : List Step) (a : Attempt) (b : After) (after : Outcome) → Gives l.entries rest a b →
    after.entries ≡ [] → after.state.in_use ≡ false → after.state.generation ≡ a.state.generation →
    after.state.pos ≡ a.state.pos → CallLeaves l (prefix_outcome a.entries after) b.left
attempt_alone l rest a b after g none idle generation pos = record {
  entries = g.entries ∙ ap (λ es. l.entries ++ es) (sym (append-nil a.entries) ∙ ap (λ es. a.entries ++ es) (sym none));
  conforms = record {
    outline = record {
      generation = generation ∙ g.outline.generation;
      served = pos ∙ g.outline.served;
    };
    idle = idle;
  };
}

module _ (lists : Lists) (set : Setting) (n flags : ℕ) where
  shows_at : (xs ys : List HostStep) (ds : List Effect) → xs ≡ ys → Shows set xs ds → Shows set ys ds
  shows_at xs ys ds p shows = let P : List HostStep → Type 0 = λ x. Shows set x ds in subst P p shows

  -- ---- the second attempt of a call ----

  second_leaves : (acts : List BoundAct) (k w1 w2 w3 w4 : Bool) (points : List PointReached) (c : ℕ)
      (s : VgetrandomState) (l : Left) (ds : List Effect) (rest : List Step) (steps : List HostStep) (outcome : Outcome) →
      SecondAttempt n flags c s steps outcome → Shows set steps ds → effects_of lists rest ≡ ds → AllReady ds →
      points ≡ attempt_points k w1 w2 w3 w4 (points_of steps) → WipesConform acts points → IsOutline l.outline s →
      CallLeaves l outcome (attempted [] n c l rest).left
  second_leaves acts k w1 w2 w3 w4 points c s l ds rest steps outcome by shows effects ready all conform is =
      leaves_at l outcome _ _ _ by.outcome_is refl (go b.holds goes)
    where
      sh : AttemptLeaves lists set by.rest n c s by.tried rest by.attempt
      sh = attempt_leaves lists set by.rest n c s by.tried ds rest by.attempt by.tries
          (shows_at steps (by.tried ++ by.rest) ds by.steps_are shows) effects ready

      wipes : WipesAre [] sh.keyed sh.w1 sh.w2 sh.w3 sh.w4
      wipes =
          let none = second_not_wiped acts k w1 w2 w3 w4 sh.keyed sh.w1 sh.w2 sh.w3 sh.w4 points (points_of steps)
          (points_of by.rest) all (ap points_of by.steps_are ∙ sh.points) conform in
          record {
            start = sym none.start;
            written = λ keyed. none.written keyed;
            serve = sym none.serve;
            end = sym none.end;
          }

      b : After
      b = attempted [] n c l rest

      g : Gives l.entries sh.rest by.attempt b
      g = sh.gives [] l wipes is

      goes : AfterAttempt n flags (AfterBoth n flags) (if b.holds then holds else outdated) by.attempt by.rest
          by.outcome_after
      goes =
          let P : AttemptEnd → Type 0 = λ e. AfterAttempt n flags (AfterBoth n flags) e by.attempt by.rest
          by.outcome_after in subst P g.end by.goes_on

      go : (h : Bool) → AfterAttempt n flags (AfterBoth n flags) (if h then holds else outdated) by.attempt by.rest
          by.outcome_after → CallLeaves l (prefix_outcome by.attempt.entries by.outcome_after) b.left
      go true x =
          attempt_alone l sh.rest by.attempt b by.outcome_after g (ap (λ (o : Outcome). o.entries) x.outcome_is)
          (ap (λ (o : Outcome). o.state.in_use) x.outcome_is) (ap (λ (o : Outcome). o.state.generation) x.outcome_is)
          (ap (λ (o : Outcome). o.state.pos) x.outcome_is)
      go false x =
          attempt_alone l sh.rest by.attempt b by.outcome_after g (ap (λ (o : Outcome). o.entries) x.outcome_is)
          (ap (λ (o : Outcome). o.state.in_use) x.outcome_is) (ap (λ (o : Outcome). o.state.generation) x.outcome_is)
          (ap (λ (o : Outcome). o.state.pos) x.outcome_is)

  -- ---- the first attempt of a call ----

  first_leaves : (acts : List BoundAct) (s : VgetrandomState) (l : Left) (ds : List Effect) (rest : List Step)
      (steps : List HostStep) (outcome : Outcome) → FirstAttempt n flags s steps outcome → Shows set steps ds →
      effects_of lists rest ≡ ds → AllReady ds → WipesConform acts (points_of steps) → IsOutline l.outline s →
      CallLeaves l outcome (tried_twice acts n l rest)
  first_leaves acts s l ds rest steps outcome by shows effects ready conform is =
      leaves_at l outcome _ _ _ by.outcome_is refl (go b.holds goes)
    where
      sh : AttemptLeaves lists set by.rest n 0 s by.tried rest by.attempt
      sh = attempt_leaves lists set by.rest n 0 s by.tried ds rest by.attempt by.tries
          (shows_at steps (by.tried ++ by.rest) ds by.steps_are shows) effects ready

      points : points_of steps ≡ attempt_points sh.keyed sh.w1 sh.w2 sh.w3 sh.w4 (points_of by.rest)
      points = ap points_of by.steps_are ∙ sh.points

      wipes : WipesAre acts sh.keyed sh.w1 sh.w2 sh.w3 sh.w4
      wipes =
          let listed = first_as_inferred acts sh.keyed sh.w1 sh.w2 sh.w3 sh.w4 (points_of steps) (points_of by.rest) points
          conform in
          record {
            start = sym listed.start;
            written = λ keyed. listed.written keyed;
            serve = sym listed.serve;
            end = sym listed.end;
          }

      b : After
      b = attempted acts n 0 l rest

      g : Gives l.entries sh.rest by.attempt b
      g = sh.gives acts l wipes is

      goes : AfterAttempt n flags (SecondAttempt n flags) (if b.holds then holds else outdated) by.attempt by.rest
          by.outcome_after
      goes =
          let P : AttemptEnd → Type 0 = λ e. AfterAttempt n flags (SecondAttempt n flags) e by.attempt by.rest
          by.outcome_after in subst P g.end by.goes_on

      again : SecondAttempt n flags by.attempt.next_block by.attempt.state by.rest by.outcome_after →
          CallLeaves l (prefix_outcome by.attempt.entries by.outcome_after)
          (attempted [] n b.next_block b.left b.rest).left
      again x =
          let P : ℕ → Type 0 = λ c. SecondAttempt n flags c by.attempt.state by.rest by.outcome_after in
          let h = second_leaves acts sh.keyed sh.w1 sh.w2 sh.w3 sh.w4 (points_of steps) b.next_block by.attempt.state
          b.left sh.effects b.rest by.rest by.outcome_after (subst P (sym g.next_block) x) sh.shows
          (ap (effects_of lists) g.rest_is ∙ sh.following) sh.ready points conform g.outline in
          record {
            entries = h.entries ∙ ap (λ es. es ++ by.outcome_after.entries) g.entries
                ∙ append_assoc l.entries by.attempt.entries by.outcome_after.entries;
            conforms = h.conforms;
          }

      go : (h : Bool) → AfterAttempt n flags (SecondAttempt n flags) (if h then holds else outdated) by.attempt by.rest
          by.outcome_after → CallLeaves l (prefix_outcome by.attempt.entries by.outcome_after)
          (if h then b.left else (attempted [] n b.next_block b.left b.rest).left)
      go true x =
          attempt_alone l sh.rest by.attempt b by.outcome_after g (ap (λ (o : Outcome). o.entries) x.outcome_is)
          (ap (λ (o : Outcome). o.state.in_use) x.outcome_is) (ap (λ (o : Outcome). o.state.generation) x.outcome_is)
          (ap (λ (o : Outcome). o.state.pos) x.outcome_is)
      go false x = again x

  -- ---- a whole vgetrandom call ----

  system_leaves : (s : VgetrandomState) (l : Left) (steps : List HostStep) (outcome : Outcome) →
      BySystem n flags s steps outcome → IsBetweenCalls l.outline s → CallLeaves l outcome l
  system_leaves s l steps outcome by is =
      leaves_at l outcome _ l l by.outcome_is refl (nothing_more l _ refl is)

  look_leaves : (acts : List BoundAct) (s : VgetrandomState) (l : Left) (ds : List Effect) (line : List Step)
      (steps : List HostStep) (outcome : Outcome) → FromLook n flags s steps outcome → Shows set steps ds →
      effects_of lists line ≡ ds → NeverFall (looks_of ds) → WipesConform acts (points_of steps) →
      IsBetweenCalls l.outline s → (n == 0) ≡ false →
      ((g : ℕ) (rest : List Step) → line ≡ Look g ∷ rest → (g == 0) ≡ false → copies_alone acts n g l ≡ false) →
      CallLeaves l outcome (first_look acts n l line)
  look_leaves acts s l ds line steps outcome by shows effects fall conform is some alone =
      leaves_at l outcome outcome _ _ refl (ap (first_look acts n l) line_is) (go (g == 0) refl s.in_use is.idle goes)
    where
      y : Shows set (publishes by.published ∷ by.rest) ds
      y = shows_at steps (publishes by.published ∷ by.rest) ds by.steps_are shows

      g : ℕ
      g = y.0

      f : FirstStep lists (looked y.0) y.1 line
      f = first_step lists (looked y.0) y.1 line (effects ∙ y.2)

      line_is : line ≡ Look g ∷ f.rest
      line_is = f.steps_are ∙ ap (λ x. x ∷ f.rest) f.tells

      falls : NeverFall (looks_of (looked y.0 ∷ y.1))
      falls = let P : List Effect → Type 0 = λ d. NeverFall (looks_of d) in subst P y.2 fall

      conforms : WipesConform acts (points_of by.rest)
      conforms = let P : List PointReached → Type 0 = λ x. WipesConform acts x in subst P (ap points_of by.steps_are) conform

      goes : MatchBool (g == 0) (BySystem n flags s by.rest outcome)
          (MatchBool s.in_use (BySystem n flags s by.rest outcome)
          (FirstAttempt n flags (record s { in_use = true }) by.rest outcome))
      goes =
          let P : ℕ → Type 0 = λ p. FromPublished n flags s p by.rest outcome in
          let Q : Bool → Type 0 = λ b. MatchBool b (BySystem n flags s by.rest outcome)
          (MatchBool (n == 0) (ByNothing s by.rest outcome)
          (MatchBool s.in_use (BySystem n flags s by.rest outcome)
          (FirstAttempt n flags (record s { in_use = true }) by.rest outcome))) in
          let R : Bool → Type 0 = λ b. MatchBool (g == 0) (BySystem n flags s by.rest outcome)
          (MatchBool b (ByNothing s by.rest outcome)
          (MatchBool s.in_use (BySystem n flags s by.rest outcome)
          (FirstAttempt n flags (record s { in_use = true }) by.rest outcome))) in
          subst R some (subst Q (same_test g 0) (subst P y.3.0 by.goes_on))

      go : (b : Bool) → (g == 0) ≡ b → (u : Bool) → u ≡ false → MatchBool b (BySystem n flags s by.rest outcome)
          (MatchBool u (BySystem n flags s by.rest outcome)
          (FirstAttempt n flags (record s { in_use = true }) by.rest outcome)) →
          CallLeaves l outcome (if b then l else (if copies_alone acts n g l then copied n 0 l
          else tried_twice acts n l f.rest))
      go true e u idle x = system_leaves s l by.rest outcome x is
      go false e true idle x = absurd cc
      go false e false idle x =
          let one : 1 ≤ g = positive g e in
          leaves_at l outcome outcome _ _ refl
          (ap (λ b. if b then copied n 0 l else tried_twice acts n l f.rest) (alone g f.rest line_is e))
          (first_leaves acts (record s { in_use = true }) l y.1 f.rest by.rest outcome x y.3.1 f.following
          (all_ready g (looks_of y.1) one falls) conforms
          (record { generation = is.outline.generation; served = is.outline.served }))
        where
          positive : (g : ℕ) → (g == 0) ≡ false → 1 ≤ g
          positive zero e = absurd cc
          positive (suc g) e = omega arith

  -- a call for no bytes leaves no entry
  empty_leaves : (s : VgetrandomState) (l : Left) (steps : List HostStep) (outcome : Outcome) →
      FromLook n flags s steps outcome → IsBetweenCalls l.outline s → (n == 0) ≡ true → CallLeaves l outcome l
  empty_leaves s l steps outcome by is none = go (by.published == 0) by.goes_on
    where
      go : (b : Bool) → MatchBool b (BySystem n flags s by.rest outcome)
          (MatchBool (n == 0) (ByNothing s by.rest outcome)
          (MatchBool s.in_use (BySystem n flags s by.rest outcome)
          (FirstAttempt n flags (record s { in_use = true }) by.rest outcome))) → CallLeaves l outcome l
      go true x = system_leaves s l by.rest outcome x is
      go false x =
          let P : Bool → Type 0 = λ b. MatchBool b (ByNothing s by.rest outcome)
          (MatchBool s.in_use (BySystem n flags s by.rest outcome)
          (FirstAttempt n flags (record s { in_use = true }) by.rest outcome)) in
          let nothing : ByNothing s by.rest outcome = subst P none x in
          leaves_at l outcome _ l l nothing.outcome_is refl (nothing_more l _ refl is)

-- ---- a vread, with its first look ----

kept_idle : (b : Bool) (s : VgetrandomState) (c n : ℕ) → s.in_use ≡ false →
    (if b then state_of_same_batch s n
    else state_of_new_batch s (c + whole_blocks s n) (new_batch_bytes s n)).in_use ≡ false
kept_idle true s c n idle = idle
kept_idle false s c n idle = idle

module _ (lists : Lists) (n flags : ℕ) (acts : List BoundAct) (steps : List Step) (m : CallMeaning) (l : Left)
    (looks : NeverFall (looks_of m.own.effects)) (effects : effects_of lists steps ≡ m.own.effects)
    (is : IsBetweenCalls l.outline (current_state m.before)) where
  abbrev s : VgetrandomState
  s = current_state m.before

  -- the statement that, if the first look finds the core ready, the batch alone does not serve the vread
  abbrev Called : Type 0
  Called = (g : ℕ) (rest : List Step) → steps ≡ Look g ∷ rest → (g == 0) ≡ false → copies_alone acts n g l ≡ false

  of_call : (v : ByVgetrandom n flags acts m) (new : Left) → CallLeaves l v.outcome new → Leaves m l new
  of_call v new h = record {
    entries = h.entries ∙ ap (λ es. l.entries ++ es) (sym v.entries);
    state = v.outcome.state;
    after = v.after;
    conforms = h.conforms;
  }

  -- the vgetrandom call on the current state: if `bad` is true, it goes to the system; otherwise it begins with its
  -- look
  abbrev CallBy : ByVgetrandom n flags acts m → Bool → Type 0
  CallBy v bad = MatchBool bad (BySystem n flags s v.steps v.outcome) (FromLook n flags s v.steps v.outcome)

  by_call : ByVgetrandom n flags acts m → (bad none : Bool) → is_bad flags ≡ bad → (n == 0) ≡ none →
      (bad ≡ false → none ≡ false → Called) →
      Leaves m l (if bad || none then l else first_look acts n l steps)
  by_call v true none p q alone =
      of_call v l (system_leaves lists m.before.setting n flags s l v.steps v.outcome (subst (CallBy v) p v.is_call) is)
  by_call v false true p q alone =
      of_call v l (empty_leaves lists m.before.setting n flags s l v.steps v.outcome (subst (CallBy v) p v.is_call) is q)
  by_call v false false p q alone =
      of_call v _ (look_leaves lists m.before.setting n flags acts s l m.own.effects steps v.steps v.outcome
      (subst (CallBy v) p v.is_call) v.shows effects looks v.wipes is q (alone refl refl))

  by_copy : (g : ℕ) (rest : List Effect) → ByLocalCopy n rest m → Leaves m l (copied n 0 l)
  by_copy g rest c = record {
    entries = ap (λ es. l.entries ++ es) (same_entries l.outline s 0 n is.outline ∙ sym c.entries);
    state = state_after_copy s 0 n;
    after = c.after;
    conforms = record { outline = copy_outline l s 0 n is.outline; idle = kept_idle (has_left s n) s 0 n is.idle };
  }

  -- the outline and the state agree on whether the batch alone serves the vread
  local_is : (g : ℕ) → (length acts == 0) ≡ true → serves_locally (published_by g) s n
      ≡ (not (g == 0) && copies_alone acts n g l)
  local_is g no_acts =
      ap (λ b. not b && (published_by g == s.generation && (not s.in_use && has_left s n))) (same_test g 0)
      ∙ ap (λ b. not (g == 0) && (b && (not s.in_use && has_left s n)))
      (sym_test (published_by g) s.generation ∙ generation_test l.outline s g is.outline)
      ∙ ap (λ b. not (g == 0) && (l.outline.found == g && (not b && has_left s n))) is.idle
      ∙ ap (λ b. not (g == 0) && (l.outline.found == g && b)) (sym (same_left l.outline s n is.outline))
      ∙ ap (λ b. not (g == 0) && (b && (l.outline.found == g && has_left (outlined l.outline) n))) (sym no_acts)

  look_at : (g : ℕ) (rest : List Effect) → m.own.effects ≡ looked g ∷ rest → (line : List Step) × (steps ≡ Look g ∷ line)
  look_at g rest e =
      let f = first_step lists (looked g) rest steps (effects ∙ e) in
      (f.rest, f.steps_are ∙ ap (λ x. x ∷ f.rest) f.tells)

  same_look : (g h : ℕ) (xs ys : List Step) → Look g ∷ xs ≡ Look h ∷ ys → g ≡ h
  same_look g h xs ys e = cc

  by_look : Looked (LocalOrCall n flags acts m) m.own.effects → (length acts == 0) ≡ true → is_bad flags ≡ false →
      (n == 0) ≡ false → Leaves m l (first_look acts n l steps)
  by_look (g, rest, e, way) no_acts p q =
      go (serves_locally (published_by g) s n) (g == 0) (copies_alone acts n g l) refl refl refl way
    where
      here : (line : List Step) × (steps ≡ Look g ∷ line)
      here = look_at g rest e

      go : (a b c : Bool) → serves_locally (published_by g) s n ≡ a → (g == 0) ≡ b → copies_alone acts n g l ≡ c →
          MatchBool a (ByLocalCopy n rest m) (ByVgetrandom n flags acts m) → Leaves m l (first_look acts n l steps)
      go true false true ea eb ec x =
          let P : Left → Type 0 = λ y. Leaves m l y in
          subst P (sym (ap (first_look acts n l) here.1 ∙ ap (λ b. if b then l else (if copies_alone acts n g l
          then copied n 0 l else tried_twice acts n l here.0)) eb
          ∙ ap (λ b. if b then copied n 0 l else tried_twice acts n l here.0) ec)) (by_copy g rest x)
      go true true c ea eb ec x =
          let h = sym ea ∙ local_is g no_acts ∙ ap (λ b. not b && copies_alone acts n g l) eb in absurd cc
      go true false false ea eb ec x =
          let h = sym ea ∙ local_is g no_acts ∙ ap (λ b. not (g == 0) && b) ec ∙ ap (λ b. not b && false) eb in
          absurd cc
      go false b c ea eb ec x =
          let called : Called = λ g' rest' e' some. (
          let same : g' ≡ g = same_look g' g rest' here.0 (sym e' ∙ here.1) in
          let one : (g == 0) ≡ false = sym (ap (λ x. x == 0) same) ∙ some in
          let none : copies_alone acts n g l ≡ false =
          sym (ap (λ b. not b && copies_alone acts n g l) one) ∙ sym (local_is g no_acts) ∙ ea in
          ap (λ x. copies_alone acts n x l) same ∙ none
          ) in
          by_call x false false p q (λ bad none. called)

  pub by_ways : VreadMeans n flags acts m → Leaves m l (vread_left n flags acts l steps)
  by_ways v = go (length acts == 0) (n == 0) (is_bad flags) refl refl refl v.done_by
    where
      go : (a z b : Bool) → (length acts == 0) ≡ a → (n == 0) ≡ z → is_bad flags ≡ b →
          MatchBool (a && (not z && not b)) (Looked (LocalOrCall n flags acts m) m.own.effects)
          (ByVgetrandom n flags acts m) →
          Leaves m l (if b || z then l else first_look acts n l steps)
      go true false false ea ez eb x = by_look x ea eb ez
      go true false true ea ez eb x = by_call x true false eb ez (λ bad none. absurd cc)
      go true true b ea ez eb x = by_call x b true eb ez (λ bad none. absurd cc)
      go false z b ea ez eb x = by_call x b z eb ez (λ bad none g rest e some.
          ap (λ b. b && (l.outline.found == g && has_left (outlined l.outline) n)) ea)

pub vread_leaves : VreadLeaves
vread_leaves lists n flags acts steps m l means effects is =
    by_ways lists n flags acts steps m l means.looks effects is means
