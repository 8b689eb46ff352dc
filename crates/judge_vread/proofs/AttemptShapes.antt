-- An attempt (one try of a vgetrandom call, by the definitions) has one of a few shapes: a list of effects, with a
-- result. From the seen steps of each shape the code computes the same result.
use Rattle.std.proofs.Common.{◌≡◌, ℕ, zero, suc, ◌<◌, ◌≤◌, ◌^◌, Bool, true, false, List, [], ◌∷◌, ◌++◌, Some, None, ◌⊎◌, inl, inr, refl, sym, subst, ap, ◌∙◌, append_assoc, arith}
use Rattle.std.specs.Prelude.{◌==◌, ◌&&◌, not, ⊤, MatchBool, Option, if◌then◌else◌}
use Rattle.key_names.specs.declared.point.Point.TheVariants.{Start, Written, Serve, End}
use Rattle.key_names.specs.declared.entries.Taken.TheVariants.{User}
use Rattle.key_names.specs.declared.entries.VEntry.{VEntry}
use Rattle.key_names.specs.declared.entries.CpuEntry.{CpuEntry}
use Rattle.key_names.specs.declared.entries.CpuEntry.TheVariants.{Read as CpuRead}
use Rattle.key_names.specs.Kernel.Flags.{is_nonblock, is_insecure}
use Rattle.key_names.specs.Callers.Calls.{Setting}
use Rattle.key_names.specs.Kernel.Keystream.{keystream}
use Rattle.key_names.specs.Callers.Effects.{Effect, looked, at_pool, at_base, at_cpu, nothing_there}
use Rattle.key_names.specs.Callers.Forms.{SysForm, ReadForm, CpuReadForm, WaitedInVain, Waited}
use Rattle.key_names.specs.Callers.Answers.{served_bytes, was_interrupted}
use Rattle.key_names.specs.Kernel.VgetrandomState.{VgetrandomState, state_left}
use Rattle.key_names.specs.Kernel.BatchCopy.{state_after_copy, copy_entries}
use Rattle.key_names.specs.Kernel.Vgetrandom.{CpuPlace, SystemAnswer, read, HostStep, publishes, system_call, at_point, Attempt, holds, outdated, prefix_attempt, wipe_entry}
use Rattle.key_names.specs.Kernel.Vgetrandom.{rekey_entry, AtPoint, FromServe, Keyed, AfterKeyRead, FromWritten, FromStart, IsAttempt}
use Rattle.key_names.specs.Callers.VreadSteps.{PointReached, points_of, published_by, Shows, answer_after, answer_with, errno_of, last_place}
use Rattle.key_names.proofs.Vgetrandom.Attempts.{copy_attempt}
use Rattle.key_names.proofs.Unique.UniqueAttempts.{not_zero}
use Rattle.key_names.proofs.Unique.UniqueTries.{reached}
use Rattle.judge_lines.specs.Kinds.{base_kind}
use Rattle.judge_vread.specs.declared.seen.SeenStep.{SeenStep}
use Rattle.judge_vread.specs.declared.seen.SeenStep.TheVariants.{Ready, Base}
use Rattle.judge_vread.specs.declared.inside.Inside.{Inside}
use Rattle.judge_vread.specs.Recipe.{bytes_made}
use Rattle.judge_vread.specs.Seen.{AllSeen, ServesBy}
use Rattle.judge_vread.specs.Path.{published, After, looked_again, key_in_front, from_serve, with_key, attempted}
use Rattle.judge_vread.proofs.SeenShapes.{SeenLook, look_seen, cpu_seen, base_seen, see_at}
use Rattle.judge_vread.proofs.CalledSays.{answered}

-- if a look found a generation `g` from 1 to 2^63 - 1, the code computes the published generation of the definitions
-- from `g`
pub published_is : (g : ℕ) → 1 ≤ g → g < 2 ^ 63 → published_by g ≡ published g
published_is zero some small = absurd (omega arith)
published_is (suc g) some small = omega arith

pub published_some : (g : ℕ) → 1 ≤ g → (published_by g == 0) ≡ false
published_some zero some = absurd (omega arith)
published_some (suc g) some = not_zero (suc (suc g)) (omega arith)

-- each look in the list found the core ready, at a generation below 2^63
abbrev pub Known : List Effect → Type 0
Known [] = ⊤
Known (looked g ∷ ds) = (1 ≤ g) × (g < 2 ^ 63) × Known ds
Known (at_pool v ∷ ds) = Known ds
Known (at_base v ∷ ds) = Known ds
Known (at_cpu v ∷ ds) = Known ds
Known (nothing_there ∷ ds) = Known ds

pub known_at : {ds xs : List Effect} → ds ≡ xs → Known ds → Known xs
known_at {ds = ds} {xs = xs} p h = let P : List Effect → Type 0 = λ x. Known x in subst P p h

-- the points of an attempt: `points`, and before them Written if the attempt read a key (the first bool)
abbrev pub with_written : Bool → Bool → List PointReached → List PointReached
with_written true wiped points = reached Written wiped ∷ points
with_written false wiped points = points

-- what the acts inside a vgetrandom call do to its state: each of the last four bools is true if an act wipes the state
-- at that point
abbrev pub wiping : Bool → Bool → Bool → Bool → Bool → Inside
wiping any w1 w2 w3 w4 = record { any = any; start = w1; written = w2; serve = w3; end = w4 }

-- the result `b` that the code computes for an attempt equals the result of `a`, an attempt of the definitions
pub record Matches (a : Attempt) (b : After) : Type 0 where
  pub out : a.out ≡ bytes_made b.tried.served
  pub state : a.state ≡ b.state
  pub next_block : a.next_block ≡ b.tried.next_block
  pub end : a.end ≡ (if b.tried.holds then holds else outdated)

-- if `b` matches an attempt a', and `a` equals a', then `b` matches `a`
pub matches_at : (a a' : Attempt) (b : After) → a ≡ a' → Matches a' b → Matches a b
matches_at a a' b is m = let P : Attempt → Type 0 = λ x. Matches x b in subst P (sym is) m

module _ (set : Setting) (more : List HostStep) where
  -- ---- the part of an attempt from its point Serve on

  pub record Copied (n c : ℕ) (s : VgetrandomState) (steps : List HostStep) (ds : List Effect) (a : Attempt) : Type 0 where
    pub w3 : Bool
    pub w4 : Bool
    pub h : ℕ
    pub rest : List Effect
    pub effects_are : ds ≡ looked h ∷ rest
    pub attempt_is : a ≡ copy_attempt n c (published_by h) w3 w4 s
    pub shows : Shows set more rest
    pub points : points_of (steps ++ more) ≡ reached Serve w3 ∷ reached End w4 ∷ points_of more

  pub copied : (n c : ℕ) (s : VgetrandomState) (steps : List HostStep) (ds : List Effect) (a : Attempt) →
      AtPoint Serve (FromServe n c) s steps a → Shows set (steps ++ more) ds → Copied n c s steps ds a
  copied n c s steps ds a at shows =
      let f = at.goes_on in
      let e = f.goes_on in
      let l = e.goes_on in
      let all : steps ≡ at_point Serve at.wiped ∷ at_point End e.wiped ∷ publishes l.published ∷ [] =
      at.steps_are ∙ ap (λ r. at_point Serve at.wiped ∷ r) (e.steps_are ∙ ap (λ r. at_point End e.wiped ∷ r) l.steps_are) in
      let P : List HostStep → Type 0 = λ x. Shows set (x ++ more) ds in
      let y = subst P all shows in
      let s1 = state_left at.wiped s in
      let is : a ≡ copy_attempt n c l.published at.wiped e.wiped s =
      at.attempt_is ∙ ap (prefix_attempt (wipe_entry at.wiped)) (f.attempt_is
      ∙ ap (prefix_attempt (copy_entries s1 c n)) (e.attempt_is
      ∙ ap (prefix_attempt (wipe_entry e.wiped)) l.attempt_is)) in
      record {
        w3 = at.wiped;
        w4 = e.wiped;
        h = y.0;
        rest = y.1;
        effects_are = y.2;
        attempt_is = is ∙ ap (λ g. copy_attempt n c g at.wiped e.wiped s) y.3.0;
        shows = y.3.1;
        points = ap (λ x. points_of (x ++ more)) all;
      }

  -- ---- the system call by which an attempt reads a key

  -- a system call for a key has two looks, then at most one visit of the base, and then a visit of the caller's CPU
  record KeyRead (seen : List SeenStep) (rest : List Effect) (answer : SystemAnswer) : Type 0 where
    key : List ℕ
    visit : Option CpuPlace
    following : List SeenStep
    inferred : key_in_front seen ≡ Some (record { key = key; rest = following })
    answer_is : answer ≡ read key visit
    sees : AllSeen set.cpu following rest
    known : Known rest

  cpu_gives : (key : List ℕ) (e : CpuEntry) (serves : List ℕ) (look : ℕ) (refill : Option ℕ) →
      e ≡ CpuRead look refill (User 32) → ServesBy key e serves → serves ≡ keystream key 32 32
  cpu_gives key e serves look refill is by = let P : CpuEntry → Type 0 = λ x. ServesBy key x serves in subst P is by

  key_answer : (g : ℕ) (ds : List Effect) → 1 ≤ g → was_interrupted (looked g ∷ ds) ≡ false →
      answer_after 0 (looked g ∷ ds) ≡ read (served_bytes (looked g ∷ ds)) (last_place (looked g ∷ ds))
  key_answer g ds some stopped =
      ap (λ x. answer_with (errno_of x) (looked g ∷ ds)) (answered 0 (looked g ∷ ds) false false refl
      (ap (λ b. b && (is_nonblock 0 && not (is_insecure 0))) (not_zero g some)) stopped)

  module _ (seen : List SeenStep) (ds call rest : List Effect) (answer : SystemAnswer) (effects_are : ds ≡ call ++ rest)
      (answers : answer ≡ answer_after 0 call) (sees : AllSeen set.cpu seen ds) (known : Known ds) where
    key_by : (g : ℕ) (r : List Effect) → call ≡ looked g ∷ r → CpuReadForm set (User 32) r → KeyRead seen rest answer
    key_by g r is (inl f) =
        let made : call ≡ looked g ∷ looked f.look ∷ at_cpu f.cpu ∷ [] = is ∙ ap (λ x. looked g ∷ x) f.effects_are in
        let all : ds ≡ looked g ∷ looked f.look ∷ at_cpu f.cpu ∷ rest = effects_are ∙ ap (λ x. x ++ rest) made in
        let k = known_at all known in
        let a = look_seen set.cpu g seen (looked f.look ∷ at_cpu f.cpu ∷ rest) k.0 (see_at set.cpu seen all sees) in
        let b = look_seen set.cpu f.look a.following (at_cpu f.cpu ∷ rest) k.2.0 a.sees in
        let v = cpu_seen set.cpu f.cpu b.following rest f.on b.sees in
        let gives = cpu_gives v.key f.cpu.entry f.cpu.serves f.look None f.reads v.serves in
        record {
          key = keystream v.key 32 32;
          visit = Some (record { cpu = f.cpu.cpu; place = f.cpu.place });
          following = v.following;
          inferred = ap key_in_front (a.is ∙ ap (λ x. Ready g ∷ x) (b.is ∙ ap (λ x. Ready f.look ∷ x) v.is));
          answer_is = answers ∙ ap (answer_after 0) made
              ∙ key_answer g (looked f.look ∷ at_cpu f.cpu ∷ []) k.0 refl
              ∙ ap (λ x. read x (Some (record { cpu = f.cpu.cpu; place = f.cpu.place }))) gives;
          sees = v.sees;
          known = k.2.2;
        }
    key_by g r is (inr f) =
        let made : call ≡ looked g ∷ looked f.look ∷ at_base f.base ∷ at_cpu f.cpu ∷ [] =
        is ∙ ap (λ x. looked g ∷ x) f.effects_are in
        let all : ds ≡ looked g ∷ looked f.look ∷ at_base f.base ∷ at_cpu f.cpu ∷ rest =
        effects_are ∙ ap (λ x. x ++ rest) made in
        let k = known_at all known in
        let a = look_seen set.cpu g seen (looked f.look ∷ at_base f.base ∷ at_cpu f.cpu ∷ rest) k.0
        (see_at set.cpu seen all sees) in
        let b = look_seen set.cpu f.look a.following (at_base f.base ∷ at_cpu f.cpu ∷ rest) k.2.0 a.sees in
        let o = base_seen set.cpu f.base b.following (at_cpu f.cpu ∷ rest) (ap base_kind f.refills) b.sees in
        let v = cpu_seen set.cpu f.cpu o.following rest f.on o.sees in
        let gives = cpu_gives v.key f.cpu.entry f.cpu.serves f.look (Some f.base.place) f.reads v.serves in
        record {
          key = keystream v.key 32 32;
          visit = Some (record { cpu = f.cpu.cpu; place = f.cpu.place });
          following = v.following;
          inferred = ap key_in_front (a.is ∙ ap (λ x. Ready g ∷ x) (b.is ∙ ap (λ x. Ready f.look ∷ x)
              (o.is ∙ ap (λ x. Base o.key ∷ x) v.is)));
          answer_is = answers ∙ ap (answer_after 0) made
              ∙ key_answer g (looked f.look ∷ at_base f.base ∷ at_cpu f.cpu ∷ []) k.0 refl
              ∙ ap (λ x. read x (Some (record { cpu = f.cpu.cpu; place = f.cpu.place }))) gives;
          sees = v.sees;
          known = k.2.2;
        }

    key_read : SysForm set 32 0 call → KeyRead seen rest answer
    key_read (g, r, is, form) = go (subst P (not_zero g some) form)
      where
        some : 1 ≤ g
        some = (known_at (effects_are ∙ ap (λ x. x ++ rest) is) known).0

        P : Bool → Type 0
        P b = MatchBool (b && not (is_insecure 0))
            (MatchBool (is_nonblock 0) (r ≡ []) (WaitedInVain r ⊎ Waited set 32 r))
            (MatchBool (32 == 0) (r ≡ []) (ReadForm set (User 32) g r))

        go : ReadForm set (User 32) g r → KeyRead seen rest answer
        go (inl f) = (let none : g ≡ 0 = f.0 in absurd (omega (arith, some)))
        go (inr f) = key_by g r is f

  -- ---- a whole attempt

  pub record InferredAs (o : Option After) (a : Attempt) (keyed : Bool) (following : List SeenStep) : Type 0 where
    pub b : After
    pub is : o ≡ Some b
    pub matches : Matches a b
    pub rest : b.rest ≡ following
    pub keyed_is : b.tried.keyed ≡ keyed

  pub record AttemptShape (n c : ℕ) (s : VgetrandomState) (steps : List HostStep) (ds : List Effect) (seen : List SeenStep)
      (a : Attempt) : Type 0 where
    pub w1 : Bool
    pub w2 : Bool
    pub w3 : Bool
    pub w4 : Bool
    pub keyed : Bool
    pub front : List Effect
    pub rest : List Effect
    pub effects_are : ds ≡ front ++ rest
    pub following : List SeenStep
    pub sees : AllSeen set.cpu following rest
    pub known : Known rest
    pub shows : Shows set more rest
    pub points : points_of (steps ++ more)
        ≡ reached Start w1 ∷ with_written keyed w2 (reached Serve w3 ∷ reached End w4 ∷ points_of more)
    pub inferred : (any w : Bool) → (keyed ≡ true → w ≡ w2) →
        InferredAs (attempted (wiping any w1 w w3 w4) n c s seen) a keyed following

  -- the copy that the code follows has the same result as the copy of the definitions
  copy_matches : (n c h : ℕ) (w3 w4 keyed : Bool) (s : VgetrandomState) (following : List SeenStep) → 1 ≤ h → h < 2 ^ 63 →
      Matches (copy_attempt n c (published_by h) w3 w4 s)
      (looked_again n c keyed (state_left w3 s) (state_left w4 (state_after_copy (state_left w3 s) c n)) h following)
  copy_matches n c h w3 w4 keyed s following some small = record {
    out = refl;
    state = refl;
    next_block = refl;
    end = ap (λ g. if (state_left w4 (state_after_copy (state_left w3 s) c n)).generation == g then holds else outdated)
        (published_is h some small);
  }

  wrapped : (es : List VEntry) (a : Attempt) (b : After) → Matches a b → Matches (prefix_attempt es a) b
  wrapped es a b m = record { out = m.out; state = m.state; next_block = m.next_block; end = m.end }

  pub attempt_shape : (n c : ℕ) (s : VgetrandomState) (steps : List HostStep) (ds : List Effect) (seen : List SeenStep)
      (a : Attempt) → IsAttempt n c s steps a → Shows set (steps ++ more) ds → AllSeen set.cpu seen ds → Known ds →
      AttemptShape n c s steps ds seen a
  attempt_shape n c s steps ds seen a t shows sees known = go (s1.generation == published g) refl goes
    where
      st : AtPoint Start (FromStart n c t.published) s t.rest a
      st = t.goes_on

      s1 : VgetrandomState
      s1 = state_left st.wiped s

      all : steps ≡ publishes t.published ∷ at_point Start st.wiped ∷ st.rest
      all = t.steps_are ∙ ap (λ x. publishes t.published ∷ x) st.steps_are

      y : Shows set (publishes t.published ∷ at_point Start st.wiped ∷ st.rest ++ more) ds
      y = let P : List HostStep → Type 0 = λ x. Shows set (x ++ more) ds in subst P all shows

      g : ℕ
      g = y.0

      k : Known (looked y.0 ∷ y.1)
      k = known_at y.2 known

      l : SeenLook set.cpu y.0 seen y.1
      l = look_seen set.cpu y.0 seen y.1 k.0 (see_at set.cpu seen y.2 sees)

      goes : FromStart n c (published g) s1 st.rest st.attempt_after
      goes =
          let P : ℕ → Type 0 = λ x. FromStart n c x s1 st.rest st.attempt_after in
          subst P (y.3.0 ∙ published_is g k.0 k.1) st.goes_on

      current : (s1.generation == published g) ≡ true → AtPoint Serve (FromServe n c) s1 st.rest st.attempt_after →
          AttemptShape n c s steps ds seen a
      current e x =
          let cp = copied n c s1 st.rest y.1 st.attempt_after x y.3.1 in
          let kk = known_at cp.effects_are k.2 in
          let ll = look_seen set.cpu cp.h l.following cp.rest kk.0 (see_at set.cpu l.following cp.effects_are l.sees) in
          record {
            w1 = st.wiped;
            w2 = false;
            w3 = cp.w3;
            w4 = cp.w4;
            keyed = false;
            front = looked g ∷ looked cp.h ∷ [];
            rest = cp.rest;
            effects_are = y.2 ∙ ap (λ x. looked g ∷ x) cp.effects_are;
            following = ll.following;
            sees = ll.sees;
            known = kk.2;
            shows = cp.shows;
            points = ap (λ x. points_of (x ++ more)) all ∙ ap (λ ps. reached Start st.wiped ∷ ps) cp.points;
            inferred = λ any w same. (let inside : Inside = wiping any st.wiped w cp.w3 cp.w4 in record {
              b = looked_again n c false (state_left cp.w3 s1)
                  (state_left cp.w4 (state_after_copy (state_left cp.w3 s1) c n)) cp.h ll.following;
              is = ap (attempted inside n c s) (l.is ∙ ap (λ x. Ready g ∷ x) ll.is)
                  ∙ ap (λ z. if z then from_serve inside n c false s1 (Ready cp.h ∷ ll.following)
                  else with_key inside n c (state_left w (record s1 { generation = published g }))
                  (key_in_front (Ready cp.h ∷ ll.following))) e;
              matches = matches_at a _ _ (st.attempt_is ∙ ap (prefix_attempt (wipe_entry st.wiped)) cp.attempt_is)
                  (wrapped (wipe_entry st.wiped) _ _
                  (copy_matches n c cp.h cp.w3 cp.w4 false s1 ll.following kk.0 kk.1));
              rest = refl;
              keyed_is = refl;
            });
          }

      rekeyed : (s1.generation == published g) ≡ false →
          AtPoint Written (FromWritten n c) (record s1 { generation = published g }) st.rest st.attempt_after →
          AttemptShape n c s steps ds seen a
      rekeyed e x =
          let s2 = state_left x.wiped (record s1 { generation = published g }) in
          let w = x.goes_on in
          let after_start : st.rest ≡ at_point Written x.wiped ∷ system_call 32 0 w.answer ∷ w.rest =
          x.steps_are ∙ ap (λ r. at_point Written x.wiped ∷ r) w.steps_are in
          let P : List HostStep → Type 0 = λ r. Shows set (r ++ more) y.1 in
          let call = subst P after_start y.3.1 in
          let kr = key_read l.following y.1 call.call call.rest w.answer call.effects_are call.answers l.sees k.2 call.form in
          let Q : SystemAnswer → Type 0 = λ answer. AfterKeyRead n c answer s2 w.rest x.attempt_after in
          let keyed : Keyed n c kr.key kr.visit s2 w.rest x.attempt_after = subst Q kr.answer_is w.goes_on in
          let s3 : VgetrandomState = record s2 { key = kr.key; pos = 96 } in
          let cp = copied n c s3 w.rest call.rest keyed.attempt_after keyed.goes_on call.goes_on in
          let kk = known_at cp.effects_are kr.known in
          let ll = look_seen set.cpu cp.h kr.following cp.rest kk.0 (see_at set.cpu kr.following cp.effects_are kr.sees) in
          record {
            w1 = st.wiped;
            w2 = x.wiped;
            w3 = cp.w3;
            w4 = cp.w4;
            keyed = true;
            front = looked g ∷ call.call ++ looked cp.h ∷ [];
            rest = cp.rest;
            effects_are = y.2 ∙ ap (λ x. looked g ∷ x) (call.effects_are ∙ ap (λ x. call.call ++ x) cp.effects_are
                ∙ sym (append_assoc call.call (looked cp.h ∷ []) cp.rest));
            following = ll.following;
            sees = ll.sees;
            known = kk.2;
            shows = cp.shows;
            points = ap (λ x. points_of (x ++ more)) all ∙ ap (λ ps. reached Start st.wiped ∷ ps)
                (ap (λ x. points_of (x ++ more)) after_start
                ∙ ap (λ ps. reached Written x.wiped ∷ ps) cp.points);
            inferred = λ any w2 same. (
                let T : Bool → Type 0 = λ z.
                InferredAs (attempted (wiping any st.wiped z cp.w3 cp.w4) n c s seen) a true ll.following in
                let inside : Inside = wiping any st.wiped x.wiped cp.w3 cp.w4 in
                subst T (sym (same refl)) (record {
                  b = looked_again n c true (state_left cp.w3 s3)
                      (state_left cp.w4 (state_after_copy (state_left cp.w3 s3) c n)) cp.h ll.following;
                  is = ap (attempted inside n c s) l.is
                      ∙ ap (λ z. if z then from_serve inside n c false s1 l.following
                      else with_key inside n c s2 (key_in_front l.following)) e
                      ∙ ap (with_key inside n c s2) kr.inferred
                      ∙ ap (from_serve inside n c true s3) ll.is;
                  matches = matches_at a _ _ (st.attempt_is ∙ ap (prefix_attempt (wipe_entry st.wiped))
                      (x.attempt_is ∙ ap (prefix_attempt (wipe_entry x.wiped))
                      (keyed.attempt_is ∙ ap (prefix_attempt (rekey_entry kr.visit)) cp.attempt_is)))
                      (wrapped (wipe_entry st.wiped) _ _ (wrapped (wipe_entry x.wiped) _ _
                      (wrapped (rekey_entry kr.visit) _ _
                      (copy_matches n c cp.h cp.w3 cp.w4 true s3 ll.following kk.0 kk.1))));
                  rest = refl;
                  keyed_is = refl;
                })
                );
          }

      go : (b : Bool) → (s1.generation == published g) ≡ b →
          MatchBool b (AtPoint Serve (FromServe n c) s1 st.rest st.attempt_after)
          (AtPoint Written (FromWritten n c) (record s1 { generation = published g }) st.rest st.attempt_after) →
          AttemptShape n c s steps ds seen a
      go true e x = current e x
      go false e x = rekeyed e x
