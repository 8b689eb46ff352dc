-- The code can follow steps as a vread exactly if the steps are a vread of the definitions.
use Rattle.std.proofs.Common.{◌≡◌, ℕ, suc, ◌≤◌, Bool, true, false, List, [], ◌∷◌, ◌++◌, length, Some, None, Option, refl, sym, subst, ap, ◌∙◌, arith}
use Rattle.std.specs.Prelude.{◌==◌, ◌&&◌, ◌||◌, not, nat_le, MatchBool, if◌then◌else◌}
use Rattle.std.specs.List.{AllByRecursion, list_any}
use Rattle.std.proofs.lemmas.Bool.Decides.{nat_tests}
use Rattle.key_names.specs.declared.entries.VEntry.{VEntry}
use Rattle.key_names.specs.declared.events.Answer.TheVariants.{Ok as Done}
use Rattle.key_names.specs.Kernel.Flags.{is_bad}
use Rattle.key_names.specs.declared.point.Point.TheVariants.{Start, Written, Serve, End}
use Rattle.key_names.specs.Kernel.Points.{is_same_point}
use Rattle.key_names.specs.Callers.Calls.{Setting, BoundAct}
use Rattle.key_names.specs.Callers.Effects.{Effect, looked, at_cpu, nothing_there}
use Rattle.key_names.specs.Callers.Forms.{Looked}
use Rattle.key_names.specs.Kernel.VgetrandomState.{VgetrandomState}
use Rattle.key_names.specs.Kernel.BatchCopy.{copy_entries, state_after_copy, serves_locally}
use Rattle.key_names.specs.Kernel.Vgetrandom.{IsCall}
use Rattle.key_names.specs.Callers.VreadSteps.{NeverFall, looks_of, published_by, is_reached, is_wipe, points_of}
use Rattle.key_names.specs.Callers.Meaning.{CallerState, current_state, with_state, LineMeaning, CallMeaning, ActsMean}
use Rattle.key_names.specs.Callers.Meaning.{ByLocalCopy, ByVgetrandom, LocalOrCall, VreadMeans, tries_local}
use Rattle.judge_lines.specs.LaneFacts.{LaneFacts, AllFit}
use Rattle.key_names.specs.declared.entries.Taken.TheVariants.{User}
use Rattle.key_names.specs.Callers.Answers.{system_answer, served_bytes}
use Rattle.std.proofs.lemmas.Bool.{and_parts}
use Rattle.key_names.proofs.Unique.UniqueAttempts.{not_zero}
use Rattle.judge_lines.specs.Inferred.{AllFill, FillsPart, first_sign}
use Rattle.judge_lines.specs.declared.inferred.Sign.TheVariants.{Nowhere as nowhere}
use Rattle.judge_lines.proofs.RowShapes.{is_zero}
use Rattle.judge_vread.specs.declared.seen.SeenStep.{SeenStep}
use Rattle.judge_vread.specs.declared.seen.SeenStep.TheVariants.{Unready, Ready, Pool, Base, Resumed, Cpu, Elsewhere}
use Rattle.judge_vread.specs.declared.inside.Reached.TheVariants.{Nothing}
use Rattle.judge_vread.specs.Recipe.{bytes_made, copy_recipe}
use Rattle.judge_vread.specs.Seen.{AllSeen, LookFits, rises}
use Rattle.judge_vread.specs.Inside.{inside_of, includes}
use Rattle.judge_vread.specs.Path.{published, Followed, leaving, at_end, by_vgetrandom, copy_or_call, followed}
use Rattle.judge_vread.specs.Laws.{VreadFills, meaning_of, FollowedIsVread, IsFollowed, VreadIsFollowed, CalledSays, ActJoins}
use Rattle.judge_vread.proofs.SeenShapes.{Shape, effects_in, shaped, seen_nothing, see_at}
use Rattle.judge_vread.proofs.AttemptShapes.{published_is, Known}
use Rattle.judge_vread.proofs.CalledSays.{called_says}
use Rattle.judge_vread.proofs.CallPoints.{acts_by}
use Rattle.judge_vread.proofs.CallsInferred.{Call, vgetrandom_inferred}
use Rattle.judge_vread.proofs.CallsFollowed.{vgetrandom_followed}

-- ---- the looks of a vread never fall

true_both : (a b : Bool) → a ≡ true → b ≡ true → (a && b) ≡ true
true_both a b p q = ap (λ x. x && b) p ∙ q

le_of : (a b : ℕ) → nat_le a b ≡ true → a ≤ b
le_of a b e = grind (arith, nat_tests)

le_is : (a b : ℕ) → a ≤ b → nat_le a b ≡ true
le_is a b e = grind (arith, nat_tests)

zero_of : (a : ℕ) → (a == 0) ≡ true → a ≡ 0
zero_of a e = grind (arith, nat_tests)

-- the generations in `looks` never fall, and the first of them is not below `last`
abbrev From : ℕ → List ℕ → Type 0
From last looks = NeverFall (last ∷ looks)

rise_looks : (cpu last : ℕ) (seen : List SeenStep) (s : Shape cpu seen) → rises last seen ≡ true →
    From last (looks_of (effects_in cpu seen s))
rise_looks cpu last [] s e = tt
rise_looks cpu last (Unready ∷ seen) s e =
    let p = and_parts (last == 0) (rises last seen) e in
    let none : last ≡ 0 = zero_of last p.0 in
    let P : ℕ → Type 0 = λ x. From x (looks_of (effects_in cpu seen s.1)) in
    (omega arith, subst P none (rise_looks cpu last seen s.1 p.1))
rise_looks cpu last (Ready g ∷ seen) s e =
    let p = and_parts (nat_le last g) (rises g seen) e in (le_of last g p.0, rise_looks cpu g seen s.1 p.1)
rise_looks cpu last (Pool ∷ seen) s e = rise_looks cpu last seen s.1 e
rise_looks cpu last (Base key ∷ seen) s e = rise_looks cpu last seen s.1 e
rise_looks cpu last (Resumed ∷ seen) s e = rise_looks cpu last seen s.1 e
rise_looks cpu last (Cpu key ∷ seen) s e = rise_looks cpu last seen s.1 e
rise_looks cpu last (Elsewhere ∷ seen) (((at_cpu v), h), s) e = rise_looks cpu last seen s e
rise_looks cpu last (Elsewhere ∷ seen) ((nothing_there, h), s) e = rise_looks cpu last seen s e
rise_looks cpu last (Elsewhere ∷ seen) ((d, h), s) e = absurd h

looks_rise : (cpu last : ℕ) (seen : List SeenStep) (s : Shape cpu seen) → From last (looks_of (effects_in cpu seen s)) →
    rises last seen ≡ true
looks_rise cpu last [] s h = refl
looks_rise cpu last (Unready ∷ seen) s h =
    let none : last ≡ 0 = omega (arith, h.0) in
    let P : ℕ → Type 0 = λ x. From x (looks_of (effects_in cpu seen s.1)) in
    true_both (last == 0) (rises last seen) (is_zero last none) (looks_rise cpu last seen s.1 (subst P (sym none) h.1))
looks_rise cpu last (Ready g ∷ seen) s h =
    true_both (nat_le last g) (rises g seen) (le_is last g h.0) (looks_rise cpu g seen s.1 h.1)
looks_rise cpu last (Pool ∷ seen) s h = looks_rise cpu last seen s.1 h
looks_rise cpu last (Base key ∷ seen) s h = looks_rise cpu last seen s.1 h
looks_rise cpu last (Resumed ∷ seen) s h = looks_rise cpu last seen s.1 h
looks_rise cpu last (Cpu key ∷ seen) s h = looks_rise cpu last seen s.1 h
looks_rise cpu last (Elsewhere ∷ seen) (((at_cpu v), p), s) h = looks_rise cpu last seen s h
looks_rise cpu last (Elsewhere ∷ seen) ((nothing_there, p), s) h = looks_rise cpu last seen s h
looks_rise cpu last (Elsewhere ∷ seen) ((d, p), s) h = absurd p

from_zero : (looks : List ℕ) → NeverFall looks → From 0 looks
from_zero [] h = tt
from_zero (g ∷ looks) h = (omega arith, h)

without_zero : (last : ℕ) (looks : List ℕ) → From last looks → NeverFall looks
without_zero last [] h = tt
without_zero last (g ∷ looks) h = h.1

known_from : (cpu last : ℕ) → 1 ≤ last → (seen : List SeenStep) (s : Shape cpu seen) →
    From last (looks_of (effects_in cpu seen s)) → AllByRecursion LookFits seen → Known (effects_in cpu seen s)
known_from cpu last some [] s h fits = tt
known_from cpu last some (Unready ∷ seen) s h fits = (let low : last ≤ 0 = h.0 in absurd (omega arith))
known_from cpu last some (Ready g ∷ seen) s h fits = (s.0, fits.0, known_from cpu g s.0 seen s.1 h.1 fits.1)
known_from cpu last some (Pool ∷ seen) s h fits = known_from cpu last some seen s.1 h fits.1
known_from cpu last some (Base key ∷ seen) s h fits = known_from cpu last some seen s.1 h fits.1
known_from cpu last some (Resumed ∷ seen) s h fits = known_from cpu last some seen s.1 h fits.1
known_from cpu last some (Cpu key ∷ seen) s h fits = known_from cpu last some seen s.1 h fits.1
known_from cpu last some (Elsewhere ∷ seen) (((at_cpu v), p), s) h fits = known_from cpu last some seen s h fits.1
known_from cpu last some (Elsewhere ∷ seen) ((nothing_there, p), s) h fits = known_from cpu last some seen s h fits.1
known_from cpu last some (Elsewhere ∷ seen) ((d, p), s) h fits = absurd p

-- ---- if the code can follow steps as a vread, they are a vread

refused : (b : Bool) (o : Option Followed) (f : Followed) → b ≡ false → (if b then o else None) ≡ Some f → ⊥
refused true o f p e = cc
refused false o f p e = cc

no_acts_left : (set : Setting) (f : BoundAct → Bool) (acts : List BoundAct) (ms : List LineMeaning) →
    (length acts == 0) ≡ true → ActsMean set f acts ms → ms ≡ []
no_acts_left set f [] [] none h = refl
no_acts_left set f [] (m ∷ ms) none h = absurd h
no_acts_left set f (act ∷ acts) ms none h =
    (let p : (suc (length acts) == 0) ≡ false = not_zero (suc (length acts)) (omega arith) in absurd cc)

-- if there are no acts, an empty list of meanings is the meaning of the acts
none_done : (set : Setting) (f : BoundAct → Bool) (acts : List BoundAct) (ms : List LineMeaning) →
    (length acts == 0) ≡ true → ms ≡ [] → ActsMean set f acts ms
none_done set f [] ms none is = let P : List LineMeaning → Type 0 = λ x. ActsMean set f [] x in subst P (sym is) tt
none_done set f (act ∷ acts) ms none is =
    (let p : (suc (length acts) == 0) ≡ false = not_zero (suc (length acts)) (omega arith) in absurd cc)

module _ (cf : LaneFacts) (n flags : ℕ) (acts : List BoundAct) (before : CallerState) (ms : List LineMeaning) where
  abbrev set : Setting
  set = before.setting

  abbrev s : VgetrandomState
  s = current_state before

  abbrev Inside_ : Followed → Type 0
  Inside_ f = ActsMean set (λ act. includes f.path.reached act.point) acts ms

  abbrev Is : (effects : List Effect) → Followed → Type 0
  Is effects f = (entries : List VEntry) × ByVgetrandom n flags acts (meaning_of before effects ms entries f)

  called_is : (effects : List Effect) (f : Followed) → Inside_ f →
      Call cf set n flags (first_sign effects) acts (IsCall n flags s) effects f → Is effects f
  called_is effects f inside k = (
    k.outcome.entries,
    record {
      steps = k.steps;
      outcome = k.outcome;
      is_call = k.leads;
      shows = k.shows;
      wipes = k.wipes;
      inside = acts_by set (λ act. includes f.path.reached act.point) (is_reached (points_of k.steps))
          (λ act. sym (k.which act)) acts ms inside;
      answer = k.answer;
      shown = k.shown;
      entries = refl;
      after = ap (with_state before) (sym k.state);
    },
  )

  abbrev AttemptResult : (effects : List Effect) → Followed → Type 0
  AttemptResult effects f = (entries : List VEntry)
      × Looked (LocalOrCall n flags acts (meaning_of before effects ms entries f)) effects

  -- let the first look find a generation at which the state allows no copy without a vgetrandom call. Then the followed
  -- steps are a vgetrandom call
  not_local : (g : ℕ) (rest : List Effect) (f : Followed) → serves_locally (published_by g) s n ≡ false →
      Is (looked g ∷ rest) f → AttemptResult (looked g ∷ rest) f
  not_local g rest f other k =
      let m = meaning_of before (looked g ∷ rest) ms k.0 f in
      let P : Bool → Type 0 = λ b. MatchBool b (ByLocalCopy n rest m) (ByVgetrandom n flags acts m) in
      (k.0, (g, rest, refl, subst P (sym other) k.1))

  by_copy : (g : ℕ) (seen : List SeenStep) (sh : Shape set.cpu seen) (f : Followed) →
      serves_locally (published_by g) s n ≡ true → (length acts == 0) ≡ true → Inside_ f →
      leaving (state_after_copy s 0 n) (at_end (copy_recipe s 0 n) Nothing seen) ≡ Some f →
      AttemptResult (looked g ∷ effects_in set.cpu seen sh) f
  by_copy g [] sh f serves none inside e =
      let is : record {
        path = record { answer = Done; served = copy_recipe s 0 n; reached = Nothing };
        state = state_after_copy s 0 n;
      } ≡ f = cc in
      let m : Followed → CallMeaning = λ x. meaning_of before (looked g ∷ []) ms (copy_entries s 0 n) x in
      let P : Bool → Type 0 = λ b.
      MatchBool b (ByLocalCopy n [] (m f)) (ByVgetrandom n flags acts (m f)) in
      let Q : Followed → Type 0 = λ x. ByLocalCopy n [] (m x) in (
        copy_entries s 0 n,
        (
          g,
          [],
          refl,
          subst P (sym serves) (subst Q is (record {
            no_more = refl;
            answer = refl;
            shown = refl;
            no_acts = no_acts_left set (λ act. includes f.path.reached act.point) acts ms none inside;
            entries = refl;
            after = refl;
          })),
        ),
      )
  by_copy g (x ∷ seen) sh f serves none inside e = absurd cc

  tried_is : (seen : List SeenStep) (sh : Shape set.cpu seen) (f : Followed) → AllByRecursion LookFits seen →
      VreadFills cf set n (effects_in set.cpu seen sh) → is_bad flags ≡ false → (length acts == 0) ≡ true → Inside_ f →
      copy_or_call n flags (inside_of acts) s seen ≡ Some f → AttemptResult (effects_in set.cpu seen sh) f
  tried_is (Ready g ∷ seen) sh f fits fill good none inside e = go (serves_locally (published g) s n) refl e
    where
      same : published g ≡ published_by g
      same = sym (published_is g sh.0 fits.0)

      go : (b : Bool) → serves_locally (published g) s n ≡ b →
          (if b then leaving (state_after_copy s 0 n) (at_end (copy_recipe s 0 n) Nothing seen)
          else by_vgetrandom n flags (inside_of acts) s (Ready g ∷ seen)) ≡ Some f →
          AttemptResult (effects_in set.cpu (Ready g ∷ seen) sh) f
      go true is e =
          by_copy g seen sh.1 f (ap (λ x. serves_locally x s n) (sym same) ∙ is) none inside e
      go false is e =
          not_local g (effects_in set.cpu seen sh.1) f (ap (λ x. serves_locally x s n) (sym same) ∙ is)
          (called_is (looked g ∷ effects_in set.cpu seen sh.1) f inside
          (vgetrandom_inferred cf set n flags (first_sign (effects_in set.cpu (Ready g ∷ seen) sh)) acts s (Ready g ∷ seen) sh f
          nowhere nowhere fill fits e))
  tried_is (Unready ∷ seen) sh f fits fill good none inside e =
      not_local 0 (effects_in set.cpu seen sh.1) f refl (called_is (looked 0 ∷ effects_in set.cpu seen sh.1) f inside
      (vgetrandom_inferred cf set n flags (first_sign (effects_in set.cpu (Unready ∷ seen) sh)) acts s (Unready ∷ seen) sh f
      nowhere nowhere fill fits e))
  tried_is _ sh f fits fill good none inside e = absurd (refused (is_bad flags) _ f good e)

pub vread_of_followed : FollowedIsVread
vread_of_followed cf n flags acts before effects seen f ms sees fits fill e inside =
    let P : List Effect → Type 0 = λ d.
    (entries : List VEntry) × VreadMeans n flags acts (meaning_of before d ms entries f) in
    subst P (sym w.1) (go (rises 0 seen) refl e)
  where
    set : Setting
    set = before.setting

    w : (sh : Shape before.setting.cpu seen) × (effects ≡ effects_in before.setting.cpu seen sh)
    w = shaped before.setting.cpu seen effects sees

    ds : List Effect
    ds = effects_in before.setting.cpu seen w.0

    fill' : VreadFills cf before.setting n (effects_in before.setting.cpu seen w.0)
    fill' = let P : List Effect → Type 0 = λ d. VreadFills cf before.setting n d in subst P w.1 fill

    called : by_vgetrandom n flags (inside_of acts) (current_state before) seen ≡ Some f →
        (entries : List VEntry) × ByVgetrandom n flags acts
        (meaning_of before (effects_in before.setting.cpu seen w.0) ms entries f)
    called e =
        called_is cf n flags acts before ms (effects_in before.setting.cpu seen w.0) f inside
        (vgetrandom_inferred cf before.setting n flags (first_sign (effects_in before.setting.cpu seen w.0)) acts
        (current_state before) seen w.0 f nowhere nowhere fill' fits e)

    Ways : Bool → List VEntry → Type 0
    Ways t entries = let m = meaning_of before (effects_in before.setting.cpu seen w.0) ms entries f in
        MatchBool t (Looked (LocalOrCall n flags acts m) (effects_in before.setting.cpu seen w.0))
        (ByVgetrandom n flags acts m)

    done_by : (a z b : Bool) → (length acts == 0) ≡ a → is_bad flags ≡ b →
        (if not a || (z || b) then by_vgetrandom n flags (inside_of acts) (current_state before) seen
        else copy_or_call n flags (inside_of acts) (current_state before) seen) ≡ Some f →
        (entries : List VEntry) × Ways (a && (not z && not b)) entries
    done_by true false false none good e =
        tried_is cf n flags acts before ms seen w.0 f fits fill' good none inside e
    done_by true false true none good e = called e
    done_by true true b none good e = called e
    done_by false z b none good e = called e

    go : (r : Bool) → rises 0 seen ≡ r →
        (if r then (if (inside_of acts).any || (n == 0 || is_bad flags)
        then by_vgetrandom n flags (inside_of acts) (current_state before) seen
        else copy_or_call n flags (inside_of acts) (current_state before) seen) else None) ≡ Some f →
        (entries : List VEntry) × VreadMeans n flags acts
        (meaning_of before (effects_in before.setting.cpu seen w.0) ms entries f)
    go true r e =
        let k = done_by (length acts == 0) (n == 0) (is_bad flags) refl refl e in (
          k.0,
          record {
            looks = without_zero 0 (looks_of (effects_in before.setting.cpu seen w.0))
                (rise_looks before.setting.cpu 0 seen w.0 r);
            done_by = k.1;
          },
        )
    go false r e = absurd cc

-- ---- if steps are a vread, the code can follow them

module _ (cf : LaneFacts) (n flags : ℕ) (acts : List BoundAct) (m : CallMeaning) (looks : NeverFall (looks_of m.own.effects))
    (fit : AllFit cf m.own.effects) where
  abbrev cpu : ℕ
  cpu = m.before.setting.cpu

  abbrev st : VgetrandomState
  st = current_state m.before

  known_after : (seen : List SeenStep) → AllSeen cpu seen m.own.effects → AllByRecursion LookFits seen → (g : ℕ)
      (rest : List Effect) → m.own.effects ≡ looked g ∷ rest → 1 ≤ g → Known rest
  known_after seen sees fits g rest is some = go seen (see_at cpu seen is sees) fits
    where
      rising : From g (looks_of rest)
      rising = let P : List Effect → Type 0 = λ d. NeverFall (looks_of d) in subst P is looks

      go : (seen : List SeenStep) → AllSeen cpu seen (looked g ∷ rest) → AllByRecursion LookFits seen → Known rest
      go [] h fits = absurd h
      go (x ∷ xs) h fits =
          let w = shaped cpu xs rest h.1 in
          let P : List Effect → Type 0 = λ d. From g (looks_of d) in
          let K : List Effect → Type 0 = λ d. Known d in
          subst K (sym w.1) (known_from cpu g some xs w.0 (subst P w.1 rising) fits.1)

  by_call : (seen : List SeenStep) → AllSeen cpu seen m.own.effects → AllByRecursion LookFits seen →
      ByVgetrandom n flags acts m → followed n flags (inside_of acts) st seen
      ≡ by_vgetrandom n flags (inside_of acts) st seen → IsFollowed n flags acts m seen
  by_call seen sees fits v p =
      let k = vgetrandom_followed cf m.before.setting n flags acts st seen m.own.effects v.steps v.outcome v.is_call v.shows
      fit sees v.wipes (known_after seen sees fits) in
      record {
        f = k.follows.f;
        is = p ∙ k.follows.is;
        answer = v.answer ∙ sym k.follows.answer;
        shown = v.shown ∙ sym k.follows.shown;
        after = v.after ∙ ap (with_state m.before) k.follows.state_is;
        inside = acts_by m.before.setting (is_reached (points_of v.steps))
            (λ act. includes k.follows.f.path.reached act.point)
            (λ act. k.which act ∙ ap (λ r. includes r act.point) (sym k.follows.reached)) acts m.acts v.inside;
      }

  by_look : (seen : List SeenStep) → AllSeen cpu seen m.own.effects → AllByRecursion LookFits seen →
      (length acts == 0) ≡ true → Looked (LocalOrCall n flags acts m) m.own.effects →
      followed n flags (inside_of acts) st seen ≡ copy_or_call n flags (inside_of acts) st seen →
      IsFollowed n flags acts m seen
  by_look [] sees fits none l p = absurd (see_at cpu [] l.2 sees)
  by_look (Unready ∷ xs) sees fits none l p =
      let h = see_at cpu (Unready ∷ xs) l.2 sees in
      let P : ℕ → Type 0 = λ g. LocalOrCall n flags acts m g l.1 in
      by_call (Unready ∷ xs) sees fits (subst P h.0 l.3) p
  by_look (Ready g ∷ xs) sees fits none l p = go (serves_locally (published g) st n) refl (subst P same l.3)
    where
      h : AllSeen cpu (Ready g ∷ xs) (looked l.0 ∷ l.1)
      h = see_at cpu (Ready g ∷ xs) l.2 sees

      same : published_by l.0 ≡ published g
      same = ap published_by h.0.0 ∙ published_is g h.0.1 fits.0

      P : ℕ → Type 0
      P x = MatchBool (serves_locally x st n) (ByLocalCopy n l.1 m) (ByVgetrandom n flags acts m)

      test : (b : Bool) → serves_locally (published g) st n ≡ b → followed n flags (inside_of acts) st (Ready g ∷ xs)
          ≡ (if b then leaving (state_after_copy st 0 n) (at_end (copy_recipe st 0 n) Nothing xs)
          else by_vgetrandom n flags (inside_of acts) st (Ready g ∷ xs))
      test b is = p ∙ ap (λ x. if x then leaving (state_after_copy st 0 n) (at_end (copy_recipe st 0 n) Nothing xs)
          else by_vgetrandom n flags (inside_of acts) st (Ready g ∷ xs)) is

      go : (b : Bool) → serves_locally (published g) st n ≡ b →
          MatchBool b (ByLocalCopy n l.1 m) (ByVgetrandom n flags acts m) → IsFollowed n flags acts m (Ready g ∷ xs)
      go true is c =
          let nothing : xs ≡ [] = seen_nothing cpu xs (see_at cpu xs c.no_more h.1) in record {
            f = record {
              path = record { answer = Done; served = copy_recipe st 0 n; reached = Nothing };
              state = state_after_copy st 0 n;
            };
            is = test true is ∙ ap (λ x. leaving (state_after_copy st 0 n) (at_end (copy_recipe st 0 n) Nothing x)) nothing;
            answer = c.answer;
            shown = c.shown;
            after = c.after;
            inside = none_done m.before.setting (λ act. includes Nothing act.point) acts m.acts none c.no_acts;
          }
      go false is v = by_call (Ready g ∷ xs) sees fits v (test false is)
  by_look (x ∷ xs) sees fits none l p = absurd (see_at cpu (x ∷ xs) l.2 sees).0

  by_ways : (seen : List SeenStep) → AllSeen cpu seen m.own.effects → AllByRecursion LookFits seen → rises 0 seen ≡ true →
      MatchBool (tries_local n flags acts) (Looked (LocalOrCall n flags acts m) m.own.effects) (ByVgetrandom n flags acts m) →
      IsFollowed n flags acts m seen
  by_ways seen sees fits r v = go (length acts == 0) (n == 0) (is_bad flags) refl inferred v
    where
      inferred : followed n flags (inside_of acts) st seen
          ≡ (if not (length acts == 0) || (n == 0 || is_bad flags) then by_vgetrandom n flags (inside_of acts) st seen
          else copy_or_call n flags (inside_of acts) st seen)
      inferred = ap (λ x. if x then (if (inside_of acts).any || (n == 0 || is_bad flags)
          then by_vgetrandom n flags (inside_of acts) st seen
          else copy_or_call n flags (inside_of acts) st seen) else None) r

      go : (a z b : Bool) → (length acts == 0) ≡ a → followed n flags (inside_of acts) st seen
          ≡ (if not a || (z || b) then by_vgetrandom n flags (inside_of acts) st seen
          else copy_or_call n flags (inside_of acts) st seen) →
          MatchBool (a && (not z && not b)) (Looked (LocalOrCall n flags acts m) m.own.effects) (ByVgetrandom n flags acts m) →
          IsFollowed n flags acts m seen
      go true false false none p v = by_look seen sees fits none v p
      go true false true none p v = by_call seen sees fits v p
      go true true b none p v = by_call seen sees fits v p
      go false z b none p v = by_call seen sees fits v p

pub followed_of_vread : VreadIsFollowed
followed_of_vread cf n flags acts m seen v sees fits fit =
    let w = shaped m.before.setting.cpu seen m.own.effects sees in
    let P : List Effect → Type 0 = λ d. NeverFall (looks_of d) in
    by_ways cf n flags acts m v.looks fit seen sees fits (looks_rise m.before.setting.cpu 0 seen w.0
    (from_zero (looks_of (effects_in m.before.setting.cpu seen w.0)) (subst P w.1 v.looks))) v.done_by

-- ---- the laws about system calls, and about acts inside a vread

pub call_says : CalledSays
call_says c set n flags effects seen inferred sees fill e =
    let w = shaped set.cpu seen effects sees in
    let P : List Effect → Type 0 = λ d. (inferred.answer ≡ system_answer flags d) × (bytes_made inferred.served ≡ served_bytes d) in
    let F : List Effect → Type 0 = λ d. AllFill (FillsPart c set (User n) (User n) (first_sign effects)) nowhere nowhere d in
    let k = called_says c set (User n) n flags (first_sign effects) nowhere nowhere seen w.0 inferred (subst F w.1 fill) e in
    subst P (sym w.1) (k.answer, k.bytes)

-- if an act is appended to a list of acts, `inside_after` of the list's `Inside` is the `Inside` of the longer list
or_false : (b : Bool) → (b || false) ≡ (false || b)
or_false true = refl
or_false false = refl

any-more : (f : BoundAct → Bool) (acts : List BoundAct) (act : BoundAct) →
    list_any f (acts ++ act ∷ []) ≡ (list_any f acts || f act)
any-more f [] act = or_false (f act)
any-more f (a ∷ acts) act = go (f a) (any-more f acts act)
  where
    go : (b : Bool) → list_any f (acts ++ act ∷ []) ≡ (list_any f acts || f act) →
        (b || list_any f (acts ++ act ∷ [])) ≡ ((b || list_any f acts) || f act)
    go true more = refl
    go false more = more

some_acts : (acts : List BoundAct) (act : BoundAct) → not (length (acts ++ act ∷ []) == 0) ≡ true
some_acts [] act = refl
some_acts (a ∷ acts) act = ap not (not_zero (suc (length (acts ++ act ∷ []))) (omega arith))

pub act_joins : ActJoins
act_joins acts act = λ i. record {
  any = some_acts acts act i;
  start = any-more (λ bound. is_same_point bound.point Start && is_wipe bound.act) acts act i;
  written = any-more (λ bound. is_same_point bound.point Written && is_wipe bound.act) acts act i;
  serve = any-more (λ bound. is_same_point bound.point Serve && is_wipe bound.act) acts act i;
  end = any-more (λ bound. is_same_point bound.point End && is_wipe bound.act) acts act i;
}
