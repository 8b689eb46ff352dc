-- A read out of a caller's vgetrandom state has the effect `VreadMakes`, whether a copy or a call served it.
use Rattle.std.proofs.Common.{◌≡◌, ℕ, ◌≤◌, Bool, true, false, not, Ok, List, [], ◌∷◌, length, map, refl, sym, ap, ◌∙◌, subst, arith, inl, inr}
use Rattle.std.specs.Prelude.{Result, ◌⊎◌, MatchBool, Option, Some, None, ◌==◌, ◌&&◌}
use Rattle.std.proofs.lemmas.Bool.{ne_eqb}
use mathlib.Core.Logic.{dite}
use native.Mathlib.Decide.{ℕ_discrete}
use Rattle.key_names.specs.declared.names.LaneId.{LaneId}
use Rattle.key_names.specs.declared.names.Step.{Step}
use Rattle.key_names.specs.declared.names.LaneId.TheVariants.{Pool as PoolLane, Base as BaseLane, Cpu as CpuLane}
use Rattle.key_names.specs.declared.errno.Errno.{Errno}
use Rattle.key_names.specs.declared.events.Answer.{Answer}
use Rattle.key_names.specs.Kernel.Flags.{is_bad}
use Rattle.key_names.specs.Lanes.Book.{Lists}
use Rattle.key_names.specs.Kernel.BatchCopy.{has_left, serves_locally, copy_bytes, copy_entries, state_after_copy}
use Rattle.key_names.specs.Callers.Effects.{Effect, effect_or, effect_at, effect_of, effects_of, pool_visit, base_visit, cpu_visit, at_pool, at_base, at_cpu}
use Rattle.key_names.specs.Callers.Effects as effect
use Rattle.key_names.specs.Callers.Forms.{Looked}
use Rattle.key_names.specs.Callers.Meaning.{CallerState, CallMeaning, VreadMeans, ByLocalCopy, ByVgetrandom, LocalOrCall, current_state, with_state, tries_local}
use Rattle.key_names.specs.Transcripts.SeenLine.{Shown, bytes_or_none}
use Rattle.key_names.specs.Kernel.Vgetrandom.{read, failed, HostStep, Ending, no_bytes, by_batch, by_system, FromLook, BySystem, IsCall}
use Rattle.key_names.specs.Kernel.VgetrandomState.{VgetrandomState}
use Rattle.key_names.specs.Callers.VreadSteps.{Shows, ending_answer, ending_shown, published_by, looks_of, NeverFall}
use Rattle.key_names.proofs.Vgetrandom.Attempts.{match_true, match_false}
use Rattle.lane_table.specs.declared.view.View.{View}
use Rattle.lane_table.specs.BookLists.{book_lists}
use Rattle.lane_table.specs.Calls.{SameView}
use Rattle.lane_table.specs.Advances.{MadeStep, looked, visited, step_of, looks_in, floor}
use Rattle.vdso_state.specs.declared.outcome.VEnd.{VEnd}
use Rattle.vdso_state.specs.Call.{EndsAs}
use Rattle.rng_core.specs.declared.setting.Setting.{Setting}
use Rattle.rng_core.specs.Traces.{Moment, TraceRecords, knowing}
use Rattle.rng_core.specs.Makes.{Makes, setting_of, result_answer, given}
use Rattle.rng_core.specs.VreadMakes.{done_of, LocallyServed, Refused, Unserved, LeftToSystem, Called, VreadLine, VreadMakes, vread_meaning}
use Rattle.rng_core.proofs.ActRuns.{Risen, sees_risen}
use Rattle.rng_core.proofs.Hosting.{none_left, published_more}

-- The looks among the effects of a read

looks_below : (effects : List Effect) → {E : Type 0} (d : E → Effect) → ((e : E) → looks_of (d e ∷ effects) ≡ looks_of effects) →
    (o : Option E) → looks_of (effect_or d o ∷ effects) ≡ looks_of effects
looks_below effects d same None = refl
looks_below effects d same (Some e) = same e

-- the effect of a visit adds no look to the looks of the other effects
visit_looks : (lists : Lists) (l : LaneId) (place : ℕ) (effects : List Effect) →
    looks_of (effect_at lists l place ∷ effects) ≡ looks_of effects
visit_looks lists PoolLane place effects = looks_below effects (λ e. at_pool (pool_visit lists place e)) (λ e. refl) _
visit_looks lists BaseLane place effects = looks_below effects (λ e. at_base (base_visit lists place e)) (λ e. refl) _
visit_looks lists (CpuLane c) place effects = looks_below effects (λ e. at_cpu (cpu_visit lists c place e)) (λ e. refl) _

pub same_looks : (lists : Lists) (made_steps : List MadeStep) → looks_of (effects_of lists (map step_of made_steps)) ≡
    looks_in made_steps
same_looks lists [] = refl
same_looks lists (looked g ∷ made_steps) = ap (λ (l : List ℕ). g ∷ l) (same_looks lists made_steps)
same_looks lists (visited mark e ∷ made_steps) = visit_looks lists mark.lane mark.place
    (effects_of lists (map step_of made_steps))
    ∙ same_looks lists made_steps

pub never_fall : (low : ℕ) (looks : List ℕ) (high : ℕ) → Risen low looks high → NeverFall looks
never_fall low [] high h = tt
never_fall low (a ∷ []) high h = tt
never_fall low (a ∷ b ∷ rest) high h = (h.1.0, never_fall a (b ∷ rest) high h.1)

recorded_rise : (lists : Lists) (set : Setting) (l m : Moment) (made_steps : List MadeStep) →
    TraceRecords set l m made_steps →
    Risen (floor l.view) (looks_of (effects_of lists (map step_of made_steps))) (floor m.view)
recorded_rise lists set l m made_steps recorded =
    subst (λ (looks : List ℕ). Risen (floor l.view) looks (floor m.view)) (sym (same_looks lists made_steps))
    (sees_risen m.view (floor l.view) (floor m.view) made_steps recorded.went.sees)

-- A batch that cannot serve at one generation cannot serve at a later one either

nothing_and : (x : Bool) → (x && false) ≡ false
nothing_and true = refl
nothing_and false = refl

other_generation : (g n : ℕ) (s : VgetrandomState) → (g == s.generation) ≡ false → serves_locally g s n ≡ false
other_generation g n s e = ap (λ (b : Bool). not (g == 0) && (b && (not s.in_use && has_left s n))) e
    ∙ nothing_and (not (g == 0))

refused_later : (a b n : ℕ) (s : VgetrandomState) → s.generation ≤ a → a ≤ b → serves_locally a s n ≡ false →
    serves_locally b s n ≡ false
refused_later a b n s low less refuses = dite (ℕ_discrete b s.generation)
    (λ e. subst (λ (z : ℕ). serves_locally z s n ≡ false) (let f : a ≡ b = omega arith in f) refuses)
    (λ ne. other_generation b n s (ne_eqb b s.generation ne))

-- The answer and the data of a call of vgetrandom

abbrev pub answered : Result VEnd Errno → Answer
answered result = result_answer (done_of result)

abbrev pub showing : Result VEnd Errno → List ℕ → Shown
showing result buf = bytes_or_none (given (done_of result) buf)

pub ending_is : (n : ℕ) (ending : Ending) (result : Result VEnd Errno) (buf : List ℕ) → length buf ≡ n →
    (ending ≡ no_bytes → n ≡ 0) → EndsAs ending result buf →
    (answered result ≡ ending_answer ending) × (showing result buf ≡ ending_shown ending)
ending_is n no_bytes result buf long none e = let empty = none_left buf (long ∙ none refl) in
    (ap answered e, (λ i. showing (e i) (empty i)))
ending_is n (by_batch bytes) result buf long none e = (ap answered e.0, (λ i. showing (e.0 i) (e.1 i)))
ending_is n (by_system (read bytes visit)) result buf long none e = (ap answered e.0, (λ i. showing (e.0 i) (e.1 i)))
ending_is n (by_system (failed errno)) result buf long none e =
    (ap answered e, ap (λ (r : Result VEnd Errno). showing r buf) e)

-- A read: a copy out of the batch, or a call of vgetrandom

-- from `v` to `w` the batch did not serve a read. The known lists did not change, and the generation seen did not fall
pub record Stayed (v w : View) : Type 0 where
  pub same : SameView v w
  pub lanes : w.lanes ≡ v.lanes
  pub stamp : w.stamp ≡ v.stamp
  pub floors : floor v ≤ floor w

stayed_at : (v w : View) → w ≡ v → Stayed v w
stayed_at v w e = record {
  same = record {
    first = ap (λ (z : View). z.first) e;
    share = ap (λ (z : View). z.share) e;
    halvings = ap (λ (z : View). z.halvings) e;
    sized = ap (λ (z : View). length z.lanes) e;
  };
  lanes = ap (λ (z : View). z.lanes) e;
  stamp = ap (λ (z : View). z.stamp) e;
  floors = let same = ap floor e in omega arith;
}

stayed_by : (n flags : ℕ) (s : VgetrandomState) (v w : View) → Unserved n flags s v w → (b : Bool) →
    tries_local n flags [] ≡ b → Stayed v w
stayed_by n flags s v w k false e = stayed_at v w (k.untried e)
stayed_by n flags s v w k true e = let g = (k.tried e).glanced in
    record {
      same = g.same;
      lanes = g.lanes;
      stamp = g.stamp;
      floors = let a = g.above in let b = g.known in omega arith;
    }

pub stayed : (n flags : ℕ) (s t : VgetrandomState) (answer : Answer) (shown : Shown) (set : Setting) (l m : Moment)
    (k : VreadMakes n flags s t answer shown set l m) → Stayed l.view k.looked
stayed n flags s t answer shown set l m k = go k.began
  where
    go : ((k.looked ≡ l.view) × (out : List ℕ) × LocallyServed n flags s t out set l m)
        ⊎ Unserved n flags s l.view k.looked →
        Stayed l.view k.looked
    go (inl served) = stayed_at l.view k.looked served.0
    go (inr unserved) = stayed_by n flags s l.view k.looked unserved (tries_local n flags []) refl

-- the batch of the state `s` served the read of `n` bytes, and the state became `t`
module _ (n flags : ℕ) (s t : VgetrandomState) (out : List ℕ) (set : Setting) (l m : Moment)
    (k : LocallyServed n flags s t out set l m) where
  local_line : (before : CallerState) → current_state before ≡ s →
      ByLocalCopy n [] (vread_meaning (effect.looked k.found ∷ []) (result_answer {T = Unit {0}} (Ok tt))
      (bytes_or_none out) (copy_entries s 0 n) before t)
  local_line before is = record {
    no_more = refl;
    answer = refl;
    shown = ap bytes_or_none (k.bytes ∙ ap (λ (z : VgetrandomState). copy_bytes z 0 n) (sym is));
    no_acts = refl;
    entries = ap (λ (z : VgetrandomState). copy_entries z 0 n) (sym is);
    after = ap (with_state before) (k.state ∙ ap (λ (z : VgetrandomState). state_after_copy z 0 n) (sym is));
  }

  pub served_read : VreadMakes n flags s t (result_answer {T = Unit {0}} (Ok tt)) (bytes_or_none out) set l m
  served_read = record {
    looked = l.view;
    began = inl (refl, out, k);
    entries = copy_entries s 0 n;
    did = record {
      made_steps = looked k.found ∷ [];
      recorded = k.recorded;
      conforms = λ lanes visits callers c. λ before set_is state_is. record {
        looks = tt;
        done_by = match_true _ _ (tries_local n flags []) k.tries (
          k.found,
          [],
          refl,
          match_true _ _ (serves_locally (published_by k.found) (current_state before) n)
              (ap (λ (z : VgetrandomState). serves_locally (published_by k.found) z n) state_is ∙ k.serves)
              (local_line before state_is),
        );
      };
    };
  }

good_flags : (x y : Bool) → (x && not y) ≡ true → y ≡ false
good_flags true true e = absurd (cc e)
good_flags false true e = absurd (cc e)
good_flags x false e = refl

-- a call of vgetrandom on the state `s` served the read of `n` bytes, and the state became `t`
module _ (n flags : ℕ) (s t : VgetrandomState) (answer : Answer) (shown : Shown) (set : Setting) (l m o : Moment)
    (low : s.generation ≤ published_by (floor l.view))
    (left : Unserved n flags s l.view m.view) (k : Called n flags s t answer shown set m o)
  where
    module _ (effects : List Effect) (shows : Shows (setting_of set) k.steps effects)
        (rise : Risen (floor m.view) (looks_of effects) (floor o.view)) (before : CallerState)
        (set_is : before.setting ≡ setting_of set) (state_is : current_state before ≡ s) where
      abbrev meant : CallMeaning
      meant = vread_meaning effects answer shown k.outcome.entries before t

      by_call : ByVgetrandom n flags [] meant
      by_call = record {
        steps = k.steps;
        outcome = k.outcome;
        is_call = subst (λ (z : VgetrandomState). IsCall n flags z k.steps k.outcome) (sym state_is) k.is_call;
        shows = subst (λ z. Shows z k.steps effects) (sym set_is) shows;
        wipes = k.wipes;
        inside = tt;
        answer = k.answers;
        shown = k.shows;
        entries = refl;
        after = ap (with_state before) k.state;
      }

      -- after a look that found that the batch cannot serve (`Refused`), the call begins with a look, which finds at
      -- least the same generation
      after_look : (refused : Refused n s l.view m.view) → FromLook n flags s k.steps k.outcome →
          Looked (LocalOrCall n flags [] meant) effects
      after_look refused from =
          let shown = subst (λ (z : List HostStep). Shows (setting_of set) z effects) from.steps_are shows in
          let rises = subst (λ (z : List Effect). Risen (floor m.view) (looks_of z) (floor o.view)) shown.2 rise in
          let a = published_more (floor l.view) refused.found refused.glanced.above in
          let b = published_more refused.found shown.0 (let x = refused.glanced.known in let y = rises.0 in omega arith)
          in (
            shown.0,
            shown.1,
            shown.2,
            match_false _ _ (serves_locally (published_by shown.0) (current_state before) n)
                (ap (λ (z : VgetrandomState). serves_locally (published_by shown.0) z n) state_is
                ∙ refused_later (published_by refused.found) (published_by shown.0) n s (omega arith) b
                refused.refuses) by_call,
          )

      done_by : (b : Bool) → tries_local n flags [] ≡ b →
          MatchBool b (Looked (LocalOrCall n flags [] meant) effects) (ByVgetrandom n flags [] meant)
      done_by false e = by_call
      done_by true e = after_look (left.tried e) (subst (λ (b : Bool). MatchBool b (BySystem n flags s k.steps k.outcome)
          (FromLook n flags s k.steps k.outcome)) (good_flags (not (n == 0)) (is_bad flags) e) k.is_call)

      line : VreadMeans n flags [] meant
      line = record {
        looks = never_fall (floor m.view) (looks_of effects) (floor o.view) rise;
        done_by = done_by (tries_local n flags []) refl;
      }

    called_did : Makes (VreadLine (setting_of set) n flags s t answer shown k.outcome.entries) set m o
    called_did = record {
      made_steps = k.did.made_steps;
      recorded = k.did.recorded;
      conforms = λ lanes visits callers c. λ before set_is state_is. line
          (effects_of (book_lists lanes visits callers) (map step_of k.did.made_steps))
          (k.did.conforms lanes visits callers c)
          (recorded_rise (book_lists lanes visits callers) set m o k.did.made_steps k.did.recorded) before set_is state_is;
    }

    pub called_read : m.steps ≡ l.steps → VreadMakes n flags s t answer shown set l o
    called_read same = record {
      looked = m.view;
      began = inr left;
      entries = k.outcome.entries;
      did = subst (λ (z : List Step). Makes (VreadLine (setting_of set) n flags s t answer shown k.outcome.entries) set
          (knowing m.view z) o) same called_did;
    }

-- suppose that the batch did not serve the read (`LeftToSystem`), and that a call of vgetrandom followed (`Called`).
-- Together they have the effect of the read (`VreadMakes`)
pub left_read : (n n' flags : ℕ) (s s' t : VgetrandomState) (answer : Answer) (shown : Shown) (set : Setting)
    (l m o : Moment) → s.generation ≤ published_by (floor l.view) → n' ≡ n →
    LeftToSystem n flags s s' l m → Called n' flags s' t answer shown set m o →
    VreadMakes n flags s t answer shown set l o
left_read n n' flags s s' t answer shown set l m o low same left k =
    called_read n flags s t answer shown set l m o low left.looked
    (subst (λ (z : VgetrandomState). Called n flags z t answer shown set m o) left.state
    (subst (λ (z : ℕ). Called z flags s' t answer shown set m o) same k))
    left.steps
