-- The effect of a read out of a vgetrandom state follows from the vgetrandom call on the caller's host, with acts
-- inside or without.
use Rattle.std.proofs.Common.{◌≡◌, ℕ, ◌<◌, ◌≤◌, Bool, true, false, not, List, [], ◌∷◌, length, map, drop, refl, sym, ap, ◌∙◌, subst, arith}
use Rattle.std.specs.Prelude.{MatchBool, ◌==◌, ◌&&◌, ◌||◌, ◌^◌, if◌then◌else◌}
use Rattle.std.specs.List.{AllByRecursion}
use Rattle.std.proofs.lemmas.List.{length-map}
use Rattle.std.proofs.lemmas.Bool.{le-leb, ne_eqb}
use Rattle.key_names.specs.declared.events.Answer.{Answer}
use Rattle.key_names.specs.declared.point.Point.{Point}
use Rattle.key_names.specs.Lanes.Book.{Lists}
use Rattle.key_names.specs.Callers.Effects.{Effect, effects_of}
use Rattle.key_names.specs.Callers.Meaning.{CallerState, CallMeaning, ActMeans, ActsMean, VreadMeans, ByVgetrandom, current_state, with_state, tries_local, unused_line}
use Rattle.key_names.specs.Kernel.Flags.{is_bad}
use Rattle.key_names.specs.Transcripts.SeenLine.{Shown, bytes_or_none}
use Rattle.key_names.specs.Texts.TranscriptGrammar.{StepFits}
use Rattle.key_names.specs.Kernel.Vgetrandom.{IsCall}
use Rattle.key_names.specs.Kernel.VgetrandomState.{VgetrandomState}
use Rattle.key_names.specs.Kernel.Points.{is_same_point}
use Rattle.key_names.specs.Callers.VreadSteps.{published_by, Shows, WipesConform, PointReached, points_of, first_points, is_wiped, is_reached, is_wipe, ending_answer, ending_shown, NeverFall}
use Rattle.key_names.proofs.Vgetrandom.Attempts.{match_false}
use Rattle.key_names.proofs.Lists.Each.{each_weaker}
use Rattle.lane_table.specs.declared.view.View.{View}
use Rattle.lane_table.specs.declared.view.Visit.{Visit}
use Rattle.lane_table.specs.BookLists.{StateLists, book_lists}
use Rattle.lane_table.specs.BookLaws.{Continues}
use Rattle.lane_table.specs.Calls.{view}
use Rattle.lane_table.specs.Advances.{step_of, looks_in, floor}
use Rattle.vdso_state.specs.Host.{DoesAll}
use Rattle.vdso_state.specs.Call.{Runs, Finish}
use Rattle.rng_core.specs.declared.vdso.acts.Bound.{Bound}
use Rattle.rng_core.specs.declared.vdso.lane_host.LaneHost.{LaneHost}
use Rattle.rng_core.specs.declared.vdso.attempt.Attempt.TheVariants.{Before}
use Rattle.rng_core.specs.declared.setting.Setting.{Setting}
use Rattle.rng_core.specs.Makes.{setting_of, result_answer, given}
use Rattle.rng_core.specs.VreadMakes.{done_of, Called}
use Rattle.rng_core.specs.Hosted.{conform}
use Rattle.rng_core.specs.Acts.{Ask, ActOutcome, wants, ask_of, asks_of, outcomes_of, is_ready, all_ready, wipes_at, done_line}
use Rattle.rng_core.specs.Acting.{ActConform, act_conform, acting, InsideRan}
use Rattle.rng_core.specs.Hosting.{standing, SameLoans, hosting, IsNewHost, HostCalled}
use Rattle.rng_core.specs.InsideMakes.{IsWaitingAct, bound_acts, outcome_line, inside_meaning, InsideMakes}
use Rattle.rng_core.proofs.ActRuns.{AllDone, AllMeant, came, Own}
use Rattle.rng_core.proofs.Acting.{acted_asks, acted_onward, acted_up_to, acted_own, acted_wipes, acted_done, acted_meant, host_acts}
use Rattle.rng_core.proofs.CallEnds.{EndsWell, call_ends}
use Rattle.rng_core.proofs.Hosting.{none_left, free_has, published_more}
use Rattle.rng_core.proofs.Readings.{ending_is, same_looks, never_fall}

-- Acts that no call has run yet

fresh_one : (b : Bound) → IsWaitingAct b → is_ready b ≡ true
fresh_one b k = ap (λ (x : Bool). x && (b.done || length b.trace == 0)) (le-leb (wants b.act) (2 ^ 20) k.short)
    ∙ (λ i. k.idle i || length (k.empty i) == 0)

pub fresh_ready : (bounds : List Bound) → AllByRecursion IsWaitingAct bounds → all_ready bounds ≡ true
fresh_ready [] all = refl
fresh_ready (b ∷ bounds) all = ap (λ (x : Bool). x && all_ready bounds) (fresh_one b all.0) ∙ fresh_ready bounds all.1

-- an act that did not run
pub record IsUndone (x : ActOutcome) : Type 0 where
  pub idle : x.done ≡ false
  pub empty : x.steps ≡ []

pub fresh_undone : (bounds : List Bound) (out : List ℕ) → AllByRecursion IsWaitingAct bounds →
    AllByRecursion IsUndone (outcomes_of bounds out)
fresh_undone [] out all = tt
fresh_undone (b ∷ bounds) out all = (
  record { idle = all.0.idle; empty = all.0.empty },
  fresh_undone bounds (drop (wants b.act) out) all.1,
)

pub outcomes_long : (bounds : List Bound) (out : List ℕ) → length (outcomes_of bounds out) ≡ length (asks_of bounds)
outcomes_long [] out = refl
outcomes_long (b ∷ bounds) out = let e = outcomes_long bounds (drop (wants b.act) out) in omega arith

-- if none of the acts ran, the outcomes `xs` have the meanings of acts that did not run
pub undone_meant : (set : Setting) (v : View) (asks : List Ask) (xs : List ActOutcome) → AllByRecursion IsUndone xs →
    length xs ≡ length asks → AllMeant set v asks xs
undone_meant set v [] [] all long = tt
undone_meant set v [] (x ∷ xs) all long = absurd (omega arith)
undone_meant set v (a ∷ asks) [] all long = absurd (omega arith)
undone_meant set v (a ∷ asks) (x ∷ xs) all long = (
  record {
    done = λ e lanes visits callers c. let no : true ≡ false = sym e ∙ all.0.idle in absurd (cc no);
    idle = λ e. all.0.empty;
    fits = subst (AllByRecursion StepFits) (sym all.0.empty) tt;
  },
  undone_meant set v asks xs all.1 (omega arith),
)

-- The meanings (`AllMeant`) of the acts inside a call

all_fit : (set : Setting) (w : View) (asks : List Ask) (zs : List ActOutcome) → AllMeant set w asks zs →
    AllByRecursion (λ z. AllByRecursion StepFits z.steps) zs
all_fit set w [] [] all = tt
all_fit set w [] (z ∷ zs) all = absurd all
all_fit set w (a ∷ asks) [] all = absurd all
all_fit set w (a ∷ asks) (z ∷ zs) all = (all.0.fits, all_fit set w asks zs all.1)

wiped_is : (set : Setting) (w : View) (point : Point) (asks : List Ask) (zs : List ActOutcome) →
    AllMeant set w asks zs →
    is_wiped (bound_acts set asks zs) point ≡ wipes_at asks point
wiped_is set w point [] [] all = refl
wiped_is set w point [] (z ∷ zs) all = absurd all
wiped_is set w point (a ∷ asks) [] all = absurd all
wiped_is set w point (a ∷ asks) (z ∷ zs) all =
    ap (λ (b : Bool). (is_same_point a.point point && is_wipe a.act) || b)
    (wiped_is set w point asks zs all.1)

module _ (set : Setting) (w : View) (lanes : ℕ) (visits : ℕ → List Visit) (callers : StateLists)
    (c : Continues lanes w visits)
    (points : List PointReached) where
  abbrev lists : Lists
  lists = book_lists lanes visits callers

  one_means : (a : Ask) (z : ActOutcome)
      (done : z.done ≡ true → ActMeans (setting_of set) a.act (done_line (effects_of lists z.steps) z.answer z.bytes))
      (b : Bool) →
      z.done ≡ b →
      MatchBool b (ActMeans (setting_of set) a.act (outcome_line lists z)) (outcome_line lists z ≡ unused_line)
  one_means a z done true e = subst (ActMeans (setting_of set) a.act)
      (sym (ap (λ (d : Bool). if d then done_line (effects_of lists z.steps) z.answer z.bytes else unused_line) e))
      (done e)
  one_means a z done false e = ap (λ (d : Bool). if d then done_line (effects_of lists z.steps) z.answer z.bytes else
      unused_line) e

  acts_mean : (asks : List Ask) (xs zs : List ActOutcome) → AllByRecursion IsUndone xs →
      AllDone (first_points points) asks xs zs →
      AllMeant set w asks zs →
      ActsMean (setting_of set) (is_reached points) (bound_acts set asks zs) (map (outcome_line lists) zs)
  acts_mean [] [] [] idle done all = tt
  acts_mean [] [] (z ∷ zs) idle done all = absurd all
  acts_mean [] (x ∷ xs) zs idle done all = absurd done
  acts_mean (a ∷ asks) [] zs idle done all = absurd done
  acts_mean (a ∷ asks) (x ∷ xs) [] idle done all = absurd all
  acts_mean (a ∷ asks) (x ∷ xs) (z ∷ zs) idle done all = (
    one_means a z (λ e. all.0.done e lanes visits callers c) (came (first_points points) a)
        (done.0 ∙ ap (λ (b : Bool). b || came (first_points points) a) idle.0.idle),
    acts_mean asks xs zs idle.1 done.1 all.1,
  )

no_local : (n flags : ℕ) (set : Setting) (w : View) (asks : List Ask) (zs : List ActOutcome) → 0 < length asks →
    AllMeant set w asks zs →
    tries_local n flags (bound_acts set asks zs) ≡ false
no_local n flags set w [] zs some all = absurd (omega arith)
no_local n flags set w (a ∷ asks) [] some all = absurd all
no_local n flags set w (a ∷ asks) (z ∷ zs) some all =
    ap (λ (b : Bool). b && (not (n == 0) && not (is_bad flags)))
    (ne_eqb (length (bound_acts set (a ∷ asks) (z ∷ zs))) 0 (λ e. absurd (omega arith)))

-- a call of `n` bytes on the host over the lanes; the host was `h` before the call, and is `last` after it
module _ {R : Type 0} {h last : LaneHost R} {finish : Finish} (n flags : ℕ) (s : VgetrandomState)
    (runs : Runs hosting (IsCall n flags s) h last finish) where
  abbrev from : ActConform
  from = standing h

  abbrev to : ActConform
  to = standing last

  does : DoesAll acting from runs.steps to
  does = (host_acts runs.steps h last runs.does).0

  same_loans : SameLoans h last
  same_loans = (host_acts runs.steps h last runs.does).1

  same_asks : asks_of last.acts.now ≡ asks_of h.acts.now
  same_asks = acted_asks runs.steps from to does

  -- each step that the call asks of its host is a step of the caller itself (`InsideRan`)
  inside_ran : InsideRan n flags s finish.state from
      (λ attempt. act_conform (conform h.site.set last.site.pass.now last.site.trace.now) attempt
      (asks_of last.acts.now) (outcomes_of last.acts.now last.out.now))
  inside_ran = record {
    steps = runs.steps;
    outcome = runs.outcome;
    is_call = runs.relates;
    state = runs.state;
    last = last.attempt;
    does = subst (λ (z : Setting). DoesAll acting from runs.steps
        (act_conform (conform z last.site.pass.now last.site.trace.now) last.attempt (asks_of last.acts.now)
        (outcomes_of last.acts.now last.out.now))) same_loans.site.set does;
  }

  module _ (low : s.generation ≤ published_by (floor (view h.site.pass.now))) where
    ended : EndsWell (published_by (floor (view last.site.pass.now))) n runs.outcome
    ended =
        let more = published_more (floor (view h.site.pass.now)) (floor (view last.site.pass.now))
        (acted_onward runs.steps from to does).floors in
        call_ends (published_by (floor (view last.site.pass.now))) n flags s runs.steps runs.outcome (omega arith)
        (acted_up_to runs.steps from to does) runs.relates

    still_current : finish.state.generation ≤ published_by (floor (view last.site.pass.now))
    still_current = let a = ended.low in let e = ap (λ (z : VgetrandomState). z.generation) runs.state in omega arith

    module _ (new : IsNewHost h) (long : length finish.buf ≡ n) where
      two : 1 < length (view h.site.pass.now).lanes
      two = let a = h.free.pass.sized in let b = h.site.lanes.now.few in omega arith

      abbrev set : Setting
      set = h.site.set

      abbrev asks : List Ask
      asks = asks_of h.acts.now

      abbrev zs : List ActOutcome
      zs = outcomes_of last.acts.now last.out.now

      meant : AllMeant set (view last.site.pass.now) asks zs
      meant = acted_meant runs.steps set asks from to refl refl does
          (undone_meant set (view h.site.pass.now) asks (outcomes_of h.acts.now h.out.now)
          (fresh_undone h.acts.now h.out.now new.fresh)
          (outcomes_long h.acts.now h.out.now))

      done : AllDone (first_points (points_of runs.steps)) asks (outcomes_of h.acts.now h.out.now) zs
      done = acted_done runs.steps asks Before from to refl new.before (outcomes_long h.acts.now h.out.now) does

      own : Own set (asks ≡ []) (Shows (setting_of set) runs.steps) from.core.moment to.core.moment
      own = acted_own runs.steps set asks from to refl refl two does

      wipes : WipesConform (bound_acts set asks zs) (points_of runs.steps)
      wipes = let k = acted_wipes runs.steps asks Before from to refl new.before does in record {
        first = each_weaker (λ (reached : PointReached). reached.wiped ≡ wipes_at asks reached.point)
            (λ (reached : PointReached). reached.wiped ≡ is_wiped (bound_acts set asks zs) reached.point)
            (first_points (points_of runs.steps))
            (λ reached e. e ∙ sym (wiped_is set (view last.site.pass.now) reached.point asks zs meant)) k.0;
        second = k.1;
      }

      abbrev answer : Answer
      answer = result_answer (done_of finish.result)

      abbrev shown : Shown
      shown = bytes_or_none (given (done_of finish.result) finish.buf)

      ends : (answer ≡ ending_answer runs.outcome.ending) × (shown ≡ ending_shown runs.outcome.ending)
      ends = ending_is n runs.outcome.ending finish.result finish.buf long ended.none runs.ends

      called : length h.acts.now ≡ 0 → Called n flags s finish.state answer shown set from.core.moment
          to.core.moment
      called idle = let none = ap asks_of (none_left h.acts.now idle) in record {
        steps = runs.steps;
        outcome = runs.outcome;
        is_call = runs.relates;
        state = runs.state;
        answers = ends.0;
        shows = ends.1;
        wipes = subst (λ (l : List Ask). WipesConform (bound_acts set l zs) (points_of runs.steps)) none wipes;
        did = record { made_steps = own.made_steps; recorded = own.alone none; conforms = own.conforms };
      }

      module _ (lanes : ℕ) (visits : ℕ → List Visit) (callers : StateLists)
          (c : Continues lanes (view last.site.pass.now) visits)
          (before : CallerState) (set_is : before.setting ≡ setting_of set) (state_is : current_state before ≡ s) where
        abbrev book : Lists
        book = book_lists lanes visits callers

        abbrev effects : List Effect
        effects = effects_of book (map step_of own.made_steps)

        abbrev meaning : CallMeaning
        meaning = inside_meaning book effects answer shown runs.outcome.entries zs before finish.state

        by_call : ByVgetrandom n flags (bound_acts set asks zs) meaning
        by_call = record {
          steps = runs.steps;
          outcome = runs.outcome;
          is_call = subst (λ (z : VgetrandomState). IsCall n flags z runs.steps runs.outcome) (sym state_is)
              runs.relates;
          shows = subst (λ z. Shows z runs.steps effects) (sym set_is) (own.conforms lanes visits callers c);
          wipes = wipes;
          inside = subst (λ z. ActsMean z (is_reached (points_of runs.steps)) (bound_acts set asks zs)
              (map (outcome_line book) zs))
              (sym set_is)
              (acts_mean set (view last.site.pass.now) lanes visits callers c (points_of runs.steps) asks
              (outcomes_of h.acts.now h.out.now) zs (fresh_undone h.acts.now h.out.now new.fresh) done meant);
          answer = ends.0;
          shown = ends.1;
          entries = refl;
          after = ap (with_state before) runs.state;
        }

        line : 0 < length h.acts.now → VreadMeans n flags (bound_acts set asks zs) meaning
        line some = record {
          looks = subst NeverFall (sym (same_looks book own.made_steps))
              (never_fall (floor (view h.site.pass.now)) (looks_in own.made_steps) (floor (view last.site.pass.now))
              own.rises);
          done_by = match_false _ _ (tries_local n flags (bound_acts set asks zs))
              (no_local n flags set (view last.site.pass.now) asks zs
              (let e = length-map h.acts.now ask_of in omega arith)
              meant) by_call;
        }

      inside_did : 0 < length h.acts.now → InsideMakes n flags s finish.state answer shown set from.core.moment
          to.core.moment asks zs
      inside_did some = record {
        entries = runs.outcome.entries;
        made_steps = own.made_steps;
        trace = own.trace;
        fits = own.fits;
        acts_fit = all_fit set (view last.site.pass.now) asks zs meant;
        conforms = λ lanes visits callers c before set_is state_is. line lanes visits callers c before set_is state_is
            some;
      }

      pub host_called : HostCalled n flags s finish.state answer shown h last
      host_called = record {
        loans = same_loans;
        has = free_has last.site.lanes.now last.site.set.caller last.site.pass.now last.free;
        current = still_current;
        alone = called;
        inside = λ some. record {
          loans = same_loans;
          has = free_has last.site.lanes.now last.site.set.caller last.site.pass.now last.free;
          current = still_current;
          asks = same_asks;
          did = inside_did some;
          ran = inside_ran;
        };
      }
