-- A caller as the host of its own vgetrandom calls: how the caller publishes generations and answers system calls.
use Rattle.std.proofs.Common.{◌≡◌, ℕ, zero, suc, ◌+◌, ◌<◌, ◌≤◌, true, Option, Some, None, Ok, Err, List, [], ◌∷◌, ◌++◌, length, map, refl, sym, ap, ◌∙◌, arith}
use Rattle.std.specs.Prelude.{IsOk, Result, slice_get}
use mathlib.Core.Option.{some}
use lib.ListN.{get_elem?}
use Rattle.atomic_table.proofs.Lists.{at_longer}
use Rattle.key_names.specs.declared.names.LaneId.{LaneId}
use Rattle.key_names.specs.declared.names.LaneId.TheVariants.{Pool as PoolLane, Base as BaseLane, Cpu as CpuLaneId}
use Rattle.key_names.specs.declared.entries.VEntry.{VEntry}
use Rattle.key_names.specs.declared.errno.Errno.{Errno}
use Rattle.key_names.specs.declared.errno.Errno.TheVariants.{NoData, Again, Invalid, Interrupted}
use Rattle.key_names.specs.declared.events.Answer.{Answer}
use Rattle.key_names.specs.declared.events.Event.TheVariants.{Read}
use Rattle.key_names.specs.Callers.Effects.{Effect, effect_or, effect_at, effect_of, effects_of, at_pool, at_base, at_cpu, pool_visit, base_visit, cpu_visit}
use Rattle.key_names.specs.Lanes.Book.{Lists, cpu_list}
use Rattle.key_names.specs.Callers.Answers.{system_answer, served_bytes}
use Rattle.key_names.specs.Transcripts.SeenLine.{bytes_or_none, bytes_in}
use Rattle.key_names.specs.Kernel.Vgetrandom.{CpuPlace, SystemAnswer, read, failed}
use Rattle.key_names.specs.Callers.VreadSteps.{published_by, place_of, last_place, errno_of, answer_with, answer_after, answer_of_errno}
use Rattle.lane_table.specs.declared.view.Visit.{Visit}
use Rattle.lane_table.specs.declared.view.View.{View}
use Rattle.lane_table.specs.declared.view.TicketStage.{TicketStage}
use Rattle.lane_table.specs.declared.view.TicketStage.TheVariants.{Away, Queued, Holding}
use Rattle.lane_table.specs.declared.lanes.Lanes.{Lanes}
use Rattle.lane_table.specs.declared.lanes.Pass.{Pass}
use Rattle.lane_table.specs.LaneNumbers.{index_of}
use Rattle.lane_table.specs.WorldRule.{known_of, at}
use Rattle.lane_table.specs.Calls.{slots, view}
use Rattle.lane_table.specs.Hands.{HoldsLanes}
use Rattle.lane_table.specs.BookLists.{book_lists}
use Rattle.lane_table.specs.Advances.{MadeStep, looked, visited, step_of, AllConform}
use Rattle.lane_table.proofs.Lists.Places.{conforms_at}
use Rattle.lane_table.proofs.Book.BookEntries.{lane_at, cpu_kind}
use Rattle.lane_table.proofs.Book.BookWhole.{cpu_lane_of}
use Rattle.lane_table.proofs.Book.BookCpus.{CpuLane}
use Rattle.vdso_state.specs.Host.{IsAnswer}
use Rattle.rng_core.specs.declared.setting.Setting.{Setting}
use Rattle.rng_core.specs.Traces.{Moment}
use Rattle.lane_table.specs.BookLaws.{Continues}
use Rattle.rng_core.specs.Makes.{Makes, IsOutcomeOf, setting_of, result_answer, given}
use Rattle.rng_core.specs.Hosted.{is_away, IsFree, IsRead, SystemCall}

-- A pass that holds no lane has no slot taken out

pub none_left : {A : Type 0} (xs : List A) → length xs ≡ 0 → xs ≡ []
none_left [] e = refl
none_left (x ∷ xs) e = absurd (omega arith)

away_of : (s : TicketStage) → is_away s ≡ true → s ≡ Away
away_of Away h = refl
away_of (Queued ticket) h = absurd (cc h)
away_of (Holding ticket) h = absurd (cc h)

pub free_has : (t : Lanes) (caller : ℕ) (p : Pass) → IsFree t caller p → HoldsLanes t caller [] p
free_has t caller p k = record {
  pass = k.pass;
  own = k.own;
  out = none_left (slots p) k.out;
  held = tt;
  away = λ lane low no. away_of (at lane (view p)).stage (k.away lane low);
}

-- The generation that a caller publishes after a look (`published_by`)

pub published_more : (a b : ℕ) → a ≤ b → published_by a ≤ published_by b
published_more zero b h = omega arith
published_more (suc a) zero h = absurd (omega arith)
published_more (suc a) (suc b) h = omega arith

-- The answer of a system call that the host makes

abbrev cpu_place : LaneId → ℕ → Option CpuPlace
cpu_place PoolLane place = None
cpu_place BaseLane place = None
cpu_place (CpuLaneId c) place = Some (record { cpu = c; place = place })

abbrev place_in : MadeStep → Option CpuPlace
place_in (looked g) = None
place_in (visited mark e) = cpu_place mark.lane mark.place

-- the CPU visit with which the steps end, if they end with one
abbrev pub visit_of : List MadeStep → Option CpuPlace
visit_of [] = None
visit_of (made_step ∷ []) = place_in made_step
visit_of (made_step ∷ next ∷ made_steps) = visit_of (next ∷ made_steps)

-- in all lists that continue the lists that the view `v` knows, the visit that `visit_of` finds is also the last visit
-- of the steps' effects
module _ (lanes : ℕ) (v : View) (visits : ℕ → List Visit) (callers : List (List (List VEntry)))
    (k : Continues lanes v visits) where
  abbrev book : Lists
  book = book_lists lanes visits callers

  no_place : {E : Type 0} (effect : E → Effect) → ((e : E) → place_of (effect e) ≡ None) → (o : Option E) →
      place_of (effect_or effect o) ≡ None
  no_place effect none None = refl
  no_place effect none (Some e) = none e

  some_place : {E : Type 0} (effect : E → Effect) (place : CpuPlace) → ((e : E) → place_of (effect e) ≡ Some place) →
      (o : Option E) (e : E) → o ≡ Some e → place_of (effect_or effect o) ≡ Some place
  some_place effect place is None e there = absurd (cc there)
  some_place effect place is (Some x) e there = is x

  cpu_there : (c place : ℕ) (visit : Visit) → c + 2 < length v.lanes →
      slice_get (known_of v (c + 2)) place ≡ Some visit → slice_get (visits (c + 2)) place ≡ Some visit →
      place_of (effect_at book (CpuLaneId c) place) ≡ Some (record { cpu = c; place = place })
  cpu_there c place visit near known there =
      let lane : CpuLane lanes c book (visits (c + 2)) =
      cpu_lane_of lanes visits callers k.closed c (let f = k.long in omega arith) in
      let at = lane_at (cpu_kind c) lanes (visits (c + 2)) lane.lawful place visit there in
      some_place (λ e. at_cpu (cpu_visit book c place e)) (record { cpu = c; place = place }) (λ e. refl)
      (slice_get (cpu_list book c) place) at.entry (ap (λ es. slice_get es place) lane.listed ∙ at.conforms)

  mark_place : (l : LaneId) (place : ℕ) (visit : Visit) → index_of l < length v.lanes →
      get_elem? (known_of v (index_of l)) place ≡ some visit → place_of (effect_at book l place) ≡ cpu_place l place
  mark_place PoolLane place visit near there = no_place (λ e. at_pool (pool_visit book place e)) (λ e. refl)
      (slice_get book.pool place)
  mark_place BaseLane place visit near there = no_place (λ e. at_base (base_visit book place e)) (λ e. refl)
      (slice_get book.base place)
  mark_place (CpuLaneId c) place visit near there =
      let b = k.begins (c + 2) (let f = k.long in omega arith) in
      cpu_there c place visit near (conforms_at (known_of v (c + 2)) place visit there)
      (ap (λ (xs : List Visit). slice_get xs place) b.1
      ∙ conforms_at (known_of v (c + 2) ++ b.0) place visit (at_longer (known_of v (c + 2)) b.0 place visit there))

  deal_place : (caller event n : ℕ) (made_step : MadeStep) → AllConform v caller event n (made_step ∷ []) →
      place_of (effect_of book (step_of made_step)) ≡ place_in made_step
  deal_place caller event n (looked g) conform = refl
  deal_place caller event n (visited mark e) conform =
      mark_place mark.lane mark.place conform.0.visit conform.0.near conform.0.there

  pub last_found : (caller event n : ℕ) (made_steps : List MadeStep) → AllConform v caller event n made_steps →
      last_place (effects_of book (map step_of made_steps)) ≡ visit_of made_steps
  last_found caller event n [] conform = refl
  last_found caller event n (made_step ∷ []) conform = deal_place caller event n made_step conform
  last_found caller event n (looked g ∷ next ∷ made_steps) conform = last_found caller event (suc n) (next ∷ made_steps)
      conform
  last_found caller event n (visited mark e ∷ next ∷ made_steps) conform =
      last_found caller event (suc n) (next ∷ made_steps) conform.1

shown_bytes : (xs : List ℕ) → bytes_in (bytes_or_none xs) ≡ xs
shown_bytes [] = refl
shown_bytes (x ∷ xs) = refl

same_bytes : (xs ys : List ℕ) → bytes_or_none xs ≡ bytes_or_none ys → xs ≡ ys
same_bytes xs ys e = sym (shown_bytes xs) ∙ ap bytes_in e ∙ shown_bytes ys

-- the answer of a system call with the result `result`, the bytes `bytes` and the last CPU visit `visit`
abbrev pub answer_by : Result (Unit {0}) Errno → List ℕ → Option CpuPlace → SystemAnswer
answer_by (Ok x) bytes visit = read bytes visit
answer_by (Err errno) bytes visit = failed errno

pub is_answer : (result : Result (Unit {0}) Errno) (bytes : List ℕ) (visit : Option CpuPlace) →
    IsAnswer (answer_by result bytes visit) result bytes
is_answer (Ok x) bytes visit = (refl, refl)
is_answer (Err errno) bytes visit = refl

-- if `result` is no error, `answer_by` gives the answer of a read
pub is_read : (result : Result (Unit {0}) Errno) (bytes : List ℕ) (visit : Option CpuPlace) → IsOk result →
    IsRead (answer_by result bytes visit)
is_read (Ok x) bytes visit ok = tt
is_read (Err errno) bytes visit ok = absurd (cc ok)

errno_is : (errno : Errno) → errno_of (answer_of_errno errno) ≡ Some errno
errno_is NoData = refl
errno_is Again = refl
errno_is Invalid = refl
errno_is Interrupted = refl

answered_after : (flags : ℕ) (result : Result (Unit {0}) Errno) (bytes : List ℕ) (visit : Option CpuPlace)
    (effects : List Effect) → result_answer result ≡ system_answer flags effects →
    bytes_or_none (given result bytes) ≡ bytes_or_none (served_bytes effects) → visit ≡ last_place effects
    → answer_by result bytes visit ≡ answer_after flags effects
answered_after flags (Ok x) bytes visit effects a s v =
    (λ i. read (same_bytes bytes (served_bytes effects) s i) (v i))
    ∙ ap (λ (w : Answer). answer_with (errno_of w) effects) a
answered_after flags (Err errno) bytes visit effects a s v =
    ap (λ (o : Option Errno). answer_with o effects) (sym (errno_is errno))
    ∙ ap (λ (w : Answer). answer_with (errno_of w) effects) a

-- if a read of `n` bytes completed its event, it is a system call, with the answer that `answer_by` gives for the
-- read's result
pub system_called : (set : Setting) (n flags : ℕ) (result : Result (Unit {0}) Errno) (bytes : List ℕ) (l m : Moment)
    (k : Makes (IsOutcomeOf (setting_of set) (Read n flags) (result_answer result) (bytes_or_none (given result bytes)))
    set
    l m)
    → Makes (SystemCall (setting_of set) n flags (answer_by result bytes (visit_of k.made_steps))) set l m
system_called set n flags result bytes l m k = record {
  made_steps = k.made_steps;
  recorded = k.recorded;
  conforms = λ lanes visits callers c. let h = k.conforms lanes visits callers c in record {
    form = h.form;
    answers = answered_after flags result bytes (visit_of k.made_steps)
        (effects_of (book_lists lanes visits callers) (map step_of k.made_steps)) h.answers h.shows
        (sym (last_found lanes m.view visits callers c set.caller set.event (length l.steps) k.made_steps
        k.recorded.went.conform));
  };
}
