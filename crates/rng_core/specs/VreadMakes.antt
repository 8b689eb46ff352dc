-- The effect of a read out of a caller's vgetrandom state.
use Rattle.std.specs.Prelude.{◌≡◌, ◌⊎◌, ℕ, ◌+◌, ◌≤◌, true, false, Result, Ok, Err, List, [], ◌∷◌, ◌++◌, length}
use Rattle.key_names.specs.declared.entries.VEntry.{VEntry}
use Rattle.key_names.specs.declared.errno.Errno.{Errno}
use Rattle.key_names.specs.declared.events.Answer.{Answer}
use Rattle.key_names.specs.Kernel.BatchCopy.{serves_locally, copy_bytes, state_after_copy}
use Rattle.key_names.specs.Callers.Calls.{Setting as CallSetting}
use Rattle.key_names.specs.Callers.Effects.{Effect}
use Rattle.key_names.specs.Callers.Meaning.{CallerState, CallMeaning, VreadMeans, current_state, with_state, tries_local}
use Rattle.key_names.specs.Transcripts.SeenLine.{Shown}
use Rattle.key_names.specs.Kernel.Vgetrandom.{HostStep, Outcome, IsCall}
use Rattle.key_names.specs.Kernel.VgetrandomState.{VgetrandomState}
use Rattle.key_names.specs.Callers.VreadSteps.{Shows, WipesConform, points_of, ending_answer, ending_shown, published_by}
use Rattle.lane_table.specs.declared.view.View.{View}
use Rattle.lane_table.specs.Calls.{SameView}
use Rattle.lane_table.specs.Advances.{looked, floor}
use Rattle.vdso_state.specs.declared.outcome.VEnd.{VEnd}
use Rattle.vdso_state.specs.declared.outcome.Local.{Local}
use Rattle.vdso_state.specs.declared.outcome.Local.TheVariants.{NeedsSystem, Served}
use Rattle.rng_core.specs.declared.setting.Setting.{Setting}
use Rattle.rng_core.specs.Traces.{Moment, knowing}
use Rattle.rng_core.specs.Traces as recorded
use Rattle.rng_core.specs.Makes.{Makes, setting_of}
use Rattle.rng_core.specs.declared.site.Site.{Site}
use Rattle.rng_core.specs.Sites.{Same, HasInHands, at, seen_by}

-- the result of a vgetrandom call: success or an error, without how the call ended (`VEnd`)
abbrev pub done_of : Result VEnd Errno → Result (Unit {0}) Errno
done_of (Ok end) = Ok tt
done_of (Err errno) = Err errno

-- from the view `v` to `w` the pass made one look, which found the generation `found` and is no step of the trace
pub record OnlyLooked (found : ℕ) (v w : View) : Type 0 where
  pub same : SameView v w
  pub lanes : w.lanes ≡ v.lanes
  pub stamp : w.stamp ≡ v.stamp
  pub stamps : w.stamps ≡ v.stamps
  pub looks : w.looks ≡ v.looks ++ found ∷ []
  pub above : floor v ≤ found
  pub known : found ≤ floor w

-- the state's batch served the read, after one look
pub record LocallyServed (n flags : ℕ) (s t : VgetrandomState) (out : List ℕ) (set : Setting)
    (l m : Moment) : Type 0 where
  pub found : ℕ
  pub tries : tries_local n flags [] ≡ true
  pub serves : serves_locally (published_by found) s n ≡ true
  pub recorded : recorded.TraceRecords set l m (looked found ∷ [])
  pub bytes : out ≡ copy_bytes s 0 n
  pub state : t ≡ state_after_copy s 0 n

-- one look found that the batch cannot serve the read
pub record Refused (n : ℕ) (s : VgetrandomState) (v w : View) : Type 0 where
  pub found : ℕ
  pub glanced : OnlyLooked found v w
  pub refuses : serves_locally (published_by found) s n ≡ false

-- the batch does not serve the read: from `v` to `w` the pass looked once if it tried the batch, and else did nothing
pub record Unserved (n flags : ℕ) (s : VgetrandomState) (v w : View) : Type 0 where
  pub untried : tries_local n flags [] ≡ false → w ≡ v
  pub tried : tries_local n flags [] ≡ true → Refused n s v w

-- the system call has to serve the read: the vgetrandom state and the trace are unchanged
pub record LeftToSystem (n flags : ℕ) (s t : VgetrandomState) (l m : Moment) : Type 0 where
  pub state : t ≡ s
  pub steps : m.steps ≡ l.steps
  pub looked : Unserved n flags s l.view m.view

abbrev pub LocalRead : Local → ℕ → ℕ → VgetrandomState → VgetrandomState → List ℕ → Setting → Moment → Moment → Type 0
LocalRead Served n flags s t out set l m = LocallyServed n flags s t out set l m
LocalRead NeedsSystem n flags s t out set l m = LeftToSystem n flags s t l m

-- the caller made a call of vgetrandom, with itself as the host and without acts inside
pub record Called (n flags : ℕ) (s t : VgetrandomState) (answer : Answer) (shown : Shown) (set : Setting)
    (l m : Moment) : Type 0 where
  pub steps : List HostStep
  pub outcome : Outcome
  pub is_call : IsCall n flags s steps outcome
  pub state : t ≡ outcome.state
  pub answers : answer ≡ ending_answer outcome.ending
  pub shows : shown ≡ ending_shown outcome.ending
  pub wipes : WipesConform [] (points_of steps)
  pub did : Makes (Shows (setting_of set) steps) set l m

-- the meaning of a read that has no acts inside
abbrev pub vread_meaning : List Effect → Answer → Shown → List VEntry → CallerState → VgetrandomState → CallMeaning
vread_meaning effects answer shown entries before t = record {
  own = record { effects = effects; answer = answer; shown = shown };
  acts = [];
  entries = entries;
  before = before;
  after = with_state before t;
}

-- for each caller that has the given setting and the current state `s`, the given effects are the effects of a read
-- that changes the state to `t`
abbrev pub VreadLine : CallSetting → ℕ → ℕ → VgetrandomState → VgetrandomState → Answer → Shown → List VEntry →
    List Effect →
    Type 0
VreadLine set n flags s t answer shown entries effects = (before : CallerState) → before.setting ≡ set →
    current_state before ≡ s → VreadMeans n flags [] (vread_meaning effects answer shown entries before t)

-- from `l` to `m` the caller read `n` bytes with these flags, by a copy out of the batch or by a call. Between `l` and
-- the view `looked` the caller made at most one look, which is no step of the trace
pub record VreadMakes (n flags : ℕ) (s t : VgetrandomState) (answer : Answer) (shown : Shown) (set : Setting)
    (l m : Moment) : Type 0 where
  pub looked : View
  pub began : ((looked ≡ l.view) × (out : List ℕ) × LocallyServed n flags s t out set l m)
      ⊎ Unserved n flags s l.view looked
  pub entries : List VEntry
  pub did : Makes (VreadLine (setting_of set) n flags s t answer shown entries) set
      (knowing looked l.steps) m

-- Reads at a site (a call's table, pass, trace and setting)

-- the vgetrandom state's generation is at most the last published generation that the caller has seen
abbrev pub IsCurrent : VgetrandomState → Site → Type 0
IsCurrent st s = st.generation ≤ published_by (seen_by s)

-- the batch was tried for `n` bytes on the state `s`, which became `t`
pub record ReadsLocally (result : Local) (n flags : ℕ) (s t : VgetrandomState) (out : List ℕ) (l m : Site)
    : Type 0 where
  pub same : Same l m
  pub has : HasInHands [] m
  pub current : IsCurrent s l → IsCurrent t m
  pub room : length m.trace.now ≤ length l.trace.now + 1
  pub read : LocalRead result n flags s t out l.set (at l) (at m)
