-- A vgetrandom call of caller 0 on a new table. It forks at a point, and then ends once in the parent and once in the
-- child.
use Rattle.std.specs.Prelude.{ℕ, ◌≡◌, true, false, List, [], ◌∷◌, ◌++◌, length, map}
use Rattle.std.specs.List.{flat_map, range_with_len}
use Rattle.key_names.specs.declared.entries.BaseEntry.TheVariants.{Fork}
use Rattle.key_names.specs.declared.entries.VEntry.{VEntry}
use Rattle.key_names.specs.declared.entries.VEntry.TheVariants.{Wipe}
use Rattle.key_names.specs.declared.events.Answer.TheVariants.{Ok as Done}
use Rattle.key_names.specs.declared.events.Event.TheVariants.{Add, Reseed}
use Rattle.key_names.specs.declared.names.Step.{Step}
use Rattle.key_names.specs.declared.point.Point.{Point}
use Rattle.key_names.specs.declared.point.Point.TheVariants.{Serve}
use Rattle.key_names.specs.Lanes.Book.{Book, Lists, LawfulBook, lists_of}
use Rattle.key_names.specs.Callers.Effects.{effects_of}
use Rattle.key_names.specs.Callers.Forms.{BaseOnly}
use Rattle.key_names.specs.Transcripts.IsTranscript.{MarkBy, VisitsAre, marks_from}
use Rattle.key_names.specs.Transcripts.PrintedBytes.{Origin, origins_uses, StateEntries, PrintsBy}
use Rattle.key_names.specs.Transcripts.SeenLine.{no_data}
use Rattle.key_names.specs.Keys.ServedNamed.{served_in}
use Rattle.key_names.specs.Keys.Uses.{Disjoint, IsDisjoint}
use Rattle.key_names.specs.Kernel.Vgetrandom.{HostStep, at_point, Outcome, prefix_outcome, by_batch, IsCall}
use Rattle.key_names.specs.Kernel.VgetrandomState.{VgetrandomState, wiped_state}
use Rattle.key_names.specs.Callers.VreadSteps.{Shows}
use Rattle.lane_table.specs.Advances.{Climbs}
use Rattle.vdso_state.specs.declared.place.Turn.{Turn}
use Rattle.vdso_state.specs.declared.place.Turn.TheVariants.{First, Second}
use Rattle.vdso_state.specs.declared.place.Place.{Place}
use Rattle.vdso_state.specs.Places.{AfterPlace}
use Rattle.vcall_fork.specs.Forks.{takes_key}
use Rattle.rng_core.specs.Makes.{IsOutcomeOf, setting_of}
use Rattle.rng_core.specs.Settings.{first_setting}
use Rattle.fork_runs.specs.Stretches.{AreUnwiped, Stop, GivesBytes}

-- in `lists`, the caller's own steps `own` are the steps of a vgetrandom call whose host made `steps` (`Shows`)
abbrev pub IsShown : Lists → ℕ → List HostStep → List Step → Type 0
IsShown lists caller steps own = Shows (setting_of (first_setting caller)) steps (effects_of lists own)

-- how a call got to a point of its second attempt: it was stopped at the point Serve of the first attempt, the core was
-- reseeded there, and the call went on
pub record CallsUpToSecond (lists : Lists) (n : ℕ) (point : Point) (before : List HostStep) (calls : List (List Step))
    : Type 0 where
  pub earlier : Stop (IsCall n 0 wiped_state) n 0 First Serve
  pub later : Stop (AfterPlace n 0 earlier.place earlier.held earlier.state) n 0 Second point
  pub before_is : before ≡ earlier.before ++ at_point Serve false ∷ later.before
  pub own : List Step
  pub reseeded : List Step
  pub more : List Step
  pub calls_are : calls ≡ own ∷ reseeded ∷ more ∷ []
  pub shown : IsShown lists 0 earlier.before own
  pub reseeds : IsOutcomeOf (setting_of (first_setting 0)) Reseed Done no_data (effects_of lists reseeded)
  pub shown_more : IsShown lists 0 later.before more

-- the calls that the parent made until its vgetrandom call was stopped; `before` has the steps of that call's host
abbrev pub CallsUpTo : Lists → ℕ → Turn → Point → List HostStep → List (List Step) → Type 0
CallsUpTo lists n First point before calls = (own : List Step) × (calls ≡ own ∷ []) × IsShown lists 0 before own
CallsUpTo lists n Second point before calls = CallsUpToSecond lists n point before calls

-- one of the two ends of the forked call: `caller` ran the call, with the buffer `held` and the state `s`, from its
-- stop to its end. The call's host made `steps`, and the call gave the bytes `out`
pub record IsEnd (lists : Lists) (caller n : ℕ) (place : Place) (held : List ℕ) (s : VgetrandomState) (out : List ℕ)
    : Type 0 where
  pub steps : List HostStep
  pub outcome : Outcome
  pub rest : AfterPlace n 0 place held s steps outcome
  pub unwiped : AreUnwiped steps
  pub gives : GivesBytes outcome.ending out
  pub own : List Step
  pub shown : IsShown lists caller steps own

-- the entries that a caller's first call left in the list of the caller's vgetrandom state 0
abbrev pub call_entries : ℕ → List VEntry → StateEntries
call_entries caller entries = record { caller = caller; state = 0; from = 0; count = length entries }

-- a line's data are `out`, by the rule for a transcript: the line's origins serve `out`, each as a named span. The line
-- has no origin, or its origin is the last visit of its steps, or its origins are entries in `own`, which the line's
-- own call left
pub record ShowsNamed (lists : Lists) (own : StateEntries) (steps : List Step) (out : List ℕ) : Type 0 where
  pub origins : List Origin
  pub by : PrintsBy own steps origins
  pub shown : out ≡ served_in lists (origins_uses lists origins)

-- the lists of the two vgetrandom states. The parent's list has the entries of the parent's whole call. The child's
-- state starts wiped, and its list has the entries of the child's part of the call
abbrev pub two_states : List VEntry → List VEntry → List (List (List VEntry))
two_states parents childs = (parents ∷ []) ∷ (childs ∷ []) ∷ []

-- the marks of the visits that a caller made in the calls `calls`, with the steps of each call numbered from 0
abbrev pub marks_of : ℕ → List (List Step) → List MarkBy
marks_of caller calls = flat_map (marks_from caller 0 0) calls

abbrev pub stamps_of : List MarkBy → List ℕ
stamps_of marks = map (λ by. by.mark.stamp) marks

-- `parent` and `child` are bytes of a forked call. A book of one CPU, lawful and disjoint, has exactly the visits of
-- these calls: one `add`, which makes the core ready; the parent's vgetrandom call until it is stopped, with a reseed
-- for a second attempt; the fork; the rest of the parent's call; and the rest of the child's call. The book's
-- vgetrandom states are the parent's and the child's. `parent` and `child` are the bytes with which their calls end.
-- They are bytes of named spans, and no byte of a key's keystream is in both
pub record AreForkedBytes (turn : Turn) (point : Point) (n : ℕ) (parent child : List ℕ) : Type 0 where
  pub book : Book
  pub cpus : length book.cpus ≡ 1
  pub lawful : LawfulBook (lists_of book)
  pub disjoint : IsDisjoint (lists_of book)
  pub added : List Step
  pub adds : IsOutcomeOf (setting_of (first_setting 0)) (Add (range_with_len 0 32) 256) Done no_data
      (effects_of (lists_of book) added)
  pub stop : Stop (IsCall n 0 wiped_state) n 0 turn point
  pub calls : List (List Step)
  pub came_by : CallsUpTo (lists_of book) n turn point stop.before calls
  pub forked : List Step
  pub forks : BaseOnly (Fork 1) (effects_of (lists_of book) forked)
  pub parent_end : IsEnd (lists_of book) 0 n stop.place stop.held stop.state parent
  pub child_end : IsEnd (lists_of book) 1 n stop.place stop.held wiped_state child
  pub callers_are : book.callers ≡ two_states (stop.entries ++ parent_end.outcome.entries) child_end.outcome.entries
  -- the two parts of the parent's call together are one call, whose state was not wiped at the point of the fork
  pub parent_call : IsCall n 0 wiped_state (stop.before ++ at_point point false ∷ parent_end.steps)
      (prefix_outcome stop.entries parent_end.outcome)
  -- the child's call has the parent's steps before the point of the fork, and its state was wiped at that point
  pub child_call : IsCall n 0 wiped_state (stop.before ++ at_point point true ∷ child_end.steps)
      (prefix_outcome stop.entries (prefix_outcome (Wipe ∷ []) child_end.outcome))
  -- if the batch of the child's state gave the child's bytes, the child read a key after the fork, in the attempt that
  -- gave them
  pub child_keyed : (bytes : List ℕ) → child_end.outcome.ending ≡ by_batch bytes →
      takes_key false child_end.steps ≡ true
  -- the data of the parent's line and of the child's line are named bytes, each from entries of the line's own call. No
  -- two of these entries use the same byte of a key's keystream, so no byte is given twice, in one line or in both
  pub parent_line : ShowsNamed (lists_of book) (call_entries 0 (stop.entries ++ parent_end.outcome.entries))
      parent_end.own parent
  pub child_line : ShowsNamed (lists_of book) (call_entries 1 child_end.outcome.entries) child_end.own child
  pub apart : Disjoint (origins_uses (lists_of book) (parent_line.origins ++ child_line.origins))
  pub visits : VisitsAre book (marks_of 0 (added ∷ calls ++ forked ∷ []) ++ marks_of 0 (parent_end.own ∷ [])
      ++ marks_of 1 (child_end.own ∷ []))
  -- the stamps of the visits climb: up to the fork, then to the end of the parent's call, and then to the end of the
  -- child's call
  pub at_fork : ℕ
  pub parents_last : ℕ
  pub childs_last : ℕ
  pub to_fork : Climbs 0 (stamps_of (marks_of 0 (added ∷ calls ++ forked ∷ []))) at_fork
  pub parents_rest : Climbs at_fork (stamps_of (marks_of 0 (parent_end.own ∷ []))) parents_last
  pub childs_rest : Climbs parents_last (stamps_of (marks_of 1 (child_end.own ∷ []))) childs_last
