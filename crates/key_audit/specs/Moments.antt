-- The moments of a book's entries. A visit's moment is the visit's stamp and line. An entry of a vgetrandom state was
-- left by a call: the entry's moment is the stamp when this call was over, and the call's line.
use Rattle.std.specs.Prelude.{ℕ, ◌≡◌, ◌<◌, List, [], ◌∷◌, ◌++◌, map, filter, length}
use Rattle.std.specs.Global.{Vec}
use Rattle.key_names.specs.declared.names.LaneId.{LaneId}
use Rattle.key_names.specs.declared.names.LaneId.TheVariants.{Pool as PoolLane, Base as BaseLane, Cpu as CpuLane}
use Rattle.key_names.specs.Lanes.Book.{Book, Visit, list_at}
use Rattle.key_names.specs.Callers.Calls.{Call}
use Rattle.key_names.specs.Transcripts.IsTranscript.{MarkBy, is_same_lane}
use Rattle.key_names.specs.Callers.Meaning.{CallMeaning}
use Rattle.audit_keys.specs.ListedEnds.{listed_ends}
use Rattle.audit_keys.specs.declared.moments.Moment.{Moment}
use Rattle.audit_keys.specs.declared.moments.Moments.{Moments}
use Rattle.audit_keys.specs.Cut.{moment_lists}
use Rattle.key_audit.specs.EntryMoments.{end_moment}

-- ---- the moments of a book's visits and entries

-- the moment of the visit `v`: its stamp, and the line that made it
abbrev pub visit_moment : {E : Type 0} → Visit E → Moment
visit_moment v = record { stamp = v.stamp; line = record { caller = v.who.caller; event = v.who.event } }

abbrev pub visit_moments : {E : Type 0} → List (Visit E) → List Moment
visit_moments visits = map visit_moment visits

-- the moments of the entries of each caller's vgetrandom states
abbrev pub state_moments_in : List (Vec (Vec Moment)) → List (List (List Moment))
state_moments_in callers = map (λ lists. moment_lists lists.items) callers

-- `moments` has for each lane the moments of the lane's visits in `book`. For each entry of a vgetrandom state, it has
-- the moment when the call that left the entry was over
pub record AreMoments (callers : List (List Call)) (book : Book) (ms : List (List CallMeaning))
    (moments : Moments) : Type 0 where
  pub pool : moments.pool.items ≡ visit_moments book.pool
  pub base : moments.base.items ≡ visit_moments book.base
  pub cpus : moment_lists moments.cpus.items ≡ map visit_moments book.cpus
  pub states : state_moments_in moments.callers.items ≡ map (map (map end_moment)) (listed_ends callers ms)

-- ---- the moments of marks

abbrev pub moment_by : MarkBy → Moment
moment_by by = record { stamp = by.mark.stamp; line = record { caller = by.who.caller; event = by.who.event } }

-- the marks among `marks` that are in `lane`, in the same order
abbrev pub marks_on : LaneId → List MarkBy → List MarkBy
marks_on lane marks = filter (λ by. is_same_lane by.mark.lane lane) marks

abbrev pub moments_on : LaneId → List MarkBy → List Moment
moments_on lane marks = map moment_by (marks_on lane marks)

-- `moments` has the moments of `marks`, lane by lane, and has lists for `many` CPUs
pub record HasMarks (many : ℕ) (marks : List MarkBy) (moments : Moments) : Type 0 where
  pub pool : moments.pool.items ≡ moments_on PoolLane marks
  pub base : moments.base.items ≡ moments_on BaseLane marks
  pub count : length moments.cpus.items ≡ many
  pub cpus : (c : ℕ) → c < many → list_at (moment_lists moments.cpus.items) c ≡ moments_on (CpuLane c) marks

-- `new` has the moments of `old` and one more: the moment of the mark `by`, at the end of its lane's moments
pub record AddsMark (old : Moments) (by : MarkBy) (new : Moments) : Type 0 where
  pub pool : new.pool.items ≡ old.pool.items ++ moments_on PoolLane (by ∷ [])
  pub base : new.base.items ≡ old.base.items ++ moments_on BaseLane (by ∷ [])
  pub count : length new.cpus.items ≡ length old.cpus.items
  pub cpus : (c : ℕ) → c < length old.cpus.items →
      list_at (moment_lists new.cpus.items) c
      ≡ list_at (moment_lists old.cpus.items) c ++ moments_on (CpuLane c) (by ∷ [])

-- in each lane, the moments of `marks` are the moments of the book's visits, in order
pub record MarksVisits (book : Book) (marks : List MarkBy) : Type 0 where
  pub pool : moments_on PoolLane marks ≡ visit_moments book.pool
  pub base : moments_on BaseLane marks ≡ visit_moments book.base
  pub cpus : (c : ℕ) → moments_on (CpuLane c) marks ≡ visit_moments (list_at book.cpus c)
