-- The history of a book: the visits of all lanes as one list, ordered by stamps.
use Rattle.std.specs.Prelude.{ℕ, suc, ◌≡◌, ◌==◌, Bool, ◌&&◌, ◌||◌, List, [], ◌∷◌, ◌++◌, nat_lt, filter, IsPermutation}
use Rattle.std.specs.Prelude.{IsSortedBy}
use Rattle.key_names.specs.declared.names.LaneId.{LaneId}
use Rattle.key_names.specs.declared.names.LaneId.TheVariants.{Pool as PoolLane, Base as BaseLane, Cpu as CpuLane}
use Rattle.key_names.specs.declared.names.Who.{Who}
use Rattle.key_names.specs.declared.entries.CpuEntry.{CpuEntry}
use Rattle.key_names.specs.Lanes.Book.{Book, Visit, list_at}
use Rattle.key_names.specs.Transcripts.SeenLine.{SeenLine}
use Rattle.key_names.specs.Texts.ScriptGrammar.{Script}
use Rattle.key_names.specs.Transcripts.IsTranscript.{is_same_lane, all_marks, MarksConform, VisitsAre}

-- a visit, with its lane and its place in that lane
pub record Happening : Type 0 where
  pub lane : LaneId
  pub place : ℕ
  pub stamp : ℕ
  pub who : Who

-- the visits of a lane's list; `place` is the place of the first visit
abbrev pub visits_from : {E : Type 0} → LaneId → ℕ → List (Visit E) → List Happening
visits_from lane place [] = []
visits_from lane place (visit ∷ visits) =
    record { lane = lane; place = place; stamp = visit.stamp; who = visit.who } ∷ visits_from lane (suc place) visits

abbrev pub visits_of_lane : {E : Type 0} → LaneId → List (Visit E) → List Happening
visits_of_lane lane visits = visits_from lane 0 visits

-- the visits of the CPUs; c is the number of the first CPU
abbrev pub visits_of_cpus : ℕ → List (List (Visit CpuEntry)) → List Happening
visits_of_cpus c [] = []
visits_of_cpus c (visits ∷ more) = visits_of_lane (CpuLane c) visits ++ visits_of_cpus (suc c) more

-- the visits of a book, lane after lane
abbrev pub all_visits : Book → List Happening
all_visits book =
    visits_of_lane PoolLane book.pool ++ visits_of_lane BaseLane book.base ++ visits_of_cpus 0 book.cpus

-- the visits of one lane
abbrev pub lane_visits : Book → LaneId → List Happening
lane_visits book PoolLane = visits_of_lane PoolLane book.pool
lane_visits book BaseLane = visits_of_lane BaseLane book.base
lane_visits book (CpuLane c) = visits_of_lane (CpuLane c) (list_at book.cpus c)

-- whether visit `a` comes before visit `b`: by stamp, and at equal stamps by caller
abbrev pub comes_before : Happening → Happening → Bool
comes_before a b = nat_lt a.stamp b.stamp || (a.stamp == b.stamp && nat_lt a.who.caller b.who.caller)

-- a history of a book has all the book's visits, sorted by `comes_before`
pub record IsHistory (book : Book) (history : List Happening) : Type 0 where
  pub whole : IsPermutation (all_visits book) history
  pub sorted : IsSortedBy comes_before history

-- let MarksConform hold for a transcript, and let the transcript's marks be the visits of `book`. Then the visits of
-- one lane in a history of `book` are that lane's list, in the same order. So a replay of each lane alone agrees with
-- the history
abbrev pub HistoryKeepsLanes : Type 0
HistoryKeepsLanes = (script : Script) (t : List (List SeenLine)) (book : Book) (history : List Happening)
    (lane : LaneId) → MarksConform script t → VisitsAre book (all_marks t) → IsHistory book history →
    filter (λ visit. is_same_lane visit.lane lane) history ≡ lane_visits book lane
