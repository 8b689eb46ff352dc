-- The laws of the lanes' lists of visits as a book: the lists are lawful, and the models (lanes' values in the proofs)
-- have the values that the entries give.
use Rattle.std.specs.Prelude.{◌≡◌, ℕ, ◌+◌, ◌*◌, ◌<◌, ◌≤◌, IsTrue, Option, Some, None, List, length, take, replicate, slice_get}
use Rattle.std.specs.List.{fold}
use Rattle.key_names.specs.declared.entries.BaseEntry.{BaseEntry}
use Rattle.key_names.specs.declared.entries.Taken.{Taken}
use Rattle.key_names.specs.declared.entries.CpuEntry.{CpuEntry}
use Rattle.key_names.specs.declared.entries.CpuEntry.TheVariants.{Read}
use Rattle.key_names.specs.Lanes.PoolList.{pool_after, root_value}
use Rattle.key_names.specs.Lanes.BaseList.{base_erases, generation_at, refill_of}
use Rattle.key_names.specs.Kernel.Batches.{Fill}
use Rattle.key_names.specs.Lanes.CpuList.{cpu_after}
use Rattle.key_names.specs.Kernel.FastPool.{fast_after}
use Rattle.key_names.specs.Keys.KeyInUse.{base_call_value, cpu_call_value, cpu_used_at}
use Rattle.key_names.specs.Keys.LiveMaterial.{cpu_bytes_start, cpu_bytes_step}
use Rattle.key_names.specs.Lanes.Book.{Lists, cpu_list, ForwardLawful, HalfFinishedLanes, LawfulLanes}
use Rattle.base_gen.specs.BaseValue as base
use Rattle.cpu_gen.specs.CpuValue as cpu
use Rattle.int_batch.specs.BatchValue.{BatchValue, IsBatchOf}
use Rattle.lane_table.specs.declared.view.LaneEntry.TheVariants.{Base as BaseVisited, Cpu as CpuVisited}
use Rattle.lane_table.specs.declared.view.View.{View}
use Rattle.lane_table.specs.declared.view.Visit.{Visit}
use Rattle.lane_table.specs.Meaning.{CpuModel, batch_at, replay}
use Rattle.lane_table.specs.References.{Closed, LawfulLists, AllAnswered, AllHalfAnswered}
use Rattle.lane_table.specs.WorldRule.{Begins, known_of}
use Rattle.lane_table.specs.BookLists.{StateLists, book_lists}

-- the lists belong to a pool, a base and some CPUs, and each list is lawful. If an entry names a visit of the parent
-- lane, that visit names the entry
pub record ClosedLanes (lanes : ℕ) (visits : ℕ → List Visit) : Type 0 where
  pub low : 2 ≤ lanes
  pub closed : Closed lanes visits
  pub lawful : LawfulLists lanes visits

-- for each lane, the list that the view knows is a prefix of the lane's list in `visits`
pub record Continues (lanes : ℕ) (v : View) (visits : ℕ → List Visit) : Type 0 where
  pub long : length v.lanes ≡ lanes
  pub begins : (lane : ℕ) → lane < lanes → Begins (known_of v lane) (visits lane)
  pub closed : ClosedLanes lanes visits

-- closed lists make a book in which the lists of the base and the CPUs are lawful. If an entry of these lists names a
-- root or a refill, the entry at the named place names it back
abbrev pub ClosedIsForwardLawful : Type 0
ClosedIsForwardLawful = (lanes : ℕ) (visits : ℕ → List Visit) (callers : StateLists) →
    ClosedLanes lanes visits →
    ForwardLawful (book_lists lanes visits callers)

-- suppose that `ClosedLanes` holds. An extraction or a refill names the place that takes its key. If each such place
-- has a visit that names the extraction or refill back, or is beyond the end of its list, the book is half finished
abbrev pub HalfAnsweredIsHalfFinished : Type 0
HalfAnsweredIsHalfFinished = (lanes : ℕ) (visits : ℕ → List Visit) (callers : StateLists) →
    ClosedLanes lanes visits → AllHalfAnswered lanes visits →
    HalfFinishedLanes (book_lists lanes visits callers)

-- suppose that `ClosedLanes` holds. An extraction or a refill names the place that takes its key. If each such place
-- has a visit that names the extraction or refill back, the book is lawful
abbrev pub AnsweredIsLawful : Type 0
AnsweredIsLawful = (lanes : ℕ) (visits : ℕ → List Visit) (callers : StateLists) →
    ClosedLanes lanes visits → AllAnswered lanes visits →
    LawfulLanes (book_lists lanes visits callers)

-- a fill without its key and its place: a lane does not keep them with a batch
abbrev pub bare : Option Fill → Option Fill
bare None = None
bare (Some fill) = Some (record { key = None; place = 0; count = fill.count; look = fill.look })

-- a batch after a fill of CPU `c`: the served bytes are 0, and the others are keystream of the key in use at the fill
pub record BatchReplays (lists : Lists) (c width : ℕ) (fill : Fill) (b : BatchValue) : Type 0 where
  pub served : take (width * fill.count) b.bytes ≡ replicate (width * fill.count) 0
  pub rest : IsBatchOf width (cpu_used_at lists c fill.place) fill b

-- the model `m` of CPU `c` has the values that the entries `es` of the CPU's list give
pub record CpuReplays (lists : Lists) (c : ℕ) (es : List CpuEntry) (m : CpuModel) : Type 0 where
  pub cpu : m.cpu ≡ cpu.after_entries lists c es
  pub fast : m.fast ≡ fast_after es
  pub fills : (width : ℕ) → m.fills width ≡ bare ((cpu_after lists.base c es).fills width)
  pub bytes : (width : ℕ) → m.bytes width ≡ (fold (cpu_bytes_step lists c) cpu_bytes_start es).batch width
  pub unfilled : (width : ℕ) → (cpu_after lists.base c es).fills width ≡ None → m.bytes width ≡ replicate 96 0
  pub batches : (width : ℕ) (fill : Fill) → 1 ≤ width → width ≤ 96 →
      (cpu_after lists.base c es).fills width ≡ Some fill →
      BatchReplays lists c width fill (batch_at width m)

-- each lane's model has the values that the entries of the lane's list give
pub record LanesReplay (lanes : ℕ) (visits : ℕ → List Visit) (lists : Lists) : Type 0 where
  pub pool : (replay (visits 0)).pool ≡ pool_after lists.pool
  pub base : (replay (visits 1)).base ≡ base.after_entries lists.pool lists.base
  pub cpus : (c : ℕ) → c + 2 < lanes → CpuReplays lists c (cpu_list lists c) (replay (visits (c + 2))).cpu

-- the key that each visit hands on is the one that the book gives for the visit's place
pub record VisitsGive (lanes : ℕ) (visits : ℕ → List Visit) (lists : Lists) : Type 0 where
  pub roots : (place : ℕ) (x : Visit) → slice_get (visits 0) place ≡ Some x → x.gave.key ≡ root_value lists.pool place
  pub base_keys : (place : ℕ) (x : Visit) (e : BaseEntry) → slice_get (visits 1) place ≡ Some x →
      x.entry ≡ BaseVisited e → IsTrue (base_erases e) →
      x.gave.key ≡ base_call_value lists place
  pub generations : (place : ℕ) (x : Visit) (e : BaseEntry) (named : ℕ × ℕ) → slice_get (visits 1) place ≡ Some x →
      x.entry ≡ BaseVisited e → refill_of e ≡ Some named →
      x.gave.generation ≡ generation_at lists.base place
  pub cpu_keys : (c place look : ℕ) (refill : Option ℕ) (taken : Taken) (x : Visit) → c + 2 < lanes →
      slice_get (visits (c + 2)) place ≡ Some x → x.entry ≡ CpuVisited (Read look refill taken) →
      x.gave.key ≡ cpu_call_value lists c place

-- `ClosedReplays`: in closed lanes, each lane's model is the one that the book gives. `ClosedGives`: in closed lanes,
-- the key that each visit hands on is the one that the book gives
abbrev pub ClosedReplays : Type 0
ClosedReplays = (lanes : ℕ) (visits : ℕ → List Visit) (callers : StateLists) →
    ClosedLanes lanes visits →
    LanesReplay lanes visits (book_lists lanes visits callers)

abbrev pub ClosedGives : Type 0
ClosedGives = (lanes : ℕ) (visits : ℕ → List Visit) (callers : StateLists) →
    ClosedLanes lanes visits →
    VisitsGive lanes visits (book_lists lanes visits callers)
