-- The tables before any entry is inferred. At first they have no rows; then they get one unfilled row for each mark.
use Rattle.std.proofs.Common.{◌≡◌, ◌≢◌, ℕ, zero, suc, ◌+◌, ◌<◌, ◌≤◌, Bool, true, false, List, [], ◌∷◌, ◌++◌, length, map, drop, slice_set, get_or, Vec, Global, ◌⊎◌, inl, inr, refl, sym, subst, ap, ◌∙◌, arith}
use Rattle.std.proofs.Common.{add-one}
use Rattle.std.proofs.lemmas.List.{length_push}
use Rattle.key_names.specs.declared.names.Mark.{Mark}
use Rattle.key_names.specs.declared.names.Step.TheVariants.{Visit as Marked}
use Rattle.judge_lines.specs.declared.inferred.BaseInferred.{BaseInferred}
use Rattle.judge_log.specs.declared.inferred.InferredPool.{InferredPool}
use Rattle.judge_log.specs.declared.inferred.InferredCpu.{InferredCpu}
use Rattle.judge_log.specs.Tables.{Tables}
use Rattle.judge_log.specs.Rows.{cpu_row}
use Rattle.judge_log.specs.Spots.{Spot, rows_in, Changes, IsLonger}
use Rattle.judge_log.proofs.Tables.OneRow.{PutAt, cpu_put}
use Rattle.std.specs.Prelude.{slice_get, Some, None, ◌==◌, if◌then◌else◌}
use Rattle.std.proofs.lemmas.Option.{slice_get-get_or}
use Rattle.key_names.specs.declared.entries.CpuEntry.TheVariants.{Prepare}
use Rattle.key_names.proofs.Transcripts.TranscriptBooks.{lt_or_le}
use Rattle.judge_lines.specs.declared.inferred.CpuInferred.TheVariants.{Is as cpu_is}
use Rattle.std.proofs.lemmas.Bool.{eq-eqb, eqb-true}
use Rattle.key_names.specs.declared.names.LaneId.{LaneId}
use Rattle.key_names.specs.declared.names.LaneId.TheVariants.{Pool as PoolLane, Base as BaseLane, Cpu as CpuLane}
use Rattle.key_names.specs.Lanes.Book.{list_at}
use Rattle.key_names.specs.Transcripts.IsTranscript.{is_same_lane, lane_marks}
use Rattle.judge_lines.specs.declared.marks.MarkOf.{MarkOf}
use Rattle.judge_lines.specs.Marks.{seen_mark}

module _ {T : Type 0} where
  abbrev pub items_of : List (Vec T Global) → List (List T)
  items_of vecs = map (λ (v : Vec T Global). v.items) vecs

  -- if all vectors in `vecs` have no rows, and a vector `v` without rows is appended, all vectors still have no rows
  pub bare_more : (vecs : List (Vec T Global)) (v : Vec T Global) → v.items ≡ [] →
      ((c : ℕ) → list_at (items_of vecs) c ≡ []) → (c : ℕ) → list_at (items_of (vecs ++ v ∷ [])) c ≡ []
  bare_more [] v none bare zero = none
  bare_more [] v none bare (suc c) = refl
  bare_more (x ∷ vecs) v none bare zero = bare 0
  bare_more (x ∷ vecs) v none bare (suc c) = bare_more vecs v none (λ d. bare (suc d)) c

  -- if the vector of CPU `c` is replaced by `v`, CPU `c` has the rows of `v`, and no other CPU's rows change
  pub lane_set : (vecs : List (Vec T Global)) (c : ℕ) (v : Vec T Global) → c < length vecs →
      list_at (items_of (slice_set vecs c v)) c ≡ v.items
  lane_set [] c v low = absurd (omega arith)
  lane_set (x ∷ vecs) zero v low = refl
  lane_set (x ∷ vecs) (suc c) v low = lane_set vecs c v (omega arith)

  pub lane_kept : (vecs : List (Vec T Global)) (c d : ℕ) (v : Vec T Global) → d ≢ c →
      list_at (items_of (slice_set vecs c v)) d ≡ list_at (items_of vecs) d
  lane_kept [] c d v other = refl
  lane_kept (x ∷ vecs) zero zero v other = absurd (other refl)
  lane_kept (x ∷ vecs) zero (suc d) v other = refl
  lane_kept (x ∷ vecs) (suc c) zero v other = refl
  lane_kept (x ∷ vecs) (suc c) (suc d) v other = lane_kept vecs c d v (λ e. other (ap suc e))

-- let `of` be the mark at index `i`. From index `i + 1` on, the lane of `of` has one mark fewer than from `i` on; each
-- other lane has as many as from `i` on
pub marks_left : (lane : LaneId) (marks : List MarkOf) (i : ℕ) (of : MarkOf) → slice_get marks i ≡ Some of →
    length (lane_marks lane (map seen_mark (drop i marks)))
    ≡ (if is_same_lane of.mark.lane lane then suc (length (lane_marks lane (map seen_mark (drop (suc i) marks))))
    else length (lane_marks lane (map seen_mark (drop (suc i) marks))))
marks_left lane [] i of is = let never : None ≡ Some of = is in cc
marks_left lane (m ∷ marks) zero of is =
    let same : m ≡ of = cc in
    subst (λ (o : MarkOf). length (lane_marks lane (map seen_mark (m ∷ marks)))
    ≡ (if is_same_lane o.mark.lane lane then suc (length (lane_marks lane (map seen_mark marks)))
    else length (lane_marks lane (map seen_mark marks)))) same (go (is_same_lane m.mark.lane lane))
  where
    go : (b : Bool) → length (if b then m.mark ∷ lane_marks lane (map seen_mark marks) else lane_marks lane (map seen_mark marks))
        ≡ (if b then suc (length (lane_marks lane (map seen_mark marks))) else length (lane_marks lane (map seen_mark marks)))
    go true = refl
    go false = refl
marks_left lane (m ∷ marks) (suc i) of is = marks_left lane marks i of is

set_long : {T : Type 0} (vecs : List (Vec T Global)) (c : ℕ) (v : Vec T Global) →
    length (items_of (slice_set vecs c v)) ≡ length (items_of vecs)
set_long [] c v = refl
set_long (x ∷ vecs) zero v = refl
set_long (x ∷ vecs) (suc c) v = ap suc (set_long vecs c v)

-- the tables with the rows `pool` and `base`, and for the CPUs the rows of the vectors `vecs`
abbrev pub with_lanes : List InferredPool → List BaseInferred → List (Vec InferredCpu Global) → Tables
with_lanes pool base vecs = record { pool = pool; base = base; cpus = items_of vecs }

-- if `row` is appended to the vector of CPU `c`, the table of CPU `c` is one row longer
pub cpu_longer : (pool : List InferredPool) (base : List BaseInferred) (vecs : List (Vec InferredCpu Global)) (c : ℕ)
    (v : Vec InferredCpu Global) (row : InferredCpu) → c < length vecs → v.items ≡ list_at (items_of vecs) c ++ row ∷ [] →
    IsLonger (CpuLane c) (with_lanes pool base vecs) (with_lanes pool base (slice_set vecs c v))
cpu_longer pool base vecs c v row low more = record { cpus = set_long vecs c v; rows = rows }
  where
    at_cpu : (d : ℕ) (b : Bool) → (c == d) ≡ b → length (list_at (items_of (slice_set vecs c v)) d)
        ≡ (if b then suc (length (list_at (items_of vecs) d)) else length (list_at (items_of vecs) d))
    at_cpu d true same =
        subst (λ e. length (list_at (items_of (slice_set vecs c v)) e) ≡ suc (length (list_at (items_of vecs) e)))
        (eqb-true c d same)
        (ap length (lane_set vecs c v low ∙ more) ∙ length_push (list_at (items_of vecs) c) row
        ∙ add-one (length (list_at (items_of vecs) c)))
    at_cpu d false other =
        ap length (lane_kept vecs c d v (λ e. (let itself : (c == d) ≡ true = eq-eqb c d (sym e) in cc)))

    rows : (other : LaneId) → rows_in (with_lanes pool base (slice_set vecs c v)) other
        ≡ (if is_same_lane (CpuLane c) other then suc (rows_in (with_lanes pool base vecs) other)
        else rows_in (with_lanes pool base vecs) other)
    rows PoolLane = refl
    rows BaseLane = refl
    rows (CpuLane d) = at_cpu d (c == d) refl

-- if the row of `spot` is put into its CPU's vector, the tables change by this row and no other
pub cpu_row_put : (pool : List InferredPool) (base : List BaseInferred) (vecs : List (Vec InferredCpu Global)) (c : ℕ)
    (v : Vec InferredCpu Global) (spot : Spot) (mark : Mark) → c < length vecs → spot.step ≡ Marked mark →
    mark.lane ≡ CpuLane c →
    PutAt (list_at (items_of vecs) c) v.items mark.place (cpu_row spot.set spot.tells spot.first spot.neighbours) →
    Changes (spot ∷ []) (with_lanes pool base vecs) (with_lanes pool base (slice_set vecs c v))
cpu_row_put pool base vecs c v spot mark low is lane_is put =
    cpu_put spot mark (with_lanes pool base vecs) (with_lanes pool base (slice_set vecs c v)) is c lane_is
    (subst (λ xs. PutAt (list_at (items_of vecs) c) xs mark.place (cpu_row spot.set spot.tells spot.first spot.neighbours))
    (sym (lane_set vecs c v low)) put)
    (λ d other. lane_kept vecs c d v other) (set_long vecs c v) refl refl

-- suppose that the mark at index `i` is passed, and its lane gets a row. Then for each lane the sum of its rows and of
-- its marks that are left does not change
pub rows_and_left : (lane : LaneId) (marks : List MarkOf) (i : ℕ) (d : MarkOf) (old new : Tables) (n : ℕ) →
    i < length marks → IsLonger (get_or marks i d).mark.lane old new →
    rows_in old lane + length (lane_marks lane (map seen_mark (drop i marks))) ≡ n →
    rows_in new lane + length (lane_marks lane (map seen_mark (drop (i + 1) marks))) ≡ n
rows_and_left lane marks i d old new n low longer so_far =
    subst (λ k. rows_in new lane + length (lane_marks lane (map seen_mark (drop k marks))) ≡ n) (sym (add-one i))
    (go (is_same_lane (get_or marks i d).mark.lane lane)
    (marks_left lane marks i (get_or marks i d) (slice_get-get_or marks i d low)) (longer.rows lane))
  where
    go : (b : Bool) → length (lane_marks lane (map seen_mark (drop i marks)))
        ≡ (if b then suc (length (lane_marks lane (map seen_mark (drop (suc i) marks))))
        else length (lane_marks lane (map seen_mark (drop (suc i) marks)))) →
        rows_in new lane ≡ (if b then suc (rows_in old lane) else rows_in old lane) →
        rows_in new lane + length (lane_marks lane (map seen_mark (drop (suc i) marks))) ≡ n
    go true marks_are rows_are = omega arith
    go false marks_are rows_are = omega arith

pub longer_at : (l m : LaneId) (old new : Tables) → l ≡ m → IsLonger m old new → IsLonger l old new
longer_at l m old new is longer = subst (λ x. IsLonger x old new) (sym is) longer

-- the content of an unfilled row
abbrev pub bare_row : InferredCpu
bare_row = record { entry = cpu_is Prepare; dumps = false }

pub put_as : {A : Type 0} (old old' new : List A) (place : ℕ) (row row' : A) → old ≡ old' → row ≡ row' →
    PutAt old new place row → PutAt old' new place row'
put_as {A = A} old old' new place row row' same is put =
    subst (λ (xs : List A). PutAt xs new place row') same (subst (λ (r : A). PutAt old new place r) is put)

pub not_low : (c n : ℕ) → (c < n → false ≡ true) → n ≤ c
not_low c n never = go (lt_or_le c n)
  where
    go : (c < n) ⊎ (n ≤ c) → n ≤ c
    go (inl low) = let no_way : false ≡ true = never low in cc
    go (inr high) = high
