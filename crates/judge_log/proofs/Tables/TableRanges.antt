-- If the tables have for each mark the row inferred from the mark's line, the tables are in range.
use Rattle.std.proofs.Common.{◌≡◌, ℕ, suc, ◌<◌, ◌≤◌, ◌^◌, List, [], ◌∷◌, length, Some, refl, subst, arith, Bool, true, false}
use Rattle.std.specs.Prelude.{slice_get, All, if◌then◌else◌, nat_lt}
use Rattle.std.specs.List.{AllByRecursion}
use Rattle.std.proofs.lemmas.List.Elements.{All-from_recursion}
use Rattle.std.proofs.lemmas.Option.{slice_get_within}
use Rattle.key_names.specs.declared.names.LaneId.{LaneId}
use Rattle.key_names.specs.declared.names.LaneId.TheVariants.{Pool as PoolLane, Base as BaseLane, Cpu as CpuLane}
use Rattle.key_names.specs.Lanes.Book.{list_at}
use Rattle.key_names.specs.Texts.ScriptGrammar.{Script, WellFormed, most_cpus}
use Rattle.key_names.specs.Transcripts.SeenLine.{SeenLine}
use Rattle.key_names.specs.Transcripts.IsTranscript.{all_marks, script_calls}
use Rattle.key_names.proofs.Transcripts.LaneCounts.{every_place}
use Rattle.judge_lines.specs.declared.begin.TranscriptParts.{TranscriptParts}
use Rattle.judge_lines.specs.Begun.{PartsConform}
use Rattle.judge_log.specs.declared.inferred.InferredCpu.{InferredCpu}
use Rattle.judge_log.specs.Tables.{Tables, InRange, PoolIsNear, BaseIsNear, CpuIsWide}
use Rattle.judge_log.specs.Rows.{AllCallsRows}
use Rattle.judge_log.specs.Spots.{rows_in, HasRows}
use Rattle.judge_log.proofs.Tables.MarkedSteps.{LineHas, all_of_lines, to_all_lines}
use Rattle.judge_log.proofs.Tables.RowRanges.{NearAt, all_calls_near, all_rows_near}

cpus_few : (version cpus : ℕ) → cpus ≤ most_cpus version → cpus < 2 ^ 32
cpus_few version cpus le = go (nat_lt version 3) le
  where
    go : (b : Bool) → cpus ≤ (if b then 64 else 256) → cpus < 2 ^ 32
    go true le = omega arith
    go false le = omega arith

-- ---- if a fact holds at each place of a list, it holds of all elements

each_at : {A : Type 0} (P : A → Type 0) (xs : List A) → ((i : ℕ) (x : A) → slice_get xs i ≡ Some x → P x) →
    AllByRecursion P xs
each_at P [] each = tt
each_at P (x ∷ xs) each = (each 0 x refl, each_at P xs (λ i y at. each (suc i) y at))

each_lane : {A : Type 0} (P : A → Type 0) (xss : List (List A)) →
    ((c k : ℕ) (x : A) → slice_get (list_at xss c) k ≡ Some x → P x) → AllByRecursion (λ xs. All P xs) xss
each_lane P [] each = tt
each_lane P (xs ∷ xss) each = (
  All-from_recursion P xs (each_at P xs (each 0)),
  each_lane P xss (λ c k x at. each (suc c) k x at),
)

module _ (script : Script) (t : List (List SeenLine)) (parts : TranscriptParts) (inferred : Tables) (well : WellFormed script)
    (conforms : PartsConform script t parts) (long : HasRows script.cpus (all_marks t) inferred)
    (rows : AllCallsRows inferred (script_calls script t)) where
  near : (lane : LaneId) (place : ℕ) → place < rows_in inferred lane → NearAt inferred lane place
  near lane place low =
      every_place (NearAt inferred) lane (all_marks t) (conforms.marks_conform.lanes lane)
      (all_of_lines (NearAt inferred) t
      (to_all_lines (LineHas (NearAt inferred)) 0 script.callers t conforms.lines
      (all_rows_near inferred (script_calls script t)
      (all_calls_near script.version script.cpus script.callers t well.ranges) rows))) place
      (subst (λ n. place < n) (long.rows lane) low)

  pub tables_in_range : InRange inferred
  tables_in_range = record {
    cpus_count = (let same : length inferred.cpus ≡ script.cpus = long.count in
        omega (arith, cpus_few script.version script.cpus well.cpus.1));
    notes = All-from_recursion PoolIsNear inferred.pool
        (each_at PoolIsNear inferred.pool (λ p u at. near PoolLane p (slice_get_within inferred.pool p u at) u at));
    moments = All-from_recursion BaseIsNear inferred.base
        (each_at BaseIsNear inferred.base (λ i u at. near BaseLane i (slice_get_within inferred.base i u at) u at));
    widths = All-from_recursion (λ (lane : List InferredCpu). All (λ (u : InferredCpu). CpuIsWide u.entry) lane) inferred.cpus
        (each_lane (λ (u : InferredCpu). CpuIsWide u.entry) inferred.cpus
        (λ c k u at. near (CpuLane c) k (slice_get_within (list_at inferred.cpus c) k u at) u at));
  }
