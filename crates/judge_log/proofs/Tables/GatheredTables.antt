-- What gather returns: tables with a row for each mark. It returns none if a line visits a CPU that does not exist.
use Rattle.std.proofs.Common.{◌≡◌, ℕ, zero, suc, ◌<◌, ◌≤◌, List, [], ◌∷◌, length, map, Some, None, sym, subst, ap, ◌∙◌, arith}
use Rattle.std.specs.Prelude.{Any, slice_index_or}
use Rattle.std.specs.List.{AllByRecursion}
use Rattle.std.specs.Global.{Vec}
use Rattle.std.proofs.lemmas.List.Elements.{All-from_recursion, recursion_from_All}
use Rattle.std.proofs.lemmas.List.Sorted.{All-permutation}
use Rattle.key_names.specs.declared.names.LaneId.{LaneId}
use Rattle.key_names.specs.declared.names.LaneId.TheVariants.{Pool as PoolLane, Base as BaseLane, Cpu as CpuLane}
use Rattle.key_names.specs.declared.names.Who.{Who}
use Rattle.key_names.specs.Lanes.Book.{Book, Visit, list_at}
use Rattle.key_names.specs.Callers.Calls.{Setting as CallSetting}
use Rattle.key_names.specs.Texts.ScriptGrammar.{Script, WellFormed}
use Rattle.key_names.specs.Transcripts.SeenLine.{SeenLine}
use Rattle.key_names.specs.Transcripts.IsTranscript.{MarkBy, all_marks, stamped, stamped_at}
use Rattle.key_names.proofs.Lists.ListFacts.{list_beyond}
use Rattle.judge_lines.specs.declared.begin.TranscriptParts.{TranscriptParts}
use Rattle.judge_lines.specs.declared.marks.MarkOf.{MarkOf}
use Rattle.judge_lines.specs.Begun.{PartsConform}
use Rattle.judge_lines.specs.Called.{seen_calls}
use Rattle.judge_lines.specs.Marks.{seen_mark}
use Rattle.judge_lines.specs.Settings.{AreSettings}
use Rattle.judge_log.specs.Tables.{Tables}
use Rattle.judge_log.specs.Gathered.{IsBookOf, IsGathered}
use Rattle.judge_log.specs.Spots.{callers_spots, Changes, HasRows, IsAbsent}
use Rattle.judge_log.proofs.Tables.FilledLanes.{lines_and_lanes}
use Rattle.judge_log.proofs.Tables.Gathers.{has_rows, rows_conform}
use Rattle.judge_log.proofs.Tables.SampledLines.{all_sampled}
use Rattle.judge_log.proofs.Tables.SampledVisits.{all_samples}
use Rattle.judge_log.proofs.Tables.TableRanges.{tables_in_range}

pub gathered : (script : Script) (t : List (List SeenLine)) (parts : TranscriptParts) (settings : List (Vec CallSetting))
    (bare inferred : Tables) → WellFormed script → AreSettings (seen_calls parts.calls.items) settings →
    HasRows script.cpus (map seen_mark parts.marks.items) bare →
    Changes (callers_spots (seen_calls parts.calls.items) (map (λ sets. sets.items) settings)) bare inferred →
    PartsConform script t parts → IsGathered script t inferred
gathered script t parts settings bare inferred well found long changes conforms =
    let rows = rows_conform script t parts settings bare inferred conforms found long changes in
    let counts = has_rows script t parts settings bare inferred conforms found long changes in record {
      in_range = tables_in_range script t parts inferred well conforms counts rows;
      pool_count = counts.rows PoolLane;
      base_count = counts.rows BaseLane;
      cpus_count = counts.count;
      cpu_count = λ c. counts.rows (CpuLane c);
      fills = λ book of. lines_and_lanes script t inferred book conforms.lines conforms.marks_conform counts rows of;
      samples = λ book ms of means fills lanes.
          all_samples script t inferred conforms.lines conforms.marks_conform rows book ms of means fills lanes;
      sampled = λ book ms of means lanes samples.
          all_sampled script t book ms conforms.lines conforms.marks_conform of means lanes samples;
    }

-- ---- a transcript with a visit of a CPU that does not exist

beyond : {E : Type 0} (visits : List (Visit E)) (place : ℕ) (there : ℕ × Who) → visits ≡ [] →
    stamped visits place ≡ Some there → ⊥
beyond visits place there none at =
    let never : None ≡ Some there = sym (ap (λ vs. stamped vs place) none) ∙ at in cc

not_absent : (script : Script) (t : List (List SeenLine)) (book : Book) → IsBookOf script t book → (lane : LaneId)
    (place : ℕ) (there : ℕ × Who) → stamped_at book lane place ≡ Some there → IsAbsent script.cpus lane → ⊥
not_absent script t book of PoolLane place there at absent = absent
not_absent script t book of BaseLane place there at absent = absent
not_absent script t book of (CpuLane c) place there at absent =
    let count : length book.cpus ≡ script.cpus = of.cpus in
    let high : length book.cpus ≤ c = omega arith in
    beyond (list_at book.cpus c) place there (list_beyond book.cpus c high) at

none_absent : (script : Script) (t : List (List SeenLine)) (book : Book) → IsBookOf script t book →
    (marks : List MarkOf) →
    AllByRecursion (λ by. stamped_at book by.mark.lane by.mark.place ≡ Some (by.mark.stamp, by.who)) (map seen_mark marks) →
    AllByRecursion (λ of. IsAbsent script.cpus of.mark.lane → ⊥) marks
none_absent script t book of [] all = tt
none_absent script t book of (m ∷ marks) all = (
  not_absent script t book of m.mark.lane m.mark.place (m.mark.stamp, m.who) all.0,
  none_absent script t book of marks all.1,
)

at_index : {X : Type 0} (P : X → Type 0) (xs : List X) (k : ℕ) (x : X) → AllByRecursion P xs → k < length xs →
    slice_index_or xs k x ≡ x → P x
at_index P [] k x all low is = absurd (omega arith)
at_index P (y ∷ ys) zero x all low is = subst P is all.0
at_index P (y ∷ ys) (suc k) x all low is = at_index P ys k x all.1 (omega arith) is

pub absent_cpu : (script : Script) (t : List (List SeenLine)) (parts : TranscriptParts) → PartsConform script t parts →
    Any (λ of. IsAbsent script.cpus of.mark.lane) parts.marks.items → (book : Book) → IsBookOf script t book → ⊥
absent_cpu script t parts conforms some book of =
    let Conforms : MarkBy → Type 0 = λ by. stamped_at book by.mark.lane by.mark.place ≡ Some (by.mark.stamp, by.who) in
    let all : AllByRecursion Conforms (map seen_mark parts.marks.items) =
    recursion_from_All Conforms (map seen_mark parts.marks.items)
    (All-permutation Conforms (all_marks t) (map seen_mark parts.marks.items) conforms.all_marks
    (All-from_recursion Conforms (all_marks t) of.visits.conform)) in
    at_index (λ (m : MarkOf). IsAbsent script.cpus m.mark.lane → ⊥) parts.marks.items some.0 some.1
    (none_absent script t book of parts.marks.items all) some.2 some.3 some.4
