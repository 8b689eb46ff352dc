-- The tables begin with unfilled rows, and the row of each spot is put into them in turn. In the end each mark has the
-- row that is inferred from the mark's line.
use Rattle.std.proofs.Common.{◌≡◌, ℕ, zero, suc, ◌<◌, ◌≤◌, List, [], ◌∷◌, length, Some, None, refl, sym, subst, ap, ◌∙◌, arith, map}
use Rattle.std.specs.Prelude.{slice_get}
use Rattle.std.specs.List.{AllByRecursion}
use Rattle.std.specs.Global.{Vec}
use Rattle.std.proofs.lemmas.List.{length-map}
use Rattle.key_names.specs.declared.names.LaneId.{LaneId}
use Rattle.key_names.specs.Lanes.Book.{list_at}
use Rattle.key_names.specs.Callers.Calls.{Setting as CallSetting, Call}
use Rattle.key_names.specs.Texts.ScriptGrammar.{Script}
use Rattle.key_names.specs.Transcripts.SeenLine.{SeenLine}
use Rattle.key_names.specs.Transcripts.IsTranscript.{all_marks, lane_marks, script_calls, start_setting}
use Rattle.key_names.proofs.Transcripts.CallTakes.{all_calls_marks, all_marks_within}
use Rattle.key_names.proofs.Lists.Each.{each_weaker}
use Rattle.key_names.proofs.Transcripts.TakenMarks.{one_mark}
use Rattle.key_names.proofs.Unique.UniqueMeanings.{OfCall}
use Rattle.judge_lines.specs.declared.begin.TranscriptParts.{TranscriptParts}
use Rattle.judge_lines.specs.Begun.{PartsConform}
use Rattle.judge_lines.specs.Called.{seen_calls}
use Rattle.judge_lines.specs.Marks.{seen_mark}
use Rattle.judge_lines.specs.Settings.{AreSettings, settings_from}
use Rattle.judge_lines.proofs.MarksMoved.{same_long}
use Rattle.judge_log.specs.Tables.{Tables}
use Rattle.judge_log.specs.Rows.{AllCallsRows}
use Rattle.judge_log.specs.Spots.{rows_in, callers_spots, Changes, HasRows}
use Rattle.judge_log.proofs.Tables.LanePlaces.{marks_low}
use Rattle.judge_log.proofs.Tables.MarkedSteps.{LineHas, MarkHas, all_lines, to_callers}
use Rattle.judge_log.proofs.Tables.SpotRows.{SpotHas, callers_takes, callers_have, callers_rows}
use Rattle.judge_log.proofs.Tables.TableChanges.{spots_takes, all_conform}

map_at : {X Y : Type 0} (f : X → Y) (xs : List X) (c : ℕ) (y : Y) → slice_get (map f xs) c ≡ Some y →
    (x : X) × (slice_get xs c ≡ Some x) × (f x ≡ y)
map_at f [] c y is = let never : None ≡ Some y = is in cc
map_at f (x ∷ xs) zero y is = (x, refl, cc)
map_at f (x ∷ xs) (suc c) y is = map_at f xs c y is

module _ (script : Script) (t : List (List SeenLine)) (parts : TranscriptParts) (settings : List (Vec CallSetting))
    (bare inferred : Tables) (conforms : PartsConform script t parts) (found : AreSettings (seen_calls parts.calls.items) settings)
    (long : HasRows script.cpus (map seen_mark parts.marks.items) bare)
    (changes : Changes (callers_spots (seen_calls parts.calls.items) (map (λ sets. sets.items) settings)) bare inferred) where
  abbrev calls : List (List Call)
  calls = seen_calls parts.calls.items

  abbrev sets : List (List CallSetting)
  sets = map (λ (s : Vec CallSetting). s.items) settings

  bare_rows : (lane : LaneId) → rows_in bare lane ≡ length (lane_marks lane (all_marks t))
  bare_rows lane = long.rows lane ∙ same_long lane (all_marks t) (map seen_mark parts.marks.items) conforms.all_marks

  pub has_rows : HasRows script.cpus (all_marks t) inferred
  has_rows = record {
    count = changes.cpus ∙ long.count;
    rows = λ lane. changes.sizes lane ∙ bare_rows lane;
  }

  once : (lane : LaneId) (place : ℕ) → spots_takes lane place (callers_spots calls sets) ≤ 1
  once lane place =
      let same : all_calls_marks lane place calls ≡ all_calls_marks lane place (script_calls script t) =
      ap (all_calls_marks lane place) conforms.calls in
      omega (
        arith,
        callers_takes lane place calls sets,
        all_marks_within lane place script.callers t,
        one_mark lane place t (conforms.marks_conform.lanes lane),
      )

  abbrev Low : LaneId → ℕ → Type 0
  Low lane place = place < rows_in bare lane

  low : AllByRecursion (SpotHas Low) (callers_spots calls sets)
  low =
      let marks : AllByRecursion (MarkHas Low) (all_marks t) =
      each_weaker (λ by. by.mark.place < length (lane_marks by.mark.lane (all_marks t))) (MarkHas Low) (all_marks t)
      (λ by below. subst (λ n. by.mark.place < n) (sym (bare_rows by.mark.lane)) below)
      (marks_low (all_marks t) conforms.marks_conform.lanes) in
      let all : AllByRecursion (λ calls. AllByRecursion (OfCall (LineHas Low)) calls) (script_calls script t) =
      to_callers (LineHas Low) 0 script.callers t conforms.lines (all_lines Low t marks) in
      callers_have Low calls sets
      (subst (λ (cs : List (List Call)). AllByRecursion (λ calls. AllByRecursion (OfCall (LineHas Low)) calls) cs)
      (sym conforms.calls) all)

  settings_found : (c : ℕ) (s : List CallSetting) → slice_get sets c ≡ Some s →
      s ≡ settings_from (start_setting calls c) (list_at calls c)
  settings_found c s at =
      let f = map_at (λ (s : Vec CallSetting). s.items) settings c s at in sym f.2 ∙ found.each c f.0 f.1

  pub rows_conform : AllCallsRows inferred (script_calls script t)
  rows_conform = subst (λ (cs : List (List Call)). AllCallsRows inferred cs) conforms.calls
      (callers_rows inferred (start_setting calls) calls sets
      (length-map settings (λ (s : Vec CallSetting). s.items) ∙ found.long) settings_found
      (all_conform bare inferred (callers_spots calls sets) changes once low))
