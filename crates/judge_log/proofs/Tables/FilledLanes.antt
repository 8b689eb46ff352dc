-- Let the rows be inferred from the lines. Then the visits of all lines have the inferred entries exactly if the lists
-- match the tables.
use Rattle.std.proofs.Common.{◌≡◌, ℕ, zero, suc, ◌<◌, List, [], ◌∷◌, length, Some, refl, sym, subst, ap, ◌∙◌, arith, map}
use Rattle.std.specs.Prelude.{◌↔◌, slice_get}
use Rattle.std.specs.List.{AllByRecursion}
use Rattle.std.proofs.lemmas.List.{length-map}
use Rattle.std.proofs.lemmas.Option.{slice_get_within}
use Rattle.key_names.specs.declared.entries.PoolEntry.{PoolEntry}
use Rattle.key_names.specs.declared.entries.BaseEntry.{BaseEntry}
use Rattle.key_names.specs.declared.entries.CpuEntry.{CpuEntry}
use Rattle.key_names.specs.declared.names.LaneId.{LaneId}
use Rattle.key_names.specs.declared.names.LaneId.TheVariants.{Pool as PoolLane, Base as BaseLane, Cpu as CpuLane}
use Rattle.key_names.specs.declared.names.Step.{Step}
use Rattle.key_names.specs.declared.names.Step.TheVariants.{Look, Visit as Marked}
use Rattle.key_names.specs.Lanes.Book.{Book, Visit, Lists, lists_of, entries_of, list_at, cpu_list}
use Rattle.key_names.specs.Callers.Calls.{Call}
use Rattle.key_names.specs.Callers.Effects.{Effect, at_pool, at_base, at_cpu, effect_or, effect_at, effect_of, effects_of, pool_visit, base_visit, cpu_visit}
use Rattle.key_names.specs.Texts.ScriptGrammar.{Script}
use Rattle.key_names.specs.Transcripts.SeenLine.{SeenLine}
use Rattle.key_names.specs.Transcripts.IsTranscript.{HasLines, MarksConform, MarkBy, all_marks, stamped_at, script_calls, start_setting}
use Rattle.key_names.proofs.Lists.Each.{each_weaker}
use Rattle.key_names.proofs.Lists.ListFacts.{at_list, each_list}
use Rattle.key_names.proofs.Transcripts.LaneCounts.{every_place, lane_counts, lane_length, within_lane}
use Rattle.key_names.proofs.Unique.UniqueMeanings.{OfCall}
use Rattle.judge_lines.specs.Inferred.{AllThere, IsThere}
use Rattle.judge_log.specs.Fills.{Fills}
use Rattle.judge_log.specs.Tables.{Tables}
use Rattle.judge_log.specs.Filled.{AllCallsFill}
use Rattle.judge_log.specs.Gathered.{IsBookOf}
use Rattle.judge_log.specs.Rows.{AllCallsRows}
use Rattle.judge_log.specs.Spots.{HasRows, rows_in}
use Rattle.judge_log.proofs.Tables.Matches.{PlaceMatches, StepMatches, LineThere, LineMatches, to_calls, from_calls}
use Rattle.judge_log.proofs.Tables.MarkedSteps.{StepHas, LineHas, MarkHas, all_lines, all_of_lines, to_callers, to_all_lines}

-- the number of entries that a lane has in the lists
abbrev pub entries_in : Lists → LaneId → ℕ
entries_in lists PoolLane = length lists.pool
entries_in lists BaseLane = length lists.base
entries_in lists (CpuLane c) = length (cpu_list lists c)

list_at_map : {X Y : Type 0} (f : X → Y) (xss : List (List X)) (c : ℕ) →
    list_at (map (λ xs. map f xs) xss) c ≡ map f (list_at xss c)
list_at_map f [] c = refl
list_at_map f (xs ∷ xss) zero = refl
list_at_map f (xs ∷ xss) (suc c) = list_at_map f xss c

pub book_lanes : (book : Book) (lane : LaneId) → entries_in (lists_of book) lane ≡ lane_length book lane
book_lanes book PoolLane = length-map book.pool (λ (v : Visit PoolEntry). v.entry)
book_lanes book BaseLane = length-map book.base (λ (v : Visit BaseEntry). v.entry)
book_lanes book (CpuLane c) =
    ap length (list_at_map (λ (v : Visit CpuEntry). v.entry) book.cpus c)
    ∙ length-map (list_at book.cpus c) (λ (v : Visit CpuEntry). v.entry)

-- ---- if a place is below the number of a lane's entries, the lane has an entry at this place

is_there : {E : Type 0} (effect : E → Effect) → ((e : E) → IsThere (effect e)) → (xs : List E) (place : ℕ) →
    place < length xs → IsThere (effect_or effect (slice_get xs place))
is_there effect all [] place low = absurd (omega arith)
is_there effect all (x ∷ xs) zero low = all x
is_there effect all (x ∷ xs) (suc place) low = is_there effect all xs place (omega arith)

there_at : (lists : Lists) (lane : LaneId) (place : ℕ) → place < entries_in lists lane →
    IsThere (effect_at lists lane place)
there_at lists PoolLane place low = is_there (λ e. at_pool (pool_visit lists place e)) (λ e. tt) lists.pool place low
there_at lists BaseLane place low = is_there (λ e. at_base (base_visit lists place e)) (λ e. tt) lists.base place low
there_at lists (CpuLane c) place low =
    is_there (λ e. at_cpu (cpu_visit lists c place e)) (λ e. tt) (cpu_list lists c) place low

module _ (lists : Lists) where
  abbrev Within : LaneId → ℕ → Type 0
  Within lane place = place < entries_in lists lane

  all_there : (steps : List Step) → AllByRecursion (StepHas Within) steps → AllThere (effects_of lists steps)
  all_there [] low = tt
  all_there (step ∷ steps) low = (one step low.0, all_there steps low.1)
    where
      one : (step : Step) → StepHas Within step → IsThere (effect_of lists step)
      one (Look g) low = tt
      one (Marked mark) low = there_at lists mark.lane mark.place low

module _ (script : Script) (t : List (List SeenLine)) (inferred : Tables) (book : Book) (lines : HasLines script t)
    (marks : MarksConform script t) (long : HasRows script.cpus (all_marks t) inferred)
    (rows : AllCallsRows inferred (script_calls script t)) (is : IsBookOf script t book) where
  abbrev lists : Lists
  lists = lists_of book

  abbrev callers : List (List Call)
  callers = script_calls script t

  low : AllByRecursion (MarkHas (Within lists)) (all_marks t)
  low = each_weaker (λ (by : MarkBy). stamped_at book by.mark.lane by.mark.place ≡ Some (by.mark.stamp, by.who))
      (MarkHas (Within lists)) (all_marks t)
      (λ (by : MarkBy) at. subst (λ n. by.mark.place < n) (sym (book_lanes book by.mark.lane))
      (within_lane book by.mark.lane by.mark.place (by.mark.stamp, by.who) at)) is.visits.conform

  there : AllByRecursion (λ calls. AllByRecursion (OfCall (LineThere inferred lists)) calls) callers
  there = to_callers (LineThere inferred lists) 0 script.callers t lines
      (each_weaker (λ (lines : List SeenLine). AllByRecursion (LineHas (Within lists)) lines)
      (λ (lines : List SeenLine). AllByRecursion (LineThere inferred lists) lines) t
      (λ lines all. each_weaker (LineHas (Within lists)) (LineThere inferred lists) lines
      (λ line all. all_there lists line.steps all) all)
      (all_lines (Within lists) t low))

  there_of : (c : ℕ) → c < length callers → AllByRecursion (OfCall (LineThere inferred lists)) (list_at callers c)
  there_of c low = at_list (λ (calls : List Call). AllByRecursion (OfCall (LineThere inferred lists)) calls) callers c low there

  -- ---- if each line's visits have the inferred entries, the lists match the tables

  module _ (fill : AllCallsFill lists callers) where
    calls_match : AllByRecursion (λ calls. AllByRecursion (OfCall (LineMatches inferred lists)) calls) callers
    calls_match = each_list (λ (calls : List Call). AllByRecursion (OfCall (LineMatches inferred lists)) calls) callers
        (λ c low. to_calls inferred lists (start_setting callers c) (list_at callers c) (rows c low) (there_of c low)
        (fill c low))

    at_place : (lane : LaneId) (i : ℕ) → i < rows_in inferred lane → PlaceMatches inferred lists lane i
    at_place lane i low =
        every_place (PlaceMatches inferred lists) lane (all_marks t) (marks.lanes lane)
        (all_of_lines (PlaceMatches inferred lists) t
        (to_all_lines (LineMatches inferred lists) 0 script.callers t lines calls_match)) i
        (subst (λ n. i < n) (long.rows lane) low)

    count : (lane : LaneId) → entries_in lists lane ≡ rows_in inferred lane
    count lane =
        book_lanes book lane ∙ sym (lane_counts book (all_marks t) marks.lanes is.visits lane) ∙ sym (long.rows lane)

    places_fill : Fills inferred lists
    places_fill = record {
      pool_count = count PoolLane;
      base_count = count BaseLane;
      cpus_count = length-map book.cpus (λ (visits : List (Visit CpuEntry)). entries_of visits) ∙ is.cpus ∙ sym long.count;
      cpu_count = λ c. count (CpuLane c);
      pool = λ p u e at conforms. at_place PoolLane p (slice_get_within inferred.pool p u at) u e at conforms;
      base = λ i u e at conforms. at_place BaseLane i (slice_get_within inferred.base i u at) u e at conforms;
      cpu = λ c k u e at conforms. at_place (CpuLane c) k (slice_get_within (list_at inferred.cpus c) k u at) u e at conforms;
    }

  -- ---- if the lists match the tables, each line's visits have the inferred entries

  module _ (fill : Fills inferred lists) where
    place : (lane : LaneId) (i : ℕ) → PlaceMatches inferred lists lane i
    place PoolLane p = fill.pool p
    place BaseLane i = fill.base i
    place (CpuLane c) k = fill.cpu c k

    steps_match : (steps : List Step) → AllByRecursion (StepMatches inferred lists) steps
    steps_match [] = tt
    steps_match (Look g ∷ steps) = (tt, steps_match steps)
    steps_match (Marked mark ∷ steps) = (place mark.lane mark.place, steps_match steps)

    lines_match : (lines : List SeenLine) → AllByRecursion (LineMatches inferred lists) lines
    lines_match [] = tt
    lines_match (line ∷ lines) = (steps_match line.steps, lines_match lines)

    all_match : (t : List (List SeenLine)) → AllByRecursion (λ lines. AllByRecursion (LineMatches inferred lists) lines) t
    all_match [] = tt
    all_match (lines ∷ t) = (lines_match lines, all_match t)

    calls_fill : AllCallsFill lists callers
    calls_fill = λ c low. from_calls inferred lists (start_setting callers c) (list_at callers c) (rows c low) (there_of c low)
        (at_list (λ (calls : List Call). AllByRecursion (OfCall (LineMatches inferred lists)) calls) callers c low
        (to_callers (LineMatches inferred lists) 0 script.callers t lines (all_match t)))

  pub lines_and_lanes : AllCallsFill lists callers ↔ Fills inferred lists
  lines_and_lanes = (places_fill, calls_fill)
