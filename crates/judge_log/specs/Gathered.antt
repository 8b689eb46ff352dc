-- The tables of a transcript, and their relation to the transcript's lines.
use Rattle.std.specs.Prelude.{ℕ, ◌≡◌, ◌↔◌, List, length}
use Rattle.std.specs.List.{AllByRecursion}
use Rattle.key_names.specs.declared.names.LaneId.TheVariants.{Pool as PoolLane, Base as BaseLane, Cpu as CpuLane}
use Rattle.key_names.specs.Lanes.Book.{Book, lists_of, list_at, LawfulLanes}
use Rattle.key_names.specs.Lanes.Samples.{LawfulSamples}
use Rattle.key_names.specs.Callers.LineSamples.{SamplesConform}
use Rattle.key_names.specs.Texts.ScriptGrammar.{Script}
use Rattle.key_names.specs.Transcripts.SeenLine.{SeenLine}
use Rattle.key_names.specs.Callers.Effects.{effects_of}
use Rattle.key_names.specs.Callers.Meaning.{CallMeaning}
use Rattle.key_names.specs.Transcripts.IsTranscript.{EachCaller, CallerMeans, VisitsAre, all_marks, lane_marks, script_calls}
use Rattle.key_names.specs.Transcripts.IsTranscript.{start_setting}
use Rattle.judge_lines.specs.LaneFacts.{facts_of}
use Rattle.judge_log.specs.Tables.{Tables, InRange}
use Rattle.judge_log.specs.Fills.{Fills}
use Rattle.judge_log.specs.Lawful.{Lawful}
use Rattle.judge_log.specs.Filled.{AllCallsFill}

-- the book has as many CPUs as the script, and its visits are the marks of the transcript `t`
pub record IsBookOf (script : Script) (t : List (List SeenLine)) (book : Book) : Type 0 where
  pub cpus : length book.cpus ≡ script.cpus
  pub visits : VisitsAre book (all_marks t)

-- with the lists of this book, each call of each caller has the lawful meaning in `ms`
abbrev pub AllMean : Script → List (List SeenLine) → Book → List (List CallMeaning) → Type 0
AllMean script t book ms =
    EachCaller (λ c calls ms. CallerMeans (lists_of book) (start_setting (script_calls script t) c) calls ms) 0
    (script_calls script t) ms

pub record IsGathered (script : Script) (t : List (List SeenLine)) (inferred : Tables) : Type 0 where
  pub in_range : InRange inferred
  -- for each lane, the tables have as many rows as the transcript has marks
  pub pool_count : length inferred.pool ≡ length (lane_marks PoolLane (all_marks t))
  pub base_count : length inferred.base ≡ length (lane_marks BaseLane (all_marks t))
  pub cpus_count : length inferred.cpus ≡ script.cpus
  pub cpu_count : (c : ℕ) → length (list_at inferred.cpus c) ≡ length (lane_marks (CpuLane c) (all_marks t))
  -- the visits of all lines have the entries inferred from their steps exactly if the lists match the tables
  pub fills : (book : Book) → IsBookOf script t book →
      AllCallsFill (lists_of book) (script_calls script t) ↔ Fills inferred (lists_of book)
  -- the samples of the book are lawful exactly if the tables meet the conditions on dumps (`Lawful`)
  pub samples : (book : Book) (ms : List (List CallMeaning)) → IsBookOf script t book → AllMean script t book ms →
      Fills inferred (lists_of book) → LawfulLanes (lists_of book) → LawfulSamples book ↔ Lawful inferred (lists_of book)
  -- if the samples of the book are lawful, the samples of each line are lawful
  pub sampled : (book : Book) (ms : List (List CallMeaning)) → IsBookOf script t book → AllMean script t book ms →
      LawfulLanes (lists_of book) → LawfulSamples book →
      AllByRecursion (AllByRecursion (λ line. SamplesConform (facts_of (lists_of book)).fast
      (effects_of (lists_of book) line.steps))) t
