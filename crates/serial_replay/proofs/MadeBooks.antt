-- If lawful lists match the inferred entries, the transcript's steps make a book with these lists. If no lawful lists
-- match the inferred entries, the steps make no book.
use Rattle.std.proofs.Common.{◌≡◌, ℕ, Bool, List, [], map, refl, sym, subst, ap, ◌∙◌}
use Rattle.std.specs.Prelude.{◌↔◌, IsTrue}
use Rattle.std.specs.List.{AllByRecursion}
use Rattle.key_names.specs.declared.names.LaneId.{LaneId}
use Rattle.key_names.specs.declared.names.LaneId.TheVariants.{Pool as PoolLane, Base as BaseLane, Cpu as CpuLane}
use Rattle.key_names.specs.declared.names.Step.{Step}
use Rattle.key_names.specs.declared.entries.VEntry.{VEntry}
use Rattle.key_names.specs.Lanes.BaseList.{base_after}
use Rattle.key_names.specs.Lanes.Book.{Book, Lists, lists_of}
use Rattle.key_names.specs.Callers.Calls.{Call}
use Rattle.key_names.specs.Callers.Effects.{Effect, effects_of}
use Rattle.key_names.specs.Callers.History.{LooksConform, caller_orders}
use Rattle.key_names.specs.Texts.ScriptGrammar.{Script}
use Rattle.key_names.specs.Transcripts.SeenLine.{SeenLine}
use Rattle.key_names.specs.Transcripts.IsTranscript.{MadeBook, MarkBy, all_marks, lane_marks, script_calls, start_setting, state_lists}
use Rattle.key_names.specs.Transcripts.IsTranscript.{CallerMeans, SeenConforms}
use Rattle.key_names.specs.Transcripts.PlacesInOrder.{InOrder}
use Rattle.key_names.proofs.Transcripts.PlacesInOrder.{places_count_up}
use Rattle.judge_lines.specs.declared.begin.TranscriptParts.{TranscriptParts}
use Rattle.judge_lines.specs.Begun.{PartsConform}
use Rattle.judge_lines.specs.Marks.{seen_mark}
use Rattle.judge_lines.proofs.MarksMoved.{lane_moved, same_long}
use Rattle.judge_lines.proofs.Runs.{lane_sorted}
use Rattle.judge_log.specs.Tables.{Tables}
use Rattle.judge_log.specs.Fills.{Fills}
use Rattle.judge_log.specs.Lawful.{Lawful}
use Rattle.judge_log.specs.Filled.{AllCallsFill}
use Rattle.judge_log.specs.Gathered.{IsBookOf, AllMean, IsGathered}
use Rattle.judge_log.proofs.Tables.MadeIsInferred.{all_inferred}
use Rattle.judge_log.specs.declared.said.MadeLine.{MadeLine}
use Rattle.judge_lines.specs.declared.clause.Clause.TheVariants.{Forms}
use Rattle.serial_replay.specs.Remade.{FailsEarly}
use Rattle.serial_replay.proofs.Callers.{each_caller, SaidByAll}
use Rattle.serial_replay.proofs.LaneVisits.{Placed, book_of, lists_back, as_many_cpus, visits_are}
use Rattle.serial_replay.proofs.StatesAside.{aside, effects_same, fills_aside, lawful_aside, means_aside}

module _ (script : Script) (t : List (List SeenLine)) (parts : TranscriptParts) (conform : PartsConform script t parts) where
  -- if the steps of `t` make no book, the clause on forms is the first that fails
  pub stops : (MadeBook script t → ⊥) → FailsEarly script t Forms
  stops none = record {
    early = tt;
    fails = (conform.lines, conform.marks_conform, none);
  }

  abbrev marks : List MarkBy
  marks = map seen_mark parts.marks.items

  abbrev calls : List (List Call)
  calls = script_calls script t

  in_order : (lane : LaneId) → InOrder 0 (lane_marks lane marks)
  in_order lane = (places_count_up (lane_marks lane marks)).1 (lane_sorted lane parts.marks.items conform.sorted)
      (lane_moved lane (all_marks t) marks conform.all_marks (conform.marks_conform.lanes lane))

  module _ (inferred : Tables) (gathered : IsGathered script t inferred) where
    book_is : (made : MadeBook script t) → IsBookOf script t made.book
    book_is made = record { cpus = made.forms.cpus; visits = made.forms.visits }

    -- if the steps of `t` make a book, the book's lists match the inferred entries and are lawful
    pub made_fills : (made : MadeBook script t) → Fills inferred (lists_of made.book)
    made_fills made = (gathered.fills made.book (book_is made)).0
        (all_inferred script t made.book made.meanings made.lines made.forms.callers made.forms.lanes
        (gathered.sampled made.book made.meanings (book_is made) made.forms.callers made.forms.lanes made.forms.samples))

    pub made_lawful : (made : MadeBook script t) → Lawful inferred (lists_of made.book)
    made_lawful made = (gathered.samples made.book made.meanings (book_is made) made.forms.callers (made_fills made)
        made.forms.lanes).0 made.forms.samples

    module _ (lists : Lists) (fills : Fills inferred lists) (lawful : Lawful inferred lists) where
      stored : Placed marks lists
      stored = record {
        pool = same_long PoolLane (all_marks t) marks conform.all_marks ∙ sym gathered.pool_count ∙ sym fills.pool_count;
        base = same_long BaseLane (all_marks t) marks conform.all_marks ∙ sym gathered.base_count ∙ sym fills.base_count;
        cpu = λ c. same_long (CpuLane c) (all_marks t) marks conform.all_marks ∙ sym (gathered.cpu_count c)
            ∙ sym (fills.cpu_count c);
        order = in_order;
      }

      book_with : (states : List (List (List VEntry))) → IsBookOf script t (book_of marks lists states)
      book_with states = record {
        cpus = as_many_cpus marks lists states stored ∙ fills.cpus_count ∙ gathered.cpus_count;
        visits = visits_are marks lists states stored (all_marks t) conform.all_marks;
      }

      -- each visit of each line has the inferred entry
      pub lines_fill : AllCallsFill lists calls
      lines_fill =
          let back : lists_of (book_of marks lists lists.callers) ≡ lists = lists_back marks lists lists.callers stored in
          subst (λ l. AllCallsFill l calls) back
          ((gathered.fills (book_of marks lists lists.callers) (book_with lists.callers)).1
          (subst (Fills inferred) (sym back) fills))

      module _ (saids : ℕ → ℕ → MadeLine → Type 0) (said : SaidByAll lists (start_setting calls) saids 0 calls) where
        abbrev states : List (List (List VEntry))
        states = map state_lists said.mss

        abbrev book : Book
        book = book_of marks lists states

        back : lists_of book ≡ aside lists states
        back = lists_back marks lists states stored

        book_fills : Fills inferred (lists_of book)
        book_fills = subst (Fills inferred) (sym back) (fills_aside lists states inferred fills)

        book_lawful : Lawful inferred (lists_of book)
        book_lawful = subst (Lawful inferred) (sym back) (lawful_aside lists states inferred lawful)

        means : AllMean script t book said.mss
        means = each_caller (λ c calls' ms. CallerMeans lists (start_setting calls c) calls' ms)
            (λ c calls' ms. CallerMeans (lists_of book) (start_setting calls c) calls' ms)
            (λ c calls' ms m. subst (λ l. CallerMeans l (start_setting calls c) calls' ms) (sym back)
            (means_aside lists states (start_setting calls c) calls' ms m)) 0 calls said.mss said.means

        made : MadeBook script t
        made = record {
          book = book;
          meanings = said.mss;
          lines = conform.lines;
          marks = conform.marks_conform;
          forms = record {
            cpus = (book_with states).cpus;
            visits = (book_with states).visits;
            callers = means;
            states = refl;
            lanes = book_lawful.lanes;
            samples = (gathered.samples book said.mss (book_with states) means book_fills book_lawful.lanes).1 book_lawful;
          };
        }

        same_effects : (order : List Step) → effects_of lists order ≡ effects_of (lists_of book) order
        same_effects order = sym (ap (λ l. effects_of l order) back ∙ effects_same lists states order)

        same_reseeds : (base_after lists.base).generation ≡ (base_after (lists_of book).base).generation
        same_reseeds = ap (λ l. (base_after l.base).generation) (sym back)

        abbrev Of : ℕ → (List Step → List Effect) → Type 0
        Of n effects = AllByRecursion (λ order. LooksConform n [] (effects order)) (caller_orders calls)

        -- the steps of `t` make a book with the meanings `said.mss`; the looks are lawful in this book exactly if they
        -- are lawful in `lists`
        pub record OfLists : Type 0 where
          pub made : MadeBook script t
          pub meanings : made.meanings ≡ said.mss
          pub looks : (b : Bool) →
              (IsTrue b ↔ AllByRecursion (λ order. LooksConform (base_after lists.base).generation [] (effects_of lists order))
              (caller_orders calls)) →
              IsTrue b ↔ SeenConforms script t (lists_of made.book)

        looks_in_book : (b : Bool) →
            (IsTrue b ↔ AllByRecursion (λ order. LooksConform (base_after lists.base).generation [] (effects_of lists order))
            (caller_orders calls)) →
            IsTrue b ↔ SeenConforms script t (lists_of book)
        looks_in_book b is =
            let path : Of (base_after lists.base).generation (effects_of lists) ≡ SeenConforms script t (lists_of book) =
            (λ i. Of (same_reseeds i) (λ order. same_effects order i)) in (
              (λ h. subst (λ (X : Type 0). X) path (is.0 h)),
              (λ h. is.1 (subst (λ (X : Type 0). X) (sym path) h)),
            )

        pub of_lists : OfLists
        unfolding made
        of_lists = record { made = made; meanings = refl; looks = looks_in_book }
