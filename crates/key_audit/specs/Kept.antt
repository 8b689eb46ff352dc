-- What the program keeps of a transcript's book.
use Rattle.std.specs.Prelude.{ℕ, ◌≡◌, List, map, IsPermutation}
use Rattle.key_names.specs.Lanes.Book.{Book, lists_of}
use Rattle.key_names.specs.Callers.Calls.{Call}
use Rattle.key_names.specs.Transcripts.IsTranscript.{all_marks, state_lists}
use Rattle.key_names.specs.Callers.Meaning.{CallMeaning}
use Rattle.key_names.specs.Transcripts.SeenLine.{SeenLine}
use Rattle.judge_lines.specs.Marks.{seen_mark, IsSortedByLane}
use Rattle.judge_log.specs.Kept.{Keeps}
use Rattle.audit_keys.specs.Entries.{all_lists_in}
use Rattle.audit_keys.specs.declared.entry.Cut.{Cut}
use Rattle.audit_keys.specs.StateCut.{all_lists_by}
use Rattle.audit_keys.specs.LineEnds.{lines_in, listed_lines}
use Rattle.audit_keys.specs.Stamped.{all_kept}
use Rattle.audit_keys.specs.ListedEnds.{all_ends_in, listed_ends}
use Rattle.audit_keys.specs.Moments.{first_calls}
use Rattle.key_audit.specs.Live.{calls_cut}
use Rattle.key_audit.specs.Moments.{MarksVisits}
use Rattle.key_audit.specs.declared.book.KeptBook.{KeptBook}

-- `kept` has the data of `book`, the book of the transcript `t`. The calls of `callers` have the meanings `ms` in this
-- book
pub record KeepsBook (kept : KeptBook) (t : List (List SeenLine)) (callers : List (List Call)) (book : Book)
    (ms : List (List CallMeaning)) : Type 0 where
  -- `lanes` has what is kept of each visit of each lane
  pub lanes : Keeps kept.lanes (lists_of book)
  -- `states` has the entries of each vgetrandom state
  pub states : all_lists_in kept.states.items ≡ book.callers
  -- for any `cuts` (one cut for each caller), a caller's cut keeps the entries that the caller's calls before the cut
  -- left for its vgetrandom states
  pub cut : (cuts : ℕ → Cut) →
      all_lists_by cuts 0 kept.states.items ≡ map state_lists (first_calls (calls_cut cuts callers) 0 ms)
  -- each entry is listed with the end of the call that left the entry
  pub ends : all_ends_in (all_kept kept.states.items) ≡ listed_ends callers ms
  -- `lines` has the lines of each caller, and the call of each line
  pub lines : lines_in kept.lines.items ≡ listed_lines callers
  -- `marks` has the marks of all visits, each with the caller, line and step that made it
  pub marks : IsPermutation (all_marks t) (map seen_mark kept.marks.items)
  -- `marks` is sorted by lane, and within each lane by stamp
  pub sorted : IsSortedByLane kept.marks.items
  -- so within each lane the marks are those of the lane's visits, in the order of their places
  pub visits : MarksVisits book (map seen_mark kept.marks.items)
