-- The kept book of a transcript has the data of the book that the transcript's steps make. This is proved first for
-- lines without answers and data (bare lines), and then for the lines themselves.
use Rattle.std.proofs.Common.{◌≡◌, ℕ, List, map, sym, ap, subst, ◌∙◌}
use Rattle.std.specs.Prelude.{IsPermutation}
use Rattle.std.specs.Global.{Vec}
use Rattle.key_names.specs.Lanes.Book.{Book, lists_of}
use Rattle.key_names.specs.Callers.Calls.{Call}
use Rattle.key_names.specs.Transcripts.IsTranscript.{CallerMeans, EachCaller, IsTranscriptBy, MadeBook, MarkBy, all_marks, script_calls, state_lists}
use Rattle.key_names.specs.Transcripts.IsTranscript.{start_setting}
use Rattle.key_names.specs.Callers.Meaning.{CallMeaning}
use Rattle.key_names.specs.Transcripts.SameSteps.{bare}
use Rattle.key_names.specs.Transcripts.SeenLine.{SeenLine}
use Rattle.key_names.specs.Texts.ScriptGrammar.{Script}
use Rattle.key_names.proofs.Unique.BareLines.{bare_marks}
use Rattle.key_names.proofs.Unique.BareMeanings.{steps_make_the_book}
use Rattle.judge_lines.specs.Called.{seen_calls}
use Rattle.judge_lines.specs.Marks.{seen_mark}
use Rattle.judge_lines.proofs.BareConforms.{same_bare}
use Rattle.serial_replay.specs.declared.lists.Basis.{Basis}
use Rattle.serial_replay.specs.Found.{BasisConforms}
use Rattle.serial_replay.proofs.RemadeLines.{keeps_made}
use Rattle.audit_keys.specs.Moments.{first_calls}
use Rattle.audit_keys.specs.StateCut.{AreCut}
use Rattle.audit_keys.specs.declared.entry.StateEntry.{StateEntry}
use Rattle.audit_keys.specs.declared.line_ends.LineEnd.{LineEnd}
use Rattle.audit_keys.specs.Entries.{all_lists_in}
use Rattle.audit_keys.specs.Laws.{AreStateLists}
use Rattle.audit_keys.specs.LineEnds.{AreLineEnds}
use Rattle.audit_keys.specs.Stamped.{all_kept}
use Rattle.audit_keys.specs.ListedEnds.{AreListedEnds}
use Rattle.key_audit.specs.declared.book.KeptBook.{KeptBook}
use Rattle.key_audit.specs.Kept.{KeepsBook}
use Rattle.key_audit.proofs.CutStates.{cut_bare, cut_states, ends_bare, lines_bare}
use Rattle.key_audit.proofs.VisitMarks.{marks_visits}

-- if `states` and `lines` are the states' entries and the lines of the transcript's calls, the kept book has the data
-- of the book that the transcript's steps make
pub keeps_book : (script : Script) (t : List (List SeenLine)) (basis : Basis) → BasisConforms script t basis →
    (m : MadeBook script t) (states : Vec (Vec (Vec StateEntry))) (lines : Vec (Vec LineEnd)) →
    AreStateLists (seen_calls basis.parts.calls.items) (all_lists_in states.items) →
    AreCut (script_calls script t) states.items → AreListedEnds (script_calls script t) (all_kept states.items) →
    AreLineEnds (script_calls script t) lines.items →
    KeepsBook (record { lanes = basis.lists; states = states; lines = lines; marks = basis.parts.marks }) t
    (script_calls script t) m.book m.meanings
keeps_book script t basis conform m states lines are cut ends listed = record {
  lanes = keeps_made script t basis conform m;
  states = are (lists_of m.book) (start_setting (script_calls script t)) m.meanings
      (subst (λ (calls : List (List Call)).
      EachCaller (λ c calls ms. CallerMeans (lists_of m.book) (start_setting (script_calls script t) c) calls ms) 0 calls
      m.meanings) (sym conform.parts.calls) m.forms.callers) ∙ sym m.forms.states;
  cut = cut_states (lists_of m.book) (start_setting (script_calls script t)) (script_calls script t) m.meanings
      states.items m.forms.callers cut;
  ends = ends (lists_of m.book) (start_setting (script_calls script t)) m.meanings m.forms.callers;
  lines = listed;
  marks = conform.parts.all_marks;
  sorted = conform.parts.sorted;
  visits = marks_visits m.book (all_marks t) basis.parts.marks.items conform.parts.all_marks conform.parts.sorted m.marks.lanes
      m.forms.visits;
}

-- ---- from bare lines to the lines themselves

module _ (script : Script) (t : List (List SeenLine)) (book : Book) (ms : List (List CallMeaning))
    (lawful : IsTranscriptBy script t book ms) where
  bare_book : (other : MadeBook script (map (map bare) t)) × (other.book ≡ book) × (other.meanings ≡ ms)
  bare_book = steps_make_the_book script t (map (map bare) t) (sym (same_bare t)) (record {
    book = book;
    meanings = ms;
    lines = lawful.lines;
    marks = lawful.marks;
    forms = lawful.forms;
  })

  abbrev KeepsBare : KeptBook → Book → List (List CallMeaning) → Type 0
  KeepsBare kept b m = KeepsBook kept (map (map bare) t) (script_calls script (map (map bare) t)) b m

  keeps_lines : (kept : KeptBook) → KeepsBare kept bare_book.0.book bare_book.0.meanings →
      KeepsBook kept t (script_calls script t) book ms
  keeps_lines kept keeps =
      let same : KeepsBare kept book bare_book.0.meanings =
      subst (λ (b : Book). KeepsBare kept b bare_book.0.meanings) bare_book.1 keeps in
      let of : KeepsBare kept book ms =
      subst (λ (m : List (List CallMeaning)). KeepsBare kept book m) bare_book.2 same in record {
        lanes = of.lanes;
        states = of.states;
        cut = λ cuts. of.cut cuts
            ∙ ap (λ (made : ℕ → ℕ). map state_lists (first_calls made 0 ms)) (cut_bare cuts script t);
        ends = of.ends ∙ ends_bare script t ms;
        lines = of.lines ∙ lines_bare script t;
        marks = subst (λ (marks : List MarkBy). IsPermutation marks (map seen_mark kept.marks.items)) (bare_marks t) of.marks;
        sorted = of.sorted;
        visits = of.visits;
      }

  -- a kept book that has the data for the bare lines also has the data for the lines themselves
  pub kept_of_bare : (kept : KeptBook) →
      ((made : MadeBook script (map (map bare) t)) → KeepsBare kept made.book made.meanings) →
      KeepsBook kept t (script_calls script t) book ms
  kept_of_bare kept each = keeps_lines kept (each bare_book.0)
