-- The steps of a transcript make at most one book, and at most one clause is the first that fails.
use Rattle.std.proofs.Common.{◌≡◌, ◌<◌, ◌≤◌, List, inl, inr, refl, sym, subst, ap, ◌∙◌, arith}
use Rattle.key_names.specs.Lanes.Book.{Book, lists_of}
use Rattle.key_names.specs.Transcripts.SeenLine.{SeenLine}
use Rattle.key_names.specs.Texts.ScriptGrammar.{Script}
use Rattle.key_names.specs.Transcripts.IsTranscript.{HasLines, MarksConform, all_marks, start_setting, script_calls, MadeBook}
use Rattle.key_names.specs.Transcripts.IsTranscript.{AnswersConform, DataConform, SeenConforms, IsTranscript, Clause, lines_clause}
use Rattle.key_names.specs.Transcripts.IsTranscript.{marks_clause, forms_clause, answers_clause, data_clause, looks_clause}
use Rattle.key_names.specs.Transcripts.IsTranscript.{clause_number, FirstFails}
use Rattle.key_names.specs.Transcripts.TranscriptBook.{BookIsUnique, FirstFailIsUnique}
use Rattle.key_names.proofs.Transcripts.TranscriptBooks.{lt_or_le}
use Rattle.key_names.proofs.Unique.UniqueLines.{all_same, callers_alike}
use Rattle.key_names.proofs.Unique.UniqueLanes.{marks_inferred, same_book}

pub book_is_unique : BookIsUnique
book_is_unique script t one other =
    let f = one.forms in let g = other.forms in
    let settings = start_setting (script_calls script t) in
    let alike = callers_alike one.book other.book f.lanes g.lanes f.samples g.samples settings 0 script.callers t
    one.meanings other.meanings one.lines
    (all_same one.book other.book f.lanes g.lanes f.samples g.samples t f.visits.conform g.visits.conform)
    f.callers g.callers in
    let book : one.book ≡ other.book = same_book one.book other.book (all_marks t) one.marks.lanes f.visits g.visits
    (f.cpus ∙ sym g.cpus) (marks_inferred one.book other.book t alike.inferred) (f.states ∙ alike.states ∙ sym g.states) in
    (book, alike.equal (ap lists_of book))

module _ (script : Script) (t : List (List SeenLine)) where
  -- a clause of the transcript holds. For the last three clauses, this includes that the steps make a book
  abbrev Passes : Clause → Type 0
  Passes lines_clause = HasLines script t
  Passes marks_clause = MarksConform script t
  Passes forms_clause = MadeBook script t
  Passes answers_clause = (made : MadeBook script t) × AnswersConform script t made.meanings
  Passes data_clause = (made : MadeBook script t) × DataConform script t made.meanings
  Passes looks_clause = (made : MadeBook script t) × SeenConforms script t (lists_of made.book)

  fails : (c : Clause) → FirstFails script t c → Passes c → ⊥
  fails lines_clause f p = f p
  fails marks_clause f p = f.1 p
  fails forms_clause f p = f.2 p
  fails answers_clause f p = f.1 (subst (AnswersConform script t) (book_is_unique script t p.0 f.0).1 p.1)
  fails data_clause f p = f.2 (subst (DataConform script t) (book_is_unique script t p.0 f.0).1 p.1)
  fails looks_clause f p =
      let P : Book → Type 0 = λ book. SeenConforms script t (lists_of book) in
      f.3 (subst P (book_is_unique script t p.0 f.0).0 p.1)

  first_number : (c : Clause) → 2 ≤ clause_number c
  first_number lines_clause = omega arith
  first_number marks_clause = omega arith
  first_number forms_clause = omega arith
  first_number answers_clause = omega arith
  first_number data_clause = omega arith
  first_number looks_clause = omega arith

  -- if clause `d` is the first that fails, then each clause before `d` holds
  passes : (d c : Clause) → clause_number c < clause_number d → FirstFails script t d → Passes c
  passes lines_clause c lt f = let least : 2 ≤ clause_number c = first_number c in absurd (omega arith)
  passes marks_clause lines_clause lt f = f.0
  passes forms_clause lines_clause lt f = f.0
  passes forms_clause marks_clause lt f = f.1
  passes answers_clause lines_clause lt f = f.0.lines
  passes answers_clause marks_clause lt f = f.0.marks
  passes answers_clause forms_clause lt f = f.0
  passes data_clause lines_clause lt f = f.0.lines
  passes data_clause marks_clause lt f = f.0.marks
  passes data_clause forms_clause lt f = f.0
  passes data_clause answers_clause lt f = (f.0, f.1)
  passes looks_clause lines_clause lt f = f.0.lines
  passes looks_clause marks_clause lt f = f.0.marks
  passes looks_clause forms_clause lt f = f.0
  passes looks_clause answers_clause lt f = (f.0, f.1)
  passes looks_clause data_clause lt f = (f.0, f.2)
  passes _ _ lt f = absurd (omega arith)

  same_clause : (c d : Clause) → clause_number c ≡ clause_number d → c ≡ d
  same_clause lines_clause lines_clause p = refl
  same_clause marks_clause marks_clause p = refl
  same_clause forms_clause forms_clause p = refl
  same_clause answers_clause answers_clause p = refl
  same_clause data_clause data_clause p = refl
  same_clause looks_clause looks_clause p = refl
  same_clause _ _ p = absurd (omega arith)

  one_fails : (c d : Clause) → FirstFails script t c → FirstFails script t d → c ≡ d
  one_fails c d f g = elim (lt_or_le (clause_number c) (clause_number d)) [
    | inl lt ↦ absurd (fails c f (passes d c lt g))
    | inr le ↦ elim (lt_or_le (clause_number d) (clause_number c)) [
      | inl lt ↦ absurd (fails d g (passes c d lt f))
      | inr ge ↦ same_clause c d (omega arith)
    ]
  ]

  all_pass : IsTranscript script t → (c : Clause) → Passes c
  all_pass is c = at_clause c
    where
      made : MadeBook script t
      made = record {
        book = is.0;
        meanings = is.1;
        lines = is.2.lines;
        marks = is.2.marks;
        forms = is.2.forms;
      }

      at_clause : (c : Clause) → Passes c
      at_clause lines_clause = is.2.lines
      at_clause marks_clause = is.2.marks
      at_clause forms_clause = made
      at_clause answers_clause = (made, is.2.answers)
      at_clause data_clause = (made, is.2.shown)
      at_clause looks_clause = (made, is.2.looks)

pub first_fail_is_unique : FirstFailIsUnique
first_fail_is_unique script t c f =
    (λ d g. one_fails script t c d f g, λ is. fails script t c f (all_pass script t is c))
