-- The book of a transcript, and which clause fails first.
use Rattle.std.specs.Prelude.{◌≡◌, List}
use Rattle.key_names.specs.Lanes.Book.{Book, lists_of, LawfulBook}
use Rattle.key_names.specs.Transcripts.SeenLine.{SeenLine}
use Rattle.key_names.specs.Callers.Meaning.{CallMeaning}
use Rattle.key_names.specs.Texts.ScriptGrammar.{Script}
use Rattle.key_names.specs.Transcripts.IsTranscript.{IsTranscriptBy, IsTranscript, MadeBook, Clause, FirstFails}

-- the book of a lawful transcript is lawful, including the lists of its vgetrandom states. So the laws of lawful books
-- hold for it
abbrev pub TranscriptIsLawful : Type 0
TranscriptIsLawful = (script : Script) (t : List (List SeenLine)) (book : Book) (ms : List (List CallMeaning)) →
    IsTranscriptBy script t book ms → LawfulBook (lists_of book)

-- the steps of a transcript make only one book, and give each call only one meaning
abbrev pub BookIsUnique : Type 0
BookIsUnique = (script : Script) (t : List (List SeenLine)) (one other : MadeBook script t) →
    (one.book ≡ other.book) × (one.meanings ≡ other.meanings)

-- if clause c is the first that fails, then no other clause is the first that fails, and the transcript is not lawful
abbrev pub FirstFailIsUnique : Type 0
FirstFailIsUnique = (script : Script) (t : List (List SeenLine)) (c : Clause) → FirstFails script t c →
    ((d : Clause) → FirstFails script t d → c ≡ d) × (¬ IsTranscript script t)
