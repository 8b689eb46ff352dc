-- At the end of a book, no byte of a held key or of a held rest of a batch was used. In terms of names, this is forward
-- secrecy.
use Rattle.std.specs.Prelude.{ℕ, ◌≡◌, Some, List}
use Rattle.key_names.specs.declared.names.KeyName.{KeyName}
use Rattle.key_names.specs.declared.names.Span.{Span}
use Rattle.key_names.specs.Lanes.Book.{Book, Lists, lists_of, HalfFinishedBook}
use Rattle.key_names.specs.Transcripts.IsTranscript.{IsTranscriptBy}
use Rattle.key_names.specs.Keys.LiveMaterial.{KeyHolder, BatchHolder, live_key, live_rest}
use Rattle.key_names.specs.Callers.Meaning.{CallMeaning}
use Rattle.key_names.specs.Transcripts.SeenLine.{SeenLine}
use Rattle.key_names.specs.Texts.ScriptGrammar.{Script}
use Rattle.key_names.specs.Keys.Uses.{HoldsByte, IsUsed, uses}

pub record HoldsUnused (lists : Lists) : Type 0 where
  -- no byte of a held key was kept as a key or served
  pub keys : (a : KeyHolder) (key : KeyName) (q : ℕ) → live_key lists a ≡ Some key → IsUsed (uses lists) key q → ⊥
  -- no byte of a held rest of a batch was kept as a key or served
  pub rests : (a : BatchHolder) (span : Span) (key : KeyName) (q : ℕ) → live_rest lists a ≡ Some span →
      HoldsByte span key q → IsUsed (uses lists) key q → ⊥

-- in every book, even a half-finished one, no byte of a held key or of a held rest was used
abbrev pub BooksHoldUnused : Type 0
BooksHoldUnused = (lists : Lists) → HalfFinishedBook lists → HoldsUnused lists

-- in the book of every lawful transcript, no byte of a held key or of a held rest was used
abbrev pub TranscriptsHoldUnused : Type 0
TranscriptsHoldUnused = (script : Script) (t : List (List SeenLine)) (book : Book) (ms : List (List CallMeaning)) →
    IsTranscriptBy script t book ms → HoldsUnused (lists_of book)
