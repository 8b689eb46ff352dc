-- What the program leaves for an input, for each exit status of the program. The input should be a script and then a
-- transcript.
use Rattle.std.specs.Prelude.{ℕ, ◌≡◌, ◌⊎◌, true, false, Some, List, ◌++◌, Option, map, All, IsPermutation}
use Rattle.std.specs.List.{flat_map}
use Rattle.key_names.specs.Lanes.Book.{Book, Lists, lists_of}
use Rattle.key_names.specs.Callers.Calls.{Call}
use Rattle.key_names.specs.Transcripts.IsTranscript.{Clause, FirstFails, clause_number, script_calls}
use Rattle.key_names.specs.Callers.Meaning.{CallMeaning}
use Rattle.key_names.specs.Transcripts.SeenLine.{SeenLine}
use Rattle.key_names.specs.Texts.ScriptGrammar.{Script}
use Rattle.transcript_check.specs.Judged.{IsSound}
use Rattle.audit_keys.specs.declared.line_ends.LineEnd.{LineEnd}
use Rattle.audit_keys.specs.HeldUnused.{HoldsUnused}
use Rattle.audit_keys.specs.declared.moments.LineOf.{LineOf as LineName}
use Rattle.audit_keys.specs.declared.moments.Moments.{Moments}
use Rattle.audit_keys.specs.declared.rows.KeyRow.{KeyRow}
use Rattle.audit_keys.specs.declared.listed.ListedKeys.{ListedKeys}
use Rattle.audit_keys.specs.MadeOrder.{RowsByMaking}
use Rattle.audit_keys.specs.Rows.{IsRow, all_pieces, birth_of}
use Rattle.audit_keys.specs.Listed.{book_tells, tells_of}
use Rattle.tool_ends.specs.Pairs.{FailsAsText, IsPair, TellsFault, most_input, no_line}
use Rattle.tool_ends.specs.Reads.{ReadsEnds}
use Rattle.tool_ends.specs.declared.status.Status.{Status}
use Rattle.tool_ends.specs.declared.status.Status.TheVariants.{Done, No, Usage, ReadFault, WriteFault, Refused, NoMemory}
use Rattle.key_audit.specs.declared.ask.Ask.{Ask}
use Rattle.key_audit.specs.declared.ask.Ask.TheVariants.{Keys, Live, LiveAfter, Line}
use Rattle.key_audit.specs.Asked.{is_there, line_end, missing_text}
use Rattle.key_audit.specs.Live.{AreRowsOf, held_lines, lists_after, lists_at_stamp, live_keys, live_rests, rest_line}
use Rattle.key_audit.specs.Moments.{AreMoments}
use Rattle.key_audit.specs.Reach.{TellsReached}
use Rattle.key_audit.specs.Sources.{TellsSources, bits_before, samples_before}
use Rattle.key_audit.specs.Texts.{rows_text}

-- ---- the output for a book

-- `rows` has a row for each key that the book's entries make, with everything that the book shows of this key
pub record AreRows (book : Book) (rows : List KeyRow) : Type 0 where
  pub listed : ListedKeys
  pub tells : tells_of listed ≡ book_tells (lists_of book)
  pub each : IsPermutation listed.lives.births.items (map birth_of rows)
  pub say : All (IsRow (all_pieces listed) listed.lives.endings.items) rows

-- the output of `keys`: the text of the rows, in the order in which their keys were made
pub record TellsKeys (callers : List (List Call)) (book : Book) (ms : List (List CallMeaning))
    (output : List ℕ) : Type 0 where
  pub moments : Moments
  pub are_moments : AreMoments callers book ms moments
  pub rows : List KeyRow
  pub are : AreRows book rows
  pub ordered : RowsByMaking moments rows
  pub text : output ≡ rows_text moments rows

-- the output of `live`, if `lists` are the cut lists of the book. It has the lines of the keys, and of the unserved
-- rests of batches, that `lists` leave in memory. Then it has the lines of the keys and bytes that can be computed from
-- them
pub record TellsHeld (lists : Lists) (callers : List (List Call)) (book : Book) (ms : List (List CallMeaning))
    (output : List ℕ) : Type 0 where
  pub moments : Moments
  pub are_moments : AreMoments callers book ms moments
  pub rows : List KeyRow
  pub are : AreRows book rows
  pub ordered : RowsByMaking moments rows
  -- `numbers` has, for each key in memory, the number of the key's row, and no other numbers
  pub numbers : List ℕ
  pub held : AreRowsOf rows (live_keys lists) numbers
  -- `more` has the lines of the keys and bytes that can be computed from these keys and rests
  pub more : List ℕ
  pub reached : TellsReached moments rows (map (λ held. held.key) (live_keys lists)) (live_rests lists) more
  pub text : output ≡ held_lines moments rows numbers ++ flat_map rest_line (live_rests lists) ++ more

-- the output is that of `TellsHeld`, and no byte of a held key's keystream or of a rest was used in `lists`
pub record TellsLive (lists : Lists) (callers : List (List Call)) (book : Book) (ms : List (List CallMeaning))
    (output : List ℕ) : Type 0 where
  pub listed : TellsHeld lists callers book ms output
  pub unused : HoldsUnused lists

-- the output of `live C.E`: the lines of the keys and rests in memory after the line
pub record TellsAfter (line : LineName) (callers : List (List Call)) (book : Book) (ms : List (List CallMeaning))
    (output : List ℕ) : Type 0 where
  pub end : LineEnd
  pub is : line_end callers line ≡ Some end
  pub live : TellsLive (lists_after line end callers book ms) callers book ms output

-- the output of `line C.E`: the rows of the keys that the line's bytes come from, and the extraction of each root among
-- these keys
pub record TellsLine (line : LineName) (script : Script) (callers : List (List Call)) (book : Book)
    (ms : List (List CallMeaning)) (output : List ℕ) : Type 0 where
  pub moments : Moments
  pub are_moments : AreMoments callers book ms moments
  pub rows : List KeyRow
  pub are : AreRows book rows
  pub ordered : RowsByMaking moments rows
  pub listed : TellsSources moments rows line (samples_before script book) (bits_before book) output

abbrev pub Tells : Ask → Script → List (List Call) → Book → List (List CallMeaning) → List ℕ → Type 0
Tells Keys script callers book ms output = TellsKeys callers book ms output
Tells (Live stamp) script callers book ms output =
    TellsLive (lists_at_stamp stamp callers book ms) callers book ms output
Tells (LiveAfter line) script callers book ms output = TellsAfter line callers book ms output
Tells (Line line) script callers book ms output = TellsLine line script callers book ms output

-- ---- the output for a script and a transcript

-- the transcript `t` is lawful, and has the stamp or the line that the command names. The output is right for the book
-- of `t`
pub record TellsLawful (ask : Ask) (script : Script) (t : List (List SeenLine)) (output : List ℕ) : Type 0 where
  pub sound : IsSound script t
  pub there : is_there ask (script_calls script t) t ≡ true
  pub tells : Tells ask script (script_calls script t) sound.book sound.meanings output

-- the transcript is lawful, but lacks the stamp or the line that the command names
pub record TellsMissing (ask : Ask) (script : Script) (t : List (List SeenLine)) (output : List ℕ) : Type 0 where
  pub sound : IsSound script t
  pub missing : is_there ask (script_calls script t) t ≡ false
  pub line : output ≡ missing_text ask

-- the output is the line with the number of the first clause that the transcript fails
pub record TellsClause (script : Script) (t : List (List SeenLine)) (output : List ℕ) : Type 0 where
  pub clause : Clause
  pub fails : FirstFails script t clause
  pub line : output ≡ no_line (clause_number clause)

abbrev pub ListedOf : Ask → Script → List (List SeenLine) → Status → List ℕ → Type 0
ListedOf ask script t Done output = TellsLawful ask script t output
ListedOf ask script t No output = TellsClause script t output ⊎ TellsMissing ask script t output
ListedOf ask script t Refused output = ⊥
ListedOf ask script t Usage output = ⊥
ListedOf ask script t ReadFault output = ⊥
ListedOf ask script t WriteFault output = ⊥
ListedOf ask script t NoMemory output = ⊥

-- ---- the output for an input

-- the input is a script and then a transcript, and the output and the status are right for them
pub record OfPair (ask : Ask) (status : Status) (input output : List ℕ) : Type 0 where
  pub script : Script
  pub t : List (List SeenLine)
  pub pair : IsPair input script t
  pub listed : ListedOf ask script t status output

-- the input is a script and then a text, and the output is the line with the number of the clause that this text fails
pub record OfText (input output : List ℕ) : Type 0 where
  pub number : ℕ
  pub fails : FailsAsText input number
  pub line : output ≡ no_line number

-- the output and the status of the command `ask` are right for the input
abbrev pub Calls : Ask → List ℕ → Status → List ℕ → Type 0
Calls ask input Done output = OfPair ask Done input output
Calls ask input No output = OfPair ask No input output ⊎ OfText input output
Calls ask input Refused output = TellsFault input output
Calls ask input Usage output = ⊥
Calls ask input ReadFault output = ⊥
Calls ask input WriteFault output = ⊥
Calls ask input NoMemory output = ⊥

-- what a command leaves: its status, the rest of the source before and after, and the sink's content before and after
abbrev pub AuditEnds : Ask → Status → Option (List ℕ) → Option (List ℕ) → Option (List ℕ) → Option (List ℕ) → Type 0
AuditEnds ask = ReadsEnds most_input (Calls ask)
