-- The outcome of a session, which runs a script of one caller while the script is read.
use Rattle.std.specs.Prelude.{ℕ, ◌≡◌, ◌⊎◌, ◌+◌, ◌≤◌, List, [], ◌∷◌, ◌++◌, Option, Some, String, string_bytes, codes, decimal, length, map}
use Rattle.std.specs.Io.KnownBytes.{Appends, Consumes, IsAtEnd}
use Rattle.io_edges.specs.Pieces.{AppendsPrefix}
use Rattle.key_names.specs.Transcripts.SeenLine.{SeenLine}
use Rattle.key_names.specs.declared.events.Event.{Event}
use Rattle.key_names.specs.declared.faults.ScriptFault.{ScriptFault}
use Rattle.key_names.specs.Texts.ScriptFaults.{Draft, first_fault, with_event}
use Rattle.key_names.specs.Texts.ScriptGrammar.{Script, IsScript}
use Rattle.key_names.specs.Texts.Spelling.{lined, spaced}
use Rattle.key_names.specs.Texts.TranscriptGrammar.{line_text}
use Rattle.event_script.specs.Progress.{FailsWith, GoesOnFrom, end_line}
use Rattle.caller_run.specs.Alone.{IsEmittedByOne, IsEmittedOnce}
use Rattle.transcript_check.specs.Judged.{IsSound}
use Rattle.tool_ends.specs.Pairs.{most_script, refusal_line}
use Rattle.tool_ends.specs.Reads.{WasRead}
use Rattle.tool_ends.specs.declared.status.Status.{Status}
use Rattle.tool_ends.specs.declared.status.Status.TheVariants.{Done, No, Usage, ReadFault, WriteFault, Refused, NoMemory}
use Rattle.rng_tool.specs.Outcome.{RunOf}

-- ---- the output for a part of the script's text

-- `text` and then a line `end` are a script of one caller, who forks nobody and acts inside no vgetrandom call. The
-- output is a transcript's first line and the line of each event in `text`. With one more line, for the caller's end,
-- the lines of the events are a sound transcript of this script.
pub record EmittedSoFar (text output : List ℕ) : Type 0 where
  pub script : Script
  pub is_script : IsScript script (text ++ end_line)
  pub one : IsEmittedByOne script
  pub lines : List SeenLine
  pub last : SeenLine
  pub sound : IsSound script ((lines ++ last ∷ []) ∷ [])
  pub emitted : output ≡ lined (codes "rngtranscript 1" ∷ map line_text lines)

-- `text` is a script of one caller, who forks nobody and acts inside no vgetrandom call; the output is the output of a
-- run of this script
pub record EmittedWhole (text output : List ℕ) : Type 0 where
  pub script : Script
  pub is_script : IsScript script text
  pub one : IsEmittedByOne script
  pub run : RunOf script output

-- the output is empty, or it has the lines of the events in a prefix of `text`
pub record EmittedPart (text output : List ℕ) : Type 0 where
  pub front : List ℕ
  pub rest : List ℕ
  pub parts : text ≡ front ++ rest
  pub emitted : (output ≡ []) ⊎ EmittedSoFar front output ⊎ EmittedWhole front output

-- ---- the output for all of the script's text that was read

-- `text` is the beginning of some script of one caller, who forks nobody and acts inside no vgetrandom call
pub record BeginsScript (text : List ℕ) : Type 0 where
  pub script : Script
  pub more : List ℕ
  pub is_script : IsScript script (text ++ more)
  pub one : IsEmittedByOne script

-- events may follow the lines in `text`, and `text` with a line `end` after it is at most as long as a script may be
pub record GoesOn (text : List ℕ) : Type 0 where
  pub draft : Draft
  pub next : ℕ
  pub goes : GoesOnFrom text draft next
  pub room : length text + 4 ≤ most_script

-- the output is empty, and `text` does not begin with whole lines that events may follow
pub record EmittedNothing (text output : List ℕ) : Type 0 where
  pub nothing : output ≡ []
  pub unopened : (front rest : List ℕ) → text ≡ front ++ 10 ∷ rest → GoesOn (front ++ 10 ∷ []) → ⊥

-- the output has the lines of the events in a prefix of `text`. If a whole line follows this prefix, no script of one
-- caller begins with the prefix and that line
pub record EmittedFront (text output : List ℕ) : Type 0 where
  pub front : List ℕ
  pub rest : List ℕ
  pub parts : text ≡ front ++ rest
  pub so_far : EmittedSoFar front output
  pub stops : (line more : List ℕ) → rest ≡ line ++ 10 ∷ more → BeginsScript (front ++ line ++ 10 ∷ []) → ⊥

-- a prefix of `text` is a whole script, and the output is the output of a run of this script; more text may follow the
-- prefix
pub record EmittedScript (text output : List ℕ) : Type 0 where
  pub front : List ℕ
  pub rest : List ℕ
  pub parts : text ≡ front ++ rest
  pub whole : EmittedWhole front output

-- the output has the line of each event in the text
abbrev pub EmittedAll : List ℕ → List ℕ → Type 0
EmittedAll text output = EmittedNothing text output ⊎ EmittedFront text output ⊎ EmittedScript text output

-- ---- the lines that refuse a script

-- some prefix of `text` settles the first fault: every text that begins with this prefix has the first fault `fault`
pub record FailsInside (text : List ℕ) (fault : ScriptFault) : Type 0 where
  pub front : List ℕ
  pub rest : List ℕ
  pub parts : text ≡ front ++ rest
  pub fails : FailsWith front fault

-- `text` is the whole input; or, if the input is longer than a script may be, its first bytes, one more than a script
-- may have. The first fault of `text` is `fault`
pub record FailsAtEnd (left left_after : Option (List ℕ)) (text : List ℕ) (fault : ScriptFault) : Type 0 where
  pub read : WasRead most_script left left_after text
  pub first : first_fault text ≡ Some fault

-- the line with this number has no fault, but is a fork, or an act inside a vgetrandom call
pub record IsNotAlone (text : List ℕ) (number : ℕ) : Type 0 where
  pub front : List ℕ
  pub rest : List ℕ
  pub parts : text ≡ front ++ rest
  pub draft : Draft
  pub event : Event
  pub goes : GoesOnFrom front (with_event draft event) (number + 1)
  pub not_once : IsEmittedOnce event → ⊥

-- the output line that refuses a fork, or an act inside a vgetrandom call, in the script's line with this number: the
-- kind is 13
abbrev pub not_alone_line : ℕ → List ℕ
not_alone_line number = lined (spaced (codes "refused" ∷ decimal number ∷ codes "13" ∷ []) ∷ [])

-- `line` is the output line that refuses `text`: for a fault, for a fork, or for an act inside a vgetrandom call
abbrev pub RefusesBy : Option (List ℕ) → Option (List ℕ) → List ℕ → List ℕ → Type 0
RefusesBy left left_after text line =
    ((fault : ScriptFault) × (FailsInside text fault ⊎ FailsAtEnd left left_after text fault) × (line ≡ refusal_line fault))
    ⊎ ((number : ℕ) × IsNotAlone text number × (line ≡ not_alone_line number))

-- the output has the line of each event in `text`, and then the line that refuses `text`
pub record EmittedRefusal (left left_after : Option (List ℕ)) (text output : List ℕ) : Type 0 where
  pub emitted : List ℕ
  pub line : List ℕ
  pub all : EmittedAll text emitted
  pub refusal : RefusesBy left left_after text line
  pub output_is : output ≡ emitted ++ line

-- ---- how a session ends

-- `text` was taken from the source, and has at most one byte more than a script may have
pub record WasTaken (left left_after : Option (List ℕ)) (text : List ℕ) : Type 0 where
  pub read : Consumes left left_after text
  pub few : length text ≤ most_script + 1

-- some text was taken from the source, and an output was written; `Is` holds of the text and the output
pub record Emitted (Is : List ℕ → List ℕ → Type 0) (left left_after held held_after : Option (List ℕ)) : Type 0 where
  pub text : List ℕ
  pub output : List ℕ
  pub taken : WasTaken left left_after text
  pub is : Is text output
  pub written : Appends held held_after output

-- the input was read to its end and is a script, and its whole transcript was written
pub record EmittedToEnd (left left_after held held_after : Option (List ℕ)) : Type 0 where
  pub input : List ℕ
  pub output : List ℕ
  pub read : WasRead most_script left left_after input
  pub whole : IsAtEnd left_after
  pub is : EmittedWhole input output
  pub written : Appends held held_after output

-- the sink failed. It got a prefix of an output that is right for the text taken from the source
pub record EmittedPrefix (left left_after held held_after : Option (List ℕ)) : Type 0 where
  pub text : List ℕ
  pub output : List ℕ
  pub taken : WasTaken left left_after text
  pub is : EmittedPart text output ⊎ EmittedRefusal left left_after text output
  pub written : AppendsPrefix held held_after output

-- how a session ends: its status, the bytes left in the source before and after it, and the content of the sink before
-- and after it
abbrev pub LiveEnds : Status → Option (List ℕ) → Option (List ℕ) → Option (List ℕ) → Option (List ℕ) → Type 0
LiveEnds Done left left_after held held_after = EmittedToEnd left left_after held held_after
LiveEnds Refused left left_after held held_after =
    Emitted (EmittedRefusal left left_after) left left_after held held_after
LiveEnds ReadFault left left_after held held_after = Emitted EmittedAll left left_after held held_after
LiveEnds NoMemory left left_after held held_after = Emitted EmittedPart left left_after held held_after
LiveEnds WriteFault left left_after held held_after = EmittedPrefix left left_after held held_after
LiveEnds No left left_after held held_after = ⊥
LiveEnds Usage left left_after held held_after = ⊥

-- the words of the command line are `live` alone
abbrev pub IsLive : {A : Type 0} → List (String A) → Type 0
IsLive words = map string_bytes words ≡ codes "live" ∷ []
