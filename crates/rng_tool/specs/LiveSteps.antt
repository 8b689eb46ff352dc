-- A session between two lines of its script, and at the place where it stops. `emitted` is the session's output so far.
use Rattle.std.specs.Prelude.{ℕ, ◌≡◌, ◌⊎◌, ◌+◌, ◌<◌, ◌≤◌, ◌==◌, ⊤, Bool, true, false, All, List, [], ◌∷◌, ◌++◌, Option, None, Some, Result, Ok, Err, IsSomeAnd, codes, length}
use Rattle.std.specs.List.{AllByRecursion}
use Rattle.std.specs.Io.KnownBytes.{Appends, Keeps}
use Rattle.io_edges.specs.Faults.{Rose}
use Rattle.io_edges.specs.Pieces.{AppendsPrefix}
use Rattle.key_names.specs.Transcripts.SeenLine.{SeenLine}
use Rattle.key_names.specs.declared.faults.ScriptFault.{ScriptFault}
use Rattle.key_names.specs.Texts.ScriptFaults.{Draft, first_fault, script_of_draft}
use Rattle.key_names.specs.Texts.ScriptGrammar.{Script, IsScript}
use Rattle.key_names.specs.Texts.TranscriptGrammar.{LineFits}
use Rattle.event_script.specs.Feeding.{HasFed, IsWhole}
use Rattle.event_script.specs.Progress.{EndsWith, GoesOnFrom, IsFaulty, IsLone, IsProgress}
use Rattle.event_script.specs.Waiting.{IsWaiting}
use Rattle.event_script.specs.declared.progress.ScriptProgress.{ScriptProgress}
use Rattle.event_script.specs.declared.progress.ScriptProgress.TheVariants.{Waits}
use Rattle.caller_run.specs.Alone.{HasMade, IsLawful, IsEmittedByOne, IsEmittedOnce}
use Rattle.caller_run.specs.declared.alone.LoneRun.{LoneRun}
use Rattle.transcript_text.specs.Lines.{text_of, whole_line}
use Rattle.tool_ends.specs.Pairs.{most_script}
use Rattle.tool_ends.specs.Reads.{WasRead}
use Rattle.rng_tool.specs.LiveOutcome.{BeginsScript, FailsAtEnd, FailsInside, GoesOn, IsNotAlone, Emitted, EmittedAll, EmittedPart, EmittedPrefix, EmittedToEnd, WasTaken}
use Rattle.rng_tool.specs.Outcome.{RunOf}
use Rattle.rng_tool.specs.declared.live.Session.{Session}
use Rattle.rng_tool.specs.declared.stop.Stop.{Stop}
use Rattle.rng_tool.specs.declared.stop.Stop.TheVariants.{ReadFault, WriteFault, NoMemory, Refused, NotAlone}
use Rattle.rng_tool.specs.declared.session_writer.SessionWriter.{SessionWriter}

-- ---- what the session has written

-- the text of a transcript's first line, followed by the text of `lines`
abbrev pub begun : List SeenLine → List ℕ
begun lines = codes "rngtranscript 1\n" ++ text_of lines

-- a script begins with `front`, the run has made the events of `front`, and `emitted` has the lines of these events
pub record HasRun (front emitted : List ℕ) (run : LoneRun) : Type 0 where
  pub draft : Draft
  pub next : ℕ
  pub goes : GoesOnFrom front draft next
  pub lone : IsLone draft
  pub once : AllByRecursion IsEmittedOnce draft.events
  pub room : length front + 4 ≤ most_script
  pub lines : List SeenLine
  pub fit : AllByRecursion LineFits lines
  pub made : HasMade draft.cpus draft.events run lines
  pub text : emitted ≡ begun lines

-- `front` is a whole script, and `emitted` is the output of a run of this script
pub record HasEnded (front emitted : List ℕ) : Type 0 where
  pub draft : Draft
  pub next : ℕ
  pub ends : EndsWith front draft next
  pub short : length front ≤ most_script
  pub one : IsEmittedByOne (script_of_draft draft)
  pub run : RunOf (script_of_draft draft) emitted

-- `emitted` is the output for `front`, a part of a script; the bool is true if the line `end` was read
abbrev pub HasEmitted : Bool → Option LoneRun → List ℕ → List ℕ → Type 0
HasEmitted true run front emitted = (run ≡ None) × HasEnded front emitted
HasEmitted false None front emitted = emitted ≡ []
HasEmitted false (Some run) front emitted = HasRun front emitted run

-- ---- a session between two lines of its script

-- `text` does not begin with whole lines that events may follow
abbrev pub IsUnopened : List ℕ → Type 0
IsUnopened text = (front rest : List ℕ) → text ≡ front ++ 10 ∷ rest → GoesOn (front ++ 10 ∷ []) → ⊥

-- `text` has no line feed
abbrev pub IsPart : List ℕ → Type 0
IsPart text = All (λ b. (b == 10) ≡ false) text

-- no script begins with `text`
abbrev pub IsHopeless : List ℕ → Type 0
IsHopeless text = (script : Script) (more : List ℕ) → IsScript script (text ++ more) → ⊥

-- no script begins with `front` and the first whole line of `rest`, since these two leave no room for the line `end`
pub record IsStuck (front rest : List ℕ) : Type 0 where
  pub line : List ℕ
  pub more : List ℕ
  pub is : rest ≡ line ++ 10 ∷ more
  pub clean : IsPart line
  pub hopeless : IsHopeless (front ++ (line ++ 10 ∷ []))
  pub full : most_script < length (front ++ (line ++ 10 ∷ [])) + 4

-- the session has read `text`, which ends before the script's first event, and has written nothing
pub record WaitsAt (text emitted : List ℕ) : Type 0 where
  pub nothing : emitted ≡ []
  pub unopened : IsUnopened text
  pub front : List ℕ
  pub rest : List ℕ
  pub parts : text ≡ front ++ rest
  pub clean : IsPart rest
  pub whole : IsWhole front
  pub waits : IsWaiting front

-- the run is open, and has made the events in a prefix of `text`
pub record RunsAt (run : LoneRun) (text emitted : List ℕ) : Type 0 where
  pub front : List ℕ
  pub rest : List ℕ
  pub parts : text ≡ front ++ rest
  pub has : HasRun front emitted run
  pub rest_is : IsPart rest ⊎ IsStuck front rest

-- the session has read the script's line `end`, and the run is closed
pub record EndedAt (run : Option LoneRun) (text emitted : List ℕ) : Type 0 where
  pub front : List ℕ
  pub rest : List ℕ
  pub parts : text ≡ front ++ rest
  pub none : run ≡ None
  pub has : HasEnded front emitted

abbrev pub At : Bool → Option LoneRun → List ℕ → List ℕ → Type 0
At true run text emitted = EndedAt run text emitted
At false None text emitted = WaitsAt text emitted
At false (Some run) text emitted = RunsAt run text emitted

-- the session has read `text` and written `emitted`
abbrev pub IsAt : List ℕ → List ℕ → SessionWriter → Type 0
IsAt text emitted t = At t.is_over t.run text emitted

-- the session has read `text`, and `line` is the next line; `progress` is the script's progress after this line
pub record ReadsLine (text line emitted : List ℕ) (progress : ScriptProgress) (t : SessionWriter) : Type 0 where
  pub at : IsAt text emitted t
  pub goes_on : t.is_over ≡ false
  pub clean : IsPart line
  pub shown : IsProgress (text ++ (line ++ 10 ∷ [])) progress
  pub waits : progress ≡ Waits → IsWaiting (text ++ (line ++ 10 ∷ []))

-- ---- a session at the place where it stops

-- `emitted` is the output for a prefix of `text`
pub record TellsPart (text emitted : List ℕ) (t : SessionWriter) : Type 0 where
  pub front : List ℕ
  pub rest : List ℕ
  pub parts : text ≡ front ++ rest
  pub has : HasEmitted t.is_over t.run front emitted

-- if the first whole lines of `rest`, one or more, are added to `front`, no script of one caller begins with the result
abbrev pub IsLast : List ℕ → List ℕ → Type 0
IsLast front rest = (line more : List ℕ) → rest ≡ line ++ 10 ∷ more → BeginsScript (front ++ line ++ 10 ∷ []) → ⊥

-- after `front`, the text `rest` allows no more output
abbrev pub IsAllEmitted : Bool → Option LoneRun → List ℕ → List ℕ → Type 0
IsAllEmitted true run front rest = ⊤
IsAllEmitted false None front rest = IsUnopened (front ++ rest)
IsAllEmitted false (Some run) front rest = IsLast front rest

-- `emitted` has the line of each event in `text`
pub record TellsAll (text emitted : List ℕ) (t : SessionWriter) : Type 0 where
  pub front : List ℕ
  pub rest : List ℕ
  pub parts : text ≡ front ++ rest
  pub has : HasEmitted t.is_over t.run front emitted
  pub all : IsAllEmitted t.is_over t.run front rest

-- a prefix of `text` has the fault `fault`
pub record IsFaultyIn (text : List ℕ) (fault : ScriptFault) : Type 0 where
  pub front : List ℕ
  pub rest : List ℕ
  pub parts : text ≡ front ++ rest
  pub is : IsFaulty front fault

-- for some output `emitted` of a session, both `Is` and `Written` hold
pub record StopsBy (Is : List ℕ → Type 0) (Written : List ℕ → Type 0) : Type 0 where
  pub emitted : List ℕ
  pub is : Is emitted
  pub written : Written emitted

-- whatever text follows `text`, `emitted` has the line of each event in the longer text
pub record TellsOn (text emitted : List ℕ) (t : SessionWriter) : Type 0 where
  pub all : (more : List ℕ) → TellsAll (text ++ more) emitted t

abbrev pub StopsAt : Stop → Option (List ℕ) → Option (List ℕ) → List ℕ → SessionWriter → Type 0
StopsAt ReadFault start held text t = ⊥
StopsAt WriteFault start held text t = StopsBy (λ emitted. TellsPart text emitted t) (AppendsPrefix start held)
StopsAt NoMemory start held text t = StopsBy (λ emitted. TellsPart text emitted t) (Appends start held)
StopsAt (Refused fault) start held text t =
    StopsBy (λ emitted. TellsOn text emitted t × IsFaultyIn text fault) (Appends start held)
StopsAt (NotAlone number) start held text t =
    StopsBy (λ emitted. TellsOn text emitted t × IsNotAlone text number) (Appends start held)

-- after `text` the session goes on, or has stopped; `start` and `held` are the content of the sink before the session
-- and now
abbrev pub GoesTo : Result (Unit {0}) Stop → Option (List ℕ) → Option (List ℕ) → List ℕ → SessionWriter → Type 0
GoesTo (Ok u) start held text t = StopsBy (λ emitted. IsAt text emitted t) (Appends start held)
GoesTo (Err stop) start held text t = StopsAt stop start held text t

-- if the session stopped with a write fault, the sink has counted a fault; otherwise it has counted none
pub record CountsStop (result : Result (Unit {0}) Stop) (faults faults_after : ℕ) : Type 0 where
  pub cut : result ≡ Err WriteFault → Rose faults faults_after
  pub not_counted : (result ≡ Err WriteFault → ⊥) → faults_after ≡ faults

-- ---- what the sink holds after a write

-- all of `text` was written, or the sink failed after a prefix of `text`
abbrev pub Writes : Result (Unit {0}) Stop → Option (List ℕ) → Option (List ℕ) → List ℕ → Type 0
Writes (Ok u) held held_after text = Appends held held_after text
Writes (Err WriteFault) held held_after text = AppendsPrefix held held_after text
Writes (Err ReadFault) held held_after text = ⊥
Writes (Err NoMemory) held held_after text = ⊥
Writes (Err (Refused fault)) held held_after text = ⊥
Writes (Err (NotAlone number)) held held_after text = ⊥

-- the run was opened and the first line of the transcript was written (or the sink failed); or memory ran out, and the
-- run and the sink are as before
abbrev pub Opens : ℕ → Result (Unit {0}) Stop → Option LoneRun → Option LoneRun → Option (List ℕ) → Option (List ℕ)
    → Type 0
Opens cpus (Err NoMemory) run run_after held held_after = (run_after ≡ run) × Keeps held held_after
Opens cpus result run run_after held held_after =
    IsSomeAnd run_after (λ r. HasMade cpus [] r []) × Writes result held held_after (codes "rngtranscript 1\n")

-- the run of `script` was ended, and the last line of its caller and the line `end` were written (or the sink failed)
abbrev pub Ends : Script → List SeenLine → Result (Unit {0}) Stop → Option (List ℕ) → Option (List ℕ) → Type 0
Ends script lines result held held_after =
    (last : SeenLine) × IsLawful script (lines ++ last ∷ []) × LineFits last
    × Writes result held held_after (whole_line last ++ codes "end\n")

-- ---- a session with its reader

-- the reader was fed `text`, and the session has written `emitted`
pub record SessionAt (text emitted : List ℕ) (s : Session) : Type 0 where
  pub fed : HasFed text s.reader
  pub at : IsAt text emitted s.session_writer

-- after `text` the session goes on with its reader, or has stopped
abbrev pub SessionGoes : Result (Unit {0}) Stop → Option (List ℕ) → Option (List ℕ) → List ℕ → Session → Type 0
SessionGoes (Ok u) start held text s = StopsBy (λ emitted. SessionAt text emitted s) (Appends start held)
SessionGoes (Err stop) start held text s = StopsAt stop start held text s.session_writer

-- `text` was taken from the source. If `text` is longer than a script may be, it has exactly one byte more than a
-- script may have
pub record TakesText (left left_after : Option (List ℕ)) (text : List ℕ) : Type 0 where
  pub taken : WasTaken left left_after text
  pub long : most_script < length text → WasRead most_script left left_after text

-- the session stopped after it had taken `text` from its source
abbrev pub StoppedAt : Stop → Option (List ℕ) → Option (List ℕ) → List ℕ → SessionWriter → Type 0
StoppedAt ReadFault start held text t = StopsBy (λ emitted. TellsAll text emitted t) (Appends start held)
StoppedAt stop start held text t = StopsAt stop start held text t

-- the input was read to its end, or the session has stopped
abbrev pub SessionReads : Result (Unit {0}) Stop → Option (List ℕ) → Option (List ℕ) → Option (List ℕ)
    → Option (List ℕ) → Session → Type 0
SessionReads (Ok u) left left_after held held_after s =
    (text : List ℕ) × WasRead most_script left left_after text × (length text ≤ most_script + 1)
    × SessionGoes (Ok u) held held_after text s
SessionReads (Err stop) left left_after held held_after s =
    (text : List ℕ) × TakesText left left_after text × StoppedAt stop held held_after text s.session_writer

-- if the session stopped with a read fault, the source has counted a fault; otherwise it has counted none
pub record CountsReadStop (result : Result (Unit {0}) Stop) (faults faults_after : ℕ) : Type 0 where
  pub read_fault : result ≡ Err ReadFault → Rose faults faults_after
  pub no_read_fault : (result ≡ Err ReadFault → ⊥) → faults_after ≡ faults

-- `text` is a script, or its first fault is the one in the result
abbrev pub Finishes : List ℕ → Result (Unit {0}) Stop → Type 0
Finishes text (Ok u) = (script : Script) × IsScript script text
Finishes text (Err (Refused fault)) = first_fault text ≡ Some fault
Finishes text (Err NoMemory) = ⊤
Finishes text (Err ReadFault) = ⊥
Finishes text (Err WriteFault) = ⊥
Finishes text (Err (NotAlone number)) = ⊥

-- `emitted` has the line of each event in `text`, and `text` has the fault `fault`
pub record EmittedToFault (left left_after : Option (List ℕ)) (fault : ScriptFault) (text emitted : List ℕ) : Type 0 where
  pub all : EmittedAll text emitted
  pub fails : FailsInside text fault ⊎ FailsAtEnd left left_after text fault

-- `emitted` has the line of each event in `text`, and line `number` is a fork, or an act inside a vgetrandom call
pub record EmittedToLine (number : ℕ) (text emitted : List ℕ) : Type 0 where
  pub all : EmittedAll text emitted
  pub not_alone : IsNotAlone text number

-- how a session ends. If the session refuses its script, the line of the refusal is not written yet
abbrev pub SessionEnds : Result (Unit {0}) Stop → Option (List ℕ) → Option (List ℕ) → Option (List ℕ)
    → Option (List ℕ) → Type 0
SessionEnds (Ok u) left left_after held held_after = EmittedToEnd left left_after held held_after
SessionEnds (Err ReadFault) left left_after held held_after = Emitted EmittedAll left left_after held held_after
SessionEnds (Err NoMemory) left left_after held held_after = Emitted EmittedPart left left_after held held_after
SessionEnds (Err WriteFault) left left_after held held_after = EmittedPrefix left left_after held held_after
SessionEnds (Err (Refused fault)) left left_after held held_after =
    Emitted (EmittedToFault left left_after fault) left left_after held held_after
SessionEnds (Err (NotAlone number)) left left_after held held_after =
    Emitted (EmittedToLine number) left left_after held held_after
