-- The right output of a run of the program, for each status.
use Rattle.std.specs.Prelude.{ℕ, ◌≡◌, List, [], ◌∷◌, Option, Some, String, string_bytes, codes, map}
use Rattle.key_names.specs.Transcripts.SeenLine.{SeenLine}
use Rattle.key_names.specs.Texts.ScriptFaults.{first_fault}
use Rattle.key_names.specs.Texts.ScriptGrammar.{Script, IsScript}
use Rattle.key_names.specs.Texts.TranscriptGrammar.{IsTranscriptText}
use Rattle.key_names.specs.declared.faults.ScriptFault.{ScriptFault}
use Rattle.tool_ends.specs.Pairs.{most_script, refusal_line}
use Rattle.tool_ends.specs.Reads.{ReadsEnds}
use Rattle.tool_ends.specs.declared.status.Status.{Status}
use Rattle.tool_ends.specs.declared.status.Status.TheVariants.{Done, No, Usage, ReadFault, WriteFault, Refused, NoMemory}
use Rattle.transcript_check.specs.Judged.{IsSound}

-- the output is the text of a transcript that is sound for the script
pub record RunOf (script : Script) (output : List ℕ) : Type 0 where
  pub lines : List (List SeenLine)
  pub run : IsSound script lines
  pub written : IsTranscriptText output lines

-- the input has a first fault, and the output is the refusal line for this fault
pub record IsRefusal (input output : List ℕ) : Type 0 where
  pub fault : ScriptFault
  pub first : first_fault input ≡ Some fault
  pub line : output ≡ refusal_line fault

-- the input is a script, and the output is the text of a transcript of its run
pub record CallsForRun (input output : List ℕ) : Type 0 where
  pub script : Script
  pub is_script : IsScript script input
  pub run : RunOf script output

-- the right output of the command `run` for an input, given the status
abbrev pub CallsFor : List ℕ → Status → List ℕ → Type 0
CallsFor input Done output = CallsForRun input output
CallsFor input Refused output = IsRefusal input output
CallsFor input No output = ⊥
CallsFor input Usage output = ⊥
CallsFor input ReadFault output = ⊥
CallsFor input WriteFault output = ⊥
CallsFor input NoMemory output = ⊥

-- how the command `run` ends: its status, the bytes left in the source before and after it, and the content of the sink
-- before and after it
abbrev pub RunEnds : Status → Option (List ℕ) → Option (List ℕ) → Option (List ℕ) → Option (List ℕ) → Type 0
RunEnds = ReadsEnds most_script CallsFor

-- the words of the command line are `run` alone
abbrev pub IsRun : {A : Type 0} → List (String A) → Type 0
IsRun words = map string_bytes words ≡ codes "run" ∷ []
