-- The statuses with which a program ends, and the effects of a command that reads no input on the sink.
use Rattle.std.specs.Prelude.{ℕ, ◌≡◌, ◌⊎◌, ⊤, List, Option}
use Rattle.std.specs.Io.KnownBytes.{Appends, Keeps}
use Rattle.io_edges.specs.Faults.{Rose}
use Rattle.io_edges.specs.Pieces.{AppendsPrefix}
use Rattle.tool_ends.specs.declared.status.Status.{Status}
use Rattle.tool_ends.specs.declared.status.Status.TheVariants.{Done, No, Usage, ReadFault, WriteFault, Refused, NoMemory}

-- the exit code of each status
abbrev pub code_of : Status → ℕ
code_of Done = 0
code_of No = 1
code_of Usage = 2
code_of ReadFault = 3
code_of WriteFault = 4
code_of Refused = 5
code_of NoMemory = 6

-- a command with this status changed the sink's content from `held` to `held_after`; `Of` holds for each right output
abbrev pub EndsWith : (List ℕ → Type 0) → Status → Option (List ℕ) → Option (List ℕ) → Type 0
EndsWith Of Done held held_after = (output : List ℕ) × Of output × Appends held held_after output
EndsWith Of WriteFault held held_after = (output : List ℕ) × Of output × AppendsPrefix held held_after output
EndsWith Of NoMemory held held_after = Keeps held held_after
EndsWith Of No held held_after = ⊥
EndsWith Of Usage held held_after = ⊥
EndsWith Of ReadFault held held_after = ⊥
EndsWith Of Refused held held_after = ⊥

-- the sink counted a fault exactly if the command's result is a write fault
pub record CountsWriteFault (result : Status) (faults faults_after : ℕ) : Type 0 where
  pub cut : result ≡ WriteFault → Rose faults faults_after
  pub not_counted : (result ≡ WriteFault → ⊥) → faults_after ≡ faults

-- the source counted a fault exactly if the command's result is a read fault
pub record CountsReadFault (result : Status) (faults faults_after : ℕ) : Type 0 where
  pub read_fault : result ≡ ReadFault → Rose faults faults_after
  pub no_read_fault : (result ≡ ReadFault → ⊥) → faults_after ≡ faults

-- a command with this status has written its whole answer
abbrev pub IsAnswered : Status → Type 0
IsAnswered Done = ⊤
IsAnswered No = ⊤
IsAnswered Refused = ⊤
IsAnswered Usage = ⊥
IsAnswered ReadFault = ⊥
IsAnswered WriteFault = ⊥
IsAnswered NoMemory = ⊥

-- at the end of the output, the status and the sink's count of faults stay the same. Or an answer was put, and the sink
-- failed to hand on the rest of it and counted this fault; then the status is a write fault
abbrev pub AtOutputEnd : Status → Status → ℕ → ℕ → Type 0
AtOutputEnd status result faults faults_after =
    ((result ≡ status) × (faults_after ≡ faults))
    ⊎ (IsAnswered status × (result ≡ WriteFault) × Rose faults faults_after)
