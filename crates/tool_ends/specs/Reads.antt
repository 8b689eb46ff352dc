-- The effects of a command that reads its input: its status, the rest of the source, and the sink's content.
use Rattle.std.specs.Prelude.{ℕ, ◌≡◌, ◌+◌, ◌≤◌, List, Option, IfSome, length, take}
use Rattle.std.specs.Io.KnownBytes.{Appends, Consumes, IsAtEnd, Keeps}
use Rattle.io_edges.specs.Pieces.{AppendsPrefix, ConsumesUpTo}
use Rattle.tool_ends.specs.Ends.{IsAnswered}
use Rattle.tool_ends.specs.declared.status.Status.{Status}
use Rattle.tool_ends.specs.declared.status.Status.TheVariants.{Done, No, Usage, ReadFault, WriteFault, Refused, NoMemory}

-- `output` is an answer that is right for some status; `Of` holds for the right outputs of each status
abbrev pub SomeAnswer : (Status → List ℕ → Type 0) → List ℕ → Type 0
SomeAnswer Of output = (status : Status) × IsAnswered status × Of status output

-- an output is right exactly if the status is Done and `Is` holds for the output
abbrev pub OnlyDone : (List ℕ → Type 0) → Status → List ℕ → Type 0
OnlyDone Is Done output = Is output
OnlyDone Is No output = ⊥
OnlyDone Is Usage output = ⊥
OnlyDone Is ReadFault output = ⊥
OnlyDone Is WriteFault output = ⊥
OnlyDone Is Refused output = ⊥
OnlyDone Is NoMemory output = ⊥

-- ---- what a command leaves for the input that it read; `Of` holds for the right outputs of each status

abbrev pub WasWritten : (List ℕ → Type 0) → Option (List ℕ) → Option (List ℕ) → Type 0
WasWritten Is held held_after = (output : List ℕ) × Is output × Appends held held_after output

abbrev pub WritesEnds : (Status → List ℕ → Type 0) → Status → Option (List ℕ) → Option (List ℕ) → Type 0
WritesEnds Of Done held held_after = WasWritten (Of Done) held held_after
WritesEnds Of No held held_after = WasWritten (Of No) held held_after
WritesEnds Of Refused held held_after = WasWritten (Of Refused) held held_after
WritesEnds Of WriteFault held held_after =
    (output : List ℕ) × SomeAnswer Of output × AppendsPrefix held held_after output
WritesEnds Of NoMemory held held_after = Keeps held held_after
WritesEnds Of Usage held held_after = ⊥
WritesEnds Of ReadFault held held_after = ⊥

-- ---- what a command leaves for its whole input, of which it reads at most `most` + 1 bytes; `Of` holds for the right
-- outputs of each input

-- `input` was read from the source: all that was left in it, or the first `most` + 1 bytes if more was left
pub record WasRead (most : ℕ) (left left_after : Option (List ℕ)) (input : List ℕ) : Type 0 where
  pub read : Consumes left left_after input
  pub whole : length input ≤ most → IsAtEnd left_after
  pub front : IfSome left (λ all. input ≡ take (most + 1) all)

-- the whole input was read, and an output that is right for it was written
pub record WasAnswered (most : ℕ) (Is : List ℕ → List ℕ → Type 0) (left left_after held held_after : Option (List ℕ))
    : Type 0 where
  pub input : List ℕ
  pub output : List ℕ
  pub read : WasRead most left left_after input
  pub whole : IsAtEnd left_after
  pub is : Is input output
  pub written : Appends held held_after output

-- the input that was read was refused, and the refusal was written. The same refusal is right for all that was left in
-- the source before
pub record WasRefused (most : ℕ) (Is : List ℕ → List ℕ → Type 0) (left left_after held held_after : Option (List ℕ))
    : Type 0 where
  pub input : List ℕ
  pub output : List ℕ
  pub read : WasRead most left left_after input
  pub refusal : Is input output
  pub of_all : IfSome left (λ all. Is all output)
  pub written : Appends held held_after output

-- the sink failed, and got a prefix of an output. This output is right for the input that was read, and for all that
-- was left in the source before
pub record WasCutShort (most : ℕ) (Is : List ℕ → List ℕ → Type 0) (left left_after held held_after : Option (List ℕ))
    : Type 0 where
  pub input : List ℕ
  pub output : List ℕ
  pub read : WasRead most left left_after input
  pub output_is : Is input output
  pub of_all : IfSome left (λ all. Is all output)
  pub written : AppendsPrefix held held_after output

-- no output was written, and at most `most` + 1 bytes were taken from the source
pub record WasGivenUp (most : ℕ) (left left_after held held_after : Option (List ℕ)) : Type 0 where
  pub taken : ConsumesUpTo (most + 1) left left_after
  pub kept : Keeps held held_after

abbrev pub ReadsEnds : ℕ → (List ℕ → Status → List ℕ → Type 0) → Status → Option (List ℕ) → Option (List ℕ)
    → Option (List ℕ) → Option (List ℕ) → Type 0
ReadsEnds most Of Done left left_after held held_after =
    WasAnswered most (λ input output. Of input Done output) left left_after held held_after
ReadsEnds most Of No left left_after held held_after =
    WasAnswered most (λ input output. Of input No output) left left_after held held_after
ReadsEnds most Of Refused left left_after held held_after =
    WasRefused most (λ input output. Of input Refused output) left left_after held held_after
ReadsEnds most Of WriteFault left left_after held held_after =
    WasCutShort most (λ input output. SomeAnswer (Of input) output) left left_after held held_after
ReadsEnds most Of ReadFault left left_after held held_after = WasGivenUp most left left_after held held_after
ReadsEnds most Of NoMemory left left_after held held_after = WasGivenUp most left left_after held held_after
ReadsEnds most Of Usage left left_after held held_after = ⊥
