-- How a vread of a transcript ended. If the batch served the vread, the vread's line shows the bytes of named spans.
-- Entries of the vread's state serve these spans.
use Rattle.std.specs.Prelude.{ℕ, ◌≡◌, ◌<◌, Some, List, ◌++◌, take, slice_get}
use Rattle.key_names.specs.declared.entries.VEntry.{VEntry}
use Rattle.key_names.specs.Lanes.Book.{Lists}
use Rattle.key_names.specs.Callers.Calls.{Call, vread_call, BoundAct}
use Rattle.key_names.specs.Transcripts.SeenLine.{SeenLine, no_data, bytes_or_none}
use Rattle.key_names.specs.Keys.ServedNamed.{served_in}
use Rattle.key_names.specs.Lanes.StateList.{state_step, state_after}
use Rattle.key_names.specs.Keys.Uses.{state_uses_at, uses_from}
use Rattle.key_names.specs.Kernel.Vgetrandom.{SystemAnswer, by_system}
use Rattle.key_names.specs.Callers.Meaning.{CallMeaning, ByVgetrandom}
use Rattle.key_names.specs.Transcripts.IsTranscript.{entries_of_state}

-- the bytes of the spans that the entries `es` serve, after the entries `front` of the state's list
abbrev pub entry_bytes : Lists → ℕ → ℕ → List VEntry → List VEntry → List ℕ
entry_bytes lists caller k front es =
    served_in lists (uses_from state_uses_at (state_step caller k) (state_after caller k front) es)

-- the last of the entries `es` serve the bytes `out`. These last entries come from the attempt that held
pub record LastServe (lists : Lists) (caller k : ℕ) (front es : List VEntry) (out : List ℕ) : Type 0 where
  pub earlier : List VEntry
  pub last : List VEntry
  pub entries_are : es ≡ earlier ++ last
  pub bytes_are : out ≡ entry_bytes lists caller k (front ++ earlier) last

-- how a vread ended. Its line shows no data, the bytes that its last entries serve, or the answer of a system call
pub data VreadEnd (lists : Lists) (caller k : ℕ) (front : List VEntry) (n flags : ℕ) (acts : List BoundAct)
    (m : CallMeaning) : Type 0 where
  showed_none : m.own.shown ≡ no_data → VreadEnd lists caller k front n flags acts m
  showed_batch : (out : List ℕ) → m.own.shown ≡ bytes_or_none out → LastServe lists caller k front m.entries out →
      VreadEnd lists caller k front n flags acts m
  asked_system : (by : ByVgetrandom n flags acts m) (answer : SystemAnswer) → by.outcome.ending ≡ by_system answer →
      VreadEnd lists caller k front n flags acts m

-- `VreadEnd` holds for each vread of a caller. Its `front` has the entries that earlier calls appended to the state's
-- list
abbrev pub VreadsNamed : Lists → ℕ → List Call → List CallMeaning → Type 0
VreadsNamed lists caller calls ms = (k j n flags : ℕ) (line : SeenLine) (acts : List BoundAct) (m : CallMeaning) →
    k < 16 → m.before.current ≡ k → slice_get calls j ≡ Some (vread_call n flags line acts) →
    slice_get ms j ≡ Some m → VreadEnd lists caller k (entries_of_state k (take j ms)) n flags acts m
