-- When a caller's vgetrandom states match the replay of their lists of entries.
use Rattle.std.specs.Prelude.{ℕ, ◌≡◌, ◌≤◌, ◌<◌, ◌⊎◌, Option, Some, List, [], ◌∷◌, take, slice_get, unwrap_or}
use Rattle.std.specs.List.{fold}
use Rattle.key_names.specs.declared.names.KeyName.{KeyName}
use Rattle.key_names.specs.declared.entries.VEntry.{VEntry}
use Rattle.key_names.specs.Lanes.Book.{Book, Lists, lists_of, state_list}
use Rattle.key_names.specs.Callers.Calls.{Setting}
use Rattle.key_names.specs.Keys.KeyInUse.{state_value_after}
use Rattle.key_names.specs.Keys.LiveMaterial.{state_bytes_start, state_bytes_step}
use Rattle.key_names.specs.Lanes.StateList.{NamedState, state_after}
use Rattle.key_names.specs.Transcripts.SeenLine.{SeenLine}
use Rattle.key_names.specs.Texts.ScriptGrammar.{Script}
use Rattle.key_names.specs.Kernel.VgetrandomState.{VgetrandomState, wiped_state}
use Rattle.key_names.specs.Callers.Meaning.{CallerState, caller_start, CallMeaning}
use Rattle.key_names.specs.Transcripts.IsTranscript.{EachCaller, IsTranscriptBy, entries_of_state, script_calls, start_setting}

-- the caller's state with this number
abbrev pub state_number : ℕ → CallerState → VgetrandomState
state_number k s = unwrap_or (slice_get s.states k) wiped_state

-- the caller's state after some calls
abbrev pub caller_end : CallerState → List CallMeaning → CallerState
caller_end s [] = s
caller_end s (m ∷ ms) = caller_end m.after ms

abbrev pub HasName : Option KeyName → Type 0
HasName key = (name : KeyName) × (key ≡ Some name)

-- the state's key has a name. The key of its batch has a name too, unless the batch is used up
abbrev pub IsNamed : NamedState → Type 0
IsNamed t = HasName t.key × ((t.pos ≡ 96) ⊎ HasName t.batch_key)

-- a state holds the bytes that a replay of its list gives. If the state has a generation, its keys have names
-- (`IsNamed`)
pub record IsReplayed (lists : Lists) (caller k : ℕ) (es : List VEntry) (s : VgetrandomState) : Type 0 where
  pub batch : s.batch ≡ (fold (state_bytes_step lists) state_bytes_start es).batch
  pub pos : s.pos ≡ (state_after caller k es).pos
  pub key : s.key ≡ state_value_after lists es
  pub named : 1 ≤ s.generation → IsNamed (state_after caller k es)

-- each of a caller's sixteen states matches the replay of its list
pub record StatesReplayed (lists : Lists) (caller : ℕ) (setting : Setting) (ms : List CallMeaning) : Type 0 where
  -- after the caller's first j calls, for any j, state k matches the replay of its entries so far
  pub between : (k j : ℕ) → k < 16 → IsReplayed lists caller k (entries_of_state k (take j ms))
      (state_number k (caller_end (caller_start setting) (take j ms)))
  -- after all calls, state k matches the replay of its list in the book. The laws of lawful books apply to this list
  pub ends : (k : ℕ) → k < 16 → IsReplayed lists caller k (state_list lists caller k)
      (state_number k (caller_end (caller_start setting) ms))

-- in a lawful transcript, the states of each caller match the replay of their lists
abbrev pub StatesAreReplayed : Type 0
StatesAreReplayed = (script : Script) (t : List (List SeenLine)) (book : Book) (ms : List (List CallMeaning)) →
    IsTranscriptBy script t book ms →
    EachCaller (λ c calls ms. StatesReplayed (lists_of book) c (start_setting (script_calls script t) c) ms) 0
    (script_calls script t) ms
