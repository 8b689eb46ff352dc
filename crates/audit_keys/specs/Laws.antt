-- The entries that calls leave are the entries of the calls' meanings. Functions in src/state_laws.rt state
-- `VreadLeaves` and `CallsLeave`. The contract of `state_lists` in src/lists.rt states `AreStateLists`.
use Rattle.std.specs.Prelude.{ℕ, ◌≡◌, List, ◌++◌, map}
use Rattle.key_names.specs.declared.entries.VEntry.{VEntry}
use Rattle.key_names.specs.Lanes.Book.{Lists}
use Rattle.key_names.specs.Callers.Calls.{Setting, Call, BoundAct}
use Rattle.key_names.specs.Callers.Effects.{effects_of}
use Rattle.key_names.specs.Transcripts.IsTranscript.{EachCaller, CallerMeans, state_lists}
use Rattle.key_names.specs.Callers.Meaning.{CallMeaning, current_state, with_state, VreadMeans}
use Rattle.key_names.specs.Kernel.VgetrandomState.{VgetrandomState}
use Rattle.key_names.specs.declared.names.Step.{Step}
use Rattle.audit_keys.specs.Outline.{IsBetweenCalls}
use Rattle.audit_keys.specs.Left.{Left, vread_left}
use Rattle.audit_keys.specs.Callers.{lists_left}

-- the entries of `new` are the entries of `old`, and then the entries of the vread's meaning `m`. The outline of `new`
-- is the outline of the state after the vread
pub record Leaves (m : CallMeaning) (old new : Left) : Type 0 where
  pub entries : new.entries ≡ old.entries ++ m.entries
  pub state : VgetrandomState
  pub after : m.after ≡ with_state m.before state
  pub conforms : IsBetweenCalls new.outline state

-- if `l` has the outline of the state before a vread, `vread_left` appends the entries of the vread's meaning, whatever
-- meaning the vread has
abbrev pub VreadLeaves : Type 0
VreadLeaves = (lists : Lists) (n flags : ℕ) (acts : List BoundAct) (steps : List Step) (m : CallMeaning) (l : Left) →
    VreadMeans n flags acts m → effects_of lists steps ≡ m.own.effects →
    IsBetweenCalls l.outline (current_state m.before) → Leaves m l (vread_left n flags acts l steps)

-- whatever meanings a caller's calls have, `lists_left` gives the lists of these meanings
abbrev pub CallsLeave : Type 0
CallsLeave = (lists : Lists) (setting : Setting) (calls : List Call) (ms : List CallMeaning) →
    CallerMeans lists setting calls ms → lists_left calls ≡ state_lists ms

-- whatever meanings the calls have, `entries` has the lists that these meanings give for the callers' states
abbrev pub AreStateLists : List (List Call) → List (List (List VEntry)) → Type 0
AreStateLists callers entries = (lists : Lists) (settings : ℕ → Setting) (ms : List (List CallMeaning)) →
    EachCaller (λ c calls ms. CallerMeans lists (settings c) calls ms) 0 callers ms → entries ≡ map state_lists ms
