-- The keys and batches that the base, the CPUs and the vgetrandom states of a book still hold, and the keys that were
-- replaced. In an erased book no replaced key and no used byte of a batch is still held.
use Rattle.std.specs.Prelude.{ℕ, ◌+◌, ◌-◌, ◌*◌, ◌≡◌, ◌⊎◌, IsTrue, IsSome, Option, Some, None, List, take, drop}
use Rattle.std.specs.Prelude.{replicate}
use Rattle.std.specs.List.{fold}
use Rattle.key_names.specs.declared.names.KeyName.{KeyName}
use Rattle.key_names.specs.declared.names.Span.{Span}
use Rattle.key_names.specs.declared.entries.BaseEntry.{BaseEntry}
use Rattle.key_names.specs.declared.entries.CpuEntry.{CpuEntry}
use Rattle.key_names.specs.declared.entries.VEntry.{VEntry}
use Rattle.key_names.specs.declared.entries.VEntry.TheVariants.{Rekey, Blocks, Refill, Serve, Wipe}
use Rattle.key_names.specs.Kernel.Keystream.{keystream}
use Rattle.key_names.specs.Kernel.Batches.{Fill, batch_pos, batch_step, with_zeros}
use Rattle.key_names.specs.Lanes.BaseList.{BaseState, base_start, base_step, base_after, base_erases, base_key_in_use}
use Rattle.key_names.specs.Lanes.BaseList.{root_of}
use Rattle.key_names.specs.Lanes.CpuList.{CpuState, cpu_start, cpu_step, cpu_after, cpu_erases, cpu_key_in_use}
use Rattle.key_names.specs.Lanes.CpuList.{base_refill_of}
use Rattle.key_names.specs.Lanes.StateList.{NamedState, state_start, state_step, state_after}
use Rattle.key_names.specs.Keys.KeyInUse.{zero_key, base_value_after, cpu_value_in_use, cpu_value_step, cpu_value_after}
use Rattle.key_names.specs.Keys.KeyInUse.{state_value_step, state_value_after, value_of}
use Rattle.key_names.specs.Lanes.LawfulList.{SomeFrom}
use Rattle.key_names.specs.Lanes.Book.{Lists, cpu_list, state_list, LawfulBook, HalfFinishedBook}
use Rattle.key_names.specs.Keys.Uses.{uses, HoldsByte, IsUsed, IsDisjoint}

-- the holders of keys: the base, a CPU, or a vgetrandom state of a caller
pub data KeyHolder : Type 0 where
  base_key : KeyHolder
  cpu_key : ℕ → KeyHolder
  state_key : ℕ → ℕ → KeyHolder

-- the holders of batches: a CPU, with one batch for each width, or a vgetrandom state of a caller
pub data BatchHolder : Type 0 where
  cpu_batch : ℕ → ℕ → BatchHolder
  state_batch : ℕ → ℕ → BatchHolder

abbrev pub cpu_end : Lists → ℕ → CpuState
cpu_end lists c = cpu_after lists.base c (cpu_list lists c)

abbrev pub state_end : Lists → ℕ → ℕ → NamedState
state_end lists caller state = state_after caller state (state_list lists caller state)

-- the name of the key that a holder has after all entries
abbrev pub live_key : Lists → KeyHolder → Option KeyName
live_key lists base_key = (base_after lists.base).key
live_key lists (cpu_key c) = (cpu_end lists c).key
live_key lists (state_key caller state) = (state_end lists caller state).key

abbrev pub named_span : Option KeyName → ℕ → ℕ → Option Span
named_span None from len = None
named_span (Some key) from len = Some (record { key = key; from = from; len = len })

abbrev pub fill_rest : ℕ → Option Fill → Option Span
fill_rest width None = None
fill_rest width (Some fill) = named_span fill.key (32 + width * fill.count) (96 - width * fill.count)

abbrev pub state_rest : NamedState → Option Span
state_rest s = named_span s.batch_key (64 * s.batch_from + s.pos) (96 - s.pos)

-- the unserved rest of a batch after all entries. A CPU's batch is live from its first fill until the CPU is prepared
abbrev pub live_rest : Lists → BatchHolder → Option Span
live_rest lists (cpu_batch c width) = fill_rest width ((cpu_end lists c).fills width)
live_rest lists (state_batch caller state) = state_rest (state_end lists caller state)

-- after all entries, the number of bytes of a batch that were served
abbrev pub served_len : Lists → BatchHolder → ℕ
served_len lists (cpu_batch c width) = batch_pos width ((cpu_end lists c).fills width)
served_len lists (state_batch caller state) = (state_end lists caller state).pos

-- the entry `e` replaces `key`: either `e` names a root, and `key` is the base's key before `e`; or `e` erases, and
-- `key` is the key in use
abbrev pub BaseReplaces : KeyName → BaseState → BaseEntry → Type 0
BaseReplaces key s e =
    (IsSome (root_of e) × (s.key ≡ Some key)) ⊎ (IsTrue (base_erases e) × (base_key_in_use e s.key ≡ Some key))

abbrev pub CpuReplaces : KeyName → CpuState → CpuEntry → Type 0
CpuReplaces key s e =
    (IsSome (base_refill_of e) × (s.key ≡ Some key)) ⊎ (IsTrue (cpu_erases e) × (cpu_key_in_use e s.key ≡ Some key))

abbrev pub StateReplaces : KeyName → NamedState → VEntry → Type 0
StateReplaces key s (Rekey cpu cpu_place) = s.key ≡ Some key
StateReplaces key s (Blocks from count) = ⊥
StateReplaces key s (Refill from) = s.key ≡ Some key
StateReplaces key s (Serve pos len) = ⊥
StateReplaces key s Wipe = s.key ≡ Some key

-- some entry of the holder's list replaced the key
abbrev pub WasReplaced : Lists → KeyHolder → KeyName → Type 0
WasReplaced lists base_key key = SomeFrom (BaseReplaces key) base_step base_start lists.base
WasReplaced lists (cpu_key c) key = SomeFrom (CpuReplaces key) (cpu_step lists.base c) cpu_start (cpu_list lists c)
WasReplaced lists (state_key caller state) key =
    SomeFrom (StateReplaces key) (state_step caller state) state_start (state_list lists caller state)

-- a CPU after its entries: the names of its keys, the value of its key, and the bytes of its batches
pub record CpuBytes : Type 0 where
  pub named : CpuState
  pub value : List ℕ
  pub batch : ℕ → List ℕ

abbrev pub cpu_bytes_start : CpuBytes
cpu_bytes_start = record { named = cpu_start; value = zero_key; batch = λ width. replicate 96 0 }

abbrev pub cpu_bytes_step : Lists → ℕ → CpuBytes → CpuEntry → CpuBytes
cpu_bytes_step lists c s e = record {
  named = cpu_step lists.base c s.named e;
  value = cpu_value_step lists s.value e;
  batch = λ width. batch_step width (cpu_value_in_use lists e s.value) (s.named.fills width) (s.batch width) e;
}

-- the key and the batch of a vgetrandom state after its entries
pub record StateBytes : Type 0 where
  pub key : List ℕ
  pub batch : List ℕ

abbrev pub state_bytes_start : StateBytes
state_bytes_start = record { key = zero_key; batch = replicate 96 0 }

-- the bytes of the batch after an entry. A rekey leaves the bytes unchanged, but later entries never serve the part
-- that was still unserved
abbrev pub state_batch_step : StateBytes → VEntry → List ℕ
state_batch_step s (Rekey cpu cpu_place) = s.batch
state_batch_step s (Blocks from count) = s.batch
state_batch_step s (Refill from) = keystream s.key (64 * from) 96
state_batch_step s (Serve pos len) = with_zeros pos len s.batch
state_batch_step s Wipe = replicate 96 0

abbrev pub state_bytes_step : Lists → StateBytes → VEntry → StateBytes
state_bytes_step lists s e = record { key = state_value_step lists s.key e; batch = state_batch_step s e }

-- the bytes of a holder's batch, as the replay of the lists gives them
abbrev pub replayed_batch : Lists → BatchHolder → List ℕ
replayed_batch lists (cpu_batch c width) =
    (fold (cpu_bytes_step lists c) cpu_bytes_start (cpu_list lists c)).batch width
replayed_batch lists (state_batch caller state) =
    (fold (state_bytes_step lists) state_bytes_start (state_list lists caller state)).batch

-- the book is erased; `batch` gives the bytes of each batch
pub record IsErased (lists : Lists) (batch : BatchHolder → List ℕ) : Type 0 where
  -- no holder still has a key that an entry replaced
  pub none_replaced : (a b : KeyHolder) (key : KeyName) → live_key lists a ≡ Some key → WasReplaced lists b key → ⊥
  -- no two live keys have the same name
  pub keys_apart : (a b : KeyHolder) (key : KeyName) → live_key lists a ≡ Some key → live_key lists b ≡ Some key → a ≡ b
  -- no live rest of a batch overlaps a use
  pub rest_unused : (a : BatchHolder) (span : Span) (key : KeyName) (q : ℕ) → live_rest lists a ≡ Some span →
      HoldsByte span key q → IsUsed (uses lists) key q → ⊥
  -- the live rests of two batches never overlap
  pub rests_apart : (a b : BatchHolder) (x y : Span) (key : KeyName) (q : ℕ) → live_rest lists a ≡ Some x →
      live_rest lists b ≡ Some y → HoldsByte x key q → HoldsByte y key q → a ≡ b
  -- the served bytes of a batch are 0
  pub served_zero : (a : BatchHolder) → take (served_len lists a) (batch a) ≡ replicate (served_len lists a) 0
  -- if a CPU's batch is not live, all its bytes are 0
  pub dead_zero : (c width : ℕ) → (cpu_end lists c).fills width ≡ None → batch (cpu_batch c width) ≡ replicate 96 0

-- the value of a holder's key, as the replay of the lists gives it
abbrev pub replayed_key : Lists → KeyHolder → List ℕ
replayed_key lists base_key = base_value_after lists.pool lists.base
replayed_key lists (cpu_key c) = cpu_value_after lists (cpu_list lists c)
replayed_key lists (state_key caller state) = state_value_after lists (state_list lists caller state)

-- the names match the replay: each key has the value of its name, and the rest of each batch has the bytes of its span
pub record HoldsNamed (lists : Lists) : Type 0 where
  pub keys : (a : KeyHolder) (key : KeyName) → live_key lists a ≡ Some key → replayed_key lists a ≡ value_of lists key
  pub rests : (a : BatchHolder) (span : Span) → live_rest lists a ≡ Some span →
      drop (served_len lists a) (replayed_batch lists a) ≡ keystream (value_of lists span.key) span.from span.len

-- a lawful book is disjoint. If its batches are the batches of its replay, it is erased too
abbrev pub LawfulIsDisjoint : Type 0
LawfulIsDisjoint = (lists : Lists) → LawfulBook lists → IsDisjoint lists

abbrev pub LawfulIsErased : Type 0
LawfulIsErased = (lists : Lists) → LawfulBook lists → IsErased lists (replayed_batch lists)

-- the names of a lawful book match its replay
abbrev pub LawfulHoldsNamed : Type 0
LawfulHoldsNamed = (lists : Lists) → LawfulBook lists → HoldsNamed lists

-- a book with half-finished visits (HalfFinishedBook) is disjoint too. If its batches are the batches of its replay, it
-- is erased
abbrev pub HalfFinishedIsDisjoint : Type 0
HalfFinishedIsDisjoint = (lists : Lists) → HalfFinishedBook lists → IsDisjoint lists

abbrev pub HalfFinishedIsErased : Type 0
HalfFinishedIsErased = (lists : Lists) → HalfFinishedBook lists → IsErased lists (replayed_batch lists)

abbrev pub HalfFinishedHoldsNamed : Type 0
HalfFinishedHoldsNamed = (lists : Lists) → HalfFinishedBook lists → HoldsNamed lists
