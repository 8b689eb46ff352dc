-- The counts over the events of a draft: events, bytes read, waiting acts and forked callers.
use Rattle.std.specs.Prelude.{◌≡◌, ℕ, ◌<◌, ◌≤◌, Bool, false, ◌||◌, nat_le, nat_lt, Option, Some, None, List, [], ◌∷◌, ◌++◌, fold, length, map, slice_index_or, sum_by}
use Rattle.std.specs.Global.{Vec}
use Rattle.key_names.specs.declared.events.Event.{Event}
use Rattle.key_names.specs.declared.events.Event.TheVariants.{Fork}
use Rattle.key_names.specs.Texts.ScriptGrammar.{acts_after, bytes_read, times_forked}

-- all blocks of a draft: the finished ones and then the last one, `events`
abbrev pub blocks_in : List (Vec Event) → List Event → List (List Event)
blocks_in done events = map (λ block. block.items) done ++ events ∷ []

abbrev pub fork_in : Event → Option ℕ
fork_in (Fork child) = Some child
fork_in _ = None

-- `event` reads nothing, forks no caller and leaves the number of acts that wait for a `vread` as it is
pub record IsLight (event : Event) : Type 0 where
  pub unread : bytes_read event ≡ 0
  pub unforked : fork_in event ≡ None
  pub waiting : (acts : ℕ) → acts_after acts event ≡ acts

-- Whether one more event exceeds a limit. `count` is the number of earlier events. `read` and `acts` are the numbers of
-- bytes read and of waiting acts once the event is added.
abbrev pub is_over : ℕ → ℕ → ℕ → Bool
is_over count read acts = nat_le 65536 count || nat_lt 16777216 read || nat_lt 8 acts

pub record Tallied (blocks : List (List Event)) (last : List Event) (count read acts : ℕ) (forked : List Bool)
    : Type 0 where
  pub count_is : count ≡ sum_by length blocks
  pub read_is : read ≡ sum_by (sum_by bytes_read) blocks
  pub acts_are : acts ≡ fold acts_after 0 last
  pub marks : (c : ℕ) → c < 64 → slice_index_or forked c false ≡ nat_lt 0 (times_forked blocks c)
  pub high : (c : ℕ) → 64 ≤ c → times_forked blocks c ≡ 0
  pub long : length forked ≡ 64
  pub few : count ≤ 65536
  pub little : read ≤ 16777216
  pub waiting : acts ≤ 8
