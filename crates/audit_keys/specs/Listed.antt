-- The births, endings and uses of keys, from the lists of a book.
use Rattle.std.specs.Prelude.{ℕ, ◌≡◌, Bool, List, [], ◌++◌, length, map}
use Rattle.std.specs.Global.{Vec}
use Rattle.std.specs.List.{list_any, flat_map, range_with_len}
use Rattle.key_names.specs.declared.entries.CpuEntry.{CpuEntry}
use Rattle.key_names.specs.declared.entries.VEntry.{VEntry}
use Rattle.key_names.specs.Lanes.BaseList.{base_start, base_step}
use Rattle.key_names.specs.Lanes.CpuList.{cpu_start, cpu_step}
use Rattle.key_names.specs.Lanes.StateList.{state_start, state_step}
use Rattle.key_names.specs.Lanes.Book.{Lists, list_at, cpu_list, state_list}
use Rattle.key_names.specs.Keys.LiveMaterial.{cpu_end, state_end, state_rest, live_key, base_key, cpu_key, state_key}
use Rattle.key_names.specs.Keys.Uses.{is_rekeyed, rekeys_place}
use Rattle.judge_log.specs.declared.kept.KeptCpu.{KeptCpu}
use Rattle.judge_log.specs.declared.kept.Lists.{Lists as KeptLists}
use Rattle.audit_keys.specs.declared.state_uses.StateOf.{StateOf}
use Rattle.audit_keys.specs.declared.used.Used.{Used}
use Rattle.audit_keys.specs.KeptEntries.{base_entries, cpu_entries}
use Rattle.audit_keys.specs.ListedFrom.{listed_from}
use Rattle.audit_keys.specs.UsedAt.{base_used_at, cpu_used_at, state_used_at}
use Rattle.audit_keys.specs.declared.lives.Birth.{Birth}
use Rattle.audit_keys.specs.declared.lives.Ending.{Ending}
use Rattle.audit_keys.specs.declared.lives.GivenUp.{GivenUp}
use Rattle.audit_keys.specs.declared.held.KeyHolder.TheVariants.{Base, Cpu, State}
use Rattle.audit_keys.specs.declared.held.BatchHolder.TheVariants.{State as StateBatch}
use Rattle.audit_keys.specs.declared.held.HeldKey.{HeldKey}
use Rattle.audit_keys.specs.declared.held.HeldRest.{HeldRest}
use Rattle.audit_keys.specs.declared.listed.ListedKeys.{ListedKeys}
use Rattle.audit_keys.specs.Lives.{base_births_at, base_endings_at, cpu_births_at, cpu_endings_at}
use Rattle.audit_keys.specs.Lives.{state_births_at, state_endings_at}
use Rattle.audit_keys.specs.Rests.{cpu_given_up_at, state_given_up_at}
use Rattle.audit_keys.specs.Held.{held_key, held_rest, held_fills}

-- the entries of each CPU, taken from the data kept of the CPU's visits
abbrev pub cpu_lists : List (Vec KeptCpu) → List (List CpuEntry)
cpu_lists cpus = map (λ lane. cpu_entries lane.items) cpus

abbrev pub caller_lists : List (Vec (Vec VEntry)) → List (List (List VEntry))
caller_lists callers = map (λ states. map (λ es. es.items) states.items) callers

-- whether an entry of some vgetrandom state takes the read at place `k` of CPU `cpu` as the state's key
abbrev pub takes_read : ℕ → List (Vec (Vec VEntry)) → ℕ → Bool
takes_read cpu callers k =
    list_any (λ states. list_any (λ es. list_any (rekeys_place cpu k) es.items) states.items) callers

-- `kept` has the entries of the base and of the CPUs in `lists`. `callers` has the entries of the vgetrandom states in
-- `lists`
pub record HasEntries (lists : Lists) (kept : KeptLists) (callers : List (Vec (Vec VEntry))) : Type 0 where
  pub base : base_entries kept.base.items ≡ lists.base
  pub cpus : cpu_lists kept.cpus.items ≡ lists.cpus
  pub states : caller_lists callers ≡ lists.callers

-- the results of entries: the keys that the entries make and erase, the rests of batches that the entries give up, and
-- the uses of keys. Also the keys and rests that are held after the entries
pub record Tells : Type 0 where
  pub births : List Birth
  pub endings : List Ending
  pub given_up : List GivenUp
  pub keys : List HeldKey
  pub rests : List HeldRest
  pub uses : List Used

abbrev pub tells_of : ListedKeys → Tells
tells_of listed = record {
  births = listed.lives.births.items;
  endings = listed.lives.endings.items;
  given_up = listed.lives.given_up.items;
  keys = listed.held.keys.items;
  rests = listed.held.rests.items;
  uses = listed.uses.items;
}

-- the results of no entry
abbrev pub nothing : Tells
nothing = record { births = []; endings = []; given_up = []; keys = []; rests = []; uses = [] }

abbrev pub joined : Tells → Tells → Tells
joined a b = record {
  births = a.births ++ b.births;
  endings = a.endings ++ b.endings;
  given_up = a.given_up ++ b.given_up;
  keys = a.keys ++ b.keys;
  rests = a.rests ++ b.rests;
  uses = a.uses ++ b.uses;
}

-- the results for each number below `count`, one number after another
abbrev pub listed_below : {T : Type 0} → ℕ → (ℕ → List T) → List T
listed_below count tells = flat_map tells (range_with_len 0 count)

abbrev pub all_below : ℕ → (ℕ → Tells) → Tells
all_below count tells = record {
  births = listed_below count (λ n. (tells n).births);
  endings = listed_below count (λ n. (tells n).endings);
  given_up = listed_below count (λ n. (tells n).given_up);
  keys = listed_below count (λ n. (tells n).keys);
  rests = listed_below count (λ n. (tells n).rests);
  uses = listed_below count (λ n. (tells n).uses);
}

abbrev pub base_tells : Lists → Tells
base_tells lists = record {
  births = listed_from base_births_at base_step base_start lists.base;
  endings = listed_from base_endings_at base_step base_start lists.base;
  given_up = [];
  keys = held_key Base (live_key lists base_key);
  rests = [];
  uses = listed_from base_used_at base_step base_start lists.base;
}

abbrev pub cpu_tells : Lists → ℕ → Tells
cpu_tells lists c = record {
  births = listed_from (cpu_births_at c) (cpu_step lists.base c) cpu_start (cpu_list lists c);
  endings = listed_from (cpu_endings_at c) (cpu_step lists.base c) cpu_start (cpu_list lists c);
  given_up = listed_from (cpu_given_up_at c) (cpu_step lists.base c) cpu_start (cpu_list lists c);
  keys = held_key (Cpu c) (live_key lists (cpu_key c));
  rests = held_fills c (cpu_end lists c).fills;
  uses = listed_from (cpu_used_at c (is_rekeyed lists c)) (cpu_step lists.base c) cpu_start (cpu_list lists c);
}

abbrev pub state_tells : Lists → ℕ → ℕ → Tells
state_tells lists caller state =
    let of : StateOf = record { caller = caller; state = state } in
    let step = state_step caller state in
    let es = state_list lists caller state in
    record {
      births = listed_from (state_births_at of) step state_start es;
      endings = listed_from (state_endings_at of) step state_start es;
      given_up = listed_from (state_given_up_at of) step state_start es;
      keys = held_key (State of) (live_key lists (state_key caller state));
      rests = held_rest (StateBatch of) (state_rest (state_end lists caller state));
      uses = listed_from (state_used_at of) step state_start es;
    }

abbrev pub cpus_tell : Lists → Tells
cpus_tell lists = all_below (length lists.cpus) (cpu_tells lists)

abbrev pub caller_tells : Lists → ℕ → Tells
caller_tells lists caller = all_below (length (list_at lists.callers caller)) (state_tells lists caller)

abbrev pub callers_tell : Lists → Tells
callers_tell lists = all_below (length lists.callers) (caller_tells lists)

-- the results of a book: first the results of the base, then of each CPU, then of each vgetrandom state of each caller
abbrev pub book_tells : Lists → Tells
book_tells lists = joined (joined (base_tells lists) (cpus_tell lists)) (callers_tell lists)
