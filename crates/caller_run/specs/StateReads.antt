-- A read out of a caller's current state, and the buffers that were lent for it.
use Rattle.std.specs.Prelude.{◌≡◌, ◌≤◌, ◌^◌, List, length}
use Rattle.std.specs.List.{AllByRecursion}
use Rattle.key_names.specs.declared.names.Step.{Step}
use Rattle.lane_table.specs.declared.lanes.Lanes.{Lanes}
use Rattle.rng_core.specs.Acts.{all_wanted, asks_of, outcomes_of}
use Rattle.rng_core.specs.InsideMakes.{IsWaitingAct}
use Rattle.rng_core.specs.declared.vdso.acts.Bound.{Bound}
use Rattle.caller_run.specs.Calling.{IsReady, StatesConform, StateRead}
use Rattle.caller_run.specs.declared.making.caller.Caller.{Caller}
use Rattle.caller_run.specs.declared.output.reply.Reply.{Reply}
use Rattle.caller_run.specs.declared.making.vreads.ReadInto.{ReadInto}

-- a caller can read: its acts are not done yet, and there is room for the bytes of each act
pub record CanRead (t : Lanes) (c : Caller) (acts : List Bound) (into : ReadInto) : Type 0 where
  pub ready : IsReady t c
  pub states : StatesConform c
  pub short : length into.served.now ≤ 2 ^ 20
  pub fresh : AllByRecursion IsWaitingAct acts
  pub fits : length into.inside.now ≡ all_wanted (asks_of acts)

-- from `c` to `d`, the caller read out of its current state with these steps. `acts` are the acts inside before the
-- read, and `after` are the same acts after the read
pub record CurrentRead (t : Lanes) (c d : Caller) (said : Reply) (steps : List Step) (acts after : List Bound)
    (into done : ReadInto) : Type 0 where
  pub served : done.served.ghost_name ≡ into.served.ghost_name
  pub inside : done.inside.ghost_name ≡ into.inside.ghost_name
  pub long : length done.served.now ≡ length into.served.now
  pub fits : length done.inside.now ≡ all_wanted (asks_of acts)
  pub asks : asks_of after ≡ asks_of acts
  pub read : StateRead t (length into.served.now) into.flags c d said done.served.now steps (asks_of acts)
      (outcomes_of after done.inside.now)
