-- The order in which keys were made.
use Rattle.std.specs.Prelude.{ℕ, Bool, true, false, List, [], Option, None, Some, slice_get, IsSortedByKey}
use Rattle.std.specs.Global.{Vec}
use Rattle.key_names.specs.declared.names.LaneId.TheVariants.{Pool, Base, Cpu}
use Rattle.key_names.specs.declared.names.KeyName.{KeyName}
use Rattle.key_names.specs.declared.names.KeyName.TheVariants.{Root, Base as BaseKey, Cpu as CpuKey, Call, Vdso}
use Rattle.audit_keys.specs.declared.used.Origin.{Origin}
use Rattle.audit_keys.specs.declared.used.Origin.TheVariants.{Lane, State}
use Rattle.audit_keys.specs.declared.moments.Moment.{Moment}
use Rattle.audit_keys.specs.declared.moments.Moments.{Moments}
use Rattle.audit_keys.specs.declared.rows.KeyRow.{KeyRow}
use Rattle.audit_keys.specs.Cut.{lane_moments}
use Rattle.audit_keys.specs.declared.rows.MadeRank.{MadeRank}
use Rattle.audit_keys.specs.contracts.rows.MadeRankOrd.TheImpl.{ghosts as ranks}

abbrev pub state_moments : Option (Vec (Vec Moment)) → ℕ → List Moment
state_moments None state = []
state_moments (Some states) state = lane_moments (slice_get states.items state)

-- the moment (stamp and line) at which an entry was left, if it is known
abbrev pub moment_at : Moments → Origin → Option Moment
moment_at moments (Lane Pool place) = slice_get moments.pool.items place
moment_at moments (Lane Base place) = slice_get moments.base.items place
moment_at moments (Lane (Cpu cpu) place) = slice_get (lane_moments (slice_get moments.cpus.items cpu)) place
moment_at moments (State caller state place) =
    slice_get (state_moments (slice_get moments.callers.items caller) state) place

abbrev pub stamp_or_0 : Option Moment → ℕ
stamp_or_0 None = 0
stamp_or_0 (Some moment) = moment.stamp

abbrev pub is_call_key : KeyName → Bool
is_call_key (Root p) = false
is_call_key (BaseKey i) = false
is_call_key (CpuKey c i) = false
is_call_key (Call lane i) = true
is_call_key (Vdso caller state n) = false

-- keys rank by the stamp of the entry that made the key, and then by this entry. If one visit made two keys, the call
-- key comes second
abbrev pub made_rank : Moments → KeyRow → MadeRank
made_rank moments row = record {
  stamp = stamp_or_0 (moment_at moments row.made);
  made = row.made;
  is_call_key = is_call_key row.key;
}

-- rows are in the order in which their keys were made
abbrev pub RowsByMaking : Moments → List KeyRow → Type 0
RowsByMaking moments rows = IsSortedByKey (made_rank moments) ranks.cmp rows
