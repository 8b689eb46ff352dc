-- Inferred entries are in range: their moments come from the script and are below 2^40 ms, and their integers have 1,
-- 2, 4 or 8 bytes.
use Rattle.std.proofs.Common.{◌≡◌, ℕ, zero, suc, ◌<◌, ◌^◌, Bool, true, false, List, [], ◌∷◌, length, Option, Some, None, inl, inr, refl, sym, subst, arith}
use Rattle.std.specs.Bool.{⊤}
use Rattle.std.specs.Prelude.{slice_get, if◌then◌else◌, ◌==◌}
use Rattle.std.specs.List.{AllByRecursion, fold}
use Rattle.key_names.specs.declared.entries.PoolEntry.{PoolEntry}
use Rattle.key_names.specs.declared.entries.PoolEntry.TheVariants.{Mix, Extract, Input, Bits as BitsEntry}
use Rattle.key_names.specs.declared.events.Event.{Event}
use Rattle.key_names.specs.declared.events.Event.TheVariants.{At, On, Hw, Input as InputEvent, Int8, Int16, Int32, Int64, Fork}
use Rattle.key_names.specs.declared.events.InsideAct.{InsideAct}
use Rattle.key_names.specs.declared.events.InsideAct.TheVariants.{Wipe as WipeAct, Vread as VreadAct, Reseed as ReseedAct}
use Rattle.key_names.specs.declared.names.LaneId.{LaneId}
use Rattle.key_names.specs.declared.names.LaneId.TheVariants.{Pool as PoolLane, Base as BaseLane, Cpu as CpuLane}
use Rattle.key_names.specs.declared.names.Step.{Step}
use Rattle.key_names.specs.declared.names.Step.TheVariants.{Look, Visit as Marked}
use Rattle.key_names.specs.declared.notes.PoolNote.{PoolNote}
use Rattle.key_names.specs.declared.notes.PoolNote.TheVariants.{Mix as MixNote, Device as DeviceNote, Input as InputNote}
use Rattle.key_names.specs.declared.notes.PoolNote.TheVariants.{Bits as BitsNote, Extract as ExtractNote}
use Rattle.key_names.specs.Lanes.Book.{list_at}
use Rattle.key_names.specs.Callers.Calls.{Setting, Call, alone, vread_call, unbound, ending, BoundAct, setting_after, setting_after_call}
use Rattle.key_names.specs.Callers.Calls.{setting_of, ForkPoint, with_call_before, fork_point, Parent, parent_here, parent_from, inherited_setting, first_settings, calls_from, all_calls}
use Rattle.key_names.specs.Transcripts.IsTranscript.{start_setting}
use Rattle.key_names.specs.Lanes.PoolNotes.{entry_of}
use Rattle.key_names.specs.Texts.ScriptGrammar.{InRange as EventInRange}
use Rattle.key_names.specs.Transcripts.SeenLine.{SeenLine}
use Rattle.key_names.proofs.Transcripts.CallLists.{OfCalls, of_calls}
use Rattle.key_names.proofs.Lists.Each.{each_append, each_weaker}
use Rattle.key_names.proofs.Lists.ListFacts.{at_list, each_list}
use Rattle.key_names.proofs.Unique.UniqueMarks.{one_entry}
use Rattle.key_names.proofs.Unique.UniqueMeanings.{OfCall}
use Rattle.judge_lines.specs.declared.inferred.Neighbours.{Neighbours}
use Rattle.judge_lines.specs.declared.inferred.BaseInferred.{BaseInferred}
use Rattle.judge_lines.specs.declared.inferred.PoolInferred.{PoolInferred}
use Rattle.judge_lines.specs.declared.inferred.PoolInferred.TheVariants.{Own as own, Extracted as extracted, Dumped as dumped_inferred}
use Rattle.judge_lines.specs.declared.inferred.Sign.{Sign}
use Rattle.judge_lines.specs.declared.inferred.Sign.TheVariants.{Saw as saw, InPool as in_pool, InBase as in_base}
use Rattle.judge_lines.specs.declared.inferred.Sign.TheVariants.{InCpu as in_cpu, Nowhere as nowhere}
use Rattle.judge_lines.specs.Inferred.{Telling, reads, ints, credits, samples, reseeds, ticks, forks, prepares, vmforks, ends, silent}
use Rattle.judge_lines.specs.Inferred.{telling, act_telling, own_entry, pool_inferred, base_inferred, cpu_inferred, read_inferred, drawn_or_woken, crossed_inferred, forked_inferred}
use Rattle.judge_lines.specs.Inferred.{cpu_read_inferred, cpu_int_inferred, int_inferred, sample_inferred, look_in}
use Rattle.key_names.specs.declared.entries.Taken.{Taken}
use Rattle.judge_log.specs.declared.inferred.InferredPool.{InferredPool}
use Rattle.judge_log.specs.declared.inferred.InferredPool.TheVariants.{Is as pool_is, Dumped as dumped}
use Rattle.judge_log.specs.declared.inferred.InferredCpu.{InferredCpu}
use Rattle.judge_log.specs.Tables.{Tables, NoteIsNear, PoolIsNear, BaseIsNear, IsWidth, EntryIsWide, CpuIsWide}
use Rattle.judge_log.specs.Rows.{IsPoolRow, RowAt, cpu_row, AllRows, RowConforms, LineRows, ActRows, CallRows, CallsRows, AllCallsRows, part_telling, first_shown, step_sign}
use Rattle.judge_log.proofs.Tables.MarkedSteps.{StepHas, LineHas}

abbrev pub IsNear : Setting → Type 0
IsNear set = set.now < 2 ^ 40

-- ---- the rows inferred from one line

abbrev EntryIsNear : PoolEntry → Type 0
EntryIsNear (Input word kind code value now) = now < 2 ^ 40
EntryIsNear (Mix text bits) = ⊤
EntryIsNear BitsEntry = ⊤
EntryIsNear (Extract hw base_place) = ⊤

abbrev WidthConforms : Telling → Type 0
WidthConforms (ints width) = IsWidth width
WidthConforms (prepares e) = EntryIsWide e
WidthConforms _ = ⊤

-- the entries that are inferred for a line of the kind `t` are in range
record TellsNear (t : Telling) : Type 0 where
  own_near : EntryIsNear (own_entry t)
  width : WidthConforms t

note_near : (note : PoolNote) (e : PoolEntry) → entry_of note ≡ e → EntryIsNear e → NoteIsNear note
note_near (InputNote word kind code value now) e is near = subst EntryIsNear (sym is) near
note_near (MixNote text bits) e is near = tt
note_near (DeviceNote word text) e is near = tt
note_near BitsNote e is near = tt
note_near (ExtractNote hw base_place) e is near = tt

pool_near : (set : Setting) (t : Telling) (p : PoolInferred) (row : InferredPool) → EntryIsNear (own_entry t) →
    IsPoolRow set t p row → PoolIsNear row
pool_near set t own (pool_is note) near is = note_near note (own_entry t) is near
pool_near set t (extracted i) (pool_is note) near is = note_near note (Extract set.hw i) is tt
pool_near set t (dumped_inferred c k) (pool_is note) near is = absurd is
pool_near set t p (dumped cpu place) near is = tt

woken_near : (taken : Taken) (before : Sign) → BaseIsNear (drawn_or_woken taken before)
woken_near taken (in_base i) = tt
woken_near taken _ = tt

read_near : (set : Setting) (taken : Taken) (a b following : Sign) →
    BaseIsNear (read_inferred set taken (record { second_before = a; before = b; following = following }))
read_near set taken a b (in_cpu c k) = tt
read_near set taken a b (in_base i) = tt
read_near set taken a b (saw g) = woken_near taken b
read_near set taken a b (in_pool p) = woken_near taken b
read_near set taken a b nowhere = woken_near taken b

crossed_near : (set : Setting) (a b : Sign) → IsNear set → BaseIsNear (crossed_inferred set a b)
crossed_near set (in_pool p) b near = near
crossed_near set _ b near = tt

forked_near : (child : ℕ) (a b : Sign) → BaseIsNear (forked_inferred child a b)
forked_near child a nowhere = tt
forked_near child nowhere (saw g) = tt
forked_near child nowhere (in_pool p) = tt
forked_near child nowhere (in_base i) = tt
forked_near child nowhere (in_cpu c k) = tt
forked_near child a (saw g) = tt
forked_near child a (in_pool p) = tt
forked_near child a (in_base i) = tt
forked_near child a (in_cpu c k) = tt

base_near : (set : Setting) (t : Telling) (a b following : Sign) → IsNear set →
    BaseIsNear (base_inferred set t (record { second_before = a; before = b; following = following }))
base_near set (reads taken) a b following near = read_near set taken a b following
base_near set (ints width) a b following near = read_near set _ a b following
base_near set (credits e) a b following near = crossed_near set a b near
base_near set (samples v1 v2) a b following near = crossed_near set a b near
base_near set reseeds a b following near = near
base_near set (vmforks e) a b following near = near
base_near set ticks a b following near = near
base_near set (forks child) a b following near = forked_near child a b
base_near set _ a b following near = tt

cpu_read_wide : (taken : Taken) (a b : Sign) → CpuIsWide (cpu_read_inferred taken a b)
cpu_read_wide taken a (in_base i) = tt
cpu_read_wide taken a _ = tt

cpu_int_wide : (width : ℕ) (a b : Sign) → IsWidth width → CpuIsWide (cpu_int_inferred width a b)
cpu_int_wide width a (in_base i) wide = wide
cpu_int_wide width a _ wide = wide

int_wide : (width found : ℕ) (a b : Sign) → IsWidth width → CpuIsWide (int_inferred width found a b)
int_wide width zero a b wide = cpu_read_wide _ a b
int_wide width (suc g) a b wide = cpu_int_wide width a b wide

sample_wide : (set : Setting) (v1 v2 : ℕ) (b : Sign) → CpuIsWide (sample_inferred set v1 v2 b)
sample_wide set v1 v2 nowhere = tt
sample_wide set v1 v2 _ = tt

cpu_wide : (set : Setting) (t : Telling) (first a b following : Sign) → WidthConforms t →
    CpuIsWide (cpu_inferred set t first (record { second_before = a; before = b; following = following }))
cpu_wide set (reads taken) first a b following wide = cpu_read_wide taken a b
cpu_wide set (ints width) first a b following wide = int_wide width (look_in first) a b wide
cpu_wide set (samples v1 v2) first a b following wide = sample_wide set v1 v2 b
cpu_wide set (prepares e) first a b following wide = wide
cpu_wide set _ first a b following wide = tt

module _ (inferred : Tables) where
  -- if the lane has a row at this place, the row is in range
  abbrev pub NearAt : LaneId → ℕ → Type 0
  NearAt PoolLane place = (u : InferredPool) → slice_get inferred.pool place ≡ Some u → PoolIsNear u
  NearAt BaseLane place = (u : BaseInferred) → slice_get inferred.base place ≡ Some u → BaseIsNear u
  NearAt (CpuLane c) place = (u : InferredCpu) → slice_get (list_at inferred.cpus c) place ≡ Some u → CpuIsWide u.entry

  row_near : (set : Setting) (t : Telling) (first : Sign) (neighbours : Neighbours) (lane : LaneId) (place : ℕ) → IsNear set →
      TellsNear t → RowAt inferred set t first neighbours lane place → NearAt lane place
  row_near set t first neighbours PoolLane place near tells row = λ u at.
      subst PoolIsNear (one_entry inferred.pool inferred.pool place row.row u row.is at refl)
      (pool_near set t (pool_inferred t neighbours) row.row tells.own_near row.tells)
  row_near set t first neighbours BaseLane place near tells row = λ u at.
      subst BaseIsNear (one_entry inferred.base inferred.base place (base_inferred set t neighbours) u row at refl)
      (base_near set t neighbours.second_before neighbours.before neighbours.following near)
  row_near set t first neighbours (CpuLane c) place near tells row = λ u at.
      subst (λ (v : InferredCpu). CpuIsWide v.entry)
      (one_entry (list_at inferred.cpus c) (list_at inferred.cpus c) place (cpu_row set t first neighbours) u row at refl)
      (cpu_wide set t first neighbours.second_before neighbours.before neighbours.following tells.width)

  module _ (set : Setting) (near : IsNear set) where
    steps_near : (tell : Neighbours → Telling) (first a b : Sign) (steps : List Step) →
        ((neighbours : Neighbours) → TellsNear (tell neighbours)) → AllRows (RowConforms inferred set tell first) a b steps →
        AllByRecursion (StepHas NearAt) steps
    steps_near tell first a b [] tells rows = tt
    steps_near tell first a b (step ∷ steps) tells rows =
        let neighbours : Neighbours = record { second_before = a; before = b; following = first_shown steps } in
        (one neighbours step rows.0, steps_near tell first b (step_sign step) steps tells rows.1)
      where
        one : (neighbours : Neighbours) (step : Step) → RowConforms inferred set tell first neighbours step → StepHas NearAt step
        one neighbours (Look g) row = tt
        one neighbours (Marked mark) row = row_near set (tell neighbours) first neighbours mark.lane mark.place near (tells neighbours) row

    line_near : (tell : Neighbours → Telling) (steps : List Step) → ((neighbours : Neighbours) → TellsNear (tell neighbours)) →
        LineRows inferred set tell steps → AllByRecursion (StepHas NearAt) steps
    line_near tell steps tells rows = steps_near tell (first_shown steps) nowhere nowhere steps tells rows

    plain : (taken : Taken) → TellsNear (reads taken)
    plain taken = record { own_near = tt; width = tt }

    none : TellsNear silent
    none = record { own_near = tt; width = tt }

    event_tells : (event : Event) → TellsNear (telling set event)
    event_tells (InputEvent word kind code value) = record { own_near = near; width = tt }
    event_tells Int8 = record { own_near = tt; width = inl refl }
    event_tells Int16 = record { own_near = tt; width = inr (inl refl) }
    event_tells Int32 = record { own_near = tt; width = inr (inr (inl refl)) }
    event_tells Int64 = record { own_near = tt; width = inr (inr (inr refl)) }
    event_tells _ = record { own_near = tt; width = tt }

    act_tells : (act : InsideAct) → TellsNear (act_telling act)
    act_tells WipeAct = none
    act_tells (VreadAct n) = plain _
    act_tells ReseedAct = record { own_near = tt; width = tt }

    acts_near : (acts : List BoundAct) → AllByRecursion (ActRows inferred set) acts →
        AllByRecursion (λ bound. LineHas NearAt bound.line) acts
    acts_near [] rows = tt
    acts_near (bound ∷ acts) rows = (
      line_near (λ neighbours. act_telling bound.act) bound.line.steps (λ neighbours. act_tells bound.act) rows.0,
      acts_near acts rows.1,
    )

    call_near : (call : Call) → CallRows inferred set call → OfCall (LineHas NearAt) call
    call_near (alone event line) rows =
        line_near (λ neighbours. telling set event) line.steps (λ neighbours. event_tells event) rows
    call_near (vread_call n flags line acts) rows =
        (line_near (part_telling n) line.steps (λ neighbours. plain _) rows.0, acts_near acts rows.1)
    call_near (unbound bound) rows = line_near (λ neighbours. silent) bound.line.steps (λ neighbours. none) rows
    call_near (ending line) rows =
        line_near (λ neighbours. ends) line.steps (λ neighbours. record { own_near = tt; width = tt }) rows

-- ---- the moments in events and settings

-- if the event sets the moment, the moment is below 2^40 ms
abbrev EventIsNear : Event → Type 0
EventIsNear (At moment) = moment < 2 ^ 40
EventIsNear _ = ⊤

abbrev pub CallIsNear : Call → Type 0
CallIsNear (alone event line) = EventIsNear event
CallIsNear _ = ⊤

after_near : (set : Setting) (event : Event) → IsNear set → EventIsNear event → IsNear (setting_after set event)
after_near set (At moment) near moves = moves
after_near set (On cpu) near moves = near
after_near set (Hw bytes) near moves = near
after_near set _ near moves = near

call_after : (set : Setting) (call : Call) → IsNear set → CallIsNear call → IsNear (setting_after_call set call)
call_after set (alone event line) near moves = after_near set event near moves
call_after set (vread_call n flags line acts) near moves = near
call_after set (unbound bound) near moves = near
call_after set (ending line) near moves = near

calls_near : (inferred : Tables) (set : Setting) (calls : List Call) → IsNear set → AllByRecursion CallIsNear calls →
    CallsRows inferred set calls → AllByRecursion (OfCall (LineHas (NearAt inferred))) calls
calls_near inferred set [] near all rows = tt
calls_near inferred set (call ∷ calls) near all rows = (
  call_near inferred set near call rows.0,
  calls_near inferred (setting_after_call set call) calls (call_after set call near all.0) all.1 rows.1,
)

after_calls : (set : Setting) (calls : List Call) → IsNear set → AllByRecursion CallIsNear calls →
    IsNear (fold setting_after_call set calls)
after_calls set [] near all = near
after_calls set (call ∷ calls) near all =
    after_calls (setting_after_call set call) calls (call_after set call near all.0) all.1

abbrev ForkIsNear : Option ForkPoint → Type 0
ForkIsNear None = ⊤
ForkIsNear (Some fork) = AllByRecursion CallIsNear fork.before

with_call : (call : Call) (o : Option ForkPoint) → CallIsNear call → ForkIsNear o → ForkIsNear (with_call_before call o)
with_call call None near all = tt
with_call call (Some fork) near all = (near, all)

fork_near : (c : ℕ) (calls : List Call) → AllByRecursion CallIsNear calls → ForkIsNear (fork_point c calls)
fork_near c [] all = tt
fork_near c (alone (Fork child) line ∷ calls) all = go (child == c) (fork_near c calls all.1)
  where
    go : (b : Bool) → ForkIsNear (fork_point c calls) → ForkIsNear (if b then Some (record { before = []; line = line })
        else with_call_before (alone (Fork child) line) (fork_point c calls))
    go true near = tt
    go false near = with_call (alone (Fork child) line) (fork_point c calls) tt near
fork_near c (call ∷ calls) all = with_call call (fork_point c calls) all.0 (fork_near c calls all.1)

abbrev ParentIsNear : Option Parent → Type 0
ParentIsNear None = ⊤
ParentIsNear (Some parent) = AllByRecursion CallIsNear parent.fork.before

here_near : (p : ℕ) (o : Option ForkPoint) (later : Option Parent) → ForkIsNear o → ParentIsNear later →
    ParentIsNear (parent_here p o later)
here_near p None later near rest = rest
here_near p (Some fork) later near rest = near

parent_near : (c p : ℕ) (callers : List (List Call)) → AllByRecursion (λ calls. AllByRecursion CallIsNear calls) callers →
    ParentIsNear (parent_from c p callers)
parent_near c p [] all = tt
parent_near c p (calls ∷ callers) all =
    here_near p (fork_point c calls) (parent_from c (suc p) callers) (fork_near c calls all.0)
    (parent_near c (suc p) callers all.1)

setting_at : (sets : List Setting) (c : ℕ) → AllByRecursion IsNear sets → IsNear (setting_of sets c)
setting_at [] c all = omega arith
setting_at (set ∷ sets) zero all = all.0
setting_at (set ∷ sets) (suc c) all = setting_at sets c all.1

inherited_near : (sets : List Setting) (o : Option Parent) → AllByRecursion IsNear sets → ParentIsNear o →
    IsNear (inherited_setting sets o)
inherited_near sets None all near = omega arith
inherited_near sets (Some parent) all near =
    after_calls (setting_of sets parent.caller) parent.fork.before (setting_at sets parent.caller all) near

firsts_near : (callers : List (List Call)) (n : ℕ) → AllByRecursion (λ calls. AllByRecursion CallIsNear calls) callers →
    AllByRecursion IsNear (first_settings callers n)
firsts_near callers zero all = tt
firsts_near callers (suc c) all =
    let sets = first_settings callers c in
    each_append IsNear sets (inherited_setting sets (parent_from c 0 callers) ∷ []) (firsts_near callers c all)
    (inherited_near sets (parent_from c 0 callers) (firsts_near callers c all) (parent_near c 0 callers all), tt)

-- ---- all calls of a caller

abbrev Near : OfCalls
Near waiting es lines calls = AllByRecursion EventIsNear es → AllByRecursion CallIsNear calls

near_calls : (waiting : List BoundAct) (es : List Event) (lines : List SeenLine) →
    Near waiting es lines (calls_from waiting es lines)
near_calls waiting es lines = of_calls Near (record {
  over = λ waiting all. tt;
  ends = λ waiting line lines all. (tt, tt);
  cut = λ waiting event es all. tt;
  reads = λ waiting n flags es line lines calls rest all. (tt, rest all.1);
  binds = λ waiting point act es line lines calls rest all. rest all.1;
  leaves = λ waiting point act es line lines calls rest all. (tt, rest all.1);
  goes = λ waiting event es line lines calls rest all. (all.0, rest all.1);
}) waiting es lines

event_near : (version cpus : ℕ) (event : Event) → EventInRange version cpus event → EventIsNear event
event_near version cpus (At moment) is = is
event_near version cpus _ is = tt

pub all_calls_near : (version cpus : ℕ) (ess : List (List Event)) (t : List (List SeenLine)) →
    AllByRecursion (λ es. AllByRecursion (EventInRange version cpus) es) ess →
    AllByRecursion (λ calls. AllByRecursion CallIsNear calls) (all_calls ess t)
all_calls_near version cpus [] t all = tt
all_calls_near version cpus (es ∷ ess) [] all = (
  near_calls [] es [] (each_weaker (EventInRange version cpus) EventIsNear es (event_near version cpus) all.0),
  all_calls_near version cpus ess [] all.1,
)
all_calls_near version cpus (es ∷ ess) (lines ∷ t) all = (
  near_calls [] es lines (each_weaker (EventInRange version cpus) EventIsNear es (event_near version cpus) all.0),
  all_calls_near version cpus ess t all.1,
)

pub all_rows_near : (inferred : Tables) (callers : List (List Call)) →
    AllByRecursion (λ calls. AllByRecursion CallIsNear calls) callers → AllCallsRows inferred callers →
    AllByRecursion (λ calls. AllByRecursion (OfCall (LineHas (NearAt inferred))) calls) callers
all_rows_near inferred callers all rows =
    each_list (λ calls. AllByRecursion (OfCall (LineHas (NearAt inferred))) calls) callers
    (λ c low. calls_near inferred (start_setting callers c) (list_at callers c)
    (setting_at (first_settings callers (length callers)) c (firsts_near callers (length callers) all))
    (at_list (λ calls. AllByRecursion CallIsNear calls) callers c low all) (rows c low))
