-- The entry of a visit, inferred from the steps around it.
use Rattle.std.specs.Prelude.{ℕ, zero, suc, ◌≡◌, ⊤, true, Option, Some, None, List, [], ◌∷◌, nat_le, if◌then◌else◌}
use Rattle.key_names.specs.declared.entries.Taken.{Taken}
use Rattle.key_names.specs.declared.entries.Taken.TheVariants.{User, Kernel}
use Rattle.key_names.specs.declared.entries.PoolEntry.{PoolEntry}
use Rattle.key_names.specs.declared.entries.PoolEntry.TheVariants.{Mix, Extract, Input as InputSample, Bits as ReadBits}
use Rattle.key_names.specs.declared.entries.BaseEntry.{BaseEntry}
use Rattle.key_names.specs.declared.entries.BaseEntry.TheVariants.{Draw, Refill, Wait, Resume, Interrupt, Early, End}
use Rattle.key_names.specs.declared.entries.BaseEntry.TheVariants.{Reseed as Reseeded, Tick as Ticked, Fork as Forked}
use Rattle.key_names.specs.declared.entries.BaseEntry.TheVariants.{Stall, Unstall}
use Rattle.key_names.specs.declared.entries.CpuEntry.{CpuEntry}
use Rattle.key_names.specs.declared.entries.CpuEntry.TheVariants.{Read as CpuRead, Int, Irq as IrqSample, Dump}
use Rattle.key_names.specs.declared.entries.CpuEntry.TheVariants.{Prepare as Prepared, Online as Onlined}
use Rattle.key_names.specs.declared.events.Event.{Event}
use Rattle.key_names.specs.declared.events.Event.TheVariants.{Device, Write, Add, Credit, Bits, Irq, Input}
use Rattle.key_names.specs.declared.events.Event.TheVariants.{Read, Kread, Dread, Uread, Int8, Int16, Int32}
use Rattle.key_names.specs.declared.events.Event.TheVariants.{Int64, Reseed, Tick, Fork, Prepare, Online}
use Rattle.key_names.specs.declared.events.Event.TheVariants.{Vmfork}
use Rattle.key_names.specs.Kernel.Batches.{must_fill}
use Rattle.key_names.specs.Kernel.FastPool.{dump_bytes, dump_bits}
use Rattle.key_names.specs.Lanes.PoolList.{Crossing, ready, early, none}
use Rattle.key_names.specs.Callers.Calls.{Setting}
use Rattle.key_names.specs.Callers.Effects.{Effect, PoolVisit, BaseVisit, CpuVisit, looked, at_pool, at_base, at_cpu, nothing_there}
use Rattle.key_names.specs.Callers.Forms.{device_entry}
use Rattle.key_names.specs.declared.events.InsideAct.{InsideAct}
use Rattle.key_names.specs.declared.events.InsideAct.TheVariants.{Wipe as WipeAct, Vread as VreadAct}
use Rattle.key_names.specs.declared.events.InsideAct.TheVariants.{Reseed as ReseedAct}
use Rattle.judge_lines.specs.LaneFacts.{LaneFacts}
use Rattle.judge_lines.specs.declared.inferred.Sign.{Sign}
use Rattle.judge_lines.specs.declared.inferred.Sign.TheVariants.{Saw as saw, InPool as in_pool, InBase as in_base}
use Rattle.judge_lines.specs.declared.inferred.Sign.TheVariants.{InCpu as in_cpu, Nowhere as nowhere}
use Rattle.judge_lines.specs.declared.inferred.Neighbours.{Neighbours}
use Rattle.judge_lines.specs.declared.inferred.PoolInferred.{PoolInferred}
use Rattle.judge_lines.specs.declared.inferred.PoolInferred.TheVariants.{Own as own, Extracted as extracted, Dumped as dumped}
use Rattle.judge_lines.specs.declared.inferred.BaseInferred.{BaseInferred}
use Rattle.judge_lines.specs.declared.inferred.BaseInferred.TheVariants.{Is as base_is, Crossed as crossed, Woken as woken}
use Rattle.judge_lines.specs.declared.inferred.CpuInferred.{CpuInferred}
use Rattle.judge_lines.specs.declared.inferred.CpuInferred.TheVariants.{Is as cpu_is, Batch as batch}

-- the sign of an effect: the generation that a look found, or the lane and place of a visit
abbrev pub sign_of : Effect → Sign
sign_of (looked g) = saw g
sign_of (at_pool v) = in_pool v.place
sign_of (at_base v) = in_base v.place
sign_of (at_cpu v) = in_cpu v.cpu v.place
sign_of nothing_there = nowhere

-- the base's entry after an extraction for a credit that crossed a threshold: a reseed if the credit made the core
-- ready, else an early key
abbrev pub crossed_entry : Crossing → ℕ → ℕ → BaseEntry
crossed_entry ready root now = Reseeded root now
crossed_entry early root now = Early (Some root)
crossed_entry none root now = Early (Some root)

-- the visit `v` of the base has the inferred entry
abbrev pub FillsBase : LaneFacts → BaseInferred → BaseVisit → Type 0
FillsBase c (base_is e) v = v.entry ≡ e
FillsBase c (crossed root now p) v = v.entry ≡ crossed_entry (c.crossed_at p) root now
FillsBase c woken v = v.entry ≡ (if nat_le 1 v.before.generation then Resume else Interrupt)

-- the visit `v` of a CPU has the inferred entry
abbrev pub FillsCpu : CpuInferred → CpuVisit → Type 0
FillsCpu (cpu_is e) v = v.entry ≡ e
FillsCpu (batch look width) v = v.entry ≡ Int look None width (must_fill look width (v.before.fills width))

-- the kinds of lines, by how their entries are inferred. `mixes` is an event with one visit of the pool, `samples` an
-- interrupt, `prepares` an event with one visit of a CPU, `vmforks` a mix with a reseed, and `silent` a line without
-- visits
pub data Telling : Type 0 where
  reads : Taken → Telling
  ints : ℕ → Telling
  mixes : PoolEntry → Telling
  credits : PoolEntry → Telling
  samples : ℕ → ℕ → Telling
  reseeds : Telling
  ticks : Telling
  forks : ℕ → Telling
  prepares : CpuEntry → Telling
  vmforks : PoolEntry → Telling
  ends : Telling
  silent : Telling

-- the rule by which the entries of an event's line are inferred
abbrev pub telling : Setting → Event → Telling
telling set (Write text) = mixes (Mix text 0)
telling set (Device word text) = mixes (device_entry word text)
telling set Bits = mixes ReadBits
telling set (Add text bits) = credits (Mix text bits)
telling set (Credit bits) = credits (Mix [] bits)
telling set (Input word kind code value) = credits (InputSample word kind code value set.now)
telling set (Kread len) = reads (Kernel len)
telling set (Uread len) = reads (User len)
telling set (Read len flags) = reads (User len)
telling set (Dread len flag) = reads (User len)
telling set Int8 = ints 1
telling set Int16 = ints 2
telling set Int32 = ints 4
telling set Int64 = ints 8
telling set Reseed = reseeds
telling set Tick = ticks
telling set (Fork child) = forks child
telling set (Prepare cpu) = prepares Prepared
telling set (Online cpu) = prepares Onlined
telling set (Vmfork word text) = vmforks (device_entry word text)
telling set (Irq v1 v2) = samples v1 v2
telling set _ = silent

-- the root that a visit takes: if the step before the visit is a visit of the pool, that step is an extraction, and its
-- place names the root; otherwise None
abbrev pub root_before : Sign → Option ℕ
root_before (in_pool p) = Some p
root_before _ = None

-- `pool_place_in` is the place of a visit of the pool, `look_in` the generation that a look found, and `base_place_in`
-- the place of a visit of the base; each is 0 for any other step
abbrev pub pool_place_in : Sign → ℕ
pool_place_in (in_pool p) = p
pool_place_in _ = 0

abbrev pub look_in : Sign → ℕ
look_in (saw g) = g
look_in _ = 0

abbrev pub base_place_in : Sign → ℕ
base_place_in (in_base i) = i
base_place_in _ = 0

-- ---- the inferred entry of a visit of the pool

-- a visit of the pool that is the line's first step has the entry of the line's event; a later visit of the pool is an
-- extraction for the base's entry at the place of the next step
abbrev pub own_or_extracted : Sign → Sign → PoolInferred
own_or_extracted following nowhere = own
own_or_extracted following _ = extracted (base_place_in following)

-- if a visit of the pool comes after a visit of a CPU, it mixes the dump that this CPU's visit made; otherwise it is an
-- extraction
abbrev pub dumped_or_extracted : Sign → Sign → PoolInferred
dumped_or_extracted following (in_cpu cpu k) = dumped cpu k
dumped_or_extracted following _ = extracted (base_place_in following)

-- the inferred entry of a visit of the pool, by the kind of its line
abbrev pub pool_inferred : Telling → Neighbours → PoolInferred
pool_inferred (mixes e) neighbours = own_or_extracted neighbours.following neighbours.before
pool_inferred (credits e) neighbours = own_or_extracted neighbours.following neighbours.before
pool_inferred (vmforks e) neighbours = own_or_extracted neighbours.following neighbours.before
pool_inferred (samples v1 v2) neighbours = dumped_or_extracted neighbours.following neighbours.before
pool_inferred _ neighbours = extracted (base_place_in neighbours.following)

-- the pool's entry that a line's event makes itself
abbrev pub own_entry : Telling → PoolEntry
own_entry (mixes e) = e
own_entry (credits e) = e
own_entry (vmforks e) = e
own_entry _ = ReadBits

-- the visit `v` of the pool has the inferred entry
abbrev pub FillsPool : LaneFacts → Setting → Telling → PoolInferred → PoolVisit → Type 0
FillsPool c set t own v = v.entry ≡ own_entry t
FillsPool c set t (extracted i) v = v.entry ≡ Extract set.hw i
FillsPool c set t (dumped cpu k) v = v.entry ≡ Mix (dump_bytes (c.fast cpu k)) (dump_bits (c.fast cpu k))

-- ---- the inferred entry of a visit of the base

-- a visit of the base right after another visit of the base ended a wait; otherwise the visit is a draw
abbrev pub drawn_or_woken : Taken → Sign → BaseInferred
drawn_or_woken taken (in_base i) = woken
drawn_or_woken taken before = base_is (Draw (root_before before) taken)

-- the inferred entry of a visit of the base, in a read that takes `taken`
abbrev pub read_inferred : Setting → Taken → Neighbours → BaseInferred
read_inferred set taken neighbours = by neighbours.following
  where
    by : Sign → BaseInferred
    by (in_cpu c k) = base_is (Refill set.cpu k)
    by (in_base i) = base_is Wait
    by _ = drawn_or_woken taken neighbours.before

-- if the two steps before a visit of the base are a credit and an extraction, the visit's entry has the extracted root;
-- otherwise the entry is an early key without a root
abbrev pub crossed_inferred : Setting → Sign → Sign → BaseInferred
crossed_inferred set (in_pool p) before = crossed (pool_place_in before) set.now p
crossed_inferred set _ before = base_is (Early None)

-- a fork's first visit of the base is the fork, its second visit a stall, and its third the end of the stall
abbrev pub forked_inferred : ℕ → Sign → Sign → BaseInferred
forked_inferred child second_before nowhere = base_is (Forked child)
forked_inferred child nowhere before = base_is Stall
forked_inferred child second_before before = base_is Unstall

-- the inferred entry of a visit of the base, by the kind of its line
abbrev pub base_inferred : Setting → Telling → Neighbours → BaseInferred
base_inferred set (reads taken) neighbours = read_inferred set taken neighbours
base_inferred set (ints width) neighbours = read_inferred set (Kernel width) neighbours
base_inferred set (credits e) neighbours = crossed_inferred set neighbours.second_before neighbours.before
base_inferred set (samples v1 v2) neighbours = crossed_inferred set neighbours.second_before neighbours.before
base_inferred set reseeds neighbours = base_is (Reseeded (pool_place_in neighbours.before) set.now)
base_inferred set (vmforks e) neighbours = base_is (Reseeded (pool_place_in neighbours.before) set.now)
base_inferred set ticks neighbours = base_is (Ticked set.now (root_before neighbours.before))
base_inferred set (forks child) neighbours = forked_inferred child neighbours.second_before neighbours.before
base_inferred set _ neighbours = base_is End

-- ---- the inferred entry of a visit of a CPU

-- the inferred entry of a visit of a CPU, in a read that takes `taken`
abbrev pub cpu_read_inferred : Taken → Sign → Sign → CpuInferred
cpu_read_inferred taken second_before (in_base b) = cpu_is (CpuRead (look_in second_before) (Some b) taken)
cpu_read_inferred taken second_before before = cpu_is (CpuRead (look_in before) None taken)

-- a random integer that comes after a refill of the CPU's key fills its batch; without a refill, the CPU's state
-- determines whether it does
abbrev pub cpu_int_inferred : ℕ → Sign → Sign → CpuInferred
cpu_int_inferred width second_before (in_base b) = cpu_is (Int (look_in second_before) (Some b) width true)
cpu_int_inferred width second_before before = batch (look_in before) width

-- if the line's first look found generation 0, a random integer has the inferred entry of a read
abbrev pub int_inferred : ℕ → ℕ → Sign → Sign → CpuInferred
int_inferred width zero second_before before = cpu_read_inferred (Kernel width) second_before before
int_inferred width (suc g) second_before before = cpu_int_inferred width second_before before

-- an interrupt visits its CPU at most twice: the first visit, which is the line's first step, is the sample; the second
-- is the dump
abbrev pub sample_inferred : Setting → ℕ → ℕ → Sign → CpuInferred
sample_inferred set v1 v2 nowhere = cpu_is (IrqSample v1 v2 set.now)
sample_inferred set v1 v2 before = cpu_is (Dump set.now)

-- the inferred entry of a visit of a CPU, by the kind of its line
abbrev pub cpu_inferred : Setting → Telling → Sign → Neighbours → CpuInferred
cpu_inferred set (reads taken) first neighbours = cpu_read_inferred taken neighbours.second_before neighbours.before
cpu_inferred set (ints width) first neighbours = int_inferred width (look_in first) neighbours.second_before neighbours.before
cpu_inferred set (samples v1 v2) first neighbours = sample_inferred set v1 v2 neighbours.before
cpu_inferred set (prepares e) first neighbours = cpu_is e
cpu_inferred set _ first neighbours = cpu_is Prepared

-- ---- a line whose visits have the inferred entries

-- if the step is a visit, it has the entry that is inferred from the steps around it
abbrev pub Fills : LaneFacts → Setting → Telling → Sign → Neighbours → Effect → Type 0
Fills c set t first neighbours (looked g) = ⊤
Fills c set t first neighbours (at_pool v) = FillsPool c set t (pool_inferred t neighbours) v
Fills c set t first neighbours (at_base v) = FillsBase c (base_inferred set t neighbours) v
Fills c set t first neighbours (at_cpu v) = FillsCpu (cpu_inferred set t first neighbours) v
Fills c set t first neighbours nothing_there = ⊤

-- the sign of the first of some steps, or `nowhere` if there are no steps
abbrev pub first_sign : List Effect → Sign
first_sign [] = nowhere
first_sign (d ∷ ds) = sign_of d

-- `F` holds for each step, with the two steps before it and the step after it; `a` and `b` are the signs of the two
-- steps before the first step
abbrev pub AllFill : (Neighbours → Effect → Type 0) → Sign → Sign → List Effect → Type 0
AllFill F a b [] = ⊤
AllFill F a b (d ∷ ds) =
    F (record { second_before = a; before = b; following = first_sign ds }) d × AllFill F b (sign_of d) ds

-- each visit of a line has the entry that is inferred from the steps around it
abbrev pub LineFills : LaneFacts → Setting → Telling → List Effect → Type 0
LineFills c set t effects = AllFill (Fills c set t (first_sign effects)) nowhere nowhere effects

-- what the read at a step takes, in a line of several reads: `taken` at the line's last step, and `sooner` at each
-- earlier step
abbrev pub taken_by : Taken → Taken → Sign → Taken
taken_by sooner taken nowhere = taken
taken_by sooner taken _ = sooner

abbrev pub FillsPart : LaneFacts → Setting → Taken → Taken → Sign → Neighbours → Effect → Type 0
FillsPart c set sooner taken first neighbours d = Fills c set (reads (taken_by sooner taken neighbours.following)) first neighbours d

-- the step is a look, or a visit whose entry is in the lists
abbrev pub IsThere : Effect → Type 0
IsThere nothing_there = ⊥
IsThere _ = ⊤

abbrev pub AllThere : List Effect → Type 0
AllThere [] = ⊤
AllThere (d ∷ ds) = IsThere d × AllThere ds

-- ---- acts inside a `vread`

abbrev pub act_telling : InsideAct → Telling
act_telling WipeAct = silent
act_telling (VreadAct n) = reads (User n)
act_telling ReseedAct = reseeds
