-- Scripts, and the only text of each.
use Rattle.std.specs.Prelude.{◌≡◌, ℕ, suc, ◌+◌, ◌<◌, ◌≤◌, ◌^◌, ◌==◌, ◌&&◌, Bool, false, nat_lt, if◌then◌else◌, ⊤, List}
use Rattle.std.specs.Prelude.{[], ◌∷◌, ◌++◌, codes, count_by, length, map, sum_by}
use Rattle.std.specs.Fmt.{decimal}
use Rattle.std.specs.List.{AllByRecursion}
use Rattle.hex.specs.Hex.{IsBytes}
use Rattle.key_names.specs.declared.events.Event.{Event}
use Rattle.key_names.specs.declared.events.Event.TheVariants.{At, On, Hw, Device, Write, Add, Credit, Bits, Irq, Input}
use Rattle.key_names.specs.declared.events.Event.TheVariants.{Read, Vread, Kread, Dread, Uread, Int8, Int16, Int32}
use Rattle.key_names.specs.declared.events.Event.TheVariants.{Int64, Reseed, Tick, Drop, Fork, Inside, Prepare, Online}
use Rattle.key_names.specs.declared.events.Event.TheVariants.{Vmfork, State}
use Rattle.key_names.specs.declared.events.InsideAct.{InsideAct}
use Rattle.key_names.specs.declared.events.InsideAct.TheVariants.{Wipe, Vread as VreadAct, Reseed as ReseedAct}
use Rattle.key_names.specs.declared.events.Word.{Word}
use Rattle.key_names.specs.declared.events.Word.TheVariants as words
use Rattle.key_names.specs.Kernel.Points.{number_of}
use Rattle.key_names.specs.Texts.Spelling.{hex, spaced, lined, word_text}

-- a script: its version, its number of CPUs, and the events of each caller
pub record Script : Type 0 where
  pub version : ℕ
  pub cpus : ℕ
  pub callers : List (List Event)

-- ---- the text of a script

abbrev pub event_word : Event → Word
event_word (At moment) = words.At
event_word (On cpu) = words.On
event_word (Hw bytes) = words.Hw
event_word (Device word text) = words.Device
event_word (Write text) = words.Write
event_word (Add text bits) = words.Add
event_word (Credit bits) = words.Credit
event_word Bits = words.Bits
event_word (Irq v1 v2) = words.Irq
event_word (Input word kind code value) = words.Input
event_word (Read len flags) = words.Read
event_word (Vread len flags) = words.Vread
event_word (Kread len) = words.Kread
event_word (Dread len flag) = words.Dread
event_word (Uread len) = words.Uread
event_word Int8 = words.Int8
event_word Int16 = words.Int16
event_word Int32 = words.Int32
event_word Int64 = words.Int64
event_word Reseed = words.Reseed
event_word Tick = words.Tick
event_word Drop = words.Drop
event_word (Fork child) = words.Fork
event_word (Inside point act) = words.Inside
event_word (Prepare cpu) = words.Prepare
event_word (Online cpu) = words.Online
event_word (Vmfork word text) = words.Vmfork
event_word (State number) = words.State

abbrev pub act_fields : InsideAct → List (List ℕ)
act_fields Wipe = codes "wipe" ∷ []
act_fields (VreadAct len) = codes "vread" ∷ decimal len ∷ []
act_fields ReseedAct = codes "reseed" ∷ []

-- the fields after an event's word
abbrev pub arguments : Event → List (List ℕ)
arguments (At moment) = decimal moment ∷ []
arguments (On cpu) = decimal cpu ∷ []
arguments (Hw bytes) = hex bytes ∷ []
arguments (Device word text) = decimal word ∷ hex text ∷ []
arguments (Write text) = hex text ∷ []
arguments (Add text bits) = hex text ∷ decimal bits ∷ []
arguments (Credit bits) = decimal bits ∷ []
arguments (Irq v1 v2) = decimal v1 ∷ decimal v2 ∷ []
arguments (Input word kind code value) = decimal word ∷ decimal kind ∷ decimal code ∷ decimal value ∷ []
arguments (Read len flags) = decimal len ∷ decimal flags ∷ []
arguments (Vread len flags) = decimal len ∷ decimal flags ∷ []
arguments (Kread len) = decimal len ∷ []
arguments (Dread len flag) = decimal len ∷ decimal flag ∷ []
arguments (Uread len) = decimal len ∷ []
arguments (Fork child) = decimal child ∷ []
arguments (Inside point act) = decimal (number_of point) ∷ act_fields act
arguments (Prepare cpu) = decimal cpu ∷ []
arguments (Online cpu) = decimal cpu ∷ []
arguments (Vmfork word text) = decimal word ∷ hex text ∷ []
arguments (State number) = decimal number ∷ []
arguments Bits = []
arguments Int8 = []
arguments Int16 = []
arguments Int32 = []
arguments Int64 = []
arguments Reseed = []
arguments Tick = []
arguments Drop = []

abbrev pub event_fields : Event → List (List ℕ)
event_fields event = word_text (event_word event) ∷ arguments event

-- the lines of the callers' blocks; c is the number of the first caller
abbrev pub block_lines : ℕ → List (List Event) → List (List (List ℕ))
block_lines c [] = []
block_lines c (events ∷ callers) = (codes "caller" ∷ decimal c ∷ [])
    ∷ (map event_fields events ++ block_lines (suc c) callers)

-- the lines of a script, each as the list of its fields
abbrev pub script_lines : Script → List (List (List ℕ))
script_lines s =
    (codes "rngscript" ∷ decimal s.version ∷ []) ∷ (codes "cpus" ∷ decimal s.cpus ∷ [])
    ∷ (block_lines 0 s.callers ++ (codes "end" ∷ []) ∷ [])

abbrev pub script_text : Script → List ℕ
script_text s = lined (map spaced (script_lines s))

-- ---- which scripts are well formed

-- the most CPUs that a script of a version may have
abbrev pub most_cpus : ℕ → ℕ
most_cpus version = if nat_lt version 3 then 64 else 256

abbrev pub ActInRange : InsideAct → Type 0
ActInRange Wipe = ⊤
ActInRange (VreadAct len) = len ≤ 1048576
ActInRange ReseedAct = ⊤

-- the fields of the event are in range, in a script of this version and number of CPUs
abbrev pub InRange : ℕ → ℕ → Event → Type 0
InRange version cpus (At moment) = moment < 2 ^ 40
InRange version cpus (On cpu) = cpu < cpus
InRange version cpus (Hw bytes) = IsBytes bytes × (length bytes ≡ 32)
InRange version cpus (Device word text) = (word < 2 ^ 64) × IsBytes text
InRange version cpus (Write text) = IsBytes text
InRange version cpus (Add text bits) = IsBytes text × (bits < 2 ^ 31)
InRange version cpus (Credit bits) = bits < 2 ^ 31
InRange version cpus (Irq v1 v2) = (v1 < 2 ^ 64) × (v2 < 2 ^ 64)
InRange version cpus (Input word kind code value) = (word < 2 ^ 64) × (kind < 65536) × (code < 65536) × (value < 256)
InRange version cpus (Read len flags) = (len ≤ 1048576) × (flags < 2 ^ 32)
InRange version cpus (Vread len flags) = (len ≤ 1048576) × (flags < 2 ^ 32)
InRange version cpus (Kread len) = len ≤ 1048576
InRange version cpus (Dread len flag) = (len ≤ 1048576) × (flag < 2)
InRange version cpus (Uread len) = len ≤ 1048576
InRange version cpus (Fork child) = (0 < child) × (child < 64)
InRange version cpus (Inside point act) = ActInRange act
InRange version cpus (Prepare cpu) = (2 ≤ version) × (cpu < cpus)
InRange version cpus (Online cpu) = (2 ≤ version) × (cpu < cpus)
InRange version cpus (Vmfork word text) = (2 ≤ version) × (word < 2 ^ 64) × IsBytes text
InRange version cpus (State number) = (3 ≤ version) × (number < 16)
InRange version cpus Bits = ⊤
InRange version cpus Int8 = ⊤
InRange version cpus Int16 = ⊤
InRange version cpus Int32 = ⊤
InRange version cpus Int64 = ⊤
InRange version cpus Reseed = ⊤
InRange version cpus Tick = ⊤
InRange version cpus Drop = ⊤

-- whether the event forks the caller with this number
abbrev pub is_fork_of : ℕ → Event → Bool
is_fork_of number (Fork child) = child == number
is_fork_of number _ = false

-- how many events fork the caller with this number
abbrev pub times_forked : List (List Event) → ℕ → ℕ
times_forked callers number = sum_by (count_by (is_fork_of number)) callers

-- if an event of caller c forks a caller, that caller's number is above c
abbrev pub IsForkAbove : ℕ → Event → Type 0
IsForkAbove c (Fork child) = c < child
IsForkAbove c _ = ⊤

-- each caller forks only callers with higher numbers; c is the number of the first caller
abbrev pub ForksAbove : ℕ → List (List Event) → Type 0
ForksAbove c [] = ⊤
ForksAbove c (events ∷ callers) = AllByRecursion (IsForkAbove c) events × ForksAbove (suc c) callers

-- the number of bytes that an event reads
abbrev pub bytes_read : Event → ℕ
bytes_read (Read len flags) = len
bytes_read (Vread len flags) = len
bytes_read (Kread len) = len
bytes_read (Dread len flag) = len
bytes_read (Uread len) = len
bytes_read (Inside point (VreadAct len)) = len
bytes_read (Inside point Wipe) = 0
bytes_read (Inside point ReseedAct) = 0
bytes_read (At moment) = 0
bytes_read (On cpu) = 0
bytes_read (Hw bytes) = 0
bytes_read (Device word text) = 0
bytes_read (Write text) = 0
bytes_read (Add text bits) = 0
bytes_read (Credit bits) = 0
bytes_read Bits = 0
bytes_read (Irq v1 v2) = 0
bytes_read (Input word kind code value) = 0
bytes_read Int8 = 0
bytes_read Int16 = 0
bytes_read Int32 = 0
bytes_read Int64 = 0
bytes_read Reseed = 0
bytes_read Tick = 0
bytes_read Drop = 0
bytes_read (Fork child) = 0
bytes_read (Prepare cpu) = 0
bytes_read (Online cpu) = 0
bytes_read (Vmfork word text) = 0
bytes_read (State number) = 0

-- after an event, the number of acts that wait for a vread; `waiting` is their number before the event
abbrev pub acts_after : ℕ → Event → ℕ
acts_after waiting (Inside point act) = waiting + 1
acts_after waiting (Vread len flags) = 0
acts_after waiting _ = waiting

-- at most 8 acts wait for a vread at any time; `waiting` is the number of waiting acts before the events
abbrev pub FewActs : ℕ → List Event → Type 0
FewActs waiting [] = ⊤
FewActs waiting (event ∷ events) = (acts_after waiting event ≤ 8) × FewActs (acts_after waiting event) events

pub record WellFormed (s : Script) : Type 0 where
  pub version : (1 ≤ s.version) × (s.version ≤ 3)
  pub cpus : (1 ≤ s.cpus) × (s.cpus ≤ most_cpus s.version)
  pub callers : (1 ≤ length s.callers) × (length s.callers ≤ 64)
  pub ranges : AllByRecursion (AllByRecursion (InRange s.version s.cpus)) s.callers
  -- each caller but the first is forked exactly once, and no other number is forked
  pub forked : (c : ℕ) → times_forked s.callers c ≡ (if nat_lt 0 c && nat_lt c (length s.callers) then 1 else 0)
  pub above : ForksAbove 0 s.callers
  pub acts : AllByRecursion (FewActs 0) s.callers
  pub events : sum_by length s.callers ≤ 65536
  pub reads : sum_by (sum_by bytes_read) s.callers ≤ 16777216
  pub text : length (script_text s) ≤ 16777216

-- the script s is well formed, and the text is the text of s
pub record IsScript (s : Script) (text : List ℕ) : Type 0 where
  pub well_formed : WellFormed s
  pub spelt : text ≡ script_text s
