-- Finds the first fault of a text, line by line, if the text is not the text of any script.
use Rattle.std.specs.Prelude.{⊤, ◌<◌, ℕ, zero, suc, ◌+◌, ◌^◌, ◌==◌, ◌&&◌, ◌||◌, Bool, false, nat_lt, nat_le}
use Rattle.std.specs.Prelude.{if◌then◌else◌, Option, Some, None, Result, Ok, Err, List, [], ◌∷◌, ◌++◌, codes, find}
use Rattle.std.specs.Prelude.{fold, length, sum_by}
use Rattle.std.specs.Fmt.{decimal}
use Rattle.std.specs.List.{join_with_byte, list_any, slice_split}
use Rattle.std.specs.Option.{ok_or}
use Rattle.std.specs.Str.{bytes_eq}
use Rattle.std.specs.Str.Parse.{digits_value}
use Rattle.hex.specs.Hex.{decode_of}
use Rattle.key_names.specs.declared.events.Event.{Event}
use Rattle.key_names.specs.declared.events.Event.TheVariants.{At, On, Hw, Device, Write, Add, Credit, Bits, Irq, Input}
use Rattle.key_names.specs.declared.events.Event.TheVariants.{Read, Vread, Kread, Dread, Uread, Int8, Int16, Int32}
use Rattle.key_names.specs.declared.events.Event.TheVariants.{Int64, Reseed, Tick, Drop, Fork, Inside, Prepare, Online}
use Rattle.key_names.specs.declared.events.Event.TheVariants.{Vmfork, State}
use Rattle.key_names.specs.declared.events.InsideAct.{InsideAct}
use Rattle.key_names.specs.declared.events.InsideAct.TheVariants.{Wipe, Vread as VreadAct, Reseed as ReseedAct}
use Rattle.key_names.specs.declared.events.Word.{Word}
use Rattle.key_names.specs.declared.events.Word.TheVariants as words
use Rattle.key_names.specs.declared.faults.FaultKind.{FaultKind}
use Rattle.key_names.specs.declared.faults.FaultKind.TheVariants.{TooLong, BadByte, BadHead, BadCpus, UnknownWord}
use Rattle.key_names.specs.declared.faults.FaultKind.TheVariants.{BadNumber, BadHex, BadCaller, BadFork, Unforked}
use Rattle.key_names.specs.declared.faults.FaultKind.TheVariants.{TooMany, Unfinished}
use Rattle.key_names.specs.declared.faults.ScriptFault.{ScriptFault}
use Rattle.key_names.specs.declared.point.Point.{Point}
use Rattle.key_names.specs.Kernel.Points.{point_numbered}
use Rattle.key_names.specs.Texts.Spelling.{hex, word_text}
use Rattle.key_names.specs.Texts.ScriptGrammar.{InRange, Script, most_cpus, times_forked, bytes_read, acts_after}

abbrev pub kind_number : FaultKind → ℕ
kind_number TooLong = 1
kind_number BadByte = 2
kind_number BadHead = 3
kind_number BadCpus = 4
kind_number UnknownWord = 5
kind_number BadNumber = 6
kind_number BadHex = 7
kind_number BadCaller = 8
kind_number BadFork = 9
kind_number Unforked = 10
kind_number TooMany = 11
kind_number Unfinished = 12

-- two steps in a row: the result is the first error, or else the value of the second step
infixl 10 ◌>>=◌
abbrev pub ◌>>=◌ : {A B E : Type 0} → Result A E → (A → Result B E) → Result B E
(Ok x) >>= f = f x
(Err e) >>= f = Err e

-- ---- reading one field

-- the number that a field spells, if the number is below the limit
abbrev pub number_below : ℕ → List ℕ → Option ℕ
number_below limit field =
    let n = digits_value 10 field in
    if nat_lt n limit && bytes_eq (decimal n) field then Some n else None

-- the decoded bytes of a field, if the field is their spelling
abbrev pub spelt_bytes : {E : Type 0} → List ℕ → Result (List ℕ) E → Option (List ℕ)
spelt_bytes field (Ok bytes) = if bytes_eq (hex bytes) field then Some bytes else None
spelt_bytes field (Err e) = None

abbrev pub bytes_of : List ℕ → Option (List ℕ)
bytes_of field = if bytes_eq field (hex []) then Some [] else spelt_bytes field (decode_of field)

abbrev pub number : ℕ → List ℕ → Result ℕ FaultKind
number limit field = ok_or (number_below limit field) BadNumber

abbrev pub number_in : ℕ → ℕ → List ℕ → Result ℕ FaultKind
number_in least limit field = do
  n ← number limit field
  if nat_lt n least then Err BadNumber else Ok n

abbrev pub bytes : List ℕ → Result (List ℕ) FaultKind
bytes field = ok_or (bytes_of field) BadHex

abbrev pub hardware_words : List ℕ → Result (List ℕ) FaultKind
hardware_words field = do
  words ← bytes field
  if length words == 32 then Ok words else Err BadHex

-- ---- reading the fields after a line's word

abbrev pub no_field : List (List ℕ) → Result (List (List ℕ)) FaultKind
no_field [] = Ok []
no_field _ = Err UnknownWord

abbrev pub one_field : List (List ℕ) → Result (List ℕ) FaultKind
one_field (a ∷ []) = Ok a
one_field _ = Err UnknownWord

abbrev pub two_fields : List (List ℕ) → Result (List ℕ × List ℕ) FaultKind
two_fields (a ∷ b ∷ []) = Ok (a, b)
two_fields _ = Err UnknownWord

abbrev pub four_fields : List (List ℕ) → Result ((List ℕ × List ℕ) × (List ℕ × List ℕ)) FaultKind
four_fields (a ∷ b ∷ fields) = do
  both ← two_fields fields
  Ok ((a, b), both)
four_fields _ = Err UnknownWord

-- reads an event without fields; the definitions below read events of one, two and four fields
abbrev pub plain : Event → List (List ℕ) → Result Event FaultKind
plain event fields = do
  none ← no_field fields
  Ok event

abbrev pub unary : {A : Type 0} → (List ℕ → Result A FaultKind) → (A → Event) → List (List ℕ) → Result Event FaultKind
unary first make fields = do
  field ← one_field fields
  a ← first field
  Ok (make a)

abbrev pub binary : {A B : Type 0} → (List ℕ → Result A FaultKind) → (List ℕ → Result B FaultKind) → (A → B → Event)
    → List (List ℕ) → Result Event FaultKind
binary first second make fields = do
  both ← two_fields fields
  a ← first both.0
  b ← second both.1
  Ok (make a b)

abbrev pub input_of : List (List ℕ) → Result Event FaultKind
input_of fields = do
  all ← four_fields fields
  word ← number (2 ^ 64) all.0.0
  kind ← number 65536 all.0.1
  code ← number 65536 all.1.0
  value ← number 256 all.1.1
  Ok (Input word kind code value)

-- the point with the number that a field spells
abbrev pub point_of : List ℕ → Result Point FaultKind
point_of field = do
  n ← number 5 field
  ok_or (point_numbered n) BadNumber

-- reads an act without a field of its own, at the point whose number `point` spells
abbrev pub act_at : List ℕ → InsideAct → Result Event FaultKind
act_at point act = do
  p ← point_of point
  Ok (Inside p act)

abbrev pub vread_at : List ℕ → List ℕ → Result Event FaultKind
vread_at point len = do
  p ← point_of point
  n ← number 1048577 len
  Ok (Inside p (VreadAct n))

-- reads the fields of an `inside` line. The word of the act decides the number of fields
abbrev pub inside_of : List (List ℕ) → Result Event FaultKind
inside_of (point ∷ act ∷ []) =
    if bytes_eq act (codes "wipe") then act_at point Wipe
    else if bytes_eq act (codes "reseed") then act_at point ReseedAct
    else Err UnknownWord
inside_of (point ∷ act ∷ len ∷ more) = do
  field ← one_field (len ∷ more)
  if bytes_eq act (codes "vread") then vread_at point field else Err UnknownWord
inside_of _ = Err UnknownWord

-- `event`, if the script's version is `first` or later. In an earlier version, the event's word is unknown
abbrev pub since : ℕ → ℕ → Result Event FaultKind → Result Event FaultKind
since first version event = if nat_le first version then event else Err UnknownWord

-- the event of a word and the fields after it, in a script of this version and number of CPUs
abbrev pub event_of : ℕ → ℕ → Word → List (List ℕ) → Result Event FaultKind
event_of version cpus words.At fields = unary (number (2 ^ 40)) At fields
event_of version cpus words.On fields = unary (number cpus) On fields
event_of version cpus words.Hw fields = unary hardware_words Hw fields
event_of version cpus words.Device fields = binary (number (2 ^ 64)) bytes Device fields
event_of version cpus words.Write fields = unary bytes Write fields
event_of version cpus words.Add fields = binary bytes (number (2 ^ 31)) Add fields
event_of version cpus words.Credit fields = unary (number (2 ^ 31)) Credit fields
event_of version cpus words.Bits fields = plain Bits fields
event_of version cpus words.Irq fields = binary (number (2 ^ 64)) (number (2 ^ 64)) Irq fields
event_of version cpus words.Input fields = input_of fields
event_of version cpus words.Read fields = binary (number 1048577) (number (2 ^ 32)) Read fields
event_of version cpus words.Vread fields = binary (number 1048577) (number (2 ^ 32)) Vread fields
event_of version cpus words.Kread fields = unary (number 1048577) Kread fields
event_of version cpus words.Dread fields = binary (number 1048577) (number 2) Dread fields
event_of version cpus words.Uread fields = unary (number 1048577) Uread fields
event_of version cpus words.Int8 fields = plain Int8 fields
event_of version cpus words.Int16 fields = plain Int16 fields
event_of version cpus words.Int32 fields = plain Int32 fields
event_of version cpus words.Int64 fields = plain Int64 fields
event_of version cpus words.Reseed fields = plain Reseed fields
event_of version cpus words.Tick fields = plain Tick fields
event_of version cpus words.Drop fields = plain Drop fields
event_of version cpus words.Fork fields = unary (number_in 1 64) Fork fields
event_of version cpus words.Inside fields = inside_of fields
event_of version cpus words.Prepare fields = since 2 version (unary (number cpus) Prepare fields)
event_of version cpus words.Online fields = since 2 version (unary (number cpus) Online fields)
event_of version cpus words.Vmfork fields = since 2 version (binary (number (2 ^ 64)) bytes Vmfork fields)
event_of version cpus words.State fields = since 3 version (unary (number 16) State fields)
event_of version cpus words.End fields = Err UnknownWord

-- ---- reading one line by itself

abbrev pub all_words : List Word
all_words =
    words.Read ∷ words.Write ∷ words.Vread ∷ words.Kread ∷ words.Dread ∷ words.Uread ∷ words.At ∷ words.On ∷ words.Hw
    ∷ words.Device ∷ words.Add ∷ words.Credit ∷ words.Bits ∷ words.Irq ∷ words.Input ∷ words.Int8 ∷ words.Int16
    ∷ words.Int32 ∷ words.Int64 ∷ words.Reseed ∷ words.Tick ∷ words.Drop ∷ words.Fork ∷ words.Inside ∷ words.Prepare
    ∷ words.Online ∷ words.Vmfork ∷ words.State ∷ words.End ∷ []

abbrev pub word_of : List ℕ → Option Word
word_of field = find (λ word. bytes_eq (word_text word) field) all_words

-- the content of a line without a fault
pub data Said : Type 0 where
  SaysEvent : Event → Said
  SaysCaller : ℕ → Said
  SaysEnd : Said

-- the numbers and bytes in the content of a line are in range
abbrev pub SaidInRange : ℕ → ℕ → Said → Type 0
SaidInRange version cpus (SaysEvent event) = InRange version cpus event
SaidInRange version cpus (SaysCaller c) = c < 64
SaidInRange version cpus SaysEnd = ⊤

abbrev pub said_by_word : ℕ → ℕ → List (List ℕ) → Word → Result Said FaultKind
said_by_word version cpus fields words.End = no_field fields >>= λ none. Ok SaysEnd
said_by_word version cpus fields word = event_of version cpus word fields >>= λ event. Ok (SaysEvent event)

abbrev pub said_by : ℕ → ℕ → List (List ℕ) → Result Said FaultKind
said_by version cpus [] = Err UnknownWord
said_by version cpus (first ∷ fields) =
    if bytes_eq first (codes "caller") then (one_field fields >>= λ field. number 64 field >>= λ c. Ok (SaysCaller c))
    else (ok_or (word_of first) UnknownWord >>= λ word. said_by_word version cpus fields word)

-- the parts of a text between single bytes of this value
abbrev pub parts : ℕ → List ℕ → List (List ℕ)
parts byte text = slice_split (λ b. b == byte) text

-- the content of a line, or its fault. A fault of kind 5 (UnknownWord) comes before any other. Otherwise the fault is
-- that of the leftmost bad field, of kind 6 or 7 (BadNumber or BadHex)
abbrev pub said : ℕ → ℕ → List ℕ → Result Said FaultKind
said version cpus line = said_by version cpus (parts 32 line)

abbrev pub version_of : List ℕ → Result ℕ FaultKind
version_of line =
    if bytes_eq line (codes "rngscript 1") then Ok 1
    else if bytes_eq line (codes "rngscript 2") then Ok 2
    else if bytes_eq line (codes "rngscript 3") then Ok 3
    else Err BadHead

-- the number of CPUs, which is at least 1
abbrev pub cpus_from : Option ℕ → Result ℕ FaultKind
cpus_from None = Err BadCpus
cpus_from (Some zero) = Err BadCpus
cpus_from (Some (suc n)) = Ok (suc n)

abbrev pub cpus_by : ℕ → List (List ℕ) → Result ℕ FaultKind
cpus_by version (first ∷ count ∷ []) =
    if bytes_eq first (codes "cpus") then cpus_from (number_below (most_cpus version + 1) count) else Err BadCpus
cpus_by version _ = Err BadCpus

-- ---- reading a line after the lines before it

-- the script before a line: the finished blocks, and the events of the last block
pub record Draft : Type 0 where
  pub version : ℕ
  pub cpus : ℕ
  pub done : List (List Event)
  pub events : List Event

abbrev pub blocks_of : Draft → List (List Event)
blocks_of d = d.done ++ d.events ∷ []

abbrev pub script_of_draft : Draft → Script
script_of_draft d = record { version = d.version; cpus = d.cpus; callers = blocks_of d }

abbrev pub with_event : Draft → Event → Draft
with_event d event = record d { events = d.events ++ event ∷ [] }

abbrev pub with_block : Draft → Draft
with_block d = record { version = d.version; cpus = d.cpus; done = blocks_of d; events = [] }

-- whether an event forks a number that is not above the caller's own, or that was forked before
abbrev pub is_bad_fork : Draft → Event → Bool
is_bad_fork d (Fork child) = nat_le child (length d.done) || nat_lt 0 (times_forked (blocks_of d) child)
is_bad_fork d _ = false

abbrev pub is_past_limits : Draft → Event → Bool
is_past_limits d event =
    nat_le 65536 (sum_by length (blocks_of d))
    || nat_lt 16777216 (sum_by (sum_by bytes_read) (blocks_of d) + bytes_read event)
    || nat_lt 8 (acts_after (fold acts_after 0 d.events) event)

-- whether an event forks n or a higher number
abbrev pub is_fork_from : ℕ → Event → Bool
is_fork_from n (Fork child) = nat_le n child
is_fork_from n _ = false

-- whether a caller's number was forked and has no block
abbrev pub has_orphan : Draft → Bool
has_orphan d = list_any (list_any (is_fork_from (length (blocks_of d)))) (blocks_of d)

-- the draft after a line, or the end of the script
pub data Next : Type 0 where
  GoesOn : Draft → Next
  Ends : Next

-- the draft d after a line with this content, the end of the script, or the line's fault of kind 8 to 11
abbrev pub after : Draft → Said → Result Next FaultKind
after d (SaysEvent event) =
    if is_bad_fork d event then Err BadFork
    else if is_past_limits d event then Err TooMany
    else Ok (GoesOn (with_event d event))
after d (SaysCaller c) =
    if c == length (blocks_of d)
    then (if times_forked (blocks_of d) c == 0 then Err Unforked else Ok (GoesOn (with_block d)))
    else Err BadCaller
after d SaysEnd = if has_orphan d then Err Unforked else Ok Ends

-- the draft after this line, the end of the script, or the fault of the line
abbrev pub after_line : Draft → List ℕ → Result Next FaultKind
after_line d line = said d.version d.cpus line >>= after d

-- the draft after line 3, which begins the block of caller 0
abbrev pub first_block : ℕ → ℕ → Said → Result Draft FaultKind
first_block version cpus (SaysCaller zero) = Ok (record { version = version; cpus = cpus; done = []; events = [] })
first_block version cpus _ = Err BadCaller

-- ---- reading the whole text

abbrev pub at_line : {A : Type 0} → ℕ → Result A FaultKind → Result A ScriptFault
at_line n (Ok x) = Ok x
at_line n (Err kind) = Err (record { line = n; kind = kind })

abbrev pub is_unprintable : ℕ → Bool
is_unprintable b = nat_lt b 0x20 || nat_lt 0x7e b

-- the first of the parts between line feeds, if it is a whole line. The last part is no whole line, since no line feed
-- follows it
abbrev pub line_of : List (List ℕ) → Result (List ℕ) FaultKind
line_of [] = Err Unfinished
line_of (tail ∷ []) = Err Unfinished
line_of (line ∷ next ∷ more) = if list_any is_unprintable line then Err BadByte else Ok line

abbrev pub following : List (List ℕ) → List (List ℕ)
following [] = []
following (line ∷ more) = more

-- no text may follow the line `end`
abbrev pub nothing_after : ℕ → List (List ℕ) → Result Next ScriptFault
nothing_after n ([] ∷ []) = Ok Ends
nothing_after n lines = at_line n (line_of lines >>= λ line. Err UnknownWord)

-- the draft after the first of these lines, the end of the script, or the fault of that line
abbrev pub after_first : Draft → List (List ℕ) → Result Next FaultKind
after_first d lines = line_of lines >>= after_line d

abbrev pub by_next : (Draft → Result Script ScriptFault) → Result Script ScriptFault → Next → Result Script ScriptFault
by_next on ended (GoesOn later) = on later
by_next on ended Ends = ended

-- the script that begins with the draft and goes on with these lines; n is the number of the first line
unfoldable pub script_from : Draft → ℕ → List (List ℕ) → Result Script ScriptFault
script_from d n [] = Err (record { line = n; kind = Unfinished })
script_from d n (line ∷ more) =
    at_line n (after_first d (line ∷ more))
    >>= by_next (λ later. script_from later (n + 1) more)
    (nothing_after (n + 1) more >>= λ none. Ok (script_of_draft d))

-- reads the first of `lines` as line 1, 2 or 3 of the text: the version, the number of CPUs, or the first draft
abbrev pub version_in : List (List ℕ) → Result ℕ FaultKind
version_in lines = line_of lines >>= version_of

abbrev pub cpus_in : ℕ → List (List ℕ) → Result ℕ FaultKind
cpus_in version lines = line_of lines >>= λ line. cpus_by version (parts 32 line)

abbrev pub start_in : ℕ → ℕ → List (List ℕ) → Result Draft FaultKind
start_in version cpus lines = line_of lines >>= λ line. said version cpus line >>= first_block version cpus

abbrev pub script_of_lines : List (List ℕ) → Result Script ScriptFault
script_of_lines lines = do
  version ← at_line 1 (version_in lines)
  cpus ← at_line 2 (cpus_in version (following lines))
  start ← at_line 3 (start_in version cpus (following (following lines)))
  script_from start 4 (following (following (following lines)))

unfoldable pub script_of : List ℕ → Result Script ScriptFault
script_of text =
    if nat_lt 16777216 (length text) then Err (record { line = 0; kind = TooLong }) else script_of_lines (parts 10 text)

-- the first fault of a text, if it has one
abbrev pub fault_in : Result Script ScriptFault → Option ScriptFault
fault_in (Ok s) = None
fault_in (Err fault) = Some fault

abbrev pub first_fault : List ℕ → Option ScriptFault
first_fault text = fault_in (script_of text)

-- ---- a script followed by more text

-- the lines up to the first line `end`, or all lines if none is `end`
abbrev pub front_lines : List (List ℕ) → List (List ℕ)
front_lines [] = []
front_lines (tail ∷ []) = tail ∷ []
front_lines (line ∷ next ∷ more) =
    if bytes_eq line (codes "end") then line ∷ [] ∷ [] else line ∷ front_lines (next ∷ more)

abbrev pub front : List ℕ → List ℕ
front text = join_with_byte 10 (front_lines (parts 10 text))
