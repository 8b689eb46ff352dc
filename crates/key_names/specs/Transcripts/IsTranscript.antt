-- When a transcript is lawful for a script.
use Rattle.std.specs.Prelude.{Bool, true, false, ℕ, suc, ◌+◌, ◌≡◌, ◌<◌, ◌==◌, ⊤, Option, Some, List, [], ◌∷◌}
use Rattle.std.specs.Prelude.{◌++◌, map, length, slice_get, option_and_then, count_by, if◌then◌else◌}
use Rattle.std.specs.List.{sum_by, flat_map, range_with_len, AllByRecursion}
use Rattle.key_names.specs.declared.names.LaneId.{LaneId}
use Rattle.key_names.specs.declared.names.LaneId.TheVariants.{Pool as PoolLane, Base as BaseLane, Cpu as CpuLane}
use Rattle.key_names.specs.declared.names.Mark.{Mark}
use Rattle.key_names.specs.declared.names.Step.{Step}
use Rattle.key_names.specs.declared.names.Step.TheVariants.{Look, Visit as Marked}
use Rattle.key_names.specs.declared.names.Who.{Who}
use Rattle.key_names.specs.declared.entries.VEntry.{VEntry}
use Rattle.key_names.specs.declared.events.Event.{Event}
use Rattle.key_names.specs.declared.events.Word.{Word}
use Rattle.key_names.specs.declared.events.Word.TheVariants.{End as EndWord}
use Rattle.key_names.specs.Lanes.BaseList.{base_after}
use Rattle.key_names.specs.Lanes.Book.{Book, Lists, Visit, lists_of, list_at, LawfulLanes}
use Rattle.key_names.specs.Lanes.Samples.{LawfulSamples}
use Rattle.key_names.specs.Texts.ScriptGrammar.{Script, event_word}
use Rattle.key_names.specs.Callers.Calls.{Setting, Call, alone, vread_call, unbound, ending, BoundAct, all_calls, setting_of}
use Rattle.key_names.specs.Callers.Calls.{first_settings}
use Rattle.key_names.specs.Callers.Effects.{effects_of}
use Rattle.key_names.specs.Transcripts.SeenLine.{SeenLine}
use Rattle.key_names.specs.Callers.History.{caller_orders, stamps_of, LooksConform}
use Rattle.key_names.specs.Callers.Meaning.{CallerState, caller_start, LineMeaning, CallMeaning, Means}

-- a line has its caller's number, its event's number and its word
pub record LineIs (c n : ℕ) (word : Word) (line : SeenLine) : Type 0 where
  pub caller : line.caller ≡ c
  pub event : line.event ≡ n
  pub word_is : line.word ≡ word

-- caller c has a line for each event, in order, and then the line of its end; n is the number of the first event
abbrev pub LinesFit : ℕ → ℕ → List Event → List SeenLine → Type 0
LinesFit c n [] [] = ⊥
LinesFit c n [] (line ∷ []) = LineIs c n EndWord line
LinesFit c n [] (line ∷ more ∷ lines) = ⊥
LinesFit c n (event ∷ events) [] = ⊥
LinesFit c n (event ∷ events) (line ∷ lines) = LineIs c n (event_word event) line × LinesFit c (suc n) events lines

-- P holds for each caller's number and the caller's elements of the two lists; c is the number of the first caller
abbrev pub EachCaller : {A B : Type 0} → (ℕ → A → B → Type 0) → ℕ → List A → List B → Type 0
EachCaller P c [] [] = ⊤
EachCaller P c (x ∷ xs) (y ∷ ys) = P c x y × EachCaller P (suc c) xs ys
EachCaller P c _ _ = ⊥

-- each caller has the lines of its events, and no other lines exist
abbrev pub HasLines : Script → List (List SeenLine) → Type 0
HasLines script t = EachCaller (λ c events lines. LinesFit c 0 events lines) 0 script.callers t

-- the calls of each caller, with their lines
abbrev pub script_calls : Script → List (List SeenLine) → List (List Call)
script_calls script t = all_calls script.callers t

-- a mark, and the maker of its visit
pub record MarkBy : Type 0 where
  pub mark : Mark
  pub who : Who

-- the marks among the steps of a line of caller c and event n; i is the number of the first step
abbrev pub marks_from : ℕ → ℕ → ℕ → List Step → List MarkBy
marks_from c n i [] = []
marks_from c n i (Look g ∷ steps) = marks_from c n (suc i) steps
marks_from c n i (Marked mark ∷ steps) =
    record { mark = mark; who = record { caller = c; event = n; step = i } } ∷ marks_from c n (suc i) steps

-- the marks of one line; below, the marks of all lines of all callers
abbrev pub line_marks : SeenLine → List MarkBy
line_marks line = marks_from line.caller line.event 0 line.steps

abbrev pub all_marks : List (List SeenLine) → List MarkBy
all_marks t = flat_map (λ lines. flat_map line_marks lines) t

-- among some marks of one lane, each place below the number of marks occurs once, and a higher place has a higher stamp
pub record PlacesConform (marks : List Mark) : Type 0 where
  pub once : AllByRecursion (λ place. count_by (λ mark. mark.place == place) marks ≡ 1)
      (range_with_len 0 (length marks))
  pub rise : AllByRecursion (λ a. AllByRecursion (λ b. a.place < b.place → a.stamp < b.stamp) marks) marks

abbrev pub is_same_lane : LaneId → LaneId → Bool
is_same_lane PoolLane PoolLane = true
is_same_lane BaseLane BaseLane = true
is_same_lane (CpuLane c) (CpuLane d) = c == d
is_same_lane _ _ = false

-- the marks of one lane
abbrev pub lane_marks : LaneId → List MarkBy → List Mark
lane_marks lane [] = []
lane_marks lane (by ∷ marks) =
    if is_same_lane by.mark.lane lane then by.mark ∷ lane_marks lane marks else lane_marks lane marks

abbrev pub Rises : List ℕ → Type 0
Rises [] = ⊤
Rises (a ∷ []) = ⊤
Rises (a ∷ b ∷ rest) = (a < b) × Rises (b ∷ rest)

-- in each lane each place up to the last has one mark, and stamps rise in each lane and along each caller's order
pub record MarksConform (script : Script) (t : List (List SeenLine)) : Type 0 where
  pub lanes : (lane : LaneId) → PlacesConform (lane_marks lane (all_marks t))
  pub callers : AllByRecursion (λ order. Rises (stamps_of order)) (caller_orders (script_calls script t))

-- the stamp and the maker of the visit at a place, if the place has a visit
abbrev pub stamped : {E : Type 0} → List (Visit E) → ℕ → Option (ℕ × Who)
stamped visits place = option_and_then (λ visit. Some (visit.stamp, visit.who)) (slice_get visits place)

abbrev pub stamped_at : Book → LaneId → ℕ → Option (ℕ × Who)
stamped_at book PoolLane place = stamped book.pool place
stamped_at book BaseLane place = stamped book.base place
stamped_at book (CpuLane c) place = stamped (list_at book.cpus c) place

abbrev pub visit_count : Book → ℕ
visit_count book = length book.pool + length book.base + sum_by (λ visits. length visits) book.cpus

-- the book's visit at each mark's place has the mark's stamp and maker, and the book has as many visits as there are
-- marks
pub record VisitsAre (book : Book) (marks : List MarkBy) : Type 0 where
  pub conform : AllByRecursion (λ by. stamped_at book by.mark.lane by.mark.place ≡ Some (by.mark.stamp, by.who)) marks
  pub no_others : length marks ≡ visit_count book

-- each call has a meaning that is allowed in the caller's state before the call
abbrev pub CallsMean : CallerState → List Call → List CallMeaning → Type 0
CallsMean s [] [] = ⊤
CallsMean s [] (m ∷ ms) = ⊥
CallsMean s (call ∷ calls) [] = ⊥
CallsMean s (call ∷ calls) (m ∷ ms) = (m.before ≡ s) × Means call m × CallsMean m.after calls ms

-- P holds for the line and the meaning of each act
abbrev pub EachAct : (SeenLine → LineMeaning → Type 0) → List BoundAct → List LineMeaning → Type 0
EachAct P [] [] = ⊤
EachAct P (bound ∷ acts) (m ∷ ms) = P bound.line m × EachAct P acts ms
EachAct P _ _ = ⊥

-- P holds for each line of a call and that line's meaning
abbrev pub EachOfCall : (SeenLine → LineMeaning → Type 0) → Call → CallMeaning → Type 0
EachOfCall P (alone event line) m = P line m.own
EachOfCall P (vread_call len flags line acts) m = P line m.own × EachAct P acts m.acts
EachOfCall P (unbound bound) m = P bound.line m.own
EachOfCall P (ending line) m = P line m.own

-- P holds for each line of a caller's calls and that line's meaning
abbrev pub EachLine : (SeenLine → LineMeaning → Type 0) → List Call → List CallMeaning → Type 0
EachLine P [] [] = ⊤
EachLine P (call ∷ calls) (m ∷ ms) = EachOfCall P call m × EachLine P calls ms
EachLine P _ _ = ⊥

-- the entries that calls with the meanings `ms` append to the list of vgetrandom state k
abbrev pub entries_of_state : ℕ → List CallMeaning → List VEntry
entries_of_state k [] = []
entries_of_state k (m ∷ ms) = (if m.before.current == k then m.entries else []) ++ entries_of_state k ms

-- the entries of each of a caller's sixteen states
abbrev pub state_lists : List CallMeaning → List (List VEntry)
state_lists ms = map (λ k. entries_of_state k ms) (range_with_len 0 16)

-- each call of a caller has a meaning that is allowed after the calls before it. The steps of each line have the
-- effects that the line's meaning gives
pub record CallerMeans (lists : Lists) (setting : Setting) (calls : List Call) (ms : List CallMeaning) : Type 0 where
  pub follows : CallsMean (caller_start setting) calls ms
  pub effects : EachLine (λ line m. effects_of lists line.steps ≡ m.effects) calls ms

-- the setting that a caller starts with
abbrev pub start_setting : List (List Call) → ℕ → Setting
start_setting callers c = setting_of (first_settings callers (length callers)) c

-- every line has steps that its word allows, and the visits of all lines make lawful lists
pub record FormsConform (script : Script) (t : List (List SeenLine)) (book : Book)
    (ms : List (List CallMeaning)) : Type 0 where
  pub cpus : length book.cpus ≡ script.cpus
  pub visits : VisitsAre book (all_marks t)
  pub callers : EachCaller (λ c calls ms. CallerMeans (lists_of book) (start_setting (script_calls script t) c) calls
      ms)
      0 (script_calls script t) ms
  pub states : book.callers ≡ map state_lists ms
  pub lanes : LawfulLanes (lists_of book)
  pub samples : LawfulSamples book

-- each line has the answer of its meaning
abbrev pub AnswersConform : Script → List (List SeenLine) → List (List CallMeaning) → Type 0
AnswersConform script t ms =
    EachCaller (λ c calls ms. EachLine (λ line m. line.answer ≡ m.answer) calls ms) 0 (script_calls script t) ms

-- each line has the data of its meaning
abbrev pub DataConform : Script → List (List SeenLine) → List (List CallMeaning) → Type 0
DataConform script t ms =
    EachCaller (λ c calls ms. EachLine (λ line m. line.shown ≡ m.shown) calls ms) 0 (script_calls script t) ms

-- LookConforms holds for each look in each caller's order
abbrev pub SeenConforms : Script → List (List SeenLine) → Lists → Type 0
SeenConforms script t lists =
    AllByRecursion (λ order. LooksConform (base_after lists.base).generation [] (effects_of lists order))
    (caller_orders (script_calls script t))

-- the transcript is lawful for the script, with this book and these meanings of its calls
pub record IsTranscriptBy (script : Script) (t : List (List SeenLine)) (book : Book)
    (ms : List (List CallMeaning)) : Type 0 where
  pub lines : HasLines script t
  pub marks : MarksConform script t
  pub forms : FormsConform script t book ms
  pub answers : AnswersConform script t ms
  pub shown : DataConform script t ms
  pub looks : SeenConforms script t (lists_of book)

abbrev pub IsTranscript : Script → List (List SeenLine) → Type 0
IsTranscript script t = (book : Book) × (ms : List (List CallMeaning)) × IsTranscriptBy script t book ms

-- the clauses of a lawful transcript, in their order. Clause 1, before these, is the grammar of the text
pub data Clause : Type 0 where
  lines_clause marks_clause forms_clause answers_clause data_clause looks_clause : Clause

abbrev pub clause_number : Clause → ℕ
clause_number lines_clause = 2
clause_number marks_clause = 3
clause_number forms_clause = 4
clause_number answers_clause = 5
clause_number data_clause = 6
clause_number looks_clause = 7

-- the book that a transcript's steps make, with the meanings of its calls
pub record MadeBook (script : Script) (t : List (List SeenLine)) : Type 0 where
  pub book : Book
  pub meanings : List (List CallMeaning)
  pub lines : HasLines script t
  pub marks : MarksConform script t
  pub forms : FormsConform script t book meanings

-- a clause is the first that fails: the clauses before it hold, and this clause does not. The last three clauses are
-- about the book that the steps make
abbrev pub FirstFails : Script → List (List SeenLine) → Clause → Type 0
FirstFails script t lines_clause = ¬ HasLines script t
FirstFails script t marks_clause = HasLines script t × (¬ MarksConform script t)
FirstFails script t forms_clause = HasLines script t × MarksConform script t × (¬ MadeBook script t)
FirstFails script t answers_clause = (made : MadeBook script t) × (¬ AnswersConform script t made.meanings)
FirstFails script t data_clause =
    (made : MadeBook script t) × AnswersConform script t made.meanings × (¬ DataConform script t made.meanings)
FirstFails script t looks_clause =
    (made : MadeBook script t) × AnswersConform script t made.meanings × DataConform script t made.meanings
    × (¬ SeenConforms script t (lists_of made.book))
