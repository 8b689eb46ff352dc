-- After one more line, a script that is being read has a fault, goes on, or is over.
use Rattle.std.proofs.Common.{◌≡◌, ℕ, zero, suc, ◌+◌, ◌==◌, ltb, inl, inr, true, false, None, Result, Ok, Err, List, [], ◌∷◌, ◌++◌, append_assoc, length, refl, sym, ap, subst, ◌∙◌, arith}
use Rattle.std.specs.List.{AllByRecursion, list_any}
use Rattle.std.specs.Prelude.{codes, if◌then◌else◌}
use Rattle.std.proofs.lemmas.Bool.{cases_Bool, or_from}
use Rattle.std.proofs.lemmas.List.{length-append}
use Rattle.key_names.specs.declared.events.Event.{Event}
use Rattle.key_names.specs.declared.events.Event.TheVariants.{Fork, Inside}
use Rattle.key_names.specs.declared.faults.FaultKind.{FaultKind}
use Rattle.key_names.specs.declared.faults.FaultKind.TheVariants.{BadByte, BadCaller, UnknownWord, Unfinished, Unforked}
use Rattle.key_names.specs.declared.faults.ScriptFault.{ScriptFault}
use Rattle.key_names.specs.Texts.ScriptGrammar.{IsScript, Script, times_forked}
use Rattle.key_names.specs.Texts.ScriptFaults.{◌>>=◌, Draft, Next, GoesOn, Ends, Said, SaysEvent, SaysCaller, SaysEnd, after, at_line, following, after_line, blocks_of, by_next, cpus_by, cpus_in, first_block, has_orphan, is_bad_fork, is_fork_from, is_past_limits, is_unprintable, line_of, nothing_after, parts, said, script_from, script_of, script_of_draft, script_of_lines, start_in, version_of, with_event}
use Rattle.key_names.proofs.Lists.Each.{each_left, each_more, each_right}
use Rattle.key_names.proofs.Script.Drafts.{no_orphan}
use Rattle.key_names.proofs.Script.FieldReaders.{same_ok, step_ok}
use Rattle.key_names.proofs.Script.Parts.{first_part, parts_at}
use Rattle.key_names.proofs.Script.ScriptTexts.{script_again}
use Rattle.caller_run.specs.Alone.{IsEmittedByOne, IsEmittedOnce}
use Rattle.event_script.specs.Feeding.{goes}
use Rattle.event_script.specs.Progress.{EndsWith, FailsWith, ForkNone, GoesOnFrom, IsLone, end_line}
use Rattle.event_script.specs.Tally.{fork_in}
use Rattle.event_script.specs.Waiting.{IsBeforeEvents}
use Rattle.event_script.specs.declared.whole.stage.ScriptStage.{ScriptStage}
use Rattle.event_script.specs.declared.whole.stage.ScriptStage.TheVariants.{Version, Cpus, Start, Lines, Ended, Faulty}
use Rattle.event_script.proofs.GoingOn.{Begins, closes, lone_blocks, script_begins}
use Rattle.rng_tool.specs.LiveSteps.{IsPart}
use Rattle.rng_tool.proofs.LiveTexts.{lined_up}

-- ---- no text does two of these: fail, go on, or end

same_err : {A : Type 0} (f g : ScriptFault) → ◌≡◌ {A = Result A ScriptFault} (Err f) (Err g) → f ≡ g
same_err f g e = cc

-- `bare`: what is read if nothing follows the text; `wordless`: what is read if the line `x` follows the text
abbrev bare : List ℕ → Result Script ScriptFault
bare text = script_of_lines (parts 10 (text ++ []))

abbrev wordless : List ℕ → Result Script ScriptFault
wordless text = script_of_lines (parts 10 (text ++ codes "x\n"))

unfinished : (d : Draft) (n : ℕ) → script_from d n ([] ∷ []) ≡ Err (record { line = n; kind = Unfinished })
unfolding script_from
unfinished d n = refl

unknown : (d : Draft) (n : ℕ) → script_from d n (parts 10 (codes "x\n"))
    ≡ Err (record { line = n; kind = UnknownWord })
unfolding script_from
unknown d n = refl

pub bare_goes : (text : List ℕ) (d : Draft) (n : ℕ) → GoesOnFrom text d n
    → bare text ≡ Err (record { line = n; kind = Unfinished })
bare_goes text d n goes = goes [] ∙ unfinished d n

pub wordless_goes : (text : List ℕ) (d : Draft) (n : ℕ) → GoesOnFrom text d n
    → wordless text ≡ Err (record { line = n; kind = UnknownWord })
wordless_goes text d n goes = goes (codes "x\n") ∙ unknown d n

bare_ends : (text : List ℕ) (d : Draft) (n : ℕ) → EndsWith text d n → bare text ≡ Ok (script_of_draft d)
bare_ends text d n ends = ends []

-- if every text that begins with `text` has the fault `fault`, no events can follow `text`
pub fails_not_goes : (text : List ℕ) (fault : ScriptFault) (d : Draft) (n : ℕ) → FailsWith text fault
    → GoesOnFrom text d n → ⊥
fails_not_goes text fault d n fails goes =
    let one = sym (fails []) ∙ bare_goes text d n goes in
    let other = sym (fails (codes "x\n")) ∙ wordless_goes text d n goes in
    let kinds = ap (λ (f : ScriptFault). f.kind) (same_err {A = Script} _ _ (sym one ∙ other)) in
    absurd cc

pub fails_not_ends : (text : List ℕ) (fault : ScriptFault) (d : Draft) (n : ℕ) → FailsWith text fault
    → EndsWith text d n → ⊥
fails_not_ends text fault d n fails ends = let e = sym (fails []) ∙ bare_ends text d n ends in absurd cc

pub goes_not_ends : (text : List ℕ) (d other : Draft) (n m : ℕ) → GoesOnFrom text d n → EndsWith text other m → ⊥
goes_not_ends text d other n m goes ends =
    let e = sym (bare_goes text d n goes) ∙ bare_ends text other m ends in absurd cc

-- if every text that begins with `text` has the fault `fault`, this also holds of `text ++ more`
pub fails_on : (text more : List ℕ) (fault : ScriptFault) → FailsWith text fault → FailsWith (text ++ more) fault
fails_on text more fault fails = λ later.
    ap (λ t. script_of_lines (parts 10 t)) (append_assoc text more later) ∙ fails (more ++ later)

-- ---- a text that ends before the script's first event

-- the line of the script that comes next: the version; or the CPUs, after the version was read; or the first caller,
-- after both were read
pub data Awaited : Type 0 where
  FirstLine : Awaited
  SecondLine : ℕ → Awaited
  ThirdLine : ℕ → ℕ → Awaited

abbrev pub goes_from : Awaited → List (List ℕ) → Result Script ScriptFault
goes_from FirstLine lines = script_of_lines lines
goes_from (SecondLine version) lines = do
  cpus ← at_line 2 (cpus_in version lines)
  start ← at_line 3 (start_in version cpus (following lines))
  script_from start 4 (following (following lines))
goes_from (ThirdLine version cpus) lines = do
  start ← at_line 3 (start_in version cpus lines)
  script_from start 4 (following lines)

pub record Awaits (text : List ℕ) : Type 0 where
  pub next : Awaited
  pub goes : (later : List ℕ) → script_of_lines (parts 10 (text ++ later)) ≡ goes_from next (parts 10 later)

awaits_by : (text : List ℕ) (stage : ScriptStage) → ((later : List ℕ) → script_of_lines (parts 10 (text ++ later))
    ≡ goes stage (parts 10 later)) → Rattle.event_script.specs.Waiting.IsHead stage → Awaits text
awaits_by text Version goes head = record { next = FirstLine; goes = goes }
awaits_by text (Cpus version) goes head = record { next = SecondLine version; goes = goes }
awaits_by text (Start h) goes head = record { next = ThirdLine h.version h.cpus; goes = goes }
awaits_by text (Lines draft number) goes head = absurd head
awaits_by text (Ended draft number) goes head = absurd head
awaits_by text (Faulty fault line) goes head = absurd head

pub awaits : (text : List ℕ) → IsBeforeEvents text → Awaits text
awaits text before = awaits_by text before.stage before.goes_on before.is_head

-- if nothing follows the text, it has the fault Unfinished, at the number of the line that comes next
bare_of : (next : Awaited) → (n : ℕ) × (goes_from next ([] ∷ []) ≡ Err (record { line = n; kind = Unfinished }))
bare_of FirstLine = (1, refl)
bare_of (SecondLine version) = (2, refl)
bare_of (ThirdLine version cpus) = (3, refl)

pub awaits_not_ends : (text : List ℕ) (d : Draft) (n : ℕ) → Awaits text → EndsWith text d n → ⊥
awaits_not_ends text d n a ends =
    let e = sym (a.goes [] ∙ (bare_of a.next).1) ∙ bare_ends text d n ends in absurd cc

other_kind : (next : Awaited) (fault : ScriptFault) → goes_from next (parts 10 (codes "x\n")) ≡ Err fault
    → fault.kind ≡ Unfinished → ⊥
other_kind FirstLine fault e is =
    let kind = ap (λ (f : ScriptFault). f.kind) (same_err {A = Script} _ _ e) in absurd cc
other_kind (SecondLine version) fault e is =
    let kind = ap (λ (f : ScriptFault). f.kind) (same_err {A = Script} _ _ e) in absurd cc
other_kind (ThirdLine version cpus) fault e is =
    let kind = ap (λ (f : ScriptFault). f.kind) (same_err {A = Script} _ _ e) in absurd cc

pub awaits_not_fails : (text : List ℕ) (fault : ScriptFault) → Awaits text → FailsWith text fault → ⊥
awaits_not_fails text fault a fails =
    other_kind a.next fault (sym (a.goes (codes "x\n")) ∙ fails (codes "x\n"))
    (ap (λ (f : ScriptFault). f.kind)
    (same_err {A = Script} _ _ (sym (fails []) ∙ (a.goes [] ∙ (bare_of a.next).1))))

-- if the line `end` follows the draft `d` (the script so far), it never has the fault BadCaller
end_kind : (d : Draft) (n m : ℕ) → script_from d n (parts 10 end_line) ≡ Err (record { line = m; kind = BadCaller }) → ⊥
unfolding script_from
end_kind d n m e =
    elim (cases_Bool (has_orphan d)) [
      | inl orphan ↦ (let kind = ap (λ (f : ScriptFault). f.kind) (same_err {A = Script} _ _ (rw orphan at e)) in absurd cc)
      | inr whole ↦ (let none = rw whole at e in absurd cc)
    ]

awaits_not_from : (text : List ℕ) (d : Draft) (n : ℕ) (next : Awaited)
    → ((later : List ℕ) → script_of_lines (parts 10 (text ++ later)) ≡ goes_from next (parts 10 later))
    → GoesOnFrom text d n → ⊥
awaits_not_from text d n FirstLine goes on =
    let kind = ap (λ (f : ScriptFault). f.kind)
    (same_err {A = Script} _ _ (sym (goes (codes "x\n")) ∙ wordless_goes text d n on)) in absurd cc
awaits_not_from text d n (SecondLine version) goes on =
    let kind = ap (λ (f : ScriptFault). f.kind)
    (same_err {A = Script} _ _ (sym (goes (codes "x\n")) ∙ wordless_goes text d n on)) in absurd cc
awaits_not_from text d n (ThirdLine version cpus) goes on =
    end_kind d n 3 (sym (on end_line) ∙ goes end_line)

pub awaits_not_goes : (text : List ℕ) (d : Draft) (n : ℕ) → Awaits text → GoesOnFrom text d n → ⊥
awaits_not_goes text d n a on = awaits_not_from text d n a.next a.goes on

-- ---- the first three lines of a script

-- a text, a line and later text are read in the same way, however they are grouped
with_line : (text line later : List ℕ) → IsPart line
    → script_of_lines (parts 10 (lined_up text line ++ later)) ≡ script_of_lines (parts 10 (text ++ (line ++ 10 ∷ later)))
with_line text line later clean =
    ap (λ t. script_of_lines (parts 10 t)) (append_assoc text (line ++ 10 ∷ []) later
    ∙ ap (λ t. text ++ t) (append_assoc line (10 ∷ []) later))

abbrev whole : List ℕ → Result (List ℕ) FaultKind
whole line = if list_any is_unprintable line then Err BadByte else Ok line

line_is : (line later : List ℕ) → line_of (line ∷ parts 10 later) ≡ whole line
line_is line later = rw (first_part 10 later).is refl

-- after one more of the first three lines, the text fails, goes on to the next of these lines, or opens the first
-- caller
pub data HeadTurn (text : List ℕ) : Type 0 where
  fails : (fault : ScriptFault) → FailsWith text fault → HeadTurn text
  goes_on : Awaits text → HeadTurn text
  opens : (start : Draft) → GoesOnFrom text start 4 → start.done ≡ [] → start.events ≡ [] → HeadTurn text

turn_by : {A : Type 0} (text : List ℕ) (n : ℕ) (r : Result A FaultKind)
    (f : A → List (List ℕ) → Result Script ScriptFault)
    → ((later : List ℕ) → script_of_lines (parts 10 (text ++ later)) ≡ (at_line n r >>= λ x. f x (parts 10 later)))
    → ((x : A) → r ≡ Ok x → ((later : List ℕ) → script_of_lines (parts 10 (text ++ later)) ≡ f x (parts 10 later))
    → HeadTurn text) → HeadTurn text
turn_by text n (Err kind) f goes on = fails (record { line = n; kind = kind }) goes
turn_by text n (Ok x) f goes on = on x refl goes

first_given : (version cpus : ℕ) (what : Said) (start : Draft) → first_block version cpus what ≡ Ok start
    → (start.done ≡ []) × (start.events ≡ [])
first_given version cpus (SaysCaller zero) start e =
    let is = same_ok {E = FaultKind} _ start e in
    (sym (ap (λ (d : Draft). d.done) is), sym (ap (λ (d : Draft). d.events) is))
first_given version cpus (SaysCaller (suc n)) start e = absurd cc
first_given version cpus (SaysEvent event) start e = absurd cc
first_given version cpus SaysEnd start e = absurd cc

head_turn_by : (text line : List ℕ) → IsPart line → (next : Awaited)
    → ((later : List ℕ) → script_of_lines (parts 10 (lined_up text line ++ later)) ≡ goes_from next (line ∷ parts 10 later))
    → HeadTurn (lined_up text line)
head_turn_by text line clean FirstLine from =
    turn_by (lined_up text line) 1 (whole line >>= version_of) (λ version lines. goes_from (SecondLine version) lines)
    (λ later. from later ∙ ap (λ (r : Result (List ℕ) FaultKind).
    at_line 1 (r >>= version_of) >>= λ version. goes_from (SecondLine version) (parts 10 later)) (line_is line later))
    (λ version is goes. goes_on (record { next = SecondLine version; goes = goes }))
head_turn_by text line clean (SecondLine version) from =
    turn_by (lined_up text line) 2 (whole line >>= λ l. cpus_by version (parts 32 l))
    (λ cpus lines. goes_from (ThirdLine version cpus) lines)
    (λ later. from later ∙ ap (λ (r : Result (List ℕ) FaultKind).
    at_line 2 (r >>= λ l. cpus_by version (parts 32 l))
    >>= λ cpus. goes_from (ThirdLine version cpus) (parts 10 later)) (line_is line later))
    (λ cpus is goes. goes_on (record { next = ThirdLine version cpus; goes = goes }))
head_turn_by text line clean (ThirdLine version cpus) from =
    turn_by (lined_up text line) 3 (whole line >>= λ l. said version cpus l >>= first_block version cpus)
    (λ start lines. script_from start 4 lines)
    (λ later. from later ∙ ap (λ (r : Result (List ℕ) FaultKind).
    at_line 3 (r >>= λ l. said version cpus l >>= first_block version cpus)
    >>= λ start. script_from start 4 (parts 10 later)) (line_is line later))
    (λ start is goes.
    let line_step = step_ok (whole line) (λ l. said version cpus l >>= first_block version cpus) start is in
    let what = step_ok (said version cpus line_step.0) (first_block version cpus) start line_step.2 in
    let empty = first_given version cpus what.0 start what.2 in
    opens start goes empty.0 empty.1)

pub head_turn : (text line : List ℕ) → IsPart line → Awaits text → HeadTurn (lined_up text line)
head_turn text line clean a =
    head_turn_by text line clean a.next (λ later.
    with_line text line later clean ∙ a.goes (line ++ 10 ∷ later)
    ∙ ap (goes_from a.next) (parts_at 10 line later clean))

-- ---- a line after the events of a script's only caller

no_fork_from : (n : ℕ) (event : Event) → fork_in event ≡ None → is_fork_from n event ≡ false
no_fork_from n (Fork child) none = absurd cc
no_fork_from n event none = refl

none_from : (n : ℕ) (events : List Event) → ForkNone events → list_any (is_fork_from n) events ≡ false
none_from n [] none = refl
none_from n (event ∷ events) none = or_from _ _ (no_fork_from n event none.0) (none_from n events none.1)

lone_from : (n : ℕ) (d : Draft) → IsLone d → list_any (list_any (is_fork_from n)) (blocks_of d) ≡ false
lone_from n d lone = rw lone.first (or_from _ _ (none_from n d.events lone.forks) refl)

unforked : (d : Draft) (c : ℕ) → IsLone d → times_forked (blocks_of d) c ≡ 0
unforked d c lone = no_orphan 0 c (blocks_of d) (omega arith) (lone_from 0 d lone)

-- after one more line, a script that has no fork fails, ends, or goes on with an event
pub data Turn (text : List ℕ) (d : Draft) (n : ℕ) : Type 0 where
  line_fails : (fault : ScriptFault) → FailsWith text fault → Turn text d n
  line_ends : EndsWith text d (n + 1) → Turn text d n
  line_tells : (event : Event) → GoesOnFrom text (with_event d event) (n + 1) → Turn text d n

event_next : (d : Draft) (e : Event) (next : Draft) → after d (SaysEvent e) ≡ Ok (GoesOn next) → with_event d e ≡ next
event_next d e next is =
    elim (cases_Bool (is_bad_fork d e)) [
      | inl bad ↦ (let none = rw bad at is in absurd cc)
      | inr good ↦
          elim (cases_Bool (is_past_limits d e)) [
            | inl past ↦ (let none = rw (good, past) at is in absurd cc)
            | inr within ↦
                (let same = same_ok {E = FaultKind} (GoesOn (with_event d e)) (GoesOn next) (rw (good, within) at is) in cc)
          ]
    ]

block_next : (d : Draft) (c : ℕ) (next : Draft) → IsLone d → after d (SaysCaller c) ≡ Ok (GoesOn next) → ⊥
block_next d c next lone is =
    elim (cases_Bool (c == length (blocks_of d))) [
      | inr other ↦ (let none = rw other at is in absurd cc)
      | inl same ↦ (let zero_is : (times_forked (blocks_of d) c == 0) ≡ true = rw (unforked d c lone) refl in
          let none = rw (same, zero_is) at is in absurd cc)
    ]

end_next : (d next : Draft) → after d SaysEnd ≡ Ok (GoesOn next) → ⊥
end_next d next is =
    elim (cases_Bool (has_orphan d)) [
      | inl orphan ↦ (let none = rw orphan at is in absurd cc)
      | inr none_is ↦ (let none = rw none_is at is in absurd cc)
    ]

next_of : (d : Draft) → IsLone d → (what : Said) (next : Draft) → after d what ≡ Ok (GoesOn next)
    → (e : Event) × (with_event d e ≡ next)
next_of d lone (SaysEvent e) next is = (e, event_next d e next is)
next_of d lone (SaysCaller c) next is = absurd (block_next d c next lone is)
next_of d lone SaysEnd next is = absurd (end_next d next is)

abbrev line_result : Draft → List ℕ → Result Next FaultKind
line_result d line = whole line >>= after_line d

abbrev goes_after : Draft → ℕ → Result Next FaultKind → List ℕ → Result Script ScriptFault
goes_after d n r later = at_line n r >>= by_next (λ next. script_from next (n + 1) (parts 10 later))
    (nothing_after (n + 1) (parts 10 later) >>= λ none. Ok (script_of_draft d))

line_goes : (d : Draft) (n : ℕ) (line later : List ℕ) → script_from d n (line ∷ parts 10 later)
    ≡ goes_after d n (line_result d line) later
unfolding script_from
line_goes d n line later = rw (first_part 10 later).is refl

event_of : (d : Draft) (line : List ℕ) (next : Draft) → IsLone d → line_result d line ≡ Ok (GoesOn next)
    → (e : Event) × (with_event d e ≡ next)
event_of d line next lone is =
    let line_step = step_ok (whole line) (after_line d) (GoesOn next) is in
    let what = step_ok (said d.version d.cpus line_step.0) (after d) (GoesOn next) line_step.2 in
    next_of d lone what.0 next what.2

turn_of : (text line : List ℕ) (d : Draft) (n : ℕ) → IsLone d → (r : Result Next FaultKind) → line_result d line ≡ r
    → ((later : List ℕ) → script_of_lines (parts 10 (text ++ later)) ≡ goes_after d n r later) → Turn text d n
turn_of text line d n lone (Err kind) is goes = line_fails (record { line = n; kind = kind }) goes
turn_of text line d n lone (Ok Ends) is goes = line_ends goes
turn_of text line d n lone (Ok (GoesOn next)) is goes =
    let found = event_of d line next lone is in
    line_tells found.0 (subst (λ (later : Draft). GoesOnFrom text later (n + 1)) (sym found.1) goes)

pub turn : (text line : List ℕ) (d : Draft) (n : ℕ) → IsPart line → IsLone d → GoesOnFrom text d n
    → Turn (lined_up text line) d n
turn text line d n clean lone goes =
    turn_of (lined_up text line) line d n lone (line_result d line) refl (λ later.
    with_line text line later clean ∙ goes (line ++ 10 ∷ later)
    ∙ ap (script_from d n) (parts_at 10 line later clean) ∙ line_goes d n line later)

-- ---- the draft (the script so far) that the reader shows

end_step : (d : Draft) (n : ℕ) → has_orphan d ≡ false → script_from d n (parts 10 end_line) ≡ Ok (script_of_draft d)
unfolding script_from
end_step d n none = rw none refl

orphan_step : (d : Draft) (n : ℕ) → has_orphan d ≡ true
    → script_from d n (parts 10 end_line) ≡ Err (record { line = n; kind = Unforked })
unfolding script_from
orphan_step d n orphan = rw orphan refl

end_given : (d : Draft) (n : ℕ) (s : Script) → script_from d n (parts 10 end_line) ≡ Ok s → script_of_draft d ≡ s
unfolding script_from
end_given d n s is =
    elim (cases_Bool (has_orphan d)) [
      | inl orphan ↦ (let none = rw orphan at is in absurd cc)
      | inr none_is ↦ same_ok {E = ScriptFault} (script_of_draft d) s (rw none_is at is)
    ]

only : {A : Type 0} (xs : List A) (x y : A) → x ∷ [] ≡ xs ++ y ∷ [] → (xs ≡ []) × (x ≡ y)
only [] x y is = (refl, cc)
only (z ∷ zs) x y is = absurd (omega (arith, ap length is, length-append zs (y ∷ [])))

pub emitted_unforked : (event : Event) → IsEmittedOnce event → fork_in event ≡ None
emitted_unforked (Fork child) one = absurd one
emitted_unforked (Inside point act) one = absurd one
emitted_unforked event one = refl

module _ (text : List ℕ) (d other : Draft) (e : Event) (n m : ℕ) (lone : IsLone d)
    (goes : GoesOnFrom text (with_event d e) n) (seen : GoesOnFrom text other m) where
  -- if no fork in the reader's draft waits for its child's block, the reader's draft is `d` with the event `e`
  pub shows_event : has_orphan other ≡ false
      → (other.version ≡ d.version) × (other.cpus ≡ d.cpus) × (other.done ≡ []) × (other.events ≡ d.events ++ e ∷ [])
  shows_event none =
      let is = sym (goes end_line) ∙ seen end_line ∙ end_step other m none in
      let same = end_given (with_event d e) n (script_of_draft other) is in
      let blocks : d.done ++ (d.events ++ e ∷ []) ∷ [] ≡ other.done ++ other.events ∷ [] =
      ap (λ (s : Script). s.callers) same in
      let both = only other.done (d.events ++ e ∷ []) other.events (rw lone.first at blocks) in (
        sym (ap (λ (s : Script). s.version) same),
        sym (ap (λ (s : Script). s.cpus) same),
        both.0,
        sym both.1,
      )

  -- if a fork in the reader's draft waits for its child's block, the event `e` is that fork
  forks : has_orphan other ≡ true → fork_in e ≡ None → ⊥
  forks orphan none =
      let with_lone : IsLone (with_event d e) = record {
        first = lone.first;
        forks = each_more (λ event. fork_in event ≡ None) d.events e lone.forks none;
      } in
      let is = sym (closes text (with_event d e) n goes (lone_blocks (with_event d e) with_lone)) ∙ seen end_line
      ∙ orphan_step other m orphan in absurd cc

  pub forks_or_acts : has_orphan other ≡ true → IsEmittedOnce e → ⊥
  forks_or_acts orphan once = forks orphan (emitted_unforked e once)

-- let `e` be the last event of `text`. If a script of one caller begins with `text`, and the caller forks nobody and
-- acts inside no vgetrandom call, `e` is no act and no fork
pub event_dooms : (text more : List ℕ) (d : Draft) (e : Event) (n : ℕ) (s : Script)
    → GoesOnFrom text (with_event d e) n → IsScript s (text ++ more) → IsEmittedByOne s → IsEmittedOnce e
event_dooms text more d e n s goes is one =
    let b : Begins (with_event d e) s =
    script_begins text more (with_event d e) n s goes (script_again (text ++ more) s is) in
    let once = subst (AllByRecursion (AllByRecursion IsEmittedOnce)) (ap (λ (script : Script). script.callers) b.script) one.once in
    let block = each_right (AllByRecursion IsEmittedOnce) d.done _ once in
    (each_right IsEmittedOnce d.events (e ∷ []) (each_left IsEmittedOnce (d.events ++ e ∷ []) b.es block.0)).0

-- if `text` is the text of the script `s`, its lines are read as `s`
pub script_lines_again : (s : Script) (text : List ℕ) → IsScript s text → script_of_lines (parts 10 text) ≡ Ok s
unfolding script_of
script_lines_again s text is =
    let ok = script_again text s is in
    elim (cases_Bool (ltb 16777216 (length text))) [
      | inl long ↦ (let none = rw long at ok in absurd cc)
      | inr short ↦ rw short at ok
    ]

-- if every text that begins with `text` has the fault `fault`, no script begins with `text`
pub fails_hopeless : (text more : List ℕ) (fault : ScriptFault) (s : Script) → FailsWith text fault
    → IsScript s (text ++ more) → ⊥
fails_hopeless text more fault s fail is =
    let e = sym (fail more) ∙ script_lines_again s (text ++ more) is in absurd cc
