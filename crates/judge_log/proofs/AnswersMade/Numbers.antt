-- The events of a caller's calls have different numbers.
use Rattle.std.proofs.Common.{◌≡◌, ℕ, suc, ◌<◌, ◌≤◌, true, false, List, [], ◌∷◌, ◌++◌, map, sym, subst, ap, ◌∙◌, arith, Some}
use Rattle.std.specs.Prelude.{⊤, slice_get, if◌then◌else◌}
use Rattle.std.specs.List.{AllByRecursion}
use Rattle.std.proofs.lemmas.List.{map-append}
use Rattle.key_names.specs.declared.events.Event.{Event}
use Rattle.key_names.specs.declared.events.Event.TheVariants.{Vread, Inside}
use Rattle.key_names.specs.Callers.Calls.{Call, alone, vread_call, unbound, ending, BoundAct, has_vread, calls_from}
use Rattle.key_names.specs.Transcripts.IsTranscript.{LinesFit}
use Rattle.key_names.specs.Transcripts.SeenLine.{SeenLine}
use Rattle.key_names.proofs.Lists.Each.{each_append, each_weaker}
use Rattle.judge_log.specs.declared.said.MadeLine.{MadeLine}
use Rattle.judge_log.specs.Said.{NotedAt}
use Rattle.judge_log.specs.Writes.{Write, Written}
use Rattle.judge_log.proofs.AnswersMade.CallMeant.{IsSaidIn}

abbrev pub Differs : ℕ → ℕ → Type 0
Differs n k = k ≡ n → ⊥

abbrev pub Distinct : List ℕ → Type 0
Distinct [] = ⊤
Distinct (n ∷ ns) = AllByRecursion (Differs n) ns × Distinct ns

-- ---- if notes are put at different event numbers, all of them remain

each_mapped : {A : Type 0} (f : A → ℕ) (P : ℕ → Type 0) (xs : List A) → AllByRecursion P (map f xs) →
    AllByRecursion (λ x. P (f x)) xs
each_mapped f P [] all = tt
each_mapped f P (x ∷ xs) all = (all.0, each_mapped f P xs all.1)

module _ {Noted : Type 0} (IsNoted : ℕ → MadeLine → Noted → Type 0) where
  stays : (writes : List Write) (old new : List Noted) (k : ℕ) (x : Noted) → Written IsNoted writes old new →
      AllByRecursion (λ w. Differs k w.event) writes → slice_get old k ≡ Some x → slice_get new k ≡ Some x
  stays [] old new k x is others here = ap (λ notes. slice_get notes k) is ∙ here
  stays (w ∷ writes) old new k x put others here =
      stays writes put.0 new k x put.2 others.1 (put.1.others k x (λ e. others.0 (sym e)) here)

  pub all_there : (writes : List Write) (old new : List Noted) → Written IsNoted writes old new →
      Distinct (map (λ w. w.event) writes) → AllByRecursion (IsSaidIn (NotedAt IsNoted new)) writes
  all_there [] old new is distinct = tt
  all_there (w ∷ writes) old new put distinct =
      let here = put.1.here in (
        record {
          note = here.note;
          is = stays writes put.0 new w.event here.note put.2
              (each_mapped (λ w. w.event) (Differs w.event) writes distinct.0) here.is;
          noted = here.noted;
        },
        all_there writes put.0 new put.2 distinct.1,
      )

-- ---- the event numbers in a caller's calls

abbrev pub act_number : BoundAct → ℕ
act_number bound = bound.line.event

abbrev pub call_numbers : Call → List ℕ
call_numbers (alone event line) = line.event ∷ []
call_numbers (vread_call n flags line acts) = map act_number acts ++ line.event ∷ []
call_numbers (unbound bound) = bound.line.event ∷ []
call_numbers (ending line) = line.event ∷ []

abbrev pub numbers : List Call → List ℕ
numbers [] = []
numbers (call ∷ calls) = call_numbers call ++ numbers calls

distinct_parts : (xs ys : List ℕ) → Distinct xs → Distinct ys → AllByRecursion (λ n. AllByRecursion (Differs n) ys) xs →
    Distinct (xs ++ ys)
distinct_parts [] ys one two apart = two
distinct_parts (x ∷ xs) ys one two apart =
    (each_append (Differs x) xs ys one.0 apart.0, distinct_parts xs ys one.1 two apart.1)

-- each of the acts `waiting`, which are not yet in a call, has an event number below `n`
abbrev Waits : ℕ → List BoundAct → Type 0
Waits n waiting = AllByRecursion (λ k. k < n) (map act_number waiting)

all_below : (n : ℕ) (ns : List ℕ) → AllByRecursion (λ k. k < n) ns → AllByRecursion (λ k. k < suc n) ns
all_below n ns all = each_weaker (λ k. k < n) (λ k. k < suc n) ns (λ k low. omega arith) all

all_differ : (n : ℕ) (ns : List ℕ) → AllByRecursion (λ k. k < n) ns → AllByRecursion (Differs n) ns
all_differ n ns all = each_weaker (λ k. k < n) (Differs n) ns (λ k low is. omega arith) all

-- if all numbers in `ns` are above `n`, and `k` is at most `n`, each number in `ns` differs from `k`
all_above : (n k : ℕ) (ns : List ℕ) → k ≤ n → AllByRecursion (λ m. n < m) ns → AllByRecursion (Differs k) ns
all_above n k ns low all = each_weaker (λ m. n < m) (Differs k) ns (λ m high is. omega arith) all

waits_more : (waiting : List BoundAct) (bound : BoundAct) →
    map act_number (waiting ++ bound ∷ []) ≡ map act_number waiting ++ bound.line.event ∷ []
waits_more waiting bound = map-append act_number waiting (bound ∷ [])

-- if P holds of the event numbers of the acts `waiting` and of all numbers from `n` on, P holds of all event numbers in
-- the calls
each_number : (P : ℕ → Type 0) (c n : ℕ) (waiting : List BoundAct) (events : List Event) (lines : List SeenLine) →
    LinesFit c n events lines → AllByRecursion P (map act_number waiting) → ((k : ℕ) → n ≤ k → P k) →
    AllByRecursion P (numbers (calls_from waiting events lines))
each_number P c n waiting [] [] fit wait above = absurd fit
each_number P c n waiting [] (line ∷ []) fit wait above = (subst P (sym fit.event) (above n (omega arith)), tt)
each_number P c n waiting [] (line ∷ more ∷ lines) fit wait above = absurd fit
each_number P c n waiting (event ∷ events) [] fit wait above = absurd fit
each_number P c n waiting (Vread len flags ∷ events) (line ∷ lines) fit wait above =
    let here : P line.event = subst P (sym fit.0.event) (above n (omega arith)) in
    each_append P (map act_number waiting ++ line.event ∷ []) (numbers (calls_from [] events lines))
    (each_append P (map act_number waiting) (line.event ∷ []) wait (here, tt))
    (each_number P c (suc n) [] events lines fit.1 tt (λ k high. above k (omega arith)))
each_number P c n waiting (Inside point act ∷ events) (line ∷ lines) fit wait above =
    let bound : BoundAct = record { point = point; act = act; line = line } in
    let here : P line.event = subst P (sym fit.0.event) (above n (omega arith)) in
    let waits = each_number P c (suc n) (waiting ++ bound ∷ []) events lines fit.1
    (subst (AllByRecursion P) (sym (waits_more waiting bound))
    (each_append P (map act_number waiting) (line.event ∷ []) wait (here, tt))) (λ k high. above k (omega arith)) in
    let goes_on = each_number P c (suc n) waiting events lines fit.1 wait (λ k high. above k (omega arith)) in
    elim (has_vread events) as (λ b. AllByRecursion P (numbers (if b then calls_from (waiting ++ bound ∷ []) events lines
    else unbound bound ∷ calls_from waiting events lines))) [ true ↦ waits | false ↦ (here, goes_on) ]
each_number P c n waiting (event ∷ events) (line ∷ lines) fit wait above = (
  subst P (sym fit.0.event) (above n (omega arith)),
  each_number P c (suc n) waiting events lines fit.1 wait (λ k high. above k (omega arith)),
)

-- if a single event's line has number `n`, and the numbers in the calls after it are distinct, then `n` and these
-- numbers together are distinct
one_first : (c n : ℕ) (waiting : List BoundAct) (events : List Event) (lines : List SeenLine) (line : SeenLine) →
    line.event ≡ n → LinesFit c (suc n) events lines → Waits n waiting →
    Distinct (numbers (calls_from waiting events lines)) → Distinct (line.event ∷ numbers (calls_from waiting events lines))
one_first c n waiting events lines line at fit wait rest = (
  subst (λ k. AllByRecursion (Differs k) (numbers (calls_from waiting events lines))) (sym at)
      (each_number (Differs n) c (suc n) waiting events lines fit (all_differ n (map act_number waiting) wait)
      (λ k high is. omega arith)),
  rest,
)

pub distinct_from : (c n : ℕ) (waiting : List BoundAct) (events : List Event) (lines : List SeenLine) →
    LinesFit c n events lines → Waits n waiting → Distinct (map act_number waiting) →
    Distinct (numbers (calls_from waiting events lines))
distinct_from c n waiting [] [] fit wait distinct = absurd fit
distinct_from c n waiting [] (line ∷ []) fit wait distinct = (tt, tt)
distinct_from c n waiting [] (line ∷ more ∷ lines) fit wait distinct = absurd fit
distinct_from c n waiting (event ∷ events) [] fit wait distinct = absurd fit
distinct_from c n waiting (Vread len flags ∷ events) (line ∷ lines) fit wait distinct =
    distinct_parts (map act_number waiting ++ line.event ∷ []) (numbers (calls_from [] events lines))
    (distinct_parts (map act_number waiting) (line.event ∷ []) distinct (tt, tt)
    (each_weaker (λ k. k < n) (λ k. AllByRecursion (Differs k) (line.event ∷ [])) (map act_number waiting)
    (λ k low. ((λ is. let at = fit.0.event in omega arith), tt)) wait))
    (distinct_from c (suc n) [] events lines fit.1 tt tt)
    (each_weaker (λ k. k < suc n) (λ k. AllByRecursion (Differs k) (numbers (calls_from [] events lines)))
    (map act_number waiting ++ line.event ∷ [])
    (λ k low. all_above n k (numbers (calls_from [] events lines)) (omega arith)
    (each_number (λ m. n < m) c (suc n) [] events lines fit.1 tt (λ m high. omega arith)))
    (each_append (λ k. k < suc n) (map act_number waiting) (line.event ∷ [])
    (all_below n (map act_number waiting) wait) ((let at = fit.0.event in omega arith), tt)))
distinct_from c n waiting (Inside point act ∷ events) (line ∷ lines) fit wait distinct =
    let bound : BoundAct = record { point = point; act = act; line = line } in
    let at : line.event ≡ n = fit.0.event in
    let waits = distinct_from c (suc n) (waiting ++ bound ∷ []) events lines fit.1
    (subst (AllByRecursion (λ k. k < suc n)) (sym (waits_more waiting bound))
    (each_append (λ k. k < suc n) (map act_number waiting) (line.event ∷ [])
    (all_below n (map act_number waiting) wait) (omega arith, tt)))
    (subst Distinct (sym (waits_more waiting bound))
    (distinct_parts (map act_number waiting) (line.event ∷ []) distinct (tt, tt)
    (each_weaker (λ k. k < n) (λ k. AllByRecursion (Differs k) (line.event ∷ [])) (map act_number waiting)
    (λ k low. ((λ is. omega arith), tt)) wait))) in
    let goes_on = one_first c n waiting events lines line at fit.1 wait
    (distinct_from c (suc n) waiting events lines fit.1 (all_below n (map act_number waiting) wait) distinct) in
    elim (has_vread events) as (λ b. Distinct (numbers (if b then calls_from (waiting ++ bound ∷ []) events lines
    else unbound bound ∷ calls_from waiting events lines))) [ true ↦ waits | false ↦ goes_on ]
distinct_from c n waiting (event ∷ events) (line ∷ lines) fit wait distinct =
    one_first c n waiting events lines line fit.0.event fit.1 wait
    (distinct_from c (suc n) waiting events lines fit.1 (all_below n (map act_number waiting) wait) distinct)
