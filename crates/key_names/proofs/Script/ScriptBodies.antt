-- The lines after the first three are read as a script if and only if they are the rest of the script's lines.
use Rattle.std.proofs.Common.{◌≡◌, ℕ, suc, ◌+◌, ◌<◌, ◌≤◌, ◌==◌, false, inl, inr, Result, Ok, Err, List, [], ◌∷◌, ◌++◌, length, map, refl, sym, ap, subst, ◌∙◌, append_assoc, arith}
use Rattle.std.specs.List.{list_any}
use Rattle.std.specs.Prelude.{codes}
use Rattle.std.proofs.lemmas.Bool.{cases_Bool, eq-eqb, eqb-false, eqb-true}
use Rattle.std.proofs.lemmas.List.{append-nil, length-append}
use Rattle.key_names.specs.declared.events.Event.{Event}
use Rattle.key_names.specs.declared.faults.FaultKind.{FaultKind}
use Rattle.key_names.specs.declared.faults.FaultKind.TheVariants.{UnknownWord}
use Rattle.key_names.specs.declared.faults.ScriptFault.{ScriptFault}
use Rattle.key_names.specs.Texts.Spelling.{spaced}
use Rattle.key_names.specs.Texts.ScriptGrammar.{Script, block_lines, event_fields, most_cpus, times_forked}
use Rattle.key_names.specs.Texts.ScriptFaults.{◌>>=◌, Draft, Next, GoesOn, Ends, Said, SaysEvent, SaysCaller, SaysEnd, SaidInRange, after, at_line, blocks_of, by_next, has_orphan, is_bad_fork, is_past_limits, is_unprintable, line_of, nothing_after, said, script_from, script_of_draft, with_block, with_event}
use Rattle.key_names.proofs.Script.Drafts.{EventFits, Fine, Whole, block_fine, end_whole, event_fine, whole_block, whole_end, whole_event}
use Rattle.key_names.proofs.Script.FieldReaders.{same_ok, step_ok}
use Rattle.key_names.proofs.Script.LinedTexts.{Printable, none_unprintable}
use Rattle.key_names.proofs.Script.Parts.{HasFirst}
use Rattle.key_names.proofs.Script.SaidLines.{printable_said, said_again, said_line, said_takes}

-- ---- reading one line

pub at_ok : {A : Type 0} (n : ℕ) (r : Result A FaultKind) (x : A) → at_line n r ≡ Ok x → r ≡ Ok x
at_ok {A} n (Ok y) x e = ap (λ (z : A). Ok z) (same_ok {E = ScriptFault} y x e)
at_ok n (Err kind) x e = absurd cc

pub line_takes : (line : List ℕ) (more : List (List ℕ)) (whole : List ℕ) → line_of (line ∷ more) ≡ Ok whole → line ≡
    whole
line_takes line [] whole e = absurd cc
line_takes line (next ∷ more) whole e =
    elim (cases_Bool (list_any is_unprintable line)) [
      | inl bad ↦ let none = rw bad at e in absurd cc
      | inr fine ↦ same_ok {E = FaultKind} line whole (rw fine at e)
    ]

pub line_again : (line : List ℕ) (more : List (List ℕ)) → HasFirst more → Printable line → line_of (line ∷ more) ≡
    Ok line
line_again line [] some fine = absurd (let e = some.is in cc)
line_again line (next ∷ more) some fine = rw (none_unprintable line fine) refl

never : {A B : Type 0} (r : Result A FaultKind) (kind : FaultKind) (x : B) → (r >>= λ a. Err kind) ≡ Ok x → ⊥
never (Ok a) kind x e = cc
never (Err k) kind x e = cc

nothing_takes : (n : ℕ) (more : List (List ℕ)) (x : Next) → nothing_after n more ≡ Ok x → more ≡ [] ∷ []
nothing_takes n [] x e = absurd cc
nothing_takes n ([] ∷ []) x e = refl
nothing_takes n ((b ∷ tail) ∷ []) x e = absurd cc
nothing_takes n ([] ∷ next ∷ more) x e = absurd (never (line_of ([] ∷ next ∷ more)) UnknownWord x (at_ok n _ x e))
nothing_takes n ((b ∷ tail) ∷ next ∷ more) x e =
    absurd (never (line_of ((b ∷ tail) ∷ next ∷ more)) UnknownWord x (at_ok n _ x e))

-- ---- the lines of a script that follow a draft

-- the lines after a draft with `c` finished blocks. First come the lines of `es`, the further events of the current
-- block. The lines of the blocks `later` and the line `end` follow
abbrev pub rest_lines : ℕ → List Event → List (List Event) → List (List ℕ)
rest_lines c es later = map spaced ((map event_fields es ++ block_lines (suc c) later) ++ (codes "end" ∷ []) ∷ [])
    ++ [] ∷ []

abbrev pub callers_with : Draft → List Event → List (List Event) → List (List Event)
callers_with d es later = d.done ++ (d.events ++ es) ∷ later

abbrev pub script_with : Draft → List Event → List (List Event) → Script
script_with d es later = record { version = d.version; cpus = d.cpus; callers = callers_with d es later }

-- `lines` are the lines of the script `s` that follow the draft `d`
pub record Continues (d : Draft) (lines : List (List ℕ)) (s : Script) : Type 0 where
  pub es : List Event
  pub later : List (List Event)
  pub script : s ≡ script_with d es later
  pub spelt : lines ≡ rest_lines (length d.done) es later
  pub whole : Whole d.version d.cpus (callers_with d es later)

-- ---- lines that are read as a script are the script's lines

few_cpus : (version cpus : ℕ) → cpus ≤ most_cpus version → cpus ≤ 256
few_cpus version cpus few = grind arith

event_after : (d : Draft) (e : Event) (next : Next) → after d (SaysEvent e) ≡ Ok next
    → (is_bad_fork d e ≡ false) × (is_past_limits d e ≡ false) × (GoesOn (with_event d e) ≡ next)
event_after d e next is =
    elim (cases_Bool (is_bad_fork d e)) [
      | inl bad ↦ let none = rw bad at is in absurd cc
      | inr good ↦
          elim (cases_Bool (is_past_limits d e)) [
            | inl past ↦ let none = rw (good, past) at is in absurd cc
            | inr within ↦ (
              good,
              within,
              same_ok {E = FaultKind} (GoesOn (with_event d e)) next
                  (rw (good, within) at is),
            )
          ]
    ]

block_after : (d : Draft) (c : ℕ) (next : Next) → after d (SaysCaller c) ≡ Ok next
    → (c ≡ length (blocks_of d)) × (times_forked (blocks_of d) c ≡ 0 → ⊥) × (GoesOn (with_block d) ≡ next)
block_after d c next is =
    elim (cases_Bool (c == length (blocks_of d))) [
      | inr other ↦ let none = rw other at is in absurd cc
      | inl same ↦
          elim (cases_Bool (times_forked (blocks_of d) c == 0)) [
            | inl zero_is ↦ let none = rw (same, zero_is) at is in absurd cc
            | inr some ↦ (
              eqb-true _ _ same,
              eqb-false _ _ some,
              same_ok {E = FaultKind} (GoesOn (with_block d)) next (rw (same, some) at is),
            )
          ]
    ]

end_after : (d : Draft) (next : Next) → after d SaysEnd ≡ Ok next → (has_orphan d ≡ false) × (Ends ≡ next)
end_after d next is =
    elim (cases_Bool (has_orphan d)) [
      | inl orphan ↦ let none = rw orphan at is in absurd cc
      | inr whole ↦ (whole, same_ok {E = FaultKind} Ends next (rw whole at is))
    ]

-- if reading the lines `more` after a draft without a fault gives the script s, then `more` are the lines of s after
-- the draft
abbrev After : List (List ℕ) → Script → Type 0
After more s = (d : Draft) (n : ℕ) → Fine d → script_from d n more ≡ Ok s → Continues d more s

event_continues : (d : Draft) (e : Event) (more : List (List ℕ)) (s : Script) → Continues (with_event d e) more s
    → Continues d (said_line (SaysEvent e) ∷ more) s
event_continues d e more s rest =
    let same = append_assoc d.events (e ∷ []) rest.es in
    record {
      es = e ∷ rest.es;
      later = rest.later;
      script = rw same at rest.script;
      spelt = ap (λ (lines : List (List ℕ)). said_line (SaysEvent e) ∷ lines) rest.spelt;
      whole = rw same at rest.whole;
    }

length_blocks : (d : Draft) → length (blocks_of d) ≡ suc (length d.done)
length_blocks d = length-append d.done (d.events ∷ []) ∙ omega arith

block_continues : (d : Draft) (more : List (List ℕ)) (s : Script) → Continues (with_block d) more s
    → Continues d (said_line (SaysCaller (length (blocks_of d))) ∷ more) s
block_continues d more s rest =
    let same : callers_with (with_block d) rest.es rest.later ≡ callers_with d [] (rest.es ∷ rest.later) =
    append_assoc d.done (d.events ∷ []) (rest.es ∷ rest.later)
    ∙ ap (λ (events : List Event). d.done ++ events ∷ rest.es ∷ rest.later) (sym (append-nil d.events)) in
    let n = length_blocks d in
    record {
      es = [];
      later = rest.es ∷ rest.later;
      script = rest.script ∙ ap (λ (callers : List (List Event)).
          record { version = d.version; cpus = d.cpus; callers = callers }) same;
      spelt = ap (λ (lines : List (List ℕ)). said_line (SaysCaller (length (blocks_of d))) ∷ lines) rest.spelt
          ∙ ap (λ (k : ℕ). said_line (SaysCaller k) ∷ rest_lines k rest.es rest.later) n;
      whole = subst (Whole d.version d.cpus) same rest.whole;
    }

end_continues : (d : Draft) (more : List (List ℕ)) (s : Script) → Fine d → has_orphan d ≡ false → more ≡ [] ∷ [] →
    script_of_draft d ≡ s
    → Continues d (said_line SaysEnd ∷ more) s
end_continues d more s fine whole none is =
    let same = append-nil d.events in
    record {
      es = [];
      later = [];
      script = rw same (sym is);
      spelt = rw none refl;
      whole = rw same (end_whole d fine whole);
    }

by_said : (d : Draft) (n : ℕ) (more : List (List ℕ)) (s : Script) (what : Said) (next : Next) → Fine d →
    SaidInRange d.version d.cpus what
    → after d what ≡ Ok next
    → by_next (λ later. script_from later (n + 1) more)
    (nothing_after (n + 1) more >>= λ none. Ok (script_of_draft d)) next ≡ Ok s
    → After more s → Continues d (said_line what ∷ more) s
by_said d n more s (SaysEvent e) next fine range is follows following =
    let a = event_after d e next is in
    event_continues d e more s (following (with_event d e) (n + 1) (event_fine d e fine range a.0 a.1)
    (rw (← a.2) at follows))
by_said d n more s (SaysCaller c) next fine range is follows following =
    let a = block_after d c next is in
    let few : length (blocks_of d) < 64 = rw a.0 at range in
    let forked : times_forked (blocks_of d) (length (blocks_of d)) ≡ 0 → ⊥ = rw a.0 at a.1 in
    subst (λ k. Continues d (said_line (SaysCaller k) ∷ more) s) (sym a.0)
    (block_continues d more s (following (with_block d) (n + 1) (block_fine d fine few forked) (rw (← a.2) at follows)))
by_said d n more s SaysEnd next fine range is follows following =
    let a = end_after d next is in
    let step = step_ok (nothing_after (n + 1) more) (λ none. Ok (script_of_draft d)) s (rw (← a.1) at follows) in
    end_continues d more s fine a.0 (nothing_takes (n + 1) more step.0 step.1)
    (same_ok {E = ScriptFault} (script_of_draft d) s step.2)

pub from_takes : (d : Draft) (n : ℕ) (lines : List (List ℕ)) (s : Script) → Fine d → script_from d n lines ≡ Ok s →
    Continues d lines s
unfolding script_from
from_takes d n [] s fine e = absurd cc
from_takes d n (line ∷ more) s fine e =
    let next = step_ok (at_line n (line_of (line ∷ more) >>= λ whole. said d.version d.cpus whole >>= after d)) _ s e in
    let whole = step_ok (line_of (line ∷ more)) (λ whole. said d.version d.cpus whole >>= after d) next.0
    (at_ok n _ next.0 next.1) in
    let what = step_ok (said d.version d.cpus whole.0) (after d) next.0 whole.2 in
    let says = said_takes d.version d.cpus whole.0 what.0 (few_cpus d.version d.cpus fine.cpus.1) what.1 in
    let is = line_takes line more whole.0 whole.1 ∙ says.0 in
    subst (λ l. Continues d (l ∷ more) s) (sym is)
    (by_said d n more s what.0 next.0 fine says.1 what.2 next.2 (λ d' m fine' e'. from_takes d' m more s fine' e'))

-- ---- reading the lines of a script gives the script

first_after : (lines : List (List ℕ)) (line : List ℕ) (more : List (List ℕ)) → HasFirst (lines ++ line ∷ more)
first_after [] line more = record { first = line; others = more; is = refl }
first_after (l ∷ lines) line more = record { first = l; others = lines ++ line ∷ more; is = refl }

-- if the content `what` may come after the draft `d`, reading its line leads to the next draft, or to the end of the
-- script
step_again : (d : Draft) (n : ℕ) (what : Said) (more : List (List ℕ)) (next : Next) → d.cpus ≤ 256 →
    SaidInRange d.version d.cpus what
    → HasFirst more → after d what ≡ Ok next
    → script_from d n (said_line what ∷ more)
    ≡ by_next (λ later. script_from later (n + 1) more)
    (nothing_after (n + 1) more >>= λ none. Ok (script_of_draft d)) next
unfolding script_from
step_again d n what more next few range some is =
    rw (
      line_again (said_line what) more some (printable_said d.version d.cpus what few range),
      said_again d.version d.cpus what few range,
      is,
    ) refl

event_next : (d : Draft) (e : Event) → EventFits d e → after d (SaysEvent e) ≡ Ok (GoesOn (with_event d e))
event_next d e fits = rw (fits.fork, fits.limits) refl

-- the lines of the events `es`
abbrev event_lines : List Event → List (List ℕ)
event_lines es = map (λ e. said_line (SaysEvent e)) es

abbrev with_events : Draft → List Event → Draft
with_events d es = record d { events = d.events ++ es }

-- reading the lines of the events `es` after the draft `d` leads to the draft with these events added
events_again : (d : Draft) (n : ℕ) (es : List Event) (later : List (List Event)) (line : List ℕ)
    (more : List (List ℕ)) (s : Script)
    → d.cpus ≤ 256 → Whole d.version d.cpus (callers_with d es later)
    → ((m : ℕ) → script_from (with_events d es) m (line ∷ more) ≡ Ok s) →
    script_from d n (event_lines es ++ line ∷ more) ≡ Ok s
events_again d n [] later line more s few whole ends =
    let same = append-nil d.events in
    rw same at (ends n)
events_again d n (e ∷ es) later line more s few whole ends =
    let fits = whole_event d e es later whole in
    let same = append_assoc d.events (e ∷ []) es in
    step_again d n (SaysEvent e) (event_lines es ++ line ∷ more) (GoesOn (with_event d e)) few fits.range
    (first_after (event_lines es) line more) (event_next d e fits)
    ∙ events_again (with_event d e) (n + 1) es later line more s few (rw same whole) (λ m. rw same (ends m))

-- the lines that follow the events of block `c`
abbrev tail_lines : ℕ → List (List Event) → List (List ℕ)
tail_lines c [] = codes "end" ∷ [] ∷ []
tail_lines c (es ∷ later) = said_line (SaysCaller (suc c)) ∷ rest_lines (suc c) es later

rest_split : (c : ℕ) (es : List Event) (later : List (List Event)) → rest_lines c es later ≡ event_lines es ++
    tail_lines c later
rest_split c [] [] = refl
rest_split c [] (next ∷ later) = refl
rest_split c (e ∷ es) later = ap (λ (lines : List (List ℕ)). said_line (SaysEvent e) ∷ lines) (rest_split c es later)

end_again : (d : Draft) (m : ℕ) → d.cpus ≤ 256 → Whole d.version d.cpus (blocks_of d)
    → script_from d m (codes "end" ∷ [] ∷ []) ≡ Ok (script_of_draft d)
end_again d m few whole =
    step_again d m SaysEnd ([] ∷ []) Ends few tt (record { first = []; others = []; is = refl })
    (rw (whole_end d whole) refl)

block_next : (d : Draft) → times_forked (blocks_of d) (length (blocks_of d)) ≡ 1
    → after d (SaysCaller (suc (length d.done))) ≡ Ok (GoesOn (with_block d))
block_next d forked = subst (λ k. after d (SaysCaller k) ≡ Ok (GoesOn (with_block d))) (length_blocks d)
    (rw (eq-eqb (length (blocks_of d)) (length (blocks_of d)) refl, forked) refl)

first_rest : (c : ℕ) (es : List Event) (later : List (List Event)) → HasFirst (rest_lines c es later)
first_rest c es later = first_after (map spaced
    ((map event_fields es ++ block_lines (suc c) later) ++ (codes "end" ∷ []) ∷ [])) [] []

pub from_again : (d : Draft) (n : ℕ) (es : List Event) (later : List (List Event)) → d.cpus ≤ 256
    → Whole d.version d.cpus (callers_with d es later)
    → script_from d n (rest_lines (length d.done) es later) ≡ Ok (script_with d es later)
from_again d n es [] few whole =
    ap (script_from d n) (rest_split (length d.done) es [])
    ∙ events_again d n es [] (codes "end") ([] ∷ []) (script_with d es []) few whole
    (λ m. end_again (with_events d es) m few whole)
from_again d n es (next ∷ later) few whole =
    let b = with_events d es in
    let c = length d.done in
    let same : callers_with (with_block b) next later ≡ callers_with d es (next ∷ later) =
    append_assoc d.done ((d.events ++ es) ∷ []) (next ∷ later) in
    let whole_later : Whole d.version d.cpus (callers_with (with_block b) next later) = rw same whole in
    let fits = whole_block b next later whole_later in
    let long = length_blocks b in
    let more = rest_lines (suc c) next later in
    let on = λ (m : ℕ). subst (λ k. script_from (with_block b) m (rest_lines k next later) ≡ Ok
    (script_with (with_block b) next later)) long
    (from_again (with_block b) m next later few whole_later) in
    ap (script_from d n) (rest_split c es (next ∷ later))
    ∙ events_again d n es (next ∷ later) (said_line (SaysCaller (suc c))) more (script_with d es (next ∷ later)) few
    whole (λ m.
    step_again b m (SaysCaller (suc c)) more (GoesOn (with_block b)) few (omega (arith, fits.0))
    (first_rest (suc c) next later) (block_next b fits.1)
    ∙ on (m + 1) ∙ ap (λ (callers : List (List Event)). Ok
    (record { version = d.version; cpus = d.cpus; callers = callers })) same)
