-- How more text changes a draft (the script so far). If no event forks, the script can end at once. Later lines only
-- add events and blocks.
use Rattle.std.proofs.Common.{◌≡◌, ℕ, ◌+◌, ◌<◌, ◌≤◌, ◌==◌, ◌⊎◌, ltb, inl, inr, false, Some, None, Result, Ok, Err, List, [], ◌∷◌, ◌++◌, append_assoc, append-nil, length, refl, sym, ap, subst, ◌∙◌, arith}
use Rattle.std.specs.List.{AllByRecursion, list_any}
use Rattle.std.proofs.lemmas.Bool.{cases_Bool, le-ltb, ltb-false, ltb-true, or_from}
use Rattle.std.proofs.lemmas.List.{length-append}
use Rattle.key_names.specs.declared.events.Event.{Event}
use Rattle.key_names.specs.declared.events.Event.TheVariants.{Fork}
use Rattle.key_names.specs.declared.faults.FaultKind.{FaultKind}
use Rattle.key_names.specs.declared.faults.FaultKind.TheVariants.{Unfinished}
use Rattle.key_names.specs.declared.faults.ScriptFault.{ScriptFault}
use Rattle.key_names.specs.Texts.ScriptGrammar.{IsScript, Script, WellFormed, times_forked}
use Rattle.key_names.specs.Texts.ScriptFaults.{◌>>=◌, Draft, Next, GoesOn, Ends, Said, SaysEvent, SaysCaller, SaysEnd, after, at_line, after_line, blocks_of, by_next, fault_in, first_fault, has_orphan, is_bad_fork, is_fork_from, is_past_limits, is_unprintable, line_of, nothing_after, parts, said, script_from, script_of, script_of_draft, script_of_lines, with_block, with_event}
use Rattle.key_names.proofs.Lists.Each.{each_left}
use Rattle.key_names.proofs.Script.Drafts.{Whole, forked_low, no_orphan}
use Rattle.key_names.proofs.Script.FieldReaders.{same_ok, step_ok}
use Rattle.key_names.proofs.Script.ScriptBodies.{at_ok, script_with}
use Rattle.key_names.proofs.Script.ScriptTexts.{lines_take, script_takes}
use Rattle.event_script.specs.Progress.{EndsWith, Extends, ForkNone, GoesOnFrom, IsFaulty, IsLone, IsViewOf, end_line}
use Rattle.event_script.specs.declared.progress.DraftView.{DraftView}
use Rattle.event_script.specs.Tally.{fork_in}

-- ---- the line `end`

no_fork_from : (n : ℕ) (event : Event) → fork_in event ≡ None → is_fork_from n event ≡ false
no_fork_from n (Fork child) none = absurd cc
no_fork_from n event none = refl

none_from : (n : ℕ) (events : List Event) → ForkNone events → list_any (is_fork_from n) events ≡ false
none_from n [] none = refl
none_from n (event ∷ events) none = or_from _ _ (no_fork_from n event none.0) (none_from n events none.1)

no_block_from : (n : ℕ) (blocks : List (List Event)) → AllByRecursion ForkNone blocks
    → list_any (list_any (is_fork_from n)) blocks ≡ false
no_block_from n [] none = refl
no_block_from n (events ∷ blocks) none = or_from _ _ (none_from n events none.0) (no_block_from n blocks none.1)

pub lone_blocks : (d : Draft) → IsLone d → AllByRecursion ForkNone (blocks_of d)
lone_blocks d lone = rw lone.first (lone.forks, tt)

pub no_orphan_yet : (d : Draft) → IsLone d → has_orphan d ≡ false
no_orphan_yet d lone = no_block_from _ (blocks_of d) (lone_blocks d lone)

end_step : (d : Draft) (n : ℕ) → has_orphan d ≡ false → script_from d n (parts 10 end_line) ≡ Ok (script_of_draft d)
unfolding script_from
end_step d n none = rw none refl

module _ (text : List ℕ) (d : Draft) (n : ℕ) (goes : GoesOnFrom text d n)
    (none : AllByRecursion ForkNone (blocks_of d)) where
  -- `text` with the line `end` after it is the script of the draft `d`
  pub closes : script_of_lines (parts 10 (text ++ end_line)) ≡ Ok (script_of_draft d)
  closes = goes end_line ∙ end_step d n (no_block_from _ (blocks_of d) none)

  -- the draft meets all conditions of a well-formed script, except the limit on the length of its text
  pub is_whole : Whole d.version d.cpus (blocks_of d)
  is_whole = (lines_take (parts 10 (text ++ end_line)) (script_of_draft d) closes).whole

  two_blocks : (events : List Event) (done : List (List Event)) → d.done ≡ events ∷ done → ⊥
  two_blocks events done is =
      let long : 1 < length (blocks_of d) = omega (arith, ap length is, length-append d.done (d.events ∷ [])) in
      let once = is_whole.forked 1 ∙ forked_low 1 (length (blocks_of d)) (omega arith) long in
      let never = no_orphan 0 1 (blocks_of d) (omega arith) (no_block_from 0 (blocks_of d) none) in
      absurd (omega (arith, once, never))

  -- if no event forks, no block is finished: the draft has only one block
  pub one_block : d.done ≡ []
  one_block = by_done d.done refl
    where
      by_done : (done : List (List Event)) → d.done ≡ done → d.done ≡ []
      by_done [] is = is
      by_done (events ∷ done) is = absurd (two_blocks events done is)

  module _ (room : length text + 4 ≤ 16777216) where
    pub closed : script_of (text ++ end_line) ≡ Ok (script_of_draft d)
    unfolding script_of
    closed =
        let short : ltb 16777216 (length (text ++ end_line)) ≡ false =
        le-ltb _ _ (omega (arith, length-append text end_line)) in
        rw short closes

    pub closed_script : IsScript (script_of_draft d) (text ++ end_line)
    closed_script = script_takes (text ++ end_line) (script_of_draft d) closed

    pub well_formed : WellFormed (script_of_draft d)
    well_formed = closed_script.well_formed

-- ---- the text of an ended script

ended_lines : (text : List ℕ) (d : Draft) (n : ℕ) → EndsWith text d n
    → script_of_lines (parts 10 text) ≡ Ok (script_of_draft d)
ended_lines text d n ends = ap (λ x. script_of_lines (parts 10 x)) (sym (append-nil text)) ∙ ends []

pub ended_script : (text : List ℕ) (d : Draft) (n : ℕ) → EndsWith text d n → length text ≤ 16777216
    → script_of text ≡ Ok (script_of_draft d)
unfolding script_of
ended_script text d n ends short =
    let few : ltb 16777216 (length text) ≡ false = le-ltb _ _ short in
    rw few (ended_lines text d n ends)

pub ended_is : (text : List ℕ) (d : Draft) (n : ℕ) → EndsWith text d n → length text ≤ 16777216
    → IsScript (script_of_draft d) text
ended_is text d n ends short = script_takes text (script_of_draft d) (ended_script text d n ends short)

-- ---- A text with a fault

pub faulty_text : (text : List ℕ) (fault : ScriptFault) → IsFaulty text fault → script_of text ≡ Err fault
unfolding script_of
faulty_text text fault is =
    elim (cases_Bool (ltb 16777216 (length text))) [
      | inl long ↦ rw (long, is.long (ltb-true _ _ long)) refl
      | inr short ↦
          rw short (ap (λ x. script_of_lines (parts 10 x)) (sym (append-nil text)) ∙ is.short (ltb-false _ _ short) [])
    ]

pub faulty_first : (text : List ℕ) (fault : ScriptFault) → IsFaulty text fault → first_fault text ≡ Some fault
faulty_first text fault is = ap fault_in (faulty_text text fault is)

-- ---- A view of a draft: what a reader shows of it

none_done : (done : List (List Event)) → 0 ≡ length done → done ≡ []
none_done [] is = refl
none_done (events ∷ done) is = absurd (omega (arith, is))

pub no_blocks : (view : DraftView) (d : Draft) → IsViewOf view d → view.blocks ≡ 0 → d.done ≡ []
no_blocks view d seen none = none_done d.done (sym none ∙ seen.blocks)

-- if the view of a draft has no finished block and no event that forks, `IsLone` holds for the draft
pub lone_view : (view : DraftView) (d : Draft) → IsViewOf view d → view.blocks ≡ 0 → ForkNone view.events.now → IsLone d
lone_view view d seen none forks = record {
  first = no_blocks view d seen none;
  forks = subst ForkNone seen.events forks;
}

-- ---- later lines add to the blocks of a draft

-- The script `s` begins with the blocks of the draft `d`. In `s` the last of these blocks may have more events, `es`,
-- and more blocks, `later`, may follow.
pub record Begins (d : Draft) (s : Script) : Type 0 where
  pub es : List Event
  pub later : List (List Event)
  pub script : s ≡ script_with d es later

-- `next` is the draft `d` with one more event, `d` with a new block, or the end of the script
abbrev pub Follows : Draft → Next → Type 0
Follows d next = ((e : Event) × (GoesOn (with_event d e) ≡ next)) ⊎ ((GoesOn (with_block d) ≡ next) ⊎ (Ends ≡ next))

event_follows : (d : Draft) (e : Event) (next : Next) → after d (SaysEvent e) ≡ Ok next → Follows d next
event_follows d e next is =
    elim (cases_Bool (is_bad_fork d e)) [
      | inl bad ↦ let none = rw bad at is in absurd cc
      | inr good ↦
          elim (cases_Bool (is_past_limits d e)) [
            | inl past ↦ let none = rw (good, past) at is in absurd cc
            | inr within ↦ inl (e, same_ok {E = FaultKind} (GoesOn (with_event d e)) next (rw (good, within) at is))
          ]
    ]

block_follows : (d : Draft) (c : ℕ) (next : Next) → after d (SaysCaller c) ≡ Ok next → Follows d next
block_follows d c next is =
    elim (cases_Bool (c == length (blocks_of d))) [
      | inr other ↦ let none = rw other at is in absurd cc
      | inl same ↦
          elim (cases_Bool (times_forked (blocks_of d) c == 0)) [
            | inl zero_is ↦ let none = rw (same, zero_is) at is in absurd cc
            | inr some ↦ inr (inl (same_ok {E = FaultKind} (GoesOn (with_block d)) next (rw (same, some) at is)))
          ]
    ]

end_follows : (d : Draft) (next : Next) → after d SaysEnd ≡ Ok next → Follows d next
end_follows d next is =
    elim (cases_Bool (has_orphan d)) [
      | inl orphan ↦ let none = rw orphan at is in absurd cc
      | inr whole ↦ inr (inr (same_ok {E = FaultKind} Ends next (rw whole at is)))
    ]

pub follows : (d : Draft) (what : Said) (next : Next) → after d what ≡ Ok next → Follows d next
follows d (SaysEvent e) next is = event_follows d e next is
follows d (SaysCaller c) next is = block_follows d c next is
follows d SaysEnd next is = end_follows d next is

event_begins : (d : Draft) (e : Event) (s : Script) → Begins (with_event d e) s → Begins d s
event_begins d e s rest =
    let same = append_assoc d.events (e ∷ []) rest.es in
    record { es = e ∷ rest.es; later = rest.later; script = rw same at rest.script }

block_begins : (d : Draft) (s : Script) → Begins (with_block d) s → Begins d s
block_begins d s rest = record {
  es = [];
  later = rest.es ∷ rest.later;
  script = rest.script ∙ ap (λ (callers : List (List Event)).
      record { version = d.version; cpus = d.cpus; callers = callers })
      (append_assoc d.done (d.events ∷ []) (rest.es ∷ rest.later)
      ∙ ap (λ (events : List Event). d.done ++ events ∷ rest.es ∷ rest.later) (sym (append-nil d.events)));
}

end_begins : (d : Draft) (s : Script) → script_of_draft d ≡ s → Begins d s
end_begins d s is = record { es = []; later = []; script = rw (append-nil d.events) (sym is) }

by_next_begins : (d : Draft) (n : ℕ) (more : List (List ℕ)) (s : Script) (next : Next) → Follows d next
    → by_next (λ later. script_from later (n + 1) more)
    (nothing_after (n + 1) more >>= λ none. Ok (script_of_draft d)) next ≡ Ok s
    → ((later : Draft) → script_from later (n + 1) more ≡ Ok s → Begins later s) → Begins d s
by_next_begins d n more s next (inl event) is following =
    event_begins d event.0 s (following (with_event d event.0) (rw (← event.1) at is))
by_next_begins d n more s next (inr (inl block)) is following =
    block_begins d s (following (with_block d) (rw (← block) at is))
by_next_begins d n more s next (inr (inr ends)) is following =
    let step = step_ok (nothing_after (n + 1) more) (λ none. Ok (script_of_draft d)) s (rw (← ends) at is) in
    end_begins d s (same_ok {E = ScriptFault} (script_of_draft d) s step.2)

from_begins : (d : Draft) (n : ℕ) (lines : List (List ℕ)) (s : Script) → script_from d n lines ≡ Ok s → Begins d s
unfolding script_from
from_begins d n [] s e = absurd cc
from_begins d n (line ∷ more) s e =
    let next = step_ok (at_line n (line_of (line ∷ more) >>= λ whole. said d.version d.cpus whole >>= after d)) _ s e in
    let whole = step_ok (line_of (line ∷ more)) (λ whole. said d.version d.cpus whole >>= after d) next.0
    (at_ok n _ next.0 next.1) in
    let what = step_ok (said d.version d.cpus whole.0) (after d) next.0 whole.2 in
    by_next_begins d n more s next.0 (follows d what.0 next.0 what.2) next.2
    (λ later e'. from_begins later (n + 1) more s e')

-- if `d` is the draft after `text`, and `text ++ more` is the script `s`, then `s` begins with the blocks of `d`
pub begins : (text more : List ℕ) (d : Draft) (n : ℕ) (s : Script) → GoesOnFrom text d n
    → script_of_lines (parts 10 (text ++ more)) ≡ Ok s → Begins d s
begins text more d n s goes is = from_begins d n (parts 10 more) s (sym (goes more) ∙ is)

pub script_begins : (text more : List ℕ) (d : Draft) (n : ℕ) (s : Script) → GoesOnFrom text d n
    → script_of (text ++ more) ≡ Ok s → Begins d s
unfolding script_of
script_begins text more d n s goes is =
    elim (cases_Bool (ltb 16777216 (length (text ++ more)))) [
      | inl long ↦ let none = rw long at is in absurd cc
      | inr short ↦ begins text more d n s goes (rw short at is)
    ]

-- ---- a later draft of one block

only : {A : Type 0} (xs ys : List A) (x y : A) → x ∷ [] ≡ xs ++ y ∷ ys → (xs ≡ []) × (x ≡ y)
only [] ys x y is = (refl, cc)
only (z ∷ zs) ys x y is = absurd (omega (arith, ap length is, length-append zs (y ∷ ys)))

pub extended : (d later : Draft) → Begins d (script_of_draft later) → later.done ≡ [] → Extends d later
extended d later begun one =
    let blocks : blocks_of later ≡ d.done ++ (d.events ++ begun.es) ∷ begun.later =
    ap (λ (s : Script). s.callers) begun.script in
    let both = only d.done begun.later later.events (d.events ++ begun.es) (rw one at blocks) in
    record {
      version = ap (λ (s : Script). s.version) begun.script;
      cpus = ap (λ (s : Script). s.cpus) begun.script;
      done = both.0;
      more = begun.es;
      events = both.1;
    }

-- if `later`, the draft after `more`, has one block and no forks, it only adds events to `d`, the draft before `more`
pub extends : (text more : List ℕ) (d later : Draft) (n m : ℕ) → GoesOnFrom text d n
    → GoesOnFrom (text ++ more) later m → IsLone later → Extends d later
extends text more d later n m goes goes_later lone =
    let is = closes (text ++ more) later m goes_later (lone_blocks later lone) in
    extended d later
    (begins text (more ++ end_line) d n (script_of_draft later) goes
    (ap (λ x. script_of_lines (parts 10 x)) (sym (append_assoc text more end_line)) ∙ is)) lone.first

-- if `more` ends the script, and the script has one block, `more` adds only events to `d`, the draft before `more`
pub extends_ended : (text more : List ℕ) (d later : Draft) (n m : ℕ) → GoesOnFrom text d n
    → EndsWith (text ++ more) later m → later.done ≡ [] → Extends d later
extends_ended text more d later n m goes ends one =
    extended d later (begins text more d n (script_of_draft later) goes (ended_lines (text ++ more) later m ends)) one

-- if `later` extends `d`, has one block and forks no caller, then `d` has one block and forks no caller
pub was_lone : (d later : Draft) → Extends d later → IsLone later → IsLone d
was_lone d later e lone = record {
  first = e.done;
  forks = each_left (λ event. fork_in event ≡ None) d.events e.more (subst ForkNone e.events lone.forks);
}

-- ---- a text has one draft

abbrev pub failed : ScriptFault → Result Script ScriptFault
failed fault = Err fault

pub same_fault : (f g : ScriptFault) → failed f ≡ failed g → f ≡ g
same_fault f g e = cc

pub unfinished : (d : Draft) (n : ℕ) → script_from d n ([] ∷ []) ≡ Err (record { line = n; kind = Unfinished })
unfolding script_from
unfinished d n = refl

pub same_number : (text : List ℕ) (d other : Draft) (n m : ℕ) → GoesOnFrom text d n → GoesOnFrom text other m → n ≡ m
same_number text d other n m goes goes_other =
    ap (λ (f : ScriptFault). f.line) (same_fault _ _
    (sym (unfinished d n) ∙ sym (goes []) ∙ goes_other [] ∙ unfinished other m))

end_given : (d : Draft) (n : ℕ) (s : Script) → script_from d n (parts 10 end_line) ≡ Ok s → script_of_draft d ≡ s
unfolding script_from
end_given d n s is =
    elim (cases_Bool (has_orphan d)) [
      | inl orphan ↦ let none = rw orphan at is in absurd cc
      | inr whole ↦ same_ok {E = ScriptFault} (script_of_draft d) s (rw whole at is)
    ]

same_last : {A : Type 0} (xs ys : List A) (x y : A) → xs ++ x ∷ [] ≡ ys ++ y ∷ [] → (xs ≡ ys) × (x ≡ y)
same_last [] ys x y is = let both = only ys [] x y is in (sym both.0, both.1)
same_last (z ∷ xs) [] x y is = absurd (omega (arith, ap length is, length-append xs (x ∷ [])))
same_last {A} (z ∷ xs) (w ∷ ys) x y is =
    let rest : xs ++ x ∷ [] ≡ ys ++ y ∷ [] = cc in
    let first : z ≡ w = cc in
    let both = same_last xs ys x y rest in
    (ap (λ (a : A). a ∷ xs) first ∙ ap (λ (rest : List A). w ∷ rest) both.0, both.1)

same_parts : (d other : Draft) → d.version ≡ other.version → d.cpus ≡ other.cpus → d.done ≡ other.done
    → d.events ≡ other.events → d ≡ other
same_parts d other version cpus done events =
    ap (λ (v : ℕ). record { version = v; cpus = d.cpus; done = d.done; events = d.events }) version
    ∙ ap (λ (c : ℕ). record { version = other.version; cpus = c; done = d.done; events = d.events }) cpus
    ∙ ap (λ (blocks : List (List Event)).
    record { version = other.version; cpus = other.cpus; done = blocks; events = d.events }) done
    ∙ ap (λ (es : List Event). record { version = other.version; cpus = other.cpus; done = other.done; events = es }) events

pub same_script : (d other : Draft) → script_of_draft d ≡ script_of_draft other → d ≡ other
same_script d other is =
    let both = same_last d.done other.done d.events other.events (ap (λ (s : Script). s.callers) is) in
    same_parts d other (ap (λ (s : Script). s.version) is) (ap (λ (s : Script). s.cpus) is) both.0 both.1

-- if `d` is a draft of `text`, and each caller that `d` forks has a block, then `text` has no other draft
pub same_open : (text : List ℕ) (d other : Draft) (n m : ℕ) → GoesOnFrom text d n → GoesOnFrom text other m
    → has_orphan d ≡ false → other ≡ d
same_open text d other n m goes goes_other none =
    same_script other d
    (end_given other m (script_of_draft d) (sym (goes_other end_line) ∙ goes end_line ∙ end_step d n none))

pub same_draft : (text : List ℕ) (d other : Draft) (n m : ℕ) → GoesOnFrom text d n → GoesOnFrom text other m
    → IsLone d → other ≡ d
same_draft text d other n m goes goes_other lone =
    same_open text d other n m goes goes_other (no_orphan_yet d lone)
