-- One more whole line after a draft without forks adds an event to the draft, ends the script, or has a fault.
use Rattle.std.proofs.Common.{◌≡◌, ℕ, ◌+◌, inl, inr, false, None, Result, Ok, Err, List, [], ◌∷◌, ◌++◌, append_assoc, length, refl, sym, ap, subst, ◌∙◌, arith}
use Rattle.std.specs.List.{list_any}
use Rattle.std.specs.Prelude.{codes, if◌then◌else◌}
use Rattle.std.proofs.lemmas.List.{length-append}
use Rattle.key_names.specs.declared.events.Event.{Event}
use Rattle.key_names.specs.declared.faults.FaultKind.{FaultKind}
use Rattle.key_names.specs.declared.faults.FaultKind.TheVariants.{BadByte, UnknownWord}
use Rattle.key_names.specs.declared.faults.ScriptFault.{ScriptFault}
use Rattle.key_names.specs.Texts.ScriptGrammar.{Script}
use Rattle.key_names.specs.Texts.ScriptFaults.{◌>>=◌, Draft, Next, GoesOn, Ends, at_line, after_line, blocks_of, by_next, has_orphan, is_unprintable, nothing_after, parts, said, after, script_from, script_of_draft, script_of_lines, with_block, with_event}
use Rattle.key_names.proofs.Lists.Each.{each_append, each_more}
use Rattle.key_names.proofs.Script.FieldReaders.{same_ok, step_ok}
use Rattle.key_names.proofs.Script.Parts.{Lacks, first_part, parts_at}
use Rattle.event_script.specs.Progress.{EndsWith, FailsWith, ForkNone, GoesOnFrom, IsLone}
use Rattle.event_script.specs.Tally.{fork_in}
use Rattle.event_script.proofs.GoingOn.{Follows, follows, lone_blocks, no_orphan_yet, one_block, same_fault, same_number, same_open, same_script, unfinished}

-- ---- The result of adding a line to a draft

pub unknown : (d : Draft) (n : ℕ) → script_from d n (parts 10 (codes "x\n")) ≡ Err (record { line = n; kind = UnknownWord })
unfolding script_from
unknown d n = refl

abbrev line_result : Draft → List ℕ → Result Next FaultKind
line_result d line = (if list_any is_unprintable line then Err BadByte else Ok line) >>= after_line d

abbrev goes_after : Draft → ℕ → Result Next FaultKind → List ℕ → Result Script ScriptFault
goes_after d n r later = at_line n r >>= by_next (λ next. script_from next (n + 1) (parts 10 later))
    (nothing_after (n + 1) (parts 10 later) >>= λ none. Ok (script_of_draft d))

line_goes : (d : Draft) (n : ℕ) (line later : List ℕ) → script_from d n (line ∷ parts 10 later)
    ≡ goes_after d n (line_result d line) later
unfolding script_from
line_goes d n line later = rw (first_part 10 later).is refl

result_follows : (d : Draft) (line : List ℕ) (next : Next) → line_result d line ≡ Ok next → Follows d next
result_follows d line next is =
    let whole = step_ok (if list_any is_unprintable line then Err BadByte else Ok line) (after_line d) next is in
    let what = step_ok (said d.version d.cpus whole.0) (after d) next whole.2 in
    follows d what.0 next what.2

faulty_result : (d : Draft) (n : ℕ) (fault : ScriptFault) (r : Result Next FaultKind)
    → ((later : List ℕ) → goes_after d n r later ≡ Err fault) → fault.line ≡ n
faulty_result d n fault (Err kind) fails =
    sym (ap (λ (f : ScriptFault). f.line) (same_fault (record { line = n; kind = kind }) fault (fails [])))
faulty_result d n fault (Ok Ends) fails = let none = fails [] in absurd cc
faulty_result d n fault (Ok (GoesOn next)) fails =
    let one = sym (unfinished next (n + 1)) ∙ fails [] in
    let other = sym (unknown next (n + 1)) ∙ fails (codes "x\n") in
    let kinds = ap (λ (f : ScriptFault). f.kind) (same_fault _ _ (one ∙ sym other)) in
    absurd cc

-- the result `r` of a line is a draft, `next`, that more lines may follow
pub record Continues (d : Draft) (r : Result Next FaultKind) : Type 0 where
  pub next : Draft
  pub is : r ≡ Ok (GoesOn next)

open_result : (d later : Draft) (n m : ℕ) (r : Result Next FaultKind)
    → ((more : List ℕ) → goes_after d n r more ≡ script_from later m (parts 10 more)) → Continues d r
open_result d later n m (Err kind) goes =
    let one = goes [] ∙ unfinished later m in
    let other = goes (codes "x\n") ∙ unknown later m in
    let kinds = ap (λ (f : ScriptFault). f.kind) (same_fault _ _ (sym one ∙ other)) in
    absurd cc
open_result d later n m (Ok Ends) goes = let none = goes [] ∙ unfinished later m in absurd cc
open_result d later n m (Ok (GoesOn next)) goes = record { next = next; is = refl }

ended_result : (d later : Draft) (n m : ℕ) (r : Result Next FaultKind)
    → ((more : List ℕ) → goes_after d n r more
    ≡ (nothing_after m (parts 10 more) >>= λ none. Ok (script_of_draft later)))
    → (script_of_draft d ≡ script_of_draft later) × (n + 1 ≡ m)
ended_result d later n m (Err kind) ends = let none = ends [] in absurd cc
ended_result d later n m (Ok Ends) ends = (
  same_ok {E = ScriptFault} (script_of_draft d) (script_of_draft later) (ends []),
  ap (λ (f : ScriptFault). f.line) (same_fault (record { line = n + 1; kind = UnknownWord })
      (record { line = m; kind = UnknownWord }) (ends (codes "x\n"))),
)
ended_result d later n m (Ok (GoesOn next)) ends = let none = sym (unfinished next (n + 1)) ∙ ends [] in absurd cc

-- ---- A line that adds an event

same_next : (d later : Draft) → GoesOn d ≡ GoesOn later → d ≡ later
same_next d later e = cc

pub lone_event : (d : Draft) (event : Event) → IsLone d → fork_in event ≡ None → IsLone (with_event d event)
lone_event d event lone none = record {
  first = lone.first;
  forks = each_more (λ event. fork_in event ≡ None) d.events event lone.forks none;
}

-- the line `n`, the last of `text`, added `event` to the draft `d`. If `later` has no orphan (a forked caller without a
-- block), `later` is the new draft.
pub record AddsEvent (text : List ℕ) (d : Draft) (n : ℕ) (later : Draft) (m : ℕ) : Type 0 where
  pub event : Event
  pub goes : GoesOnFrom text (with_event d event) (n + 1)
  pub number : m ≡ n + 1
  pub same : has_orphan later ≡ false → later ≡ with_event d event
  pub orphan : fork_in event ≡ None → has_orphan later ≡ false

module _ (text : List ℕ) (d : Draft) (n : ℕ) (later : Draft) (m : ℕ) (goes_later : GoesOnFrom text later m)
    (lone : IsLone d) where
  no_block : GoesOnFrom text (with_block d) (n + 1) → ⊥
  no_block goes =
      let none = each_append ForkNone (blocks_of d) ([] ∷ []) (lone_blocks d lone) (tt, tt) in
      let one = one_block text (with_block d) (n + 1) goes none in
      absurd (omega (arith, ap length one, length-append d.done (d.events ∷ [])))

  adds : (event : Event) → GoesOnFrom text (with_event d event) (n + 1) → AddsEvent text d n later m
  adds event goes = record {
    event = event;
    goes = goes;
    number = same_number text later (with_event d event) m (n + 1) goes_later goes;
    same = λ none. sym (same_open text later (with_event d event) m (n + 1) goes_later goes none);
    orphan = λ none.
        let with_none = no_orphan_yet (with_event d event) (lone_event d event lone none) in
        subst (λ x. has_orphan x ≡ false)
        (sym (same_open text (with_event d event) later (n + 1) m goes goes_later with_none)) with_none;
  }

  by_follows : (next : Draft) → GoesOnFrom text next (n + 1) → Follows d (GoesOn next) → AddsEvent text d n later m
  by_follows next goes (inl event) =
      adds event.0 (subst (λ x. GoesOnFrom text x (n + 1)) (sym (same_next (with_event d event.0) next event.1)) goes)
  by_follows next goes (inr (inl block)) =
      absurd (no_block (subst (λ x. GoesOnFrom text x (n + 1)) (sym (same_next (with_block d) next block)) goes))
  by_follows next goes (inr (inr ends)) = absurd cc

-- ---- A text with one more line

module _ (text line : List ℕ) (d : Draft) (n : ℕ) (goes : GoesOnFrom text d n) (clean : Lacks 10 line) where
  read : (later : List ℕ) → script_of_lines (parts 10 ((text ++ (line ++ 10 ∷ [])) ++ later))
      ≡ goes_after d n (line_result d line) later
  read later =
      ap (λ x. script_of_lines (parts 10 x)) (append_assoc text (line ++ 10 ∷ []) later
      ∙ ap (λ x. text ++ x) (append_assoc line (10 ∷ []) later))
      ∙ goes (line ++ 10 ∷ later)
      ∙ ap (script_from d n) (parts_at 10 line later clean)
      ∙ line_goes d n line later

  pub faulty_line : (fault : ScriptFault) → FailsWith (text ++ (line ++ 10 ∷ [])) fault → fault.line ≡ n
  faulty_line fault fails = faulty_result d n fault (line_result d line) (λ later. sym (read later) ∙ fails later)

  pub event_line : (later : Draft) (m : ℕ) → IsLone d → GoesOnFrom (text ++ (line ++ 10 ∷ [])) later m
      → AddsEvent (text ++ (line ++ 10 ∷ [])) d n later m
  event_line later m lone goes_later =
      let c = open_result d later n m (line_result d line) (λ more. sym (read more) ∙ goes_later more) in
      by_follows (text ++ (line ++ 10 ∷ [])) d n later m goes_later lone c.next
      (λ more. read more ∙ ap (λ r. goes_after d n r more) c.is) (result_follows d line (GoesOn c.next) c.is)

  pub ended_line : (later : Draft) (m : ℕ) → EndsWith (text ++ (line ++ 10 ∷ [])) later m → (later ≡ d) × (m ≡ n + 1)
  ended_line later m ends =
      let e = ended_result d later n m (line_result d line) (λ more. sym (read more) ∙ ends more) in
      (same_script later d (sym e.0), sym e.1)
