-- If a script goes on from a draft right after a line of the head (lines 1 to 3), that line is line 3, and the draft
-- has no event.
use Rattle.std.proofs.Common.{◌≡◌, ℕ, zero, suc, inl, inr, Result, Ok, Err, List, [], ◌∷◌, ◌++◌, append_assoc, refl, sym, ap, ◌∙◌}
use Rattle.std.specs.List.{list_any}
use Rattle.std.specs.Prelude.{codes, if◌then◌else◌}
use Rattle.std.proofs.lemmas.Bool.{cases_Bool}
use Rattle.key_names.specs.declared.faults.FaultKind.{FaultKind}
use Rattle.key_names.specs.declared.faults.FaultKind.TheVariants.{BadByte, BadCaller, BadCpus, Unforked, UnknownWord}
use Rattle.key_names.specs.declared.faults.ScriptFault.{ScriptFault}
use Rattle.key_names.specs.Texts.ScriptGrammar.{Script}
use Rattle.key_names.specs.Texts.ScriptFaults.{◌>>=◌, Draft, Said, SaysEvent, SaysCaller, SaysEnd, at_line, following, cpus_by, first_block, has_orphan, is_unprintable, parts, said, script_from, script_of_lines, start_in, version_of}
use Rattle.key_names.proofs.Script.FieldReaders.{same_ok, step_ok}
use Rattle.key_names.proofs.Script.Parts.{Lacks, first_part, parts_at}
use Rattle.event_script.specs.Feeding.{goes}
use Rattle.event_script.specs.Progress.{GoesOnFrom, IsLone, end_line}
use Rattle.event_script.specs.declared.statements.head.Head.{Head}
use Rattle.event_script.specs.declared.whole.stage.ScriptStage.{ScriptStage}
use Rattle.event_script.specs.declared.whole.stage.ScriptStage.TheVariants.{Version, Cpus, Start}
use Rattle.event_script.proofs.GoingOn.{same_draft, same_fault, same_number, unfinished}
use Rattle.event_script.proofs.NextLine.{unknown}

-- ---- The result of reading a line of the head

abbrev fine : List ℕ → Result (List ℕ) FaultKind
fine line = if list_any is_unprintable line then Err BadByte else Ok line

abbrev with_cpus : ℕ → ℕ → List (List ℕ) → Result Script ScriptFault
with_cpus version cpus lines = at_line 3 (start_in version cpus lines) >>= λ start. script_from start 4 (following lines)

-- When reading goes on from a draft, an incomplete line and an unknown word give different faults. `f` gives the same
-- fault for both, so `f` does not read on from the draft `d`.
two_faults : {A : Type 0} (n : ℕ) (kind : FaultKind) (d : Draft) (m : ℕ) (f : List (List ℕ) → Result Script ScriptFault)
    → f ([] ∷ []) ≡ Err (record { line = n; kind = kind }) → f (codes "x" ∷ [] ∷ []) ≡ Err (record { line = n; kind = kind })
    → f ([] ∷ []) ≡ script_from d m ([] ∷ []) → f (codes "x" ∷ [] ∷ []) ≡ script_from d m (codes "x" ∷ [] ∷ []) → A
two_faults n kind d m f one other goes goes_x =
    let first = same_fault _ _ (sym one ∙ goes ∙ unfinished d m) in
    let second = same_fault _ _ (sym other ∙ goes_x ∙ unknown d m) in
    let kinds = ap (λ (f : ScriptFault). f.kind) (sym first ∙ second) in
    absurd cc

module _ (d : Draft) (n : ℕ) where
  version_result : (r : Result ℕ FaultKind)
      → ((later : List ℕ) → (at_line 1 r >>= λ version. goes (Cpus version) (parts 10 later))
      ≡ script_from d n (parts 10 later)) → ⊥
  version_result (Err kind) is =
      two_faults 1 kind d n (λ lines. at_line 1 (Err kind) >>= λ version. goes (Cpus version) lines) refl refl (is [])
      (is (codes "x\n"))
  version_result (Ok version) is =
      let kinds = ap (λ (f : ScriptFault). f.kind) (same_fault (record { line = 2; kind = BadCpus })
      (record { line = n; kind = UnknownWord }) (is (codes "x\n") ∙ unknown d n)) in
      cc

  end_fault : (kind : FaultKind) → (kind ≡ Unforked → ⊥) → script_from d n (parts 10 end_line) ≡
      Err (record { line = 3; kind = kind }) → ⊥
  unfolding script_from
  end_fault kind other is =
      elim (cases_Bool (has_orphan d)) [
        | inl orphan ↦
            let fault = rw orphan at is in
            other (sym (ap (λ (f : ScriptFault). f.kind) (same_fault (record { line = n; kind = Unforked })
            (record { line = 3; kind = kind }) fault)))
        | inr whole ↦ let none = rw whole at is in absurd cc
      ]

  cpus_result : (version : ℕ) (r : Result ℕ FaultKind)
      → ((later : List ℕ) → (at_line 2 r >>= λ cpus. with_cpus version cpus (parts 10 later))
      ≡ script_from d n (parts 10 later)) → ⊥
  cpus_result version (Err kind) is =
      two_faults 2 kind d n (λ lines. at_line 2 (Err kind) >>= λ cpus. with_cpus version cpus lines) refl refl (is [])
      (is (codes "x\n"))
  cpus_result version (Ok cpus) is = end_fault BadCaller (λ e. cc) (sym (is end_line))

  start_result : (r : Result Draft FaultKind)
      → ((later : List ℕ) → (at_line 3 r >>= λ start. script_from start 4 (parts 10 later))
      ≡ script_from d n (parts 10 later)) → (start : Draft) × (r ≡ Ok start)
  start_result (Err kind) is =
      two_faults 3 kind d n (λ lines. at_line 3 (Err kind) >>= λ start. script_from start 4 lines) refl refl (is [])
      (is (codes "x\n"))
  start_result (Ok start) is = (start, refl)

abbrev empty : ℕ → ℕ → Draft
empty version cpus = record { version = version; cpus = cpus; done = []; events = [] }

empty_lone : (version cpus : ℕ) → IsLone (empty version cpus)
empty_lone version cpus = record { first = refl; forks = tt }

start_takes : (version cpus : ℕ) (what : Said) (d : Draft) → first_block version cpus what ≡ Ok d
    → empty version cpus ≡ d
start_takes version cpus (SaysCaller zero) d e = same_ok {E = FaultKind} (empty version cpus) d e
start_takes version cpus (SaysCaller (suc c)) d e = absurd cc
start_takes version cpus (SaysEvent event) d e = absurd cc
start_takes version cpus SaysEnd d e = absurd cc

start_is : (version cpus : ℕ) (r : Result (List ℕ) FaultKind) (start : Draft)
    → (r >>= λ line. said version cpus line >>= first_block version cpus) ≡ Ok start → empty version cpus ≡ start
start_is version cpus r start is =
    let line = step_ok r (λ line. said version cpus line >>= first_block version cpus) start is in
    let what = step_ok (said version cpus line.0) (first_block version cpus) start line.2 in
    start_takes version cpus what.0 start what.2

-- at each stage of the head, `goes` reads one line, and then goes on with the later lines

version_by : (line later : List ℕ) → (at_line 1 (fine line >>= version_of) >>= λ version. goes (Cpus version)
    (parts 10 later)) ≡ goes Version (line ∷ parts 10 later)
version_by line later = rw (first_part 10 later).is refl

cpus_by_line : (version : ℕ) (line later : List ℕ)
    → (at_line 2 (fine line >>= λ line. cpus_by version (parts 32 line)) >>= λ cpus. with_cpus version cpus
    (parts 10 later)) ≡ goes (Cpus version) (line ∷ parts 10 later)
cpus_by_line version line later = rw (first_part 10 later).is refl

start_by : (head : Head) (line later : List ℕ)
    → (at_line 3 (fine line >>= λ line. said head.version head.cpus line >>= first_block head.version head.cpus)
    >>= λ start. script_from start 4 (parts 10 later)) ≡ goes (Start head) (line ∷ parts 10 later)
start_by head line later = rw (first_part 10 later).is refl

-- ---- After which line of the head events can follow

-- the draft has no event, and the next line is line 4
pub record IsFirst (version cpus : ℕ) (d : Draft) (n : ℕ) : Type 0 where
  pub draft : d ≡ record { version = version; cpus = cpus; done = []; events = [] }
  pub number : n ≡ 4

module _ (text line : List ℕ) (clean : Lacks 10 line) (d : Draft) (n : ℕ)
    (follows : GoesOnFrom (text ++ (line ++ 10 ∷ [])) d n) where
  read : (stage : ScriptStage) → ((later : List ℕ) → script_of_lines (parts 10 (text ++ later)) ≡ goes stage (parts 10 later))
      → (later : List ℕ) → goes stage (line ∷ parts 10 later) ≡ script_from d n (parts 10 later)
  read stage before later =
      ap (goes stage) (sym (parts_at 10 line later clean))
      ∙ sym (before (line ++ 10 ∷ later))
      ∙ ap (λ x. script_of_lines (parts 10 x)) (sym (append_assoc text (line ++ 10 ∷ []) later
      ∙ ap (λ x. text ++ x) (append_assoc line (10 ∷ []) later)))
      ∙ follows later

  -- a script does not go on from a draft right after line 1: this line does not complete the head
  pub version_line : ((later : List ℕ) → script_of_lines (parts 10 (text ++ later)) ≡ goes Version (parts 10 later)) → ⊥
  version_line before = version_result d n (fine line >>= version_of)
      (λ later. version_by line later ∙ read Version before later)

  -- a script does not go on from a draft right after line 2: this line does not complete the head
  pub cpus_line : (version : ℕ)
      → ((later : List ℕ) → script_of_lines (parts 10 (text ++ later)) ≡ goes (Cpus version) (parts 10 later)) → ⊥
  cpus_line version before = cpus_result d n version (fine line >>= λ line. cpus_by version (parts 32 line))
      (λ later. cpus_by_line version line later ∙ read (Cpus version) before later)

  -- line 3 completes the head; the draft after line 3 has only the empty block of caller 0
  pub start_line : (head : Head)
      → ((later : List ℕ) → script_of_lines (parts 10 (text ++ later)) ≡ goes (Start head) (parts 10 later))
      → IsFirst head.version head.cpus d n
  start_line head before =
      let r : Result Draft FaultKind = fine line >>= λ line. said head.version head.cpus line
      >>= first_block head.version head.cpus in
      let reads = λ (later : List ℕ). start_by head line later ∙ read (Start head) before later in
      let found = start_result d n r reads in
      let is = start_is head.version head.cpus (fine line) found.0 found.1 in
      let first = empty head.version head.cpus in
      let goes_first : GoesOnFrom (text ++ (line ++ 10 ∷ [])) first 4 = λ later.
      follows later ∙ sym (reads later) ∙ ap (λ r. at_line 3 r >>= λ start. script_from start 4 (parts 10 later)) found.1
      ∙ ap (λ start. script_from start 4 (parts 10 later)) (sym is) in
      record {
        draft = same_draft (text ++ (line ++ 10 ∷ [])) first d 4 n goes_first follows (empty_lone head.version head.cpus);
        number = same_number (text ++ (line ++ 10 ∷ [])) d first n 4 follows goes_first;
      }
