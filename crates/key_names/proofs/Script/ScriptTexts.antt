-- A text is read as a script if and only if it is the script's text.
use Rattle.std.proofs.Common.{◌≡◌, ℕ, zero, suc, ◌+◌, ◌≤◌, ltb, false, inl, inr, Option, Some, None, Ok, List, [], ◌∷◌, ◌++◌, length, map, refl, sym, ap, subst, ◌∙◌, append_assoc, arith}
use Rattle.std.specs.Fmt.{decimal, digits}
use Rattle.std.specs.List.{AllByRecursion}
use Rattle.std.specs.Prelude.{codes}
use Rattle.std.specs.Str.{bytes_eq}
use Rattle.std.proofs.lemmas.Bool.{cases_Bool, le-ltb, ltb-false}
use Rattle.key_names.specs.declared.events.Event.{Event}
use Rattle.key_names.specs.declared.faults.FaultKind.{FaultKind}
use Rattle.key_names.specs.Texts.Spelling.{spaced}
use Rattle.key_names.specs.Texts.ScriptGrammar.{Script, InRange, IsScript, WellFormed, block_lines, event_fields, most_cpus, script_lines, script_text}
use Rattle.key_names.specs.Texts.ScriptFaults.{◌>>=◌, Draft, Said, SaysEvent, SaysCaller, SaysEnd, at_line, following, cpus_by, cpus_from, first_block, line_of, number_below, parts, said, script_of, script_of_lines, version_of}
use Rattle.key_names.proofs.Script.Drafts.{Fine, Whole}
use Rattle.key_names.proofs.Script.EventLines.{clean_event}
use Rattle.key_names.proofs.Script.FieldReaders.{same_ok, step_ok}
use Rattle.key_names.proofs.Script.LinedTexts.{Clean, Printable, clean_by, clean_decimal, lined_parts, parts_lined, parts_spaced, printable_spaced, spaced_parts}
use Rattle.key_names.proofs.Script.Numbers.{number_again, number_takes}
use Rattle.key_names.proofs.Script.Parts.{HasFirst}
use Rattle.key_names.proofs.Script.EventReaders.{text_is}
use Rattle.key_names.proofs.Script.SaidLines.{said_again, said_line, said_takes}
use Rattle.key_names.proofs.Script.ScriptBodies.{at_ok, from_again, from_takes, line_again, line_takes, rest_lines}

-- ---- the three lines before the first event

head_line : ℕ → List ℕ
head_line version = spaced (codes "rngscript" ∷ decimal version ∷ [])

version_takes : (line : List ℕ) (version : ℕ) → version_of line ≡ Ok version
    → (line ≡ spaced (codes "rngscript" ∷ decimal version ∷ [])) × ((1 ≤ version) × (version ≤ 3))
unfolding digits
version_takes line version e =
    elim (cases_Bool (bytes_eq line (codes "rngscript 1"))) [
      | inl one ↦
          let is = same_ok {E = FaultKind} 1 version (rw one at e) in
          rw (← is) (text_is line (codes "rngscript 1") one, (omega arith, omega arith))
      | inr not_one ↦
          elim (cases_Bool (bytes_eq line (codes "rngscript 2"))) [
            | inl two ↦
                let is = same_ok {E = FaultKind} 2 version (rw (not_one, two) at e) in
                rw (← is) (text_is line (codes "rngscript 2") two, (omega arith, omega arith))
            | inr not_two ↦
                elim (cases_Bool (bytes_eq line (codes "rngscript 3"))) [
                  | inl three ↦
                      let is = same_ok {E = FaultKind} 3 version (rw (not_one, not_two, three) at e) in
                      rw (← is) (text_is line (codes "rngscript 3") three, (omega arith, omega arith))
                  | inr not_three ↦ let none = rw (not_one, not_two, not_three) at e in absurd cc
                ]
          ]
    ]

version_again : (version : ℕ) → 1 ≤ version → version ≤ 3 →
    version_of (spaced (codes "rngscript" ∷ decimal version ∷ [])) ≡ Ok version
unfolding digits
version_again zero low high = absurd (omega arith)
version_again (suc zero) low high = refl
version_again (suc (suc zero)) low high = refl
version_again (suc (suc (suc zero))) low high = refl
version_again (suc (suc (suc (suc version)))) low high = absurd (omega arith)

from_takes_cpus : (o : Option ℕ) (cpus : ℕ) → cpus_from o ≡ Ok cpus → (o ≡ Some cpus) × (1 ≤ cpus)
from_takes_cpus None cpus e = absurd cc
from_takes_cpus (Some zero) cpus e = absurd cc
from_takes_cpus (Some (suc n)) cpus e = let is = same_ok {E = FaultKind} (suc n) cpus e in rw (← is) (refl, omega arith)

cpus_take : (version cpus : ℕ) (fields : List (List ℕ)) → cpus_by version fields ≡ Ok cpus
    → (fields ≡ codes "cpus" ∷ decimal cpus ∷ []) × ((1 ≤ cpus) × (cpus ≤ most_cpus version))
cpus_take version cpus [] e = absurd cc
cpus_take version cpus (a ∷ []) e = absurd cc
cpus_take version cpus (first ∷ count ∷ []) e =
    elim (cases_Bool (bytes_eq first (codes "cpus"))) [
      | inl named ↦
          let some = from_takes_cpus (number_below (most_cpus version + 1) count) cpus (rw named at e) in
          let n = number_takes (most_cpus version + 1) cpus count some.0 in
          let name = text_is first (codes "cpus") named in
          (cc (name, n.1), (some.1, omega (arith, n.0)))
      | inr not ↦ let none = rw not at e in absurd cc
    ]
cpus_take version cpus (a ∷ b ∷ c ∷ fields) e = absurd cc

most_small : (version : ℕ) → most_cpus version ≤ 256
most_small version = grind arith

cpus_again : (version cpus : ℕ) → 1 ≤ cpus → cpus ≤ most_cpus version →
    cpus_by version (codes "cpus" ∷ decimal cpus ∷ []) ≡ Ok cpus
cpus_again version zero low high = absurd (omega arith)
cpus_again version (suc n) low high =
    let most = most_small version in
    rw (number_again (most_cpus version + 1) (suc n) (omega arith) (omega arith)) refl

abbrev start : ℕ → ℕ → Draft
start version cpus = record { version = version; cpus = cpus; done = []; events = [] }

start_takes : (version cpus : ℕ) (what : Said) (d : Draft) → first_block version cpus what ≡ Ok d →
    (what ≡ SaysCaller 0) × (d ≡ start version cpus)
start_takes version cpus (SaysCaller zero) d e = (refl, sym (same_ok {E = FaultKind} (start version cpus) d e))
start_takes version cpus (SaysCaller (suc c)) d e = absurd cc
start_takes version cpus (SaysEvent event) d e = absurd cc
start_takes version cpus SaysEnd d e = absurd cc

start_fine : (version cpus : ℕ) → (1 ≤ version) × (version ≤ 3) → (1 ≤ cpus) × (cpus ≤ most_cpus version) →
    Fine (start version cpus)
start_fine version cpus versions few = record {
  version = versions;
  cpus = few;
  callers = omega arith;
  ranges = (tt, tt);
  once = λ c. omega arith;
  begun = λ c some low. absurd (omega arith);
  first = refl;
  above = (tt, tt);
  acts = (tt, tt);
  events = omega arith;
  reads = omega arith;
}

-- ---- reading all lines of a text

first_is : (lines : List (List ℕ)) (line : List ℕ) → line_of lines ≡ Ok line → lines ≡ line ∷ following lines
first_is [] line e = absurd cc
first_is (l ∷ more) line e = ap (λ (x : List ℕ). x ∷ more) (line_takes l more line e)

pub record AreLines (lines : List (List ℕ)) (s : Script) : Type 0 where
  pub spelt : lines ≡ map spaced (script_lines s) ++ [] ∷ []
  pub whole : Whole s.version s.cpus s.callers

pub lines_take : (lines : List (List ℕ)) (s : Script) → script_of_lines lines ≡ Ok s → AreLines lines s
lines_take lines s e =
    let second = following lines in
    let third = following second in
    let a = step_ok (at_line 1 (line_of lines >>= version_of)) _ s e in
    let b = step_ok (at_line 2 (line_of second >>= λ line. cpus_by a.0 (parts 32 line))) _ s a.2 in
    let c = step_ok (at_line 3 (line_of third >>= λ line. said a.0 b.0 line >>= first_block a.0 b.0)) _ s b.2 in
    let first_line = step_ok (line_of lines) version_of a.0 (at_ok 1 _ a.0 a.1) in
    let second_line = step_ok (line_of second) (λ line. cpus_by a.0 (parts 32 line)) b.0 (at_ok 2 _ b.0 b.1) in
    let third_line = step_ok (line_of third) (λ line. said a.0 b.0 line >>= first_block a.0 b.0) c.0
    (at_ok 3 _ c.0 c.1) in
    let what = step_ok (said a.0 b.0 third_line.0) (first_block a.0 b.0) c.0 third_line.2 in
    let version = version_takes first_line.0 a.0 first_line.2 in
    let cpus = cpus_take a.0 b.0 (parts 32 second_line.0) second_line.2 in
    let begins = start_takes a.0 b.0 what.0 c.0 what.2 in
    let small = most_small a.0 in
    let says = said_takes a.0 b.0 third_line.0 what.0 (omega (arith, cpus.1.1)) what.1 in
    let rest = from_takes (start a.0 b.0) 4 (following third) s (start_fine a.0 b.0 version.1 cpus.1) (rw begins.1 at c.2)
    in
    let one = first_is lines first_line.0 first_line.1 ∙ ap (λ (l : List ℕ). l ∷ second) version.0 in
    let two = first_is second second_line.0 second_line.1
    ∙ ap (λ (l : List ℕ). l ∷ third) (sym (spaced_parts second_line.0) ∙ ap spaced cpus.0) in
    let three = first_is third third_line.0 third_line.1
    ∙ ap (λ (l : List ℕ). l ∷ following third) (says.0 ∙ ap said_line begins.0) in
    let all : lines ≡ spaced (codes "rngscript" ∷ decimal a.0 ∷ []) ∷ spaced (codes "cpus" ∷ decimal b.0 ∷ [])
    ∷ said_line (SaysCaller 0) ∷ rest_lines 0 rest.es rest.later =
    one ∙ ap (λ (ls : List (List ℕ)). spaced (codes "rngscript" ∷ decimal a.0 ∷ []) ∷ ls)
    (two ∙ ap (λ (ls : List (List ℕ)). spaced (codes "cpus" ∷ decimal b.0 ∷ []) ∷ ls)
    (three ∙ ap (λ (ls : List (List ℕ)). said_line (SaysCaller 0) ∷ ls) rest.spelt)) in
    subst (λ (x : Script). AreLines lines x) (sym rest.script) (record { spelt = all; whole = rest.whole })

head_clean : (version : ℕ) → version ≤ 3 → Printable (spaced (codes "rngscript" ∷ decimal version ∷ []))
head_clean version low = printable_spaced (codes "rngscript" ∷ decimal version ∷ [])
    (clean_by (codes "rngscript") refl, (clean_decimal version (omega arith), tt))

cpus_clean : (cpus : ℕ) → cpus ≤ 256 → AllByRecursion Clean (codes "cpus" ∷ decimal cpus ∷ [])
cpus_clean cpus low = (clean_by (codes "cpus") refl, (clean_decimal cpus (omega arith), tt))

caller_clean : (c : ℕ) → c ≤ 64 → AllByRecursion Clean (codes "caller" ∷ decimal c ∷ [])
caller_clean c low = (clean_by (codes "caller") refl, (clean_decimal c (omega arith), tt))

more_lines : (lines : List (List ℕ)) (line : List ℕ) → HasFirst (lines ++ line ∷ [])
more_lines [] line = record { first = line; others = []; is = refl }
more_lines (l ∷ lines) line = record { first = l; others = lines ++ line ∷ []; is = refl }

pub lines_again : (version cpus : ℕ) (es : List Event) (later : List (List Event)) → Whole version cpus (es ∷ later)
    → script_of_lines (map spaced (script_lines (record { version = version; cpus = cpus; callers = es ∷ later }))
    ++ [] ∷ [])
    ≡ Ok (record { version = version; cpus = cpus; callers = es ∷ later })
lines_again version cpus es later whole =
    let small = most_small version in
    let few : cpus ≤ 256 = omega (arith, whole.few_cpus.1) in
    let rest = rest_lines 0 es later in
    let third = said_line (SaysCaller 0) ∷ rest in
    let second = spaced (codes "cpus" ∷ decimal cpus ∷ []) ∷ third in
    let clean = cpus_clean cpus few in
    rw (
      line_again (spaced (codes "rngscript" ∷ decimal version ∷ [])) second
          (record { first = spaced (codes "cpus" ∷ decimal cpus ∷ []); others = third; is = refl })
          (head_clean version whole.versions.1),
      version_again version whole.versions.0 whole.versions.1,
      line_again (spaced (codes "cpus" ∷ decimal cpus ∷ [])) third
          (record { first = said_line (SaysCaller 0); others = rest; is = refl })
          (printable_spaced (codes "cpus" ∷ decimal cpus ∷ []) clean),
      parts_spaced (codes "cpus") (decimal cpus ∷ []) clean.0 clean.1,
      cpus_again version cpus whole.few_cpus.0 whole.few_cpus.1,
      line_again (said_line (SaysCaller 0)) rest (more_lines _ [])
          (printable_spaced (codes "caller" ∷ decimal 0 ∷ []) (caller_clean 0 (omega arith))),
      said_again version cpus (SaysCaller 0) few (omega arith),
    )
    (from_again (start version cpus) 4 es later few whole)

printable_events : (version cpus : ℕ) (events : List Event) (tail : List (List (List ℕ))) → cpus ≤ 256 →
    AllByRecursion (InRange version cpus) events
    → AllByRecursion Printable (map spaced tail) →
    AllByRecursion Printable (map spaced (map event_fields events ++ tail))
printable_events version cpus [] tail few ranges rest = rest
printable_events version cpus (e ∷ events) tail few ranges rest = (
  printable_spaced (event_fields e) (clean_event version cpus e few ranges.0),
  printable_events version cpus events tail few ranges.1 rest,
)

printable_blocks : (version cpus c : ℕ) (callers : List (List Event)) → cpus ≤ 256 → c + length callers ≤ 64
    → AllByRecursion (AllByRecursion (InRange version cpus)) callers →
    AllByRecursion Printable (map spaced (block_lines c callers ++ (codes "end" ∷ []) ∷ []))
printable_blocks version cpus c [] few low ranges = ((refl, (refl, (refl, tt))), tt)
printable_blocks version cpus c (events ∷ callers) few low ranges =
    let others = printable_blocks version cpus (suc c) callers few (omega arith) ranges.1 in
    let same = append_assoc (map event_fields events) (block_lines (suc c) callers) ((codes "end" ∷ []) ∷ []) in (
      printable_spaced (codes "caller" ∷ decimal c ∷ []) (caller_clean c (omega arith)),
      rw same (printable_events version cpus events (block_lines (suc c) callers ++ (codes "end" ∷ []) ∷ []) few
          ranges.0 others),
    )

printable_script : (s : Script) → Whole s.version s.cpus s.callers →
    AllByRecursion Printable (map spaced (script_lines s))
printable_script s whole =
    let small = most_small s.version in
    let few : s.cpus ≤ 256 = omega (arith, whole.few_cpus.1) in (
      head_clean s.version whole.versions.1,
      (
        printable_spaced (codes "cpus" ∷ decimal s.cpus ∷ []) (cpus_clean s.cpus few),
        printable_blocks s.version s.cpus 0 s.callers few (omega (arith, whole.callers.1)) whole.ranges,
      ),
    )

-- ---- reading a whole text

whole_of : (s : Script) → WellFormed s → Whole s.version s.cpus s.callers
whole_of s fits = record {
  versions = fits.version;
  few_cpus = fits.cpus;
  callers = fits.callers;
  ranges = fits.ranges;
  forked = fits.forked;
  above = fits.above;
  acts = fits.acts;
  events = fits.events;
  reads = fits.reads;
}

well_formed : (s : Script) → Whole s.version s.cpus s.callers → length (script_text s) ≤ 16777216 → WellFormed s
well_formed s whole short = record {
  version = whole.versions;
  cpus = whole.few_cpus;
  callers = whole.callers;
  ranges = whole.ranges;
  forked = whole.forked;
  above = whole.above;
  acts = whole.acts;
  events = whole.events;
  reads = whole.reads;
  text = short;
}

-- if `text` is read as the script `s`, then it is the text of `s`
pub script_takes : (text : List ℕ) (s : Script) → script_of text ≡ Ok s → IsScript s text
unfolding script_of
script_takes text s e =
    elim (cases_Bool (ltb 16777216 (length text))) [
      | inl long ↦ let none = rw long at e in absurd cc
      | inr short ↦
          let lines = lines_take (parts 10 text) s (rw short at e) in
          let spelt = lined_parts text (map spaced (script_lines s)) lines.spelt in
          let fits = ltb-false _ _ short in
          record { well_formed = well_formed s lines.whole (omega (arith, ap length spelt)); spelt = spelt }
    ]

whole_again : (s : Script) (callers : List (List Event)) → callers ≡ s.callers → Whole s.version s.cpus s.callers
    → script_of_lines (map spaced (script_lines s) ++ [] ∷ []) ≡ Ok s
whole_again s [] e whole = absurd (omega (arith, whole.callers.0, ap length e))
whole_again s (es ∷ later) e whole =
    subst (λ callers. script_of_lines (map spaced (script_lines (record s { callers = callers })) ++ [] ∷ []) ≡ Ok
    (record s { callers = callers })) e
    (lines_again s.version s.cpus es later (subst (Whole s.version s.cpus) (sym e) whole))

-- the text of the script `s` is read as `s`
pub script_again : (text : List ℕ) (s : Script) → IsScript s text → script_of text ≡ Ok s
unfolding script_of
script_again text s is =
    let whole = whole_of s is.well_formed in
    let short : ltb 16777216 (length text) ≡ false =
    le-ltb _ _ (omega (arith, is.well_formed.text, ap length is.spelt)) in
    let falls : parts 10 text ≡ map spaced (script_lines s) ++ [] ∷ [] =
    ap (parts 10) is.spelt ∙ parts_lined (map spaced (script_lines s)) (printable_script s whole) in
    rw (short, falls) (whole_again s s.callers refl whole)
