-- A line is read as some content if and only if it is the line with that content.
use Rattle.std.proofs.Common.{◌≡◌, ℕ, ◌≤◌, false, inl, inr, Some, Result, Ok, List, [], ◌∷◌, refl, sym, ap, subst, ◌∙◌, arith}
use Rattle.std.specs.Fmt.{decimal}
use Rattle.std.specs.List.{AllByRecursion}
use Rattle.std.specs.Option.{ok_or}
use Rattle.std.specs.Prelude.{codes}
use Rattle.std.specs.Str.{bytes_eq}
use Rattle.std.proofs.lemmas.Bool.{cases_Bool}
use Rattle.std.proofs.lemmas.Slice.Eq.{bytes_eq-Decides}
use Rattle.key_names.specs.declared.events.Event.{Event}
use Rattle.key_names.specs.declared.events.Event.TheVariants.{At}
use Rattle.key_names.specs.declared.events.Word.{Word}
use Rattle.key_names.specs.declared.events.Word.TheVariants as words
use Rattle.key_names.specs.declared.faults.FaultKind.{FaultKind}
use Rattle.key_names.specs.declared.faults.FaultKind.TheVariants.{UnknownWord}
use Rattle.key_names.specs.Texts.Spelling.{spaced, word_text}
use Rattle.key_names.specs.Texts.ScriptGrammar.{InRange, arguments, event_fields, event_word}
use Rattle.key_names.specs.Texts.ScriptFaults.{◌>>=◌, Said, SaysEvent, SaysCaller, SaysEnd, SaidInRange, all_words, event_of, no_field, number, one_field, parts, said, said_by, said_by_word, word_of}
use Rattle.key_names.proofs.Lists.ListFacts.{found_passes}
use Rattle.key_names.proofs.Script.EventLines.{clean_event}
use Rattle.key_names.proofs.Script.EventReaders.{event_again, event_takes}
use Rattle.key_names.proofs.Script.FieldReaders.{found, none_is, numbers, one_is, same_ok, step_ok}
use Rattle.key_names.proofs.Script.LinedTexts.{Clean, Printable, clean_by, clean_decimal, parts_spaced, printable_spaced, spaced_parts}

-- ---- reading a word

word_takes : (field : List ℕ) (w : Word) → word_of field ≡ Some w → field ≡ word_text w
word_takes field w e = sym ((bytes_eq-Decides (word_text w) field).0
    (found_passes (λ v. bytes_eq (word_text v) field) all_words w e))

pub word_again : (w : Word) → word_of (word_text w) ≡ Some w
word_again words.End = refl
word_again _ = refl

not_caller : (w : Word) → bytes_eq (word_text w) (codes "caller") ≡ false
not_caller words.End = refl
not_caller _ = refl

-- ---- reading the content of a line

abbrev pub said_fields : Said → List (List ℕ)
said_fields (SaysEvent event) = event_fields event
said_fields (SaysCaller c) = codes "caller" ∷ decimal c ∷ []
said_fields SaysEnd = codes "end" ∷ []

pub record Says (version cpus : ℕ) (fields : List (List ℕ)) (what : Said) : Type 0 where
  pub spelt : fields ≡ said_fields what
  pub range : SaidInRange version cpus what

event_says : (version cpus : ℕ) (word : Word) (fields : List (List ℕ)) (what : Said) → cpus ≤ 256
    → (event_of version cpus word fields >>= λ event. Ok (SaysEvent event)) ≡ Ok what →
    Says version cpus (word_text word ∷ fields) what
event_says version cpus word fields what few is =
    let step = step_ok (event_of version cpus word fields) (λ event. Ok (SaysEvent event)) what is in
    let e = event_takes version cpus word few fields step.0 step.1 in
    subst (λ x. Says version cpus (word_text word ∷ fields) x) (same_ok {E = FaultKind} (SaysEvent step.0) what step.2)
    (record { spelt = cc (e.word, e.spelt); range = e.range })

pub by_word : (version cpus : ℕ) (fields : List (List ℕ)) (word : Word) (what : Said) → cpus ≤ 256
    → said_by_word version cpus fields word ≡ Ok what → Says version cpus (word_text word ∷ fields) what
by_word version cpus fields words.End what few is =
    let step = step_ok (no_field fields) (λ none. Ok SaysEnd) what is in
    subst (λ x. Says version cpus (codes "end" ∷ fields) x) (same_ok {E = FaultKind} SaysEnd what step.2)
    (record { spelt = ap (λ (f : List (List ℕ)). codes "end" ∷ f) (none_is fields step.0 step.1); range = tt })
by_word version cpus fields word what few is = event_says version cpus word fields what few is

by_first : (version cpus : ℕ) (fields : List (List ℕ)) (what : Said) → cpus ≤ 256 → said_by version cpus fields ≡
    Ok what
    → Says version cpus fields what
by_first version cpus [] what few is = absurd cc
by_first version cpus (first ∷ fields) what few is =
    elim (cases_Bool (bytes_eq first (codes "caller"))) [
      | inl caller ↦
          let step = step_ok (one_field fields) (λ field. number 64 field >>= λ c. Ok (SaysCaller c)) what
          (rw caller at is) in
          let value = step_ok (number 64 step.0) (λ c. Ok (SaysCaller c)) what step.2 in
          let c = (numbers 64 (omega arith)).takes step.0 value.0 value.1 in
          let spelt = one_is fields step.0 step.1 in
          let first_is = (bytes_eq-Decides first (codes "caller")).0 caller in
          subst (λ x. Says version cpus (first ∷ fields) x) (same_ok {E = FaultKind} (SaysCaller value.0) what value.2)
          (record { spelt = cc (first_is, spelt, c.0); range = c.1 })
      | inr not ↦
          let step = step_ok (ok_or (word_of first) UnknownWord) (λ word. said_by_word version cpus fields word) what
          (rw not at is) in
          let word = word_takes first step.0 (found (word_of first) UnknownWord step.0 step.1) in
          subst (λ f. Says version cpus (f ∷ fields) what) (sym word)
          (by_word version cpus fields step.0 what few step.2)
    ]

-- the line with the content `what`
abbrev pub said_line : Said → List ℕ
said_line what = spaced (said_fields what)

pub said_takes : (version cpus : ℕ) (line : List ℕ) (what : Said) → cpus ≤ 256 → said version cpus line ≡ Ok what
    → (line ≡ said_line what) × SaidInRange version cpus what
said_takes version cpus line what few is =
    let s = by_first version cpus (parts 32 line) what few is in
    (sym (spaced_parts line) ∙ ap spaced s.spelt, s.range)

as_said : {r : Result Event FaultKind} {event : Event} → r ≡ Ok event →
    (r >>= λ e. Ok (SaysEvent e)) ≡ Ok (SaysEvent event)
as_said is = ap (λ r. r >>= λ e. Ok (SaysEvent e)) is

event_by_word : (version cpus : ℕ) (event : Event) → cpus ≤ 256 → InRange version cpus event
    → said_by_word version cpus (arguments event) (event_word event) ≡ Ok (SaysEvent event)
event_by_word version cpus (At moment) few range = as_said (event_again version cpus (At moment) few range)
event_by_word version cpus event few range = as_said (event_again version cpus event few range)

said_by_again : (version cpus : ℕ) (what : Said) → cpus ≤ 256 → SaidInRange version cpus what →
    said_by version cpus (said_fields what) ≡ Ok what
said_by_again version cpus (SaysEvent event) few range =
    rw (not_caller (event_word event), word_again (event_word event)) (event_by_word version cpus event few range)
said_by_again version cpus (SaysCaller c) few range = rw ((numbers 64 (omega arith)).again c range) refl
said_by_again version cpus SaysEnd few range = refl

pub clean_said : (version cpus : ℕ) (what : Said) → cpus ≤ 256 → SaidInRange version cpus what →
    AllByRecursion Clean (said_fields what)
clean_said version cpus (SaysEvent event) few range = clean_event version cpus event few range
clean_said version cpus (SaysCaller c) few range = (clean_by (codes "caller") refl, (clean_decimal c (omega arith), tt))
clean_said version cpus SaysEnd few range = (clean_by (codes "end") refl, tt)

parts_of_said : (version cpus : ℕ) (what : Said) → cpus ≤ 256 → SaidInRange version cpus what →
    parts 32 (said_line what) ≡ said_fields what
parts_of_said version cpus (SaysEvent event) few range =
    let clean = clean_event version cpus event few range in
    parts_spaced (word_text (event_word event)) (arguments event) clean.0 clean.1
parts_of_said version cpus (SaysCaller c) few range =
    parts_spaced (codes "caller") (decimal c ∷ []) (clean_by (codes "caller") refl) (clean_decimal c (omega arith), tt)
parts_of_said version cpus SaysEnd few range = refl

pub said_again : (version cpus : ℕ) (what : Said) → cpus ≤ 256 → SaidInRange version cpus what →
    said version cpus (said_line what) ≡ Ok what
said_again version cpus what few range =
    ap (said_by version cpus) (parts_of_said version cpus what few range) ∙ said_by_again version cpus what few range

pub printable_said : (version cpus : ℕ) (what : Said) → cpus ≤ 256 → SaidInRange version cpus what →
    Printable (said_line what)
printable_said version cpus what few range = printable_spaced (said_fields what)
    (clean_said version cpus what few range)
