-- The text of a script with short events is short.
use Rattle.std.proofs.Common.{◌≡◌, ℕ, suc, ◌+◌, ◌*◌, ◌≤◌, List, [], ◌∷◌, ◌++◌, length, map, ap, arith}
use Rattle.std.specs.List.{AllByRecursion}
use Rattle.std.specs.Prelude.{codes, decimal, sum_by}
use Rattle.std.proofs.lemmas.Fmt.{length-decimal-le}
use Rattle.std.proofs.lemmas.List.{length-append}
use Rattle.std.proofs.lemmas.List.Concat.{flat_map-cons}
use Rattle.std.proofs.lemmas.List.Sums.{sum_by-cons}
use Rattle.key_names.specs.declared.events.Event.{Event}
use Rattle.key_names.specs.Texts.ScriptGrammar.{Script, block_lines, event_fields, script_lines, script_text}
use Rattle.key_names.specs.Texts.Spelling.{lined, spaced}
use Rattle.key_names.proofs.Lists.Each.{each_append}

-- the length of the fields of a line, with one more byte after each field
abbrev pub fields_len : List (List ℕ) → ℕ
fields_len [] = 0
fields_len (field ∷ fields) = length field + suc (fields_len fields)

abbrev pub IsShort : List (List ℕ) → Type 0
IsShort fields = fields_len fields ≤ 95

spaced_len : (fields : List (List ℕ)) → length (spaced fields) ≤ fields_len fields
spaced_len [] = omega arith
spaced_len (field ∷ []) = omega arith
spaced_len (field ∷ next ∷ fields) =
    let rest : length (spaced (next ∷ fields)) ≤ fields_len (next ∷ fields) = spaced_len (next ∷ fields) in
    omega (arith, length-append field (32 ∷ spaced (next ∷ fields)))

lined_len : (lines : List (List (List ℕ))) → AllByRecursion IsShort lines →
    length (lined (map spaced lines)) ≤ 96 * length lines
lined_len [] short = omega arith
lined_len (line ∷ lines) short =
    let rest : length (lined (map spaced lines)) ≤ 96 * length lines = lined_len lines short.1 in
    let here : fields_len line ≤ 95 = short.0 in
    let cut : lined (map spaced (line ∷ lines)) ≡ (spaced line ++ 10 ∷ []) ++ lined (map spaced lines) =
    flat_map-cons (λ (l : List ℕ). l ++ 10 ∷ []) (spaced line) (map spaced lines) in
    omega (
      arith,
      spaced_len line,
      ap length cut,
      length-append (spaced line ++ 10 ∷ []) (lined (map spaced lines)),
      length-append (spaced line) (10 ∷ []),
    )

events_short : (events : List Event) → AllByRecursion (λ e. IsShort (event_fields e)) events →
    AllByRecursion IsShort (map event_fields events)
events_short [] short = tt
events_short (event ∷ events) short = (short.0, events_short events short.1)

length-events : (events : List Event) → length (map event_fields events) ≡ length events
length-events [] = omega arith
length-events (event ∷ events) = let rest : length (map event_fields events) ≡ length events = length-events events in
    omega arith

blocks_short : (c : ℕ) (callers : List (List Event)) → c + length callers ≤ 64 →
    AllByRecursion (AllByRecursion (λ e. IsShort (event_fields e))) callers →
    AllByRecursion IsShort (block_lines c callers)
blocks_short c [] few short = tt
blocks_short c (events ∷ callers) few short =
    let number : length (decimal c) ≤ 2 = length-decimal-le 2 c (omega arith) (omega arith) (omega arith) in (
      omega arith,
      each_append IsShort (map event_fields events) (block_lines (suc c) callers)
          (events_short events short.0) (blocks_short (suc c) callers (omega arith) short.1),
    )

length-block_lines : (c : ℕ) (callers : List (List Event)) →
    length (block_lines c callers) ≡ length callers + sum_by length callers
length-block_lines c [] = omega arith
length-block_lines c (events ∷ callers) =
    let rest : length (block_lines (suc c) callers) ≡ length callers + sum_by length callers =
    length-block_lines (suc c) callers in
    omega (
      arith,
      length-append (map event_fields events) (block_lines (suc c) callers),
      length-events events,
      sum_by-cons {X = List Event} length events callers,
    )

-- if a script has a version up to 3, at most 64 CPUs, 64 callers and 65,536 events, and if all its events are short
-- (`IsShort`), its text has at most 16,777,216 bytes
pub text_len : (s : Script) → s.version ≤ 3 → s.cpus ≤ 64 → length s.callers ≤ 64 → sum_by length s.callers ≤ 65536 →
    AllByRecursion (AllByRecursion (λ e. IsShort (event_fields e))) s.callers → length (script_text s) ≤ 16777216
text_len s version cpus few events short =
    let one : length (decimal s.version) ≤ 2 = length-decimal-le 2 s.version (omega arith) (omega arith) (omega arith)
    in
    let two : length (decimal s.cpus) ≤ 2 = length-decimal-le 2 s.cpus (omega arith) (omega arith) (omega arith) in
    let body = each_append IsShort (block_lines 0 s.callers) ((codes "end" ∷ []) ∷ [])
    (blocks_short 0 s.callers (omega arith) short) (omega arith, tt) in
    let all : AllByRecursion IsShort (script_lines s) = (omega arith, (omega arith, body)) in
    let count = length-block_lines 0 s.callers in
    omega (arith, lined_len (script_lines s) all, length-append (block_lines 0 s.callers) ((codes "end" ∷ []) ∷ []))
