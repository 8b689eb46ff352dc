-- The number of bytes that lines show, computed from the lengths of their data.
use Rattle.std.proofs.Common.{◌≡◌, ℕ, List, [], ◌∷◌, length, drop, refl, ap, sym, ◌∙◌, All, arith}
use Rattle.std.specs.List.{sum_by, AllByRecursion}
use Rattle.std.proofs.lemmas.List.{length-append, length-drop, length-take}
use Rattle.std.proofs.lemmas.Grind.{flat_map-append}
use Rattle.std.proofs.lemmas.List.Concat.{flat_map-cons}
use Rattle.std.proofs.lemmas.List.Elements.{recursion_from_All}
use Rattle.std.proofs.lemmas.List.Sums.{sum_by-cons}
use Rattle.key_names.specs.declared.lines.Data.{Data}
use Rattle.key_names.specs.declared.lines.Data.TheVariants.{None as NoData, Bytes, Count}
use Rattle.key_names.specs.declared.lines.Line.{Line}
use Rattle.key_names.specs.declared.names.Step.{Step}
use Rattle.key_names.specs.Transcripts.SeenLine.{SeenLine, bytes_in, bytes_shown, shown_in, seen_lines}
use Rattle.key_names.specs.Texts.TranscriptGrammar.{all_lines}
use Rattle.transcript_text.specs.Gathered.{IsWithin, LineWithin}
use Rattle.rng_tool.specs.LoadOutcome.{data_len}

length-shown : (kept : List ℕ) (shown : Data) → IsWithin (length kept) shown
    → length (bytes_in (shown_in kept shown)) ≡ data_len shown
length-shown kept NoData within = refl
length-shown kept (Count n) within = refl
length-shown kept (Bytes len start) within =
    omega (arith, length-take len (drop start kept), length-drop start kept, within.1)

length-shown_lines : (kept : List ℕ) (steps : List Step) (lines : List Line)
    → AllByRecursion (LineWithin (length kept) (length steps)) lines
    → length (bytes_shown (seen_lines kept steps lines)) ≡ sum_by (λ line. data_len line.shown) lines
length-shown_lines kept steps [] within = refl
length-shown_lines kept steps (line ∷ lines) within = omega (
  arith,
  sum_by-cons (λ (l : Line). data_len l.shown) line lines,
  length-append (bytes_in (shown_in kept line.shown)) (bytes_shown (seen_lines kept steps lines)),
  length-shown kept line.shown within.0.shown,
  length-shown_lines kept steps lines within.1,
)

-- the lengths of the data in one caller's lines add up to the number of bytes that these lines show
pub sum_of_data : (kept : List ℕ) (steps : List Step) (raw : List Line) (lines : List SeenLine)
    → seen_lines kept steps raw ≡ lines → All (LineWithin (length kept) (length steps)) raw
    → sum_by (λ line. data_len line.shown) raw ≡ length (bytes_shown lines)
sum_of_data kept steps raw lines seen within =
    sym (length-shown_lines kept steps raw (recursion_from_All (LineWithin (length kept) (length steps)) raw within))
    ∙ ap (λ (ls : List SeenLine). length (bytes_shown ls)) seen

-- the numbers of bytes that each caller's lines show add up to the number of bytes that all lines show
pub sum_of_callers : (t : List (List SeenLine))
    → sum_by (λ lines. length (bytes_shown lines)) t ≡ length (bytes_shown (all_lines t))
sum_of_callers [] = refl
sum_of_callers (lines ∷ t) = omega (
  arith,
  sum_by-cons (λ (ls : List SeenLine). length (bytes_shown ls)) lines t,
  ap (λ (ls : List SeenLine). length (bytes_shown ls)) (flat_map-cons (λ (ls : List SeenLine). ls) lines t),
  ap length (flat_map-append (λ (line : SeenLine). bytes_in line.shown) lines (all_lines t)),
  length-append (bytes_shown lines) (bytes_shown (all_lines t)),
  sum_of_callers t,
)
