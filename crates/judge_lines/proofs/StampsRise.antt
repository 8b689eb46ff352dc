-- Stamps rise along some steps exactly if each step is allowed after the stamp carried to it.
use Rattle.std.proofs.Common.{ℕ, Option, Some, None, List, [], ◌∷◌}
use Rattle.std.specs.Prelude.{◌↔◌}
use Rattle.std.specs.List.{AllByRecursion}
use Rattle.key_names.specs.declared.names.Step.{Step}
use Rattle.key_names.specs.declared.names.Step.TheVariants.{Look, Visit as Marked}
use Rattle.key_names.specs.Callers.History.{stamps_of}
use Rattle.key_names.specs.Transcripts.IsTranscript.{Rises}
use Rattle.key_names.proofs.Lists.Each.{each_weaker}
use Rattle.judge_lines.specs.Along.{Along}
use Rattle.judge_lines.specs.Stamps.{stamp_after, IsAbove}

abbrev Follow : Option ℕ → List Step → Type 0
Follow last steps = Along stamp_after IsAbove last steps

-- suppose that `last` is the stamp carried to the first step, and that each step is allowed after the stamp carried to
-- it. Then the visits' stamps rise, and the first of them is above `last`
rise_above : (last : ℕ) (steps : List Step) → Follow (Some last) steps → Rises (last ∷ stamps_of steps)
rise_above last [] h = tt
rise_above last (Look g ∷ steps) h = rise_above last steps h.1
rise_above last (Marked m ∷ steps) h = (h.0, rise_above m.stamp steps h.1)

above_rise : (last : ℕ) (steps : List Step) → Rises (last ∷ stamps_of steps) → Follow (Some last) steps
above_rise last [] h = tt
above_rise last (Look g ∷ steps) h = (tt, above_rise last steps h)
above_rise last (Marked m ∷ steps) h = (h.0, above_rise m.stamp steps h.1)

rise : (steps : List Step) → Follow None steps → Rises (stamps_of steps)
rise [] h = tt
rise (Look g ∷ steps) h = rise steps h.1
rise (Marked m ∷ steps) h = rise_above m.stamp steps h.1

follow : (steps : List Step) → Rises (stamps_of steps) → Follow None steps
follow [] h = tt
follow (Look g ∷ steps) h = (tt, follow steps h)
follow (Marked m ∷ steps) h = (tt, above_rise m.stamp steps h)

pub stamps_rise : (orders : List (List Step)) →
    AllByRecursion (Along stamp_after IsAbove None) orders ↔ AllByRecursion (λ order. Rises (stamps_of order)) orders
stamps_rise orders = (
  (λ all. each_weaker (Along stamp_after IsAbove None) (λ (order : List Step). Rises (stamps_of order)) orders rise all),
  (λ all. each_weaker (λ (order : List Step). Rises (stamps_of order)) (Along stamp_after IsAbove None) orders follow all),
)
