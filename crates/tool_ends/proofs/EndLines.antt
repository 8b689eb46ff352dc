-- If the bytes taken last completed a line `end`, a search of these bytes and the four before them finds this line.
use Rattle.std.proofs.Common.{◌≡◌, ℕ, ◌+◌, ◌-◌, ◌≤◌, ◌⊎◌, inl, inr, List, ◌++◌, length, Option, None, Some, IsTrue}
use Rattle.std.proofs.Common.{refl, sym, ap, ◌∙◌, arith, length-append, length-drop}
use Rattle.std.specs.Prelude.{◌↔◌, drop, slice_index}
use Rattle.std.proofs.lemmas.List.{get_or_append_left}
use Rattle.std.specs.Option.{is_some}
use lib.Seq.{get_or-drop}
use Rattle.memchr.specs.Find.{FindsNeedle, OccursAt}
use Rattle.key_names.proofs.Transcripts.TranscriptBooks.{lt_or_le}
use Rattle.tool_ends.specs.Intakes.{HasEndLine, last_part}

occurs_after : (from : ℕ) (xs needle : List ℕ) (k : ℕ) → from ≤ length xs → OccursAt (drop from xs) needle k
    → OccursAt xs needle (from + k)
occurs_after from xs needle k le h = record {
  fits = let fits = h.fits in omega (arith, length-drop from xs);
  reads = λ j lt.
      let p : from + k + j ≡ from + (k + j) = omega arith in
      ap (λ m. slice_index xs m) p ∙ sym (get_or-drop from xs (k + j) 0) ∙ h.reads j lt;
}

occurs_in_rest : (from : ℕ) (xs needle : List ℕ) (place : ℕ) → from ≤ place → OccursAt xs needle place
    → OccursAt (drop from xs) needle (place - from)
occurs_in_rest from xs needle place le at = record {
  fits = let fits = at.fits in omega (arith, length-drop from xs);
  reads = λ j lt.
      let p : from + (place - from + j) ≡ place + j = omega arith in
      get_or-drop from xs (place - from + j) 0 ∙ ap (λ m. slice_index xs m) p ∙ at.reads j lt;
}

pub found_after : (from : ℕ) (xs needle : List ℕ) (r : Option ℕ) → from ≤ length xs
    → FindsNeedle (drop from xs) needle 0 r → IsTrue (is_some r) → (k : ℕ) × OccursAt xs needle k
found_after from xs needle None le finds is = cc
found_after from xs needle (Some k) le finds is = (from + k, occurs_after from xs needle k le finds.1)

-- the search returns a place in `xs` exactly if `xs` contains `needle`
pub found_exactly : (xs needle : List ℕ) (r : Option ℕ) → FindsNeedle xs needle 0 r
    → IsTrue (is_some r) ↔ ((k : ℕ) × OccursAt xs needle k)
found_exactly xs needle None nowhere =
    (λ is. cc, λ at. let fits = at.1.fits in absurd (nowhere at.0 (omega arith) (omega arith) at.1))
found_exactly xs needle (Some k) finds = (λ is. (k, finds.1), λ at. refl)

-- if `text ++ more` has a line `end`, then `text` has one, or `more` completed one
end_line_comes : (text more : List ℕ) → HasEndLine (text ++ more)
    → HasEndLine text ⊎ HasEndLine (last_part (length more) (text ++ more))
end_line_comes text more (place, at) =
    let from = length (text ++ more) - length more - 4 in
    elim (lt_or_le (length text) (place + 5)) [
      | inl late ↦ inr (place - from, occurs_in_rest from _ _ place (omega (arith, late, length-append text more)) at)
      | inr early ↦ inl (
        place,
        record {
          fits = early;
          reads = λ j below.
              sym (get_or_append_left text more 0 (place + j) (omega (arith, early, below))) ∙ at.reads j below;
        },
      )
    ]

-- if `text` has no line `end`, and `more` completed none, then `text ++ more` has none
pub no_end_line : (text more : List ℕ) → (HasEndLine text → ⊥)
    → (HasEndLine (last_part (length more) (text ++ more)) → ⊥) → HasEndLine (text ++ more) → ⊥
no_end_line text more none nowhere has = elim (end_line_comes text more has) [
  | inl before ↦ none before
  | inr last ↦ nowhere last
]
