-- The front of an input, its script, ends with the first line `end`, if there is one. Text after this line does not
-- change the front.
use Rattle.std.proofs.Common.{◌≡◌, ℕ, ◌+◌, ◌==◌, Bool, true, false, cond, List, [], ◌∷◌, ◌++◌, take, drop, refl, sym}
use Rattle.std.proofs.Common.{ap, ◌∙◌, append_assoc, arith, length-append}
use Rattle.std.specs.List.{join_with_byte, onto_first}
use Rattle.std.specs.Prelude.{codes}
use Rattle.std.specs.Str.{bytes_eq}
use Rattle.std.proofs.lemmas.List.{get_or_append_left, take-append-drop}
use Rattle.std.proofs.lemmas.List.Prefix.{at_from_reads}
use Rattle.key_names.specs.Texts.ScriptFaults.{front, front_lines, parts}
use Rattle.key_names.proofs.Script.Parts.{HasFirst, first_part}
use Rattle.tool_ends.specs.Intakes.{HasEndLine}

-- ---- the lines of a text, cut at a line feed

-- suppose that a byte is put before `lines`. Only the first line changes, or a new first line begins, whatever lines
-- `more` follow
onto_joined : (t : Bool) (b : ℕ) (lines more : List (List ℕ)) → HasFirst lines
    → cond t ([] ∷ lines ++ more) (onto_first b (lines ++ more)) ≡ cond t ([] ∷ lines) (onto_first b lines) ++ more
onto_joined t b [] more some = absurd (let e = some.is in cc)
onto_joined true b (line ∷ lines) more some = refl
onto_joined false b (line ∷ lines) more some = refl

-- the lines of a text that has a line feed are the lines before it, and then the lines after it
parts_joined : (a b : List ℕ) → parts 10 (a ++ 10 ∷ b) ≡ parts 10 a ++ parts 10 b
parts_joined [] b = refl
parts_joined (x ∷ a) b =
    ap (λ lines. cond (x == 10) ([] ∷ lines) (onto_first x lines)) (parts_joined a b)
    ∙ onto_joined (x == 10) x (parts 10 a) (parts 10 b) (first_part 10 a)

-- ---- the lines of the front

-- if `more` has a first line, so has `lines ++ more`
first_joined : (lines more : List (List ℕ)) → HasFirst more → HasFirst (lines ++ more)
first_joined [] more some = some
first_joined (line ∷ lines) more some = record { first = line; others = lines ++ more; is = refl }

-- the front of `line ∷ lines` ends after `line` if this is `end`; otherwise it goes on with the front of `lines`
front_by : (line : List ℕ) (lines : List (List ℕ)) → HasFirst lines
    → front_lines (line ∷ lines) ≡ cond (bytes_eq line (codes "end")) (line ∷ [] ∷ []) (line ∷ front_lines lines)
front_by line [] some = absurd (let e = some.is in cc)
front_by line (next ∷ more) some = refl

-- if a line `end` comes after `lines`, the lines after it do not change the front
front_same : (lines a b : List (List ℕ)) → HasFirst a → HasFirst b
    → front_lines (lines ++ codes "end" ∷ a) ≡ front_lines (lines ++ codes "end" ∷ b)
front_same [] a b some other = front_by (codes "end") a some ∙ sym (front_by (codes "end") b other)
front_same (line ∷ lines) a b some other =
    let some_first = λ (c : List (List ℕ)).
    first_joined lines (codes "end" ∷ c) (record { first = codes "end"; others = c; is = refl }) in
    front_by line (lines ++ codes "end" ∷ a) (some_first a)
    ∙ ap (λ (f : List (List ℕ)). cond (bytes_eq line (codes "end")) (line ∷ [] ∷ []) (line ∷ f))
    (front_same lines a b some other)
    ∙ sym (front_by line (lines ++ codes "end" ∷ b) (some_first b))

-- ---- more text after a line `end`

-- a text with a line `end` is the text before this line, the line, and the text after it
cut_at_end : (text : List ℕ) (h : HasEndLine text)
    → text ≡ take h.0 text ++ 10 ∷ 101 ∷ 110 ∷ 100 ∷ 10 ∷ drop (h.0 + 5) text
cut_at_end text h =
    sym (take-append-drop h.0 text)
    ∙ ap (λ rest. take h.0 text ++ rest)
    (at_from_reads 0 text (10 ∷ 101 ∷ 110 ∷ 100 ∷ 10 ∷ []) h.0 h.1.fits h.1.reads)

-- if two texts are the same up to and including a line `end`, they have the same front
front_at_end : (a b c : List ℕ)
    → front (a ++ 10 ∷ 101 ∷ 110 ∷ 100 ∷ 10 ∷ b) ≡ front (a ++ 10 ∷ 101 ∷ 110 ∷ 100 ∷ 10 ∷ c)
front_at_end a b c =
    let same = front_same (parts 10 a) (parts 10 b) (parts 10 c) (first_part 10 b) (first_part 10 c) in
    ap (join_with_byte 10) (ap front_lines (parts_joined a (101 ∷ 110 ∷ 100 ∷ 10 ∷ b)) ∙ same
    ∙ sym (ap front_lines (parts_joined a (101 ∷ 110 ∷ 100 ∷ 10 ∷ c))))

-- if `text` has a line `end`, so has `text ++ more`
pub end_stays : (text more : List ℕ) → HasEndLine text → HasEndLine (text ++ more)
end_stays text more (place, at) = (
  place,
  record {
    fits = let fits = at.fits in omega (arith, length-append text more);
    reads = λ j below.
        get_or_append_left text more 0 (place + j) (let fits = at.fits in omega arith) ∙ at.reads j below;
  },
)

-- if `text` has a line `end`, `text ++ more` has the same front as `text`
pub front_stays : (text more : List ℕ) → HasEndLine text → front (text ++ more) ≡ front text
front_stays text more h =
    let cut = cut_at_end text h in
    let a = take h.0 text in
    let b = drop (h.0 + 5) text in
    ap (λ t. front (t ++ more)) cut
    ∙ ap front (append_assoc a (10 ∷ 101 ∷ 110 ∷ 100 ∷ 10 ∷ b) more)
    ∙ front_at_end a (b ++ more) b ∙ sym (ap front cut)
