-- The front of a text: the lines up to and including the first line `end`.
use Rattle.std.proofs.Common.{◌≡◌, ℕ, ◌-◌, Bool, true, false, cond, List, [], ◌∷◌, ◌++◌, length, take, refl, sym, ap, ◌∙◌, append_assoc, arith}
use Rattle.std.specs.List.{join_with_byte}
use Rattle.std.specs.Prelude.{codes}
use Rattle.std.specs.Str.{bytes_eq}
use Rattle.std.proofs.lemmas.List.{length-append, take_at}
use Rattle.std.proofs.lemmas.List.Splits.{join_with_byte-slice_split}
use Rattle.key_names.specs.Texts.ScriptFaults.{front, front_lines, parts}
use Rattle.key_names.proofs.Script.Parts.{HasFirst, first_part}

-- the text is `before` and then `left`; the text's front is `before` and then the front of `left`
pub record HasFront (text left : List ℕ) : Type 0 where
  pub before : List ℕ
  pub whole : text ≡ before ++ left
  pub front_is : front text ≡ before ++ front left

joined : (line : List ℕ) (lines : List (List ℕ)) → HasFirst lines → join_with_byte 10 (line ∷ lines) ≡ line ++ 10 ∷
    join_with_byte 10 lines
joined line [] some = absurd (let e = some.is in cc)
joined line (next ∷ lines) some = refl

cut_is : (left line rest : List ℕ) → parts 10 left ≡ line ∷ parts 10 rest → left ≡ line ++ 10 ∷ rest
cut_is left line rest cut =
    sym (join_with_byte-slice_split 10 left) ∙ ap (join_with_byte 10) cut
    ∙ joined line (parts 10 rest) (first_part 10 rest)
    ∙ ap (λ (r : List ℕ). line ++ 10 ∷ r) (join_with_byte-slice_split 10 rest)

first_chosen : (t : Bool) (a b c d : List (List ℕ)) (x y : List ℕ) → HasFirst (cond t (x ∷ a) (y ∷ b))
first_chosen true a b c d x y = record { first = x; others = a; is = refl }
first_chosen false a b c d x y = record { first = y; others = b; is = refl }

first_front : (lines : List (List ℕ)) → HasFirst lines → HasFirst (front_lines lines)
first_front [] some = absurd (let e = some.is in cc)
first_front (tail ∷ []) some = record { first = tail; others = []; is = refl }
first_front (line ∷ next ∷ more) some = first_chosen (bytes_eq line (codes "end")) ([] ∷ [])
    (front_lines (next ∷ more)) [] [] line line

front_on : (lines : List (List ℕ)) (line : List ℕ) → HasFirst lines → bytes_eq line (codes "end") ≡ false
    → front_lines (line ∷ lines) ≡ line ∷ front_lines lines
front_on [] line some not = absurd (let e = some.is in cc)
front_on (next ∷ more) line some not = rw not refl

front_end : (lines : List (List ℕ)) (line : List ℕ) → HasFirst lines → bytes_eq line (codes "end") ≡ true
    → front_lines (line ∷ lines) ≡ line ∷ [] ∷ []
front_end [] line some end = absurd (let e = some.is in cc)
front_end (next ∷ more) line some end = rw end refl

regroup : (before line rest : List ℕ) → before ++ (line ++ 10 ∷ rest) ≡ (before ++ (line ++ 10 ∷ [])) ++ rest
regroup before line rest = simp append_assoc

-- if the first line of `left` is not `end`, `HasFront` also holds for `rest`, the text after this line
pub goes_past : (text left line rest : List ℕ) → HasFront text left → parts 10 left ≡ line ∷ parts 10 rest
    → bytes_eq line (codes "end") ≡ false → HasFront text rest
goes_past text left line rest h cut not =
    let some = first_part 10 rest in
    let lines = ap front_lines cut ∙ front_on (parts 10 rest) line some not in
    let left_front : front left ≡ line ++ 10 ∷ front rest =
    ap (join_with_byte 10) lines ∙ joined line (front_lines (parts 10 rest)) (first_front (parts 10 rest) some) in
    record {
      before = h.before ++ (line ++ 10 ∷ []);
      whole = h.whole ∙ ap (λ (x : List ℕ). h.before ++ x) (cut_is left line rest cut) ∙ regroup h.before line rest;
      front_is = h.front_is ∙ ap (λ (x : List ℕ). h.before ++ x) left_front ∙ regroup h.before line (front rest);
    }

-- if the first line of `left` is `end`, the text's front ends after this line
pub ends_there : (text left line rest : List ℕ) → HasFront text left → parts 10 left ≡ line ∷ parts 10 rest
    → bytes_eq line (codes "end") ≡ true → take (length text - length rest) text ≡ front text
ends_there text left line rest h cut end =
    let lines = ap front_lines cut ∙ front_end (parts 10 rest) line (first_part 10 rest) end in
    let left_front : front left ≡ line ++ 10 ∷ [] = ap (join_with_byte 10) lines in
    let whole = h.whole ∙ ap (λ (x : List ℕ). h.before ++ x) (cut_is left line rest cut) ∙ regroup h.before line rest in
    let before = h.before ++ (line ++ 10 ∷ []) in
    let n : length before ≡ length text - length rest = omega (arith, ap length whole, length-append before rest) in
    ap (take (length text - length rest)) whole ∙ take_at before rest (length text - length rest) n
    ∙ sym (h.front_is ∙ ap (λ (x : List ℕ). h.before ++ x) left_front)
