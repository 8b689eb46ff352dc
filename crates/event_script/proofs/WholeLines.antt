-- Texts of whole lines, and the rest after the first line.
use Rattle.std.proofs.Common.{◌≡◌, ℕ, ◌<◌, ◌==◌, Bool, true, false, length, arith, List, [], ◌∷◌, ◌++◌, append_assoc, append-nil, refl, sym, ap, subst, ◌∙◌, inl, inr, Ok, Err}
use Rattle.std.specs.Prelude.{if◌then◌else◌}
use Rattle.std.specs.List.{join_with_byte, list_any}
use Rattle.std.proofs.lemmas.Bool.{eqb-true}
use Rattle.std.proofs.lemmas.List.{length-append}
use Rattle.std.proofs.lemmas.List.Elements.{All-cons, All-nil}
use Rattle.std.proofs.lemmas.List.Splits.{join_with_byte-slice_split}
use Rattle.key_names.specs.declared.faults.FaultKind.TheVariants.{BadByte}
use Rattle.key_names.specs.Texts.ScriptFaults.{following, is_unprintable, line_of, parts}
use Rattle.key_names.proofs.Script.Parts.{Lacks, first_part, parts_at}
use Rattle.event_script.specs.Feeding.{IsWhole}

-- the text is `line`, a line feed and `rest`; `line` has no line feed, and `rest` is whole lines
pub record HasLine (text : List ℕ) : Type 0 where
  pub line : List ℕ
  pub rest : List ℕ
  pub is : text ≡ line ++ 10 ∷ rest
  pub clean : Lacks 10 line
  pub whole : IsWhole rest

begin_with : (b : ℕ) (t : Bool) (front : List ℕ) → (b == 10) ≡ t → HasLine (front ++ 10 ∷ [])
    → HasLine (b ∷ (front ++ 10 ∷ []))
begin_with b true front is h = record {
  line = [];
  rest = front ++ 10 ∷ [];
  is = ap (λ x. x ∷ (front ++ 10 ∷ [])) (eqb-true _ _ is);
  clean = All-nil (λ x. (x == 10) ≡ false);
  whole = inr (front, refl);
}
begin_with b false front is h = record {
  line = b ∷ h.line;
  rest = h.rest;
  is = ap (λ x. b ∷ x) h.is;
  clean = All-cons (λ x. (x == 10) ≡ false) b h.line is h.clean;
  whole = h.whole;
}

first_whole : (front : List ℕ) → HasLine (front ++ 10 ∷ [])
first_whole [] = record { line = []; rest = []; is = refl; clean = All-nil (λ x. (x == 10) ≡ false); whole = inl refl }
first_whole (b ∷ front) = begin_with b (b == 10) front refl (first_whole front)

pub has_line : (text : List ℕ) → IsWhole text → 0 < length text → HasLine text
has_line text (inl none) some = absurd (omega (arith, ap length none))
has_line text (inr front) some = subst HasLine (sym front.1) (first_whole front.0)

-- whatever `later` is, the lines of `text ++ later` are the first line and then the lines of `rest ++ later`
parts_of : (text later : List ℕ) (h : HasLine text) → parts 10 (text ++ later) ≡ h.line ∷ parts 10 (h.rest ++ later)
parts_of text later h =
    ap (λ x. parts 10 (x ++ later)) h.is
    ∙ ap (parts 10) (append_assoc h.line (10 ∷ h.rest) later)
    ∙ parts_at 10 h.line (h.rest ++ later) h.clean

first_line : (line text : List ℕ) → line_of (line ∷ parts 10 text)
    ≡ (if list_any is_unprintable line then Err BadByte else Ok line)
first_line line text = rw (first_part 10 text).is refl

module _ (text : List ℕ) (whole : IsWhole text) (some : 0 < length text) where
  -- later text does not change the first line
  pub line_stays : (later : List ℕ) → line_of (parts 10 (text ++ later)) ≡ line_of (parts 10 text)
  line_stays later =
      let h = has_line text whole some in
      ap line_of (parts_of text later h) ∙ first_line h.line (h.rest ++ later) ∙ sym (first_line h.line (h.rest ++ []))
      ∙ sym (ap line_of (parts_of text [] h)) ∙ ap (λ x. line_of (parts 10 x)) (append-nil text)

  module _ (rest : List ℕ) (cut : parts 10 rest ≡ following (parts 10 text)) where
    rest_is : (h : HasLine text) → rest ≡ h.rest
    rest_is h =
        sym (join_with_byte-slice_split 10 rest)
        ∙ ap (join_with_byte 10) (cut ∙ ap (λ x. following (parts 10 x)) (sym (append-nil text))
        ∙ ap following (parts_of text [] h) ∙ ap (parts 10) (append-nil h.rest))
        ∙ join_with_byte-slice_split 10 h.rest

    pub rest_is_whole : IsWhole rest
    rest_is_whole = let h = has_line text whole some in subst IsWhole (sym (rest_is h)) h.whole

    -- the lines after the first line of `text ++ later` are the lines of `rest` and then `later`
    pub rest_stays : (later : List ℕ) → following (parts 10 (text ++ later)) ≡ parts 10 (rest ++ later)
    rest_stays later =
        let h = has_line text whole some in
        ap following (parts_of text later h) ∙ ap (λ x. parts 10 (x ++ later)) (sym (rest_is h))

-- a text of whole lines is empty if it has no line feed
pub no_lines : (text : List ℕ) → IsWhole text → parts 10 text ≡ text ∷ [] → text ≡ []
no_lines text (inl none) one = none
no_lines text (inr front) one =
    let h = has_line text (inr front) (omega (arith, ap length front.1, length-append front.0 (10 ∷ []))) in
    absurd (omega (
      arith,
      ap length (sym one ∙ ap (parts 10) (sym (append-nil text)) ∙ parts_of text [] h),
      ap length (first_part 10 (h.rest ++ [])).is,
    ))

-- if the first line of `text` is `line`, followed by `rest`, then `text` is `line`, a line feed and `rest`
pub cut_joins : (text line rest : List ℕ) → parts 10 text ≡ line ∷ parts 10 rest → text ≡ line ++ 10 ∷ rest
cut_joins text line rest cut =
    let two = (first_part 10 rest).is in
    sym (join_with_byte-slice_split 10 text)
    ∙ ap (join_with_byte 10) (cut ∙ ap (λ x. line ∷ x) two)
    ∙ ap (λ x. line ++ 10 ∷ join_with_byte 10 x) (sym two)
    ∙ ap (λ x. line ++ 10 ∷ x) (join_with_byte-slice_split 10 rest)
