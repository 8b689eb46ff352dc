-- `IsAfter` and `HasFed` stay true of a reader that is fed piece by piece.
use Rattle.std.proofs.Common.{◌≡◌, ℕ, ◌+◌, ◌<◌, ◌≤◌, true, false, ltb, length, arith, ◌==◌, List, [], ◌∷◌, ◌++◌, append_assoc, append-nil, refl, sym, ap, subst, ◌∙◌, inl, inr, Err}
use Rattle.std.proofs.lemmas.Bool.{cases_lt, le-ltb, lt-ltb}
use Rattle.std.proofs.lemmas.List.{length-append}
use Rattle.std.proofs.lemmas.List.Elements.{All-append, All-head, All-nil, All-tail}
use Rattle.key_names.specs.declared.faults.FaultKind.TheVariants.{TooLong}
use Rattle.key_names.specs.Texts.ScriptFaults.{following, parts, script_of, script_of_lines}
use Rattle.key_names.proofs.Script.Parts.{Lacks}
use Rattle.event_script.specs.Feeding.{HasFed, IsAfter, IsWhole, LeadsTo, goes, number_of}
use Rattle.event_script.specs.declared.reader.ScriptReader.{ScriptReader}
use Rattle.event_script.specs.declared.whole.stage.ScriptStage.{ScriptStage}
use Rattle.event_script.proofs.WholeLines.{cut_joins, no_lines, rest_is_whole}

-- ---- A reader that reads whole lines

pub none_read : (text lines more : List ℕ) (r : ScriptReader) → IsWhole lines → parts 10 lines ≡ lines ∷ []
    → IsAfter text r (lines ++ more) → IsAfter text r more
none_read text lines more r whole one at = subst (λ x. IsAfter text r (x ++ more)) (no_lines lines whole one) at

pub after_is_whole : (lines end b : List ℕ) → IsWhole lines → parts 10 lines ≡ end ∷ parts 10 b → IsWhole b
after_is_whole lines end b whole cut =
    rest_is_whole lines whole (omega (arith, ap length (cut_joins lines end b cut), length-append end (10 ∷ b))) b
    (sym (ap following cut))

-- suppose that `lines` is `end`, a line feed and `b`. Then `rest`, `lines` and `more` together are the line
-- `rest ++ end`, its line feed, `b` and `more`
regroup : (rest lines end b more : List ℕ) → lines ≡ end ++ 10 ∷ b
    → rest ++ (lines ++ more) ≡ ((rest ++ end) ++ 10 ∷ []) ++ (b ++ more)
regroup rest lines end b more is =
    ap (λ x. rest ++ (x ++ more)) is
    ∙ ap (λ x. rest ++ x) (append_assoc end (10 ∷ b) more)
    ∙ sym (append_assoc rest end (10 ∷ (b ++ more)))
    ∙ sym (append_assoc (rest ++ end) (10 ∷ []) (b ++ more))

-- the reader `r` keeps the start of a line. `lines` is `end`, which completes that line, a line feed, and the whole
-- lines `b`. After the reader read `lines`, only `more` is unread
pub lines_read : (text lines end b more line : List ℕ) (r next : ScriptReader) (mid : ScriptStage)
    → parts 10 lines ≡ end ∷ parts 10 b → line ≡ (r.rest.items ++ end) ++ 10 ∷ [] → next.rest.items ≡ []
    → LeadsTo r.stage line mid [] → LeadsTo mid b next.stage []
    → IsAfter text r (lines ++ more) → IsAfter text next more
lines_read text lines end b more line r next mid cut is empty first second at =
    let joined = cut_joins lines end b cut in
    record {
      same = λ later.
          at.same later
          ∙ ap (λ x. goes r.stage (parts 10 (r.rest.items ++ x))) (append_assoc lines more later)
          ∙ ap (λ x. goes r.stage (parts 10 x)) (regroup r.rest.items lines end b (more ++ later) joined)
          ∙ ap (λ x. goes r.stage (parts 10 (x ++ (b ++ (more ++ later))))) (sym is)
          ∙ first.same (b ++ (more ++ later))
          ∙ second.same (more ++ later)
          ∙ ap (λ x. goes next.stage (parts 10 (x ++ (more ++ later)))) (sym empty);
      clean = rw empty (All-nil (λ x. (x == 10) ≡ false));
      number = omega (
        arith,
        at.number,
        first.number,
        second.number,
        ap length is,
        ap length joined,
        ap length empty,
        length-append lines more,
        length-append end (10 ∷ b),
        length-append (r.rest.items ++ end) (10 ∷ []),
        length-append r.rest.items end,
      );
    }

-- ---- a piece that ends with a line feed

no_items : (xs : List ℕ) → length xs ≡ 0 → xs ≡ []
no_items [] none = refl
no_items (x ∷ xs) none = absurd (omega (arith, none))

no_front : (front more : List ℕ) → front ≡ more ++ 10 ∷ [] → Lacks 10 front → ⊥
no_front [] more is clean = absurd (omega (arith, ap length is, length-append more (10 ∷ [])))
no_front (b ∷ front) [] is clean =
    let one : b ≡ 10 = cc in
    let other = subst (λ x. (x == 10) ≡ false) one (All-head (λ x. (x == 10) ≡ false) b front clean) in
    absurd cc
no_front (b ∷ front) (x ∷ more) is clean =
    no_front front more (let rest : front ≡ more ++ 10 ∷ [] = cc in rest)
    (All-tail (λ x. (x == 10) ≡ false) b front clean)

-- if the piece `lines ++ front` ends with a line feed and `front` has none, then `front` is empty and `lines` is not
pub ends_line : (lines front more : List ℕ) → lines ++ front ≡ more ++ 10 ∷ [] → Lacks 10 front
    → (front ≡ []) × (0 < length lines)
ends_line [] front more is clean = absurd (no_front front more is clean)
ends_line (b ∷ lines) front [] is clean =
    let none : lines ++ front ≡ [] = cc in
    (no_items front (omega (arith, ap length none, length-append lines front)), omega arith)
ends_line (b ∷ lines) front (x ∷ more) is clean =
    let rest : lines ++ front ≡ more ++ 10 ∷ [] = cc in
    ((ends_line lines front more rest clean).0, omega arith)

-- ---- The limit of 16,777,216 bytes on a text

pub not_too_long : (text : List ℕ) (r : ScriptReader) → HasFed text r → r.len ≤ 16777216 → length text ≤ 16777216
not_too_long text r fed few = elim (cases_lt 16777216 (length text)) [
  | inl many ↦ absurd (omega (arith, few, fed.long many))
  | inr short ↦ omega (arith, short)
]

pub fits_still : (text piece : List ℕ) (r : ScriptReader) → HasFed text r → r.len + length piece ≤ 16777216
    → length text + length piece ≤ 16777216
fits_still text piece r fed few =
    omega (arith, few, fed.len (not_too_long text r fed (omega arith)))

pub is_over : (text piece : List ℕ) (r : ScriptReader) → HasFed text r → 16777216 < r.len + length piece
    → 16777216 < length text + length piece
is_over text piece r fed many = elim (cases_lt 16777216 (length text)) [
  | inl long ↦ omega (arith, long)
  | inr few ↦ omega (arith, many, fed.len (omega arith))
]

-- ---- The reader reads one more piece

-- if `r` has read all of `text`, then `piece` is the unread part of `text ++ piece`
piece_begins : (text piece : List ℕ) (r : ScriptReader) → IsAfter text r [] → IsAfter (text ++ piece) r piece
piece_begins text piece r at = record {
  same = λ later. ap (λ x. script_of_lines (parts 10 x)) (append_assoc text piece later) ∙ at.same (piece ++ later);
  clean = at.clean;
  number = omega (arith, at.number, length-append text piece);
}

-- if the unread bytes, `front`, have no line feed, and the reader appends them to its field `rest` (the start of the
-- next line), then no byte is unread
front_kept : (text front : List ℕ) (r next : ScriptReader) → IsAfter text r front → Lacks 10 front → next.stage ≡ r.stage
    → next.rest.items ≡ r.rest.items ++ front → IsAfter text next []
front_kept text front r next at clean same rest = record {
  same = λ later.
      at.same later
      ∙ ap (λ x. goes r.stage (parts 10 x)) (sym (append_assoc r.rest.items front later)
      ∙ ap (λ x. x ++ later) (sym rest))
      ∙ ap (λ s. goes s (parts 10 (next.rest.items ++ later))) (sym same);
  clean = rw rest (All-append (λ x. (x == 10) ≡ false) r.rest.items front at.clean clean);
  number = omega (arith, at.number, ap number_of same, ap length rest, length-append r.rest.items front);
}

-- `IsAfter` depends only on the reader's stage and rest
same_place : (text unread : List ℕ) (r next : ScriptReader) → next.stage ≡ r.stage → next.rest.items ≡ r.rest.items
    → IsAfter text r unread → IsAfter text next unread
same_place text unread r next stage rest at = record {
  same = λ later. rw (stage, rest) (at.same later);
  clean = rw rest at.clean;
  number = rw (stage, rest) at.number;
}

-- if a reader was fed `text` and then reads `piece`, it was fed `text ++ piece`, provided that this text is not too
-- long
pub piece_read : (text piece lines front : List ℕ) (r begun read next : ScriptReader) → HasFed text r
    → length text + length piece ≤ 16777216 → piece ≡ lines ++ front → Lacks 10 front
    → begun.stage ≡ r.stage → begun.rest.items ≡ r.rest.items
    → ((all more : List ℕ) → IsAfter all begun (lines ++ more) → IsAfter all read more)
    → next.stage ≡ read.stage → next.rest.items ≡ read.rest.items ++ front → next.len ≡ r.len + length piece
    → HasFed (text ++ piece) next
piece_read text piece lines front r begun read next fed short is clean stage rest reads same kept len =
    let few : length text ≤ 16777216 = omega arith in
    let all = length-append text piece in
    record {
      len = λ _. omega (arith, len, fed.len few, all);
      long = λ many. absurd (omega (arith, many, all));
      read = λ _.
          front_kept (text ++ piece) front read next
          (reads (text ++ piece) front (subst (IsAfter (text ++ piece) begun) is
          (same_place (text ++ piece) piece r begun stage rest (piece_begins text piece r (fed.read few)))))
          clean same kept;
    }

-- if `text ++ piece` exceeds the limit of 16,777,216 bytes, `HasFed` requires only that the reader's count does too
pub too_long_now : (text piece : List ℕ) (r next : ScriptReader) → HasFed text r → 16777216 < length text + length piece
    → 16777216 < next.len → HasFed (text ++ piece) next
too_long_now text piece r next fed many long =
    let all = length-append text piece in
    record {
      len = λ few. absurd (omega (arith, few, all));
      long = λ _. long;
      read = λ few. absurd (omega (arith, few, all));
    }

-- ---- A text that exceeds the limit

pub too_long : (text : List ℕ) (r : ScriptReader) → HasFed text r → 16777216 < r.len
    → script_of text ≡ Err (record { line = 0; kind = TooLong })
unfolding script_of
too_long text r fed many = elim (cases_lt 16777216 (length text)) [
  | inl long ↦ let is : ltb 16777216 (length text) ≡ true = lt-ltb _ _ long in rw is refl
  | inr few ↦ absurd (omega (arith, many, fed.len (omega arith)))
]

pub whole_text : (text : List ℕ) (r : ScriptReader) → HasFed text r → r.len ≤ 16777216
    → script_of text ≡ goes r.stage (parts 10 r.rest.items)
unfolding script_of
whole_text text r fed few =
    let short = not_too_long text r fed few in
    let is : ltb 16777216 (length text) ≡ false = le-ltb _ _ short in
    rw is (ap (λ x. script_of_lines (parts 10 x)) (sym (append-nil text)) ∙ (fed.read short).same []
    ∙ ap (λ x. goes r.stage (parts 10 x)) (append-nil r.rest.items))
