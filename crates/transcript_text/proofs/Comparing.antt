-- Comparing a text with the pieces of a transcript's text in turn compares it with the whole text.
use Rattle.std.proofs.Common.{◌≡◌, ◌≢◌, ℕ, ◌+◌, ◌-◌, ◌<◌, ◌≤◌, List, [], ◌++◌, length, drop, take, refl, ap, sym, subst, ◌∙◌, append_assoc, append-nil, arith, min}
use Rattle.std.proofs.Math.Seq.{take-add}
use Rattle.std.proofs.lemmas.List.{drop_all, drop_at, drop-append-le, drop-drop, length-append, length-drop, length-take, take-append-drop, take-append-le, take_at}
use Rattle.key_names.specs.Transcripts.SeenLine.{SeenLine}
use Rattle.key_names.specs.Texts.TranscriptGrammar.{transcript_text}
use Rattle.transcript_text.specs.Comparing.{IsBefore, IsOther}
use Rattle.transcript_text.specs.Feeding.{HasFed}
use Rattle.transcript_text.specs.Places.{IsIn, text_left}
use Rattle.transcript_text.specs.declared.printing.place.TextPosition.{TextPosition}
use Rattle.transcript_text.specs.declared.parsing.reader.TranscriptReader.{TranscriptReader}

-- if all of `piece` was compared, the part of the transcript's text that is not compared yet is the text after `place`
after_piece : (made : List (List SeenLine)) (same from : ℕ) (piece : List ℕ) (place : TextPosition)
    → IsBefore made same piece from place → from ≡ length piece → drop same (transcript_text made) ≡ text_left place made
after_piece made same from piece place b over =
    b.next ∙ ap (λ front. front ++ text_left place made) (drop_all from piece (omega (arith, over)))

pub next_piece : (made : List (List SeenLine)) (same from : ℕ) (piece next : List ℕ) (place following : TextPosition)
    → IsBefore made same piece from place → from ≡ length piece
    → text_left place made ≡ next ++ text_left following made → IsIn following made → IsBefore made same next 0 following
next_piece made same from piece next place following b over is within = record {
  within = within;
  in_piece = omega arith;
  few = b.few;
  next = after_piece made same from piece place b over ∙ is;
}

-- if no byte follows the first `same` bytes of `text`, these bytes are the whole text
all_same : (same : ℕ) (text : List ℕ) → drop same text ≡ [] → take same text ≡ text
all_same same text none =
    sym (append-nil (take same text)) ∙ ap (λ following. take same text ++ following) (sym none) ∙ take-append-drop same text

pub no_more : (made : List (List SeenLine)) (same from : ℕ) (piece bytes : List ℕ) (place : TextPosition)
    → IsBefore made same piece from place → from ≡ length piece → text_left place made ≡ [] → 0 < length bytes
    → IsOther made (take same (transcript_text made)) bytes
no_more made same from piece bytes place b over none some following is =
    let text = take same (transcript_text made) in
    let whole = ap length (all_same same (transcript_text made) (after_piece made same from piece place b over ∙ none)) in
    omega (arith, ap length is, whole, length-append (text ++ bytes) following, length-append text bytes, some)

front_of_length : (most : ℕ) (text front : List ℕ) → front ≡ take most text → front ≡ take (length front) text
front_of_length most text front is =
    sym (take_at front (drop most text) (length front) refl)
    ∙ ap (take (length front)) (ap (λ f. f ++ drop most text) is ∙ take-append-drop most text)

-- `next`, the bytes of the piece that are compared next, are the next bytes of the transcript's text
is_next : (made : List (List SeenLine)) (same from : ℕ) (piece bytes next : List ℕ) (place : TextPosition)
    → IsBefore made same piece from place → next ≡ take (length bytes) (drop from piece)
    → next ≡ take (length next) (drop same (transcript_text made))
is_next made same from piece bytes next place b is =
    let long = ap length is in
    let len = length-take (length bytes) (drop from piece) in
    let whole : next ≡ take (length next) (drop from piece) =
    front_of_length (length bytes) (drop from piece) next is in
    whole ∙ sym (ap (take (length next)) b.next
    ∙ take-append-le (length next) (drop from piece) (text_left place made) (omega (arith, long, len)))

pub same_on : (made : List (List SeenLine)) (same from : ℕ) (piece bytes next : List ℕ) (place : TextPosition)
    → IsBefore made same piece from place → next ≡ take (length bytes) (drop from piece)
    → IsBefore made (same + length next) piece (from + length next) place
same_on made same from piece bytes next place b is =
    let text = transcript_text made in
    let left = text_left place made in
    let few : length next ≤ length (drop from piece) =
    omega (arith, ap length is, length-take (length bytes) (drop from piece)) in
    record {
      within = b.within;
      in_piece = omega (arith, few, length-drop from piece, b.in_piece);
      few = omega (arith, few, ap length b.next, length-append (drop from piece) left, length-drop same text, b.few);
      next = sym (drop-drop (length next) same text) ∙ ap (drop (length next)) b.next
          ∙ drop-append-le (length next) (drop from piece) left few
          ∙ ap (λ following. following ++ left) (drop-drop (length next) from piece);
    }

pub text_on : (made : List (List SeenLine)) (same from : ℕ) (piece bytes next front : List ℕ) (place : TextPosition)
    → IsBefore made same piece from place → next ≡ take (length bytes) (drop from piece)
    → front ≡ take (length next) bytes → front ≡ next
    → take (same + length next) (transcript_text made) ≡ take same (transcript_text made) ++ take (length next) bytes
text_on made same from piece bytes next front place b is front_is alike =
    let text = transcript_text made in
    take-add same (length next) text ∙ ap (λ more. take same text ++ more)
    (sym (is_next made same from piece bytes next place b is) ∙ sym alike ∙ front_is)

-- if `front`, the first of `bytes`, differs from `next`, the next bytes of the piece, the transcript's text does not
-- continue with `bytes`
pub other : (made : List (List SeenLine)) (same from : ℕ) (piece bytes next front : List ℕ) (place : TextPosition)
    → IsBefore made same piece from place → next ≡ take (length bytes) (drop from piece)
    → front ≡ take (length next) bytes → front ≢ next
    → IsOther made (take same (transcript_text made)) bytes
other made same from piece bytes next front place b next_is front_is differ following is =
    let text = transcript_text made in
    let len : length (take same text) ≡ same = omega (arith, length-take same text, b.few) in
    let few : length next ≤ length bytes =
    omega (arith, ap length next_is, length-take (length bytes) (drop from piece)) in
    let rest_is : drop same text ≡ bytes ++ following =
    ap (drop same) (sym is ∙ append_assoc (take same text) bytes following)
    ∙ drop_at (take same text) (bytes ++ following) same len in
    differ (front_is ∙ sym (take-append-le (length next) bytes following few) ∙ ap (take (length next)) (sym rest_is)
    ∙ sym (is_next made same from piece bytes next place b next_is))

-- if the first `same` bytes are the whole text of the transcript, the piece is used up, and no text is left after
-- `place`
pub none_left : (made : List (List SeenLine)) (same from : ℕ) (piece : List ℕ) (place : TextPosition)
    → IsBefore made same piece from place → take same (transcript_text made) ≡ transcript_text made
    → (from ≡ length piece) × (length (text_left place made) ≡ 0)
none_left made same from piece place b whole =
    let text = transcript_text made in
    let len = ap length whole in
    let parts = length-append (drop from piece) (text_left place made) in
    omega (
      arith,
      len,
      length-take same text,
      length-drop same text,
      ap length b.next,
      parts,
      length-drop from piece,
      b.in_piece,
      b.few,
    )

-- ---- feeding the compared bytes to a reader

-- the reader was fed the first `same` bytes of the transcript's text except the last `left` of them; if `left` is not
-- 0, these last bytes begin at `place`
pub record FedSoFar (made : List (List SeenLine)) (same left : ℕ) (place : TextPosition) (reader : TranscriptReader) : Type 0 where
  pub within : IsIn place made
  pub few : left ≤ same
  pub fed : HasFed (take (same - left) (transcript_text made)) reader
  pub next : 0 < left → drop (same - left) (transcript_text made) ≡ text_left place made

pub fed_on : (made : List (List SeenLine)) (same left count : ℕ) (place following : TextPosition) (reader next : TranscriptReader) (piece : List ℕ)
    → FedSoFar made same left place reader → 0 < left → IsIn following made
    → text_left place made ≡ piece ++ text_left following made
    → count ≡ min (length piece) left
    → ((text : List ℕ) → HasFed text reader → HasFed (text ++ take count piece) next)
    → FedSoFar made same (left - count) following next
fed_on made same left count place following reader next piece f some within is count_is on =
    let text = transcript_text made in
    let fed = same - left in
    let after : same - (left - count) ≡ fed + count = omega (arith, count_is, f.few) in
    let rest : drop fed text ≡ piece ++ text_left following made = f.next some ∙ is in
    let more : take (fed + count) text ≡ take fed text ++ take count piece =
    take-add fed count text ∙ ap (λ front. take fed text ++ front)
    (ap (take count) rest ∙ take-append-le count piece (text_left following made) (omega (arith, count_is))) in
    record {
      within = within;
      few = omega (arith, f.few);
      fed = subst (λ n. HasFed (take n text) next) (sym after)
          (subst (λ t. HasFed t next) (sym more) (on (take fed text) f.fed));
      next = λ left_some.
          let whole : count ≡ length piece = omega (arith, count_is, left_some) in
          ap (λ n. drop n text) after ∙ sym (drop-drop count fed text) ∙ ap (drop count) rest
          ∙ drop_at piece (text_left following made) count (sym whole);
    }
