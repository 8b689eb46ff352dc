-- `IsAfter` and `HasFed` stay true of a reader that is fed piece by piece. At the end the reader finds the text's first
-- fault or its transcript.
use Rattle.std.proofs.Common.{◌≡◌, ℕ, ◌+◌, ◌<◌, ◌≤◌, Bool, true, false, List, [], ◌∷◌, ◌++◌, length, refl, sym, ap, subst, ◌∙◌, append_assoc, append-nil, arith}
use Rattle.std.specs.Prelude.{vec_len, Result, Ok, Err, IfOk, MatchBool}
use Rattle.std.proofs.lemmas.List.{length-append, length-map}
use Rattle.key_names.specs.Transcripts.SeenLine.{SeenLine}
use Rattle.key_names.specs.Texts.Spelling.{lined}
use Rattle.key_names.specs.Texts.TranscriptGrammar.{IsFirstFault, IsTranscriptText, all_lines}
use Rattle.transcript_text.specs.Feeding.{CountedSoFar, HasFed, HasEmitted, IsAfter, IsUnread, ReadSoFar, ConformsAs, ConformsAt, front_of, with_line, head_line, line_end}
use Rattle.transcript_text.specs.Grouping.{Gives, Groups, seen_callers}
use Rattle.transcript_text.specs.ReadTexts.{AddsLine, IsNoLine, IsPassed}
use Rattle.transcript_text.specs.Reading.{lacks}
use Rattle.transcript_text.specs.declared.parsing.reader.TranscriptReader.{TranscriptReader}
use Rattle.transcript_text.specs.declared.parsing.so_far.SoFar.{SoFar}
use Rattle.transcript_text.specs.declared.parsing.so_far.TranscriptStage.{TranscriptStage}
use Rattle.transcript_text.specs.declared.parsing.so_far.TranscriptStage.TheVariants.{Head, Lines, Ended, Faulty}
use Rattle.transcript_text.proofs.CountingOn.{passes}
use Rattle.transcript_text.proofs.Cutting.{lacks-append}
use Rattle.transcript_text.proofs.ReadingOn.{begins, fault_after, fault_line, fault_missing, few_done, found, goes_on, other_head, uncut_head}

-- ---- what was read stays read if the text continues

more_read : (text more : List ℕ) (done : List (List SeenLine)) (current : List SeenLine) (rest : List ℕ) (number : ℕ)
    → ReadSoFar text done current rest number → ReadSoFar (text ++ more) done current (rest ++ more) number
more_read text more done current rest number r = record {
  lines = r.lines;
  groups = r.groups;
  rising = r.rising;
  last = r.last;
  parts = ap (λ x. x ++ more) r.parts ∙ append_assoc (lined (front_of r.lines)) rest more;
  count = r.count;
  begun = r.begun;
}

more_counted : (text more : List ℕ) (least : ℕ) (rest : List ℕ) (number : ℕ)
    → CountedSoFar text least rest number → CountedSoFar (text ++ more) least (rest ++ more) number
more_counted text more least rest number c = record {
  done = c.done;
  current = c.current;
  read = more_read text more c.done c.current rest number c.read;
  many = c.many;
}

more_emitted : (s : SoFar) (text rest more : List ℕ) → HasEmitted s text rest → HasEmitted s (text ++ more) (rest ++ more)
more_emitted s text rest more t = record {
  counted = more_counted text more (vec_len s.done) rest (s.lines + 1) t.counted;
  kept = λ few.
      more_read text more (seen_callers s.done.items) s.current.lines rest (s.lines + 1) (t.kept few);
}

more_conforms : (stage : TranscriptStage) (s : SoFar) (text rest more : List ℕ) → ConformsAs stage s text rest
    → ConformsAs stage s (text ++ more) (rest ++ more)
more_conforms Head s text rest more at = (at.0, ap (λ x. x ++ more) at.1)
more_conforms Lines s text rest more t = more_emitted s text rest more t
more_conforms Ended s text rest more t = more_emitted s text (line_end ++ 10 ∷ rest) more t
more_conforms (Faulty line) s text rest more fault = λ following.
    subst (λ x. IsFirstFault x line) (sym (append_assoc text more following)) (fault (more ++ following))

-- ---- a reader's state after one more line

begin_lines : (s : SoFar) (text line following : List ℕ) → IsUnread s → text ≡ line ++ 10 ∷ following → line ≡ head_line
    → HasEmitted s text following
begin_lines s text line following none cut is = record {
  counted = record {
    done = [];
    current = [];
    read = subst (λ n. ReadSoFar text [] [] following (n + 1)) (sym none.lines)
        (begins text line following [] [] cut is refl refl);
    many = omega (arith, s.done.ok.0, ap length none.done);
  };
  kept = λ few. subst (λ n. ReadSoFar text (seen_callers s.done.items) s.current.lines following (n + 1)) (sym none.lines)
      (begins text line following (seen_callers s.done.items) s.current.lines cut is (ap seen_callers none.done)
      none.current);
}

pub begun : (s : SoFar) (text line following : List ℕ) → IsUnread s → lacks 10 line ≡ true → text ≡ line ++ 10 ∷ following
    → line ≡ head_line → ConformsAs Lines s text following
begun s text line following none clean cut is = begin_lines s text line following none cut is

pub not_begun : (s : SoFar) (text line following : List ℕ) → lacks 10 line ≡ true → text ≡ line ++ 10 ∷ following
    → (line ≡ head_line → ⊥) → ConformsAs (Faulty 1) s text following
not_begun s text line following clean cut not = λ more.
    other_head (text ++ more) line (following ++ more)
    (ap (λ x. x ++ more) cut ∙ append_assoc line (10 ∷ following) more) clean not

pub ended : (s : SoFar) (text line following : List ℕ) → HasEmitted s text (line ++ 10 ∷ following) → line ≡ line_end
    → ConformsAs Ended s text following
ended s text line following t is = subst (λ x. HasEmitted s text (x ++ 10 ∷ following)) is t

module _ (s next : SoFar) (line : List ℕ) (most : next.most ≡ s.most) (lines : next.lines ≡ s.lines) where
  -- a line of a caller is kept and counted if fewer than `s.most` lines were counted before
  kept_line : s.lines < s.most
      → AddsLine line (seen_callers s.done.items) (seen_callers next.done.items) s.current.lines next.current.lines
      → (text following : List ℕ) → HasEmitted s text (line ++ 10 ∷ following) → HasEmitted (with_line next) text following
  kept_line few adds text following t =
      let read : ReadSoFar text (seen_callers next.done.items) next.current.lines following (next.lines + 1 + 1) =
      subst (λ n. ReadSoFar text (seen_callers next.done.items) next.current.lines following (n + 1 + 1)) (sym lines)
      (goes_on text (line ++ 10 ∷ following) line following (seen_callers s.done.items) (seen_callers next.done.items)
      s.current.lines next.current.lines (s.lines + 1) (t.kept (omega arith)) refl adds) in
      record {
        counted = record {
          done = seen_callers next.done.items;
          current = next.current.lines;
          read = read;
          many = omega (arith, length-map next.done.items (λ c. c.lines), next.done.ok.0);
        };
        kept = λ _. read;
      }

  -- if at least `s.most` lines were counted before, a line of a caller is counted, and not kept
  passed_line : s.most ≤ s.lines → IsPassed line (vec_len s.done) (vec_len next.done)
      → (text following : List ℕ) → HasEmitted s text (line ++ 10 ∷ following) → HasEmitted (with_line next) text following
  passed_line many passed text following t = record {
    counted = subst (λ n. CountedSoFar text (vec_len next.done) following (n + 1 + 1)) (sym lines)
        (passes text (line ++ 10 ∷ following) line following (vec_len s.done) (s.lines + 1) (vec_len next.done) t.counted refl
        passed);
    kept = λ few. absurd (omega (arith, many, most, lines, few));
  }

  abbrev Taken : Bool → Type 0
  Taken is = MatchBool is ((text following : List ℕ) → HasEmitted s text (line ++ 10 ∷ following)
      → HasEmitted (with_line next) text following) (IsNoLine line (vec_len s.done))

  pub kept_or_none : {E : Type 0} (answer : Result Bool E) → s.lines < s.most
      → IfOk answer (λ is. MatchBool is
      (AddsLine line (seen_callers s.done.items) (seen_callers next.done.items) s.current.lines next.current.lines)
      (IsNoLine line (vec_len s.done))) → IfOk answer Taken
  kept_or_none (Ok true) few adds = kept_line few adds
  kept_or_none (Ok false) few none = none
  kept_or_none (Err e) few none = tt

  pub passed_or_none : {E : Type 0} (answer : Result Bool E) → s.most ≤ s.lines
      → IfOk answer (λ is. MatchBool is (IsPassed line (vec_len s.done) (vec_len next.done))
      (IsNoLine line (vec_len s.done))) → IfOk answer Taken
  passed_or_none (Ok true) many passed = passed_line many passed
  passed_or_none (Ok false) many none = none
  passed_or_none (Err e) many none = tt

-- if `line` is neither the last line, `end`, nor a caller's line that may come next, `line` is the first fault,
-- whatever text follows
pub no_line : (s next : SoFar) (text line following : List ℕ) → HasEmitted s text (line ++ 10 ∷ following)
    → lacks 10 line ≡ true → (line ≡ line_end → ⊥) → IsNoLine line (vec_len s.done) → next.lines ≡ s.lines
    → ConformsAs (Faulty (next.lines + 2)) next text following
no_line s next text line following t clean not none lines = λ more.
    let c = more_counted text more (vec_len s.done) (line ++ 10 ∷ following) (s.lines + 1) t.counted in
    let n : s.lines + 1 + 1 ≡ next.lines + 2 = omega (arith, lines) in
    subst (IsFirstFault (text ++ more)) n
    (fault_line (text ++ more) ((line ++ 10 ∷ following) ++ more) line (following ++ more) c.done c.current (s.lines + 1)
    (vec_len s.done) c.read (append_assoc line (10 ∷ following) more) clean not (sym c.many) none)

-- if `rest`, the text after the last line `end`, is not empty, the line after `end` is the first fault
goes_past : (s : SoFar) (text rest : List ℕ) → HasEmitted s text (line_end ++ 10 ∷ rest) → (rest ≡ [] → ⊥)
    → IsFirstFault text (s.lines + 3)
goes_past s text rest t some =
    let n : s.lines + 1 + 2 ≡ s.lines + 3 = omega arith in
    subst (IsFirstFault text) n
    (fault_after text (line_end ++ 10 ∷ rest) rest line_end t.counted.done t.counted.current (s.lines + 1)
    t.counted.read refl refl some)

pub stays_past : (s next : SoFar) (text line following : List ℕ) → ConformsAt s text (line ++ 10 ∷ following)
    → s.stage ≡ Ended → ConformsAs (Faulty (s.lines + 3)) next text following
stays_past s next text line following at is = λ more.
    let t : HasEmitted s text (line_end ++ 10 ∷ (line ++ 10 ∷ following)) =
    subst (λ x. ConformsAs x s text (line ++ 10 ∷ following)) is at in
    goes_past s (text ++ more) ((line ++ 10 ∷ following) ++ more)
    (more_emitted s text (line_end ++ 10 ∷ (line ++ 10 ∷ following)) more t)
    (λ none. absurd (omega (
      arith,
      ap length none,
      length-append (line ++ 10 ∷ following) more,
      length-append line (10 ∷ following),
    )))

-- ---- a reader within a piece that it is fed

-- if `piece` is added to the text that a reader was fed, exactly `piece` is unread
pub piece_begins : (text piece : List ℕ) (r : TranscriptReader) → HasFed text r → IsAfter (text ++ piece) r piece
piece_begins text piece r fed = record {
  conforms = subst (ConformsAt r.so_far (text ++ piece)) (ap (λ x. x ++ piece) (append-nil r.rest.items))
      (more_conforms r.so_far.stage r.so_far text (r.rest.items ++ []) piece fed.conforms);
  clean = fed.clean;
  bound = omega (arith, fed.bound, length-append text piece);
}

-- if the unread rest of a piece has no line feed, the reader keeps this rest as the start of a line
pub rest_kept : (text unread : List ℕ) (r next : TranscriptReader) → IsAfter text r unread → lacks 10 unread ≡ true
    → next.so_far ≡ r.so_far → next.rest.items ≡ r.rest.items ++ unread → HasFed text next
rest_kept text unread r next at clean same rest = record {
  conforms = rw same (subst (ConformsAt r.so_far text) (sym (append-nil next.rest.items ∙ rest)) at.conforms);
  clean = rw rest (lacks-append 10 r.rest.items unread at.clean clean);
  bound = omega (arith, at.bound, ap (λ s. s.lines) same, ap length rest, length-append r.rest.items unread);
}

-- if the unread bytes begin with the end of a line whose start the reader kept, the reader takes this line
pub line_ends : (text following end line : List ℕ) (r next : TranscriptReader) → IsAfter text r (end ++ 10 ∷ following)
    → lacks 10 end ≡ true → line ≡ r.rest.items ++ end → next.rest.items ≡ []
    → next.so_far.lines ≤ r.so_far.lines + 1
    → (lacks 10 line ≡ true → ConformsAt r.so_far text (line ++ 10 ∷ following) → ConformsAt next.so_far text following)
    → IsAfter text next following
line_ends text following end line r next at clean is empty few conforms = record {
  conforms = subst (λ x. ConformsAt next.so_far text (x ++ following)) (sym empty)
      (conforms (rw is (lacks-append 10 r.rest.items end at.clean clean))
      (subst (ConformsAt r.so_far text) (sym (append_assoc r.rest.items end (10 ∷ following))
      ∙ ap (λ x. x ++ 10 ∷ following) (sym is)) at.conforms));
  clean = rw empty refl;
  bound = omega (arith, at.bound, few, ap length empty, length-append end (10 ∷ following));
}

-- ---- the first fault of a text that ends too early

pub cut_at_head : (text : List ℕ) (r : TranscriptReader) → HasFed text r → r.so_far.stage ≡ Head → IsFirstFault text 1
cut_at_head text r fed is =
    let at : ConformsAs Head r.so_far text (r.rest.items ++ []) = subst (λ x. ConformsAs x r.so_far text (r.rest.items ++ []))
    is fed.conforms in
    uncut_head text (subst (λ x. lacks 10 x ≡ true) (sym (at.1 ∙ append-nil r.rest.items)) fed.clean)

pub cut_at_line : (text : List ℕ) (r : TranscriptReader) → HasFed text r → r.so_far.stage ≡ Lines
    → IsFirstFault text (r.so_far.lines + 2)
cut_at_line text r fed is =
    let t : HasEmitted r.so_far text (r.rest.items ++ []) = subst (λ x. ConformsAs x r.so_far text (r.rest.items ++ [])) is
    fed.conforms in
    let n : r.so_far.lines + 1 + 1 ≡ r.so_far.lines + 2 = omega arith in
    subst (IsFirstFault text) n
    (fault_missing text (r.rest.items ++ []) t.counted.done t.counted.current (r.so_far.lines + 1) t.counted.read
    (subst (λ x. lacks 10 x ≡ true) (sym (append-nil r.rest.items)) fed.clean))

at_end : (text : List ℕ) (r : TranscriptReader) → HasFed text r → r.so_far.stage ≡ Ended
    → HasEmitted r.so_far text (line_end ++ 10 ∷ r.rest.items)
at_end text r fed is = subst (λ x. HasEmitted r.so_far text (line_end ++ 10 ∷ x)) (append-nil r.rest.items)
    (subst (λ x. ConformsAs x r.so_far text (r.rest.items ++ [])) is fed.conforms)

pub goes_on_past : (text : List ℕ) (r : TranscriptReader) → HasFed text r → r.so_far.stage ≡ Ended → (r.rest.items ≡ [] → ⊥)
    → IsFirstFault text (r.so_far.lines + 3)
goes_on_past text r fed is some = goes_past r.so_far text r.rest.items (at_end text r fed is) some

pub is_faulty : (text : List ℕ) (r : TranscriptReader) (line : ℕ) → HasFed text r → r.so_far.stage ≡ Faulty line
    → IsFirstFault text line
is_faulty text r line fed is = subst (λ x. IsFirstFault x line) (append-nil text)
    (subst (λ x. ConformsAs x r.so_far text (r.rest.items ++ [])) is fed.conforms [])

-- ---- the transcript that the reader returns

pub few_callers : (s : SoFar) (text rest : List ℕ) → HasEmitted s text rest → vec_len s.done < 64
few_callers s text rest t = omega (
  arith,
  t.counted.many,
  few_done text rest t.counted.done t.counted.current (s.lines + 1) t.counted.read,
)

pub whole : (s : SoFar) (text : List ℕ) (callers : List (List SeenLine)) → HasEmitted s text (line_end ++ 10 ∷ [])
    → s.lines ≤ s.most
    → ((lines : List SeenLine) → Groups (seen_callers s.done.items) s.current.lines lines → Gives callers lines)
    → IsTranscriptText text callers × (length (all_lines callers) ≤ s.most)
whole s text callers t few gives =
    let r = t.kept few in (
      found text (line_end ++ 10 ∷ []) [] line_end (seen_callers s.done.items) s.current.lines (s.lines + 1) callers r
          refl refl refl gives,
      omega (arith, few, r.count, ap length (gives r.lines r.groups).all),
    )
