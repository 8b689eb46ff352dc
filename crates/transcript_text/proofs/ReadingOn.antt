-- Reading the lines of a text one after the other.
use Rattle.std.proofs.Common.{◌≡◌, ℕ, ◌+◌, ◌<◌, ◌≤◌, Bool, true, false, List, [], ◌∷◌, ◌++◌, ◌-◌, ◌^◌, length, map, refl, sym, ap, subst, ◌∙◌, append_assoc, append-nil, arith}
use Rattle.std.specs.Prelude.{codes, Result, Ok, Err, IfOk, MatchBool}
use Rattle.std.specs.List.{AllByRecursion}
use Rattle.std.proofs.lemmas.List.{length-append, length-map, length_push, map_push, flat_map_more}
use Rattle.key_names.specs.Transcripts.SeenLine.{SeenLine}
use Rattle.key_names.specs.Texts.Spelling.{lined}
use Rattle.key_names.specs.Texts.TranscriptGrammar.{line_text, all_lines, transcript_lines, transcript_text, LineFits, IsTranscriptText, IsFirstFault}
use Rattle.transcript_text.specs.Feeding.{ReadSoFar, Rising, last_caller, head_line, line_end, front_of}
use Rattle.transcript_text.specs.Grouping.{Groups, Gives}
use Rattle.transcript_text.specs.Reading.{lacks}
use Rattle.transcript_text.specs.ReadLines.{IsRead, PushesRead, seen_read}
use Rattle.transcript_text.specs.Shows.{SpellsNoData}
use Rattle.transcript_text.specs.declared.parsing.line.ReadLine.{ReadLine}
use Rattle.transcript_text.specs.ReadTexts.{AddsLine, Answers, HasMoreLines, IsNoLine, IsReadAs}
use Rattle.transcript_text.specs.declared.parsing.error.TextError.{TextError}
use Rattle.transcript_text.specs.declared.parsing.error.TextError.TheVariants.{Fault, NoMemory, TooManyLines}
use Rattle.transcript_text.proofs.Cutting.{same_cut, not_lacking}
use Rattle.transcript_text.proofs.FirstFaults.{NoNext, fault_here, fault_later, no_head, gives_nothing, one_transcript}
use Rattle.transcript_text.proofs.GroupedLines.{LastHasLines-push, finished, groups_push, no_groups}
use Rattle.transcript_text.proofs.LineTexts.{shows_data}
use Rattle.transcript_text.proofs.RisingLines.{Rising-push, last_caller-push}

pub begins : (text head rest : List ℕ) (done : List (List SeenLine)) (current : List SeenLine)
    → text ≡ head ++ 10 ∷ rest → head ≡ head_line → done ≡ [] → current ≡ []
    → ReadSoFar text done current rest 1
begins text head rest done current cut is none nothing = record {
  lines = [];
  groups = rw (none, nothing) no_groups;
  rising = tt;
  last = rw none refl;
  parts = rw (cut, is) refl;
  count = refl;
  begun = λ e. refl;
}

pub goes_on : (text rest line following : List ℕ) (done new : List (List SeenLine)) (current next : List SeenLine)
    (number : ℕ) → ReadSoFar text done current rest number
    → rest ≡ line ++ 10 ∷ following → AddsLine line done new current next → ReadSoFar text new next following (number + 1)
goes_on text rest line following done new current next number r cut a = record {
  lines = r.lines ++ a.line ∷ [];
  groups = a.groups r.lines r.groups;
  rising = Rising-push 0 r.lines a.line r.rising (omega (arith, r.last, a.later)) a.below a.fits;
  last = last_caller-push 0 r.lines a.line ∙ sym a.len;
  parts = r.parts ∙ ap (λ (x : List ℕ). lined (front_of r.lines) ++ x) (cut
      ∙ ap (λ (x : List ℕ). x ++ 10 ∷ following) a.spelt)
      ∙ sym (ap (λ (x : List (List ℕ)). lined (head_line ∷ x) ++ following) (map_push line_text r.lines a.line)
      ∙ ap (λ (x : List ℕ). x ++ following) (sym (flat_map_more (λ (l : List ℕ). l ++ codes "\n") [] (front_of r.lines)
      (line_text a.line)))
      ∙ append_assoc (lined (front_of r.lines)) (line_text a.line ++ codes "\n") following
      ∙ ap (λ (x : List ℕ). lined (front_of r.lines) ++ x) (append_assoc (line_text a.line) (codes "\n") following));
  count = omega (arith, r.count, length_push r.lines a.line);
  begun = λ e. absurd (omega (arith, a.some, ap length e));
}

-- ---- the callers of the lines that were read

last_below : (least : ℕ) (lines : List SeenLine) → least < 64 → Rising least lines → last_caller least lines < 64
last_below least [] low rising = low
last_below least (l ∷ lines) low rising = last_below l.caller lines rising.1 rising.3

pub few_done : (text rest : List ℕ) (done : List (List SeenLine)) (current : List SeenLine) (number : ℕ)
    → ReadSoFar text done current rest number → length done < 64
few_done text rest done current number r = omega (arith, r.last, last_below 0 r.lines (omega arith) r.rising)

all_fit : (least : ℕ) (lines : List SeenLine) → Rising least lines → AllByRecursion LineFits lines
all_fit least [] rising = tt
all_fit least (l ∷ lines) rising = (rising.2, all_fit l.caller lines rising.3)

split_fit : (a b : List SeenLine) → AllByRecursion LineFits (a ++ b) → AllByRecursion LineFits a
    × AllByRecursion LineFits b
split_fit [] b f = (tt, f)
split_fit (x ∷ a) b f = let more = split_fit a b f.1 in ((f.0, more.0), more.1)

groups_fit : (done : List (List SeenLine)) (current : List SeenLine)
    → AllByRecursion LineFits (all_lines done ++ current)
    → AllByRecursion (AllByRecursion LineFits) (done ++ current ∷ [])
groups_fit [] current f = (f, tt)
groups_fit (d ∷ done) current f =
    let parts = split_fit d (all_lines done ++ current)
    (subst (AllByRecursion LineFits) (append_assoc d (all_lines done) current) f) in
    (parts.0, groups_fit done current parts.1)

gives_current : (done : List (List SeenLine)) (current lines : List SeenLine) → Groups done current lines
    → Rising 0 lines → last_caller 0 lines ≡ length done
    → (current ≡ [] → lines ≡ []) → (callers : List (List SeenLine)) × Gives callers lines
gives_current done [] lines g rising last begun = ([], rw (begun refl) gives_nothing)
gives_current done (c ∷ current) lines g rising last begun = (
  done ++ (c ∷ current) ∷ [],
  finished (done ++ (c ∷ current) ∷ []) done (c ∷ current) lines refl
      (record {
        few_callers = omega (arith, length_push done (c ∷ current), last, last_below 0 lines (omega arith) rising);
        last = LastHasLines-push done (c ∷ current) (omega arith);
        lines = groups_fit done (c ∷ current) (rw g.whole (all_fit 0 lines rising));
      }) g,
)

pub gives_so_far : (text rest : List ℕ) (done : List (List SeenLine)) (current : List SeenLine) (number : ℕ)
    (r : ReadSoFar text done current rest number)
    → (callers : List (List SeenLine)) × Gives callers r.lines
gives_so_far text rest done current number r = gives_current done current r.lines r.groups r.rising r.last r.begun

-- ---- the lines after one more line was read

module _ (text : List ℕ) (read : ReadLine) (is : IsRead text read) where
  line_added : (old new : List (List SeenLine)) (current gone next : List SeenLine) → length old ≤ read.caller
      → read.caller < 64 → length new ≡ read.caller
      → ((lines : List SeenLine) → Groups old current lines → Groups new gone lines) → PushesRead read gone next
      → AddsLine text old new current next
  line_added old new current gone next later below len groups p = record {
    line = seen_read read p.shown;
    fits = is.fits p.shown p.fits p.spelt;
    spelt = is.spelt p.shown p.spelt;
    later = later;
    below = below;
    len = len;
    some = omega (arith, ap length p.pushed, length_push gone (seen_read read p.shown));
    groups = λ lines g.
        groups_push new gone lines next (seen_read read p.shown) p.pushed (sym len) (groups lines g);
  }

  pub line_taken : {E : Type 0} (old new : List (List SeenLine)) (current gone next : List SeenLine) (least : ℕ)
      (answer : Result Bool E) → length old ≤ read.caller → read.caller < 64 → length new ≡ read.caller
      → ((lines : List SeenLine) → Groups old current lines → Groups new gone lines)
      → IfOk answer (λ b. MatchBool b (PushesRead read gone next) (SpellsNoData read.word read.shown.now))
      → IfOk answer (λ b. MatchBool b (AddsLine text old new current next) (IsNoLine text least))
  line_taken old new current gone next least (Ok true) later below len groups p =
      line_added old new current gone next later below len groups p
  line_taken old new current gone next least (Ok false) later below len groups none = λ line fits low high e.
      let shows = shows_data text read is line fits e in none line.shown shows.0 shows.1
  line_taken old new current gone next least (Err e) later below len groups p = tt

-- ---- the first faulty line after the lines that were read

pub fault_missing : (text rest : List ℕ) (done : List (List SeenLine)) (current : List SeenLine) (number : ℕ)
    → ReadSoFar text done current rest number → lacks 10 rest ≡ true
    → IsFirstFault text (number + 1)
unfolding NoNext
fault_missing text rest done current number r lack =
    let g = gives_so_far text rest done current number r in
    let not : NoNext r.lines rest = λ line more cut clean.
    absurd (not_lacking 10 line more (subst (λ (x : List ℕ). lacks 10 x ≡ true) cut lack)) in
    fault_here text rest r.lines (number + 1) g.0 g.1 r.rising r.parts (omega (arith, r.count)) not

pub fault_line : (text rest line following : List ℕ) (done : List (List SeenLine)) (current : List SeenLine)
    (number least : ℕ) → ReadSoFar text done current rest number
    → rest ≡ line ++ 10 ∷ following → lacks 10 line ≡ true → (line ≡ line_end → ⊥) → least ≡ length done
    → IsNoLine line least → IsFirstFault text (number + 1)
unfolding NoNext
fault_line text rest line following done current number least r cut clean end is none =
    let g = gives_so_far text rest done current number r in
    let not : NoNext r.lines rest = λ other more cut2 clean2.
    let same = same_cut 10 line other following more clean clean2 (sym cut ∙ cut2) in (
      λ e. end (same.0 ∙ e),
      λ l fits low high e. none l fits (omega (arith, is, r.last, low)) high (same.0 ∙ e),
    ) in
    fault_here text rest r.lines (number + 1) g.0 g.1 r.rising r.parts (omega (arith, r.count)) not

-- if `callers` have all lines that were read, and `end` comes next, the text up to and including `end` is that of the
-- transcript `callers`
whole_text : (callers : List (List SeenLine)) (lines : List SeenLine) (text rest following : List ℕ)
    → all_lines callers ≡ lines → text ≡ lined (front_of lines) ++ rest
    → rest ≡ line_end ++ 10 ∷ following → text ≡ lined (transcript_lines callers) ++ following
whole_text callers lines text rest following all parts cut =
    parts ∙ ap (λ (x : List ℕ). lined (front_of lines) ++ x) cut
    ∙ sym (ap (λ (ls : List SeenLine). lined (front_of ls ++ line_end ∷ []) ++ following) all
    ∙ ap (λ (x : List ℕ). x ++ following) (sym (flat_map_more (λ (l : List ℕ). l ++ codes "\n") [] (front_of lines)
    line_end))
    ∙ append_assoc (lined (front_of lines)) (line_end ++ codes "\n") following)

pub fault_after : (text rest following line : List ℕ) (done : List (List SeenLine)) (current : List SeenLine)
    (number : ℕ) → ReadSoFar text done current rest number
    → rest ≡ line ++ 10 ∷ following → line ≡ line_end → (following ≡ [] → ⊥) → IsFirstFault text (number + 2)
fault_after text rest following line done current number r cut is some =
    let g = gives_so_far text rest done current number r in
    fault_later text following r.lines (number + 2) g.0 g.1 r.rising
    (whole_text g.0 r.lines text rest following g.1.all r.parts (cut ∙ ap (λ (x : List ℕ). x ++ 10 ∷ following) is)) some
    (omega (arith, r.count))

pub found : (text rest following line : List ℕ) (done : List (List SeenLine)) (current : List SeenLine) (number : ℕ)
    (callers : List (List SeenLine))
    → ReadSoFar text done current rest number → rest ≡ line ++ 10 ∷ following → line ≡ line_end → following ≡ []
    → ((lines : List SeenLine) → Groups done current lines → Gives callers lines) → IsTranscriptText text callers
unfolding transcript_text
found text rest following line done current number callers r cut is none gives =
    let g = gives r.lines r.groups in
    record {
      fits = g.fits;
      own = g.own;
      spelled = whole_text callers r.lines text rest following g.all r.parts (cut
          ∙ ap (λ (x : List ℕ). x ++ 10 ∷ following) is) ∙ ap (λ (x : List ℕ). lined (transcript_lines callers) ++ x) none
          ∙ append-nil (lined (transcript_lines callers));
    }

-- ---- a text that does not begin with a transcript's first line

pub uncut_head : (text : List ℕ) → lacks 10 text ≡ true → IsFirstFault text 1
uncut_head text lack = no_head text (λ line more cut is.
    not_lacking 10 line more (subst (λ (x : List ℕ). lacks 10 x ≡ true) cut lack))

pub other_head : (text head rest : List ℕ) → text ≡ head ++ 10 ∷ rest → lacks 10 head ≡ true → (head ≡ head_line → ⊥)
    → IsFirstFault text 1
other_head text head rest cut clean not = no_head text (λ line more cut2 is.
    not ((same_cut 10 head line rest more clean (rw is refl) (sym cut ∙ cut2)).0 ∙ is))

-- ---- a text that is a transcript's from its first line to its last

few_lines : (lines : List (List ℕ)) → length lines ≤ length (lined lines)
few_lines [] = omega arith
few_lines (line ∷ lines) = omega (
  arith,
  few_lines lines,
  length-append (line ++ codes "\n") (lined lines),
  length-append line (codes "\n"),
)

-- a text with more than `most` lines has more than `most` bytes
has_few : (most : ℕ) (text : List ℕ) → HasMoreLines most text → most < length text
unfolding transcript_text
has_few most text more = omega (
  arith,
  more.many,
  few_lines (transcript_lines more.callers),
  ap length more.is_text.spelled,
  length-append (map line_text (all_lines more.callers)) (line_end ∷ []),
  length-map (all_lines more.callers) line_text,
)

pub read_as : (text : List ℕ) (answer : Result (List (List SeenLine)) TextError) (most : ℕ) → most ≡ 2 ^ 32 - 1
    → Answers most text answer → length text ≤ 2 ^ 31
    → (callers : List (List SeenLine)) → IsTranscriptText text callers → IsReadAs callers answer
read_as text (Ok found) most is a short callers t = one_transcript text found callers a.0 t
read_as text (Err (Fault line)) most is a short callers t = a.none callers t
read_as text (Err TooManyLines) most is a short callers t = absurd (omega (arith, is, has_few most text a))
read_as text (Err NoMemory) most is a short callers t = tt

pub never_too_many : (text : List ℕ) (answer : Result (List (List SeenLine)) TextError) (most : ℕ) → most ≡ 2 ^ 32 - 1
    → Answers most text answer → length text ≤ 2 ^ 31 → answer ≡ Err TooManyLines → ⊥
never_too_many text (Ok found) most is a short e = cc
never_too_many text (Err (Fault line)) most is a short e = cc
never_too_many text (Err TooManyLines) most is a short e = omega (arith, is, has_few most text a)
never_too_many text (Err NoMemory) most is a short e = cc
