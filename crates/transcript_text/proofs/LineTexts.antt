-- No two lines have the same spelling.
use Rattle.std.proofs.Common.{◌≡◌, ℕ, ◌-◌, ◌^◌, ◌<◌, ◌≤◌, ◌==◌, true, false, List, [], ◌∷◌, ◌++◌, length, refl, sym, ap, subst, ◌∙◌, append_assoc, append-nil, arith}
use Rattle.std.specs.Prelude.{codes, decimal}
use Rattle.std.specs.List.{AllByRecursion, flat_map}
use Rattle.std.proofs.lemmas.Bool.{eqb-true, false_from_ne_true}
use Rattle.std.proofs.lemmas.List.{length-append}
use Rattle.hex.specs.Hex.{encode_lower, lower_digits, decode_of, IsBytes}
use Rattle.hex.proofs.HexLemmas.{length-encode_with, decode_of-encode_lower, decode_of-same}
use Rattle.key_names.proofs.Script.HexFields.{lower_encoded}
use Rattle.std.proofs.lemmas.Fmt.{decimal_injective}
use Rattle.key_names.specs.declared.events.Answer.{Answer}
use Rattle.key_names.specs.declared.events.Word.{Word}
use Rattle.key_names.specs.declared.names.Step.{Step}
use Rattle.key_names.specs.Transcripts.SeenLine.{Shown, no_data, bytes, count, SeenLine}
use Rattle.key_names.specs.Texts.Spelling.{AllLower, is_lower_digit, word_text, spaced}
use Rattle.key_names.specs.Texts.TranscriptGrammar.{answer_text, steps_text, step_text, shown_text, line_text, StepFits, ShownFits, LineFits}
use Rattle.transcript_text.specs.declared.parsing.line.LineNumbers.{LineNumbers}
use Rattle.event_script.specs.ValueFronts.{IsFront, NoFront}
use Rattle.transcript_text.specs.Reading.{lacks, StepsFit}
use Rattle.transcript_text.specs.declared.parsing.line.ReadLine.{ReadLine}
use Rattle.transcript_text.specs.ReadLines.{numbers_text, NumbersFit, FitsShowing, IsSplit, IsRead, seen_read}
use Rattle.transcript_text.proofs.Cutting.{lacks-append, lacks-decimal, not_lacking, same_cut}
use Rattle.transcript_text.proofs.NameTexts.{same_word, same_answer, word_lacks_space, word_lacks_feed, answer_lacks_space, answer_lacks_feed}
use Rattle.transcript_text.proofs.StepLists.{next_text, steps_text-cons}
use Rattle.transcript_text.proofs.StepTexts.{no_digit_below, IsOutside, comma_outside, space_outside, feed_outside, step_lacks, same_step, no_step, commas}

-- ---- the numbers of a line: its caller and its event

dot : (numbers : LineNumbers) → NumbersFit numbers → lacks 46 (decimal numbers.caller) ≡ true
dot numbers fits = lacks-decimal 46 numbers.caller (no_digit_below 46 (omega arith)) (omega arith)

numbers_text-parts : (numbers : LineNumbers) → numbers_text numbers ≡ decimal numbers.caller ++ 46 ∷ decimal numbers.event
numbers_text-parts numbers = append_assoc (decimal numbers.caller) (codes ".") (decimal numbers.event)

pub spells_numbers : (text caller event : List ℕ) → text ≡ caller ++ 46 ∷ event → lacks 46 caller ≡ true
    → (numbers : LineNumbers) → NumbersFit numbers
    → text ≡ numbers_text numbers → (caller ≡ decimal numbers.caller) × (event ≡ decimal numbers.event)
spells_numbers text caller event cut lack numbers fits e =
    same_cut 46 caller (decimal numbers.caller) event (decimal numbers.event) lack (dot numbers fits) (sym cut ∙ e
    ∙ numbers_text-parts numbers)

module _ (text following digits : List ℕ) (caller : ℕ) (front : IsFront decimal (λ n. n ≤ 2 ^ 32 - 1) text caller following)
    (point : following ≡ 46 ∷ digits) where
  event_at : (numbers : LineNumbers) → NumbersFit numbers → text ≡ numbers_text numbers → digits ≡ decimal numbers.event
  event_at numbers fits e =
      let only = front.only numbers.caller (46 ∷ decimal numbers.event) (omega arith) (λ d. omega arith)
      (e ∙ numbers_text-parts numbers) in
      let same : 46 ∷ digits ≡ 46 ∷ decimal numbers.event = sym point ∙ only.1 in
      cc

  pub no_event : NoFront decimal (λ n. n ≤ 2 ^ 32 - 1) digits → (numbers : LineNumbers) → NumbersFit numbers
      → text ≡ numbers_text numbers → ⊥
  no_event none numbers fits e =
      none numbers.event [] (omega arith) tt (event_at numbers fits e ∙ sym (append-nil (decimal numbers.event)))

  pub more_after : (event : ℕ) (rest : List ℕ) → IsFront decimal (λ n. n ≤ 2 ^ 32 - 1) digits event rest
      → (rest ≡ [] → ⊥) → (numbers : LineNumbers) → NumbersFit numbers → text ≡ numbers_text numbers → ⊥
  more_after event rest f some numbers fits e =
      some (f.only numbers.event [] (omega arith) tt
      (event_at numbers fits e ∙ sym (append-nil (decimal numbers.event)))).1

-- ---- cutting a line into its five fields

pub uncut_first : (line : List ℕ) → lacks 32 line ≡ true → (a b c d e : List ℕ) → IsSplit line a b c d e → ⊥
uncut_first line lack a b c d e s = not_lacking 32 a (spaced (b ∷ c ∷ d ∷ e ∷ []))
    (subst (λ (x : List ℕ). lacks 32 x ≡ true) s.whole lack)

after_first : (line x r : List ℕ) → line ≡ x ++ 32 ∷ r → lacks 32 x ≡ true → (a b c d e : List ℕ)
    → IsSplit line a b c d e → (x ≡ a) × (r ≡ spaced (b ∷ c ∷ d ∷ e ∷ []))
after_first line x r cut lack a b c d e s = same_cut 32 x a r (spaced (b ∷ c ∷ d ∷ e ∷ [])) lack s.first (sym cut
    ∙ s.whole)

pub uncut_second : (line x r : List ℕ) → line ≡ x ++ 32 ∷ r → lacks 32 x ≡ true → lacks 32 r ≡ true
    → (a b c d e : List ℕ) → IsSplit line a b c d e → ⊥
uncut_second line x r cut lack lack2 a b c d e s =
    not_lacking 32 b (spaced (c ∷ d ∷ e ∷ [])) (subst (λ (y : List ℕ). lacks 32 y ≡ true)
    (after_first line x r cut lack a b c d e s).1 lack2)

after_second : (line x r y q : List ℕ) → line ≡ x ++ 32 ∷ r → lacks 32 x ≡ true → r ≡ y ++ 32 ∷ q → lacks 32 y ≡ true
    → (a b c d e : List ℕ) → IsSplit line a b c d e → (y ≡ b) × (q ≡ spaced (c ∷ d ∷ e ∷ []))
after_second line x r y q cut lack cut2 lack2 a b c d e s =
    same_cut 32 y b q (spaced (c ∷ d ∷ e ∷ [])) lack2 s.second (sym cut2
    ∙ (after_first line x r cut lack a b c d e s).1)

pub uncut_third : (line x r y q : List ℕ) → line ≡ x ++ 32 ∷ r → lacks 32 x ≡ true → r ≡ y ++ 32 ∷ q
    → lacks 32 y ≡ true → lacks 32 q ≡ true
    → (a b c d e : List ℕ) → IsSplit line a b c d e → ⊥
uncut_third line x r y q cut lack cut2 lack2 lack3 a b c d e s =
    not_lacking 32 c (spaced (d ∷ e ∷ [])) (subst (λ (z : List ℕ). lacks 32 z ≡ true)
    (after_second line x r y q cut lack cut2 lack2 a b c d e s).1 lack3)

after_third : (line x r y q z p : List ℕ) → line ≡ x ++ 32 ∷ r → lacks 32 x ≡ true → r ≡ y ++ 32 ∷ q
    → lacks 32 y ≡ true → q ≡ z ++ 32 ∷ p → lacks 32 z ≡ true
    → (a b c d e : List ℕ) → IsSplit line a b c d e → (z ≡ c) × (p ≡ spaced (d ∷ e ∷ []))
after_third line x r y q z p cut lack cut2 lack2 cut3 lack3 a b c d e s =
    same_cut 32 z c p (spaced (d ∷ e ∷ [])) lack3 s.third (sym cut3
    ∙ (after_second line x r y q cut lack cut2 lack2 a b c d e s).1)

pub uncut_fourth : (line x r y q z p : List ℕ) → line ≡ x ++ 32 ∷ r → lacks 32 x ≡ true → r ≡ y ++ 32 ∷ q
    → lacks 32 y ≡ true → q ≡ z ++ 32 ∷ p → lacks 32 z ≡ true
    → lacks 32 p ≡ true → (a b c d e : List ℕ) → IsSplit line a b c d e → ⊥
uncut_fourth line x r y q z p cut lack cut2 lack2 cut3 lack3 lack4 a b c d e s =
    not_lacking 32 d e (subst (λ (w : List ℕ). lacks 32 w ≡ true)
    (after_third line x r y q z p cut lack cut2 lack2 cut3 lack3 a b c d e s).1 lack4)

-- the fields `a` to `e` of one text equal the fields `v` to `z` of another
pub record SameFields (a b c d e v w x y z : List ℕ) : Type 0 where
  pub first : a ≡ v
  pub second : b ≡ w
  pub third : c ≡ x
  pub fourth : d ≡ y
  pub fifth : e ≡ z

pub same_fields : (line a b c d e v w x y z : List ℕ) → IsSplit line a b c d e → IsSplit line v w x y z
    → SameFields a b c d e v w x y z
same_fields line a b c d e v w x y z s t =
    let one = after_first line a (spaced (b ∷ c ∷ d ∷ e ∷ [])) s.whole s.first v w x y z t in
    let two = same_cut 32 b w (spaced (c ∷ d ∷ e ∷ [])) (spaced (x ∷ y ∷ z ∷ [])) s.second t.second one.1 in
    let three = same_cut 32 c x (spaced (d ∷ e ∷ [])) (spaced (y ∷ z ∷ [])) s.third t.third two.1 in
    let four = same_cut 32 d y e z s.fourth t.fourth three.1 in
    record { first = one.0; second = two.0; third = three.0; fourth = four.0; fifth = four.1 }

-- ---- the fields of a line have no spaces, except the last

pub steps_lack : (byte : ℕ) → IsOutside byte → lacks byte (codes "-") ≡ true → lacks byte (codes ",") ≡ true
    → (steps : List Step) → AllByRecursion StepFits steps
    → lacks byte (steps_text steps) ≡ true
unfolding steps_text
steps_lack byte out dash comma [] fits = dash
steps_lack byte out dash comma (s ∷ []) fits = step_lacks byte out s fits.0
steps_lack byte out dash comma (s ∷ t ∷ steps) fits =
    lacks-append byte (step_text s ++ codes ",") (steps_text (t ∷ steps))
    (lacks-append byte (step_text s) (codes ",") (step_lacks byte out s fits.0) comma)
    (steps_lack byte out dash comma (t ∷ steps) fits.1)

abbrev pub numbers_in : SeenLine → LineNumbers
numbers_in line = record { caller = line.caller; event = line.event }

pub numbers_fit : (line : SeenLine) → LineFits line → NumbersFit (numbers_in line)
numbers_fit line fits = record { caller = fits.caller; event = fits.event }

pub numbers_lack : (byte : ℕ) → IsOutside byte → lacks byte (codes ".") ≡ true → (numbers : LineNumbers)
    → NumbersFit numbers → lacks byte (numbers_text numbers) ≡ true
numbers_lack byte out point numbers fits =
    lacks-append byte (decimal numbers.caller ++ codes ".") (decimal numbers.event)
    (lacks-append byte (decimal numbers.caller) (codes ".")
    (lacks-decimal byte numbers.caller out.digits (omega arith)) point)
    (lacks-decimal byte numbers.event out.digits (omega arith))

pub line_splits : (text : List ℕ) (line : SeenLine) → LineFits line → text ≡ line_text line
    → IsSplit text (numbers_text (numbers_in line)) (word_text line.word) (answer_text line.answer)
    (steps_text line.steps) (shown_text line.shown)
unfolding line_text
line_splits text line fits e = record {
  whole = e;
  first = numbers_lack 32 space_outside refl (numbers_in line) (numbers_fit line fits);
  second = word_lacks_space line.word;
  third = answer_lacks_space line.answer;
  fourth = steps_lack 32 space_outside refl refl line.steps fits.steps;
}

-- if `text` has the fields `a` to `e` and spells `line`, then these are the fields of `line`
pub spells_line : (text a b c d e : List ℕ) → IsSplit text a b c d e → (line : SeenLine) → LineFits line
    → text ≡ line_text line
    → SameFields a b c d e (numbers_text (numbers_in line)) (word_text line.word) (answer_text line.answer)
    (steps_text line.steps) (shown_text line.shown)
spells_line text a b c d e s line fits is = same_fields text a b c d e _ _ _ _ _ s (line_splits text line fits is)

-- ---- two lines with the same fields are equal

same_steps_with_commas : (a b : List Step) → AllByRecursion StepFits a → AllByRecursion StepFits b
    → commas a ≡ commas b → a ≡ b
same_steps_with_commas [] [] f g e = refl
same_steps_with_commas [] (y ∷ b) f g e = absurd (let n : 0 ≡ length (commas (y ∷ b)) = ap length e in
    omega (arith, n, length-append (step_text y ++ codes ",") (commas b), length-append (step_text y) (codes ",")))
same_steps_with_commas (x ∷ a) [] f g e = absurd (let n : length (commas (x ∷ a)) ≡ 0 = ap length e in
    omega (arith, n, length-append (step_text x ++ codes ",") (commas a), length-append (step_text x) (codes ",")))
same_steps_with_commas (x ∷ a) (y ∷ b) f g e =
    let parts = same_cut 44 (step_text x) (step_text y) (commas a) (commas b) (step_lacks 44 comma_outside x f.0)
    (step_lacks 44 comma_outside y g.0)
    (sym (append_assoc (step_text x) (codes ",") (commas a)) ∙ e ∙ append_assoc (step_text y) (codes ",") (commas b)) in
    ap (λ (s : Step). s ∷ a) (same_step x y f.0 g.0 parts.0)
    ∙ ap (λ (ss : List Step). y ∷ ss) (same_steps_with_commas a b f.1 g.1 parts.1)

with_comma : (step : Step) (steps : List Step) → steps_text (step ∷ steps) ++ codes "," ≡ commas (step ∷ steps)
unfolding steps_text
with_comma s [] = sym (append-nil (step_text s ++ codes ","))
with_comma s (t ∷ steps) = append_assoc (step_text s ++ codes ",") (steps_text (t ∷ steps)) (codes ",")
    ∙ ap (λ (x : List ℕ). step_text s ++ codes "," ++ x) (with_comma t steps)

pub same_steps : (a b : List Step) → AllByRecursion StepFits a → AllByRecursion StepFits b
    → steps_text a ≡ steps_text b → a ≡ b
unfolding steps_text
same_steps [] [] f g e = refl
same_steps [] (y ∷ b) f g e = absurd (no_step [] y (flat_map next_text b) (e ∙ steps_text-cons y b))
same_steps (x ∷ a) [] f g e = absurd (no_step [] x (flat_map next_text a) (sym e ∙ steps_text-cons x a))
same_steps (x ∷ a) (y ∷ b) f g e =
    same_steps_with_commas (x ∷ a) (y ∷ b) f g (sym (with_comma x a) ∙ ap (λ (t : List ℕ). t ++ codes ",") e
    ∙ with_comma y b)

dash_no_number : (n : ℕ) → n < 2 ^ 32 → codes "-" ≡ decimal n → ⊥
dash_no_number n small e =
    not_lacking 45 [] [] (subst (λ (x : List ℕ). lacks 45 x ≡ true) (sym e)
    (lacks-decimal 45 n (no_digit_below 45 (omega arith)) (omega arith)))

dash_no_bytes : (shown : List ℕ) → 0 < length shown → codes "-" ≡ encode_lower shown → ⊥
dash_no_bytes shown some e = omega (arith, ap length e, length-encode_with lower_digits shown)

same_bytes : (a b : List ℕ) → IsBytes a → IsBytes b → encode_lower a ≡ encode_lower b → a ≡ b
same_bytes a b f g e = decode_of-same (encode_lower b) a b (ap decode_of (sym e) ∙ decode_of-encode_lower a f)
    (decode_of-encode_lower b g)

pub same_shown : (word : Word) (a b : Shown) → ShownFits word a → ShownFits word b → shown_text a ≡ shown_text b → a ≡ b
unfolding shown_text
same_shown word no_data no_data f g e = refl
same_shown word no_data (bytes b) f g e = absurd (dash_no_bytes b g.1 e)
same_shown word no_data (count n) f g e = absurd (dash_no_number n g.1 e)
same_shown word (bytes a) no_data f g e = absurd (dash_no_bytes a f.1 (sym e))
same_shown word (bytes a) (bytes b) f g e = ap bytes (same_bytes a b f.2 g.2 e)
same_shown word (bytes a) (count n) f g e = absurd (f.0 g.0)
same_shown word (count m) no_data f g e = absurd (dash_no_number m f.1 (sym e))
same_shown word (count m) (bytes b) f g e = absurd (g.0 f.0)
same_shown word (count m) (count n) f g e = ap count (decimal_injective m n (omega arith) (omega arith) e)

abbrev line_made : ℕ → ℕ → Word → Answer → List Step → Shown → SeenLine
line_made caller event word answer steps shown = record
    { caller = caller; event = event; word = word; answer = answer; steps = steps; shown = shown }

pub same_line : (a b : SeenLine) → LineFits a → LineFits b → line_text a ≡ line_text b → a ≡ b
same_line a b f g e =
    let fields = spells_line (line_text a) _ _ _ _ _ (line_splits (line_text a) a f refl) b g e in
    let numbers = spells_numbers (numbers_text (numbers_in a)) (decimal a.caller) (decimal a.event)
    (numbers_text-parts (numbers_in a)) (dot (numbers_in a) (numbers_fit a f)) (numbers_in b) (numbers_fit b g)
    fields.first in
    let word : a.word ≡ b.word = same_word a.word b.word fields.second in
    let shown : a.shown ≡ b.shown = same_shown b.word a.shown b.shown
    (subst (λ (w : Word). ShownFits w a.shown) word f.shown) g.shown fields.fifth in
    ap (λ (x : ℕ). line_made x a.event a.word a.answer a.steps a.shown)
    (decimal_injective a.caller b.caller (omega (arith, f.caller)) (omega (arith, g.caller)) numbers.0)
    ∙ ap (λ (x : ℕ). line_made b.caller x a.word a.answer a.steps a.shown)
    (decimal_injective a.event b.event (omega (arith, f.event)) (omega (arith, g.event)) numbers.1)
    ∙ ap (λ (x : Word). line_made b.caller b.event x a.answer a.steps a.shown) word
    ∙ ap (λ (x : Answer). line_made b.caller b.event b.word x a.steps a.shown)
    (same_answer a.answer b.answer fields.third)
    ∙ ap (λ (x : List Step). line_made b.caller b.event b.word b.answer x a.shown)
    (same_steps a.steps b.steps f.steps g.steps fields.fourth)
    ∙ ap (λ (x : Shown). line_made b.caller b.event b.word b.answer b.steps x) shown

-- ---- a line that was read from its fields

last_short : (text a b c d e : List ℕ) → IsSplit text a b c d e → length e ≤ length text
last_short text a b c d e s =
    omega (
      arith,
      ap length s.whole,
      length-append a (32 ∷ spaced (b ∷ c ∷ d ∷ e ∷ [])),
      length-append b (32 ∷ spaced (c ∷ d ∷ e ∷ [])),
      length-append c (32 ∷ spaced (d ∷ e ∷ [])),
      length-append d (32 ∷ e),
    )

-- if each field of `text` spells its part of `read`, then `text` spells the line `read`
pub is_read : (text a b c d : List ℕ) (read : ReadLine) → IsSplit text a b c d read.shown.now
    → a ≡ numbers_text (record { caller = read.caller; event = read.event })
    → NumbersFit (record { caller = read.caller; event = read.event })
    → b ≡ word_text read.word → c ≡ answer_text read.answer → d ≡ steps_text read.steps.now → StepsFit read.steps.now
    → IsRead text read
unfolding line_text
is_read text a b c d read s numbers numbers_are word answer steps steps_are =
    let fits : FitsShowing read = λ shown shown_fits e. record {
      caller = numbers_are.caller;
      event = numbers_are.event;
      few_steps = steps_are.few;
      steps = steps_are.each;
      shown = shown_fits;
    } in
    let spelt : (shown : Shown) → read.shown.now ≡ shown_text shown → text ≡ line_text (seen_read read shown) =
    λ shown e. s.whole ∙ rw (numbers, word, answer, steps, e) refl in
    record {
      fits = fits;
      spelt = spelt;
      only = λ line line_fits is.
          let fields = spells_line text a b c d read.shown.now s line line_fits is in
          let same : line.word ≡ read.word = same_word line.word read.word (sym fields.second ∙ word) in
          let shown_fits = subst (λ (w : Word). ShownFits w line.shown) same line_fits.shown in (
            same_line line (seen_read read line.shown) line_fits (fits line.shown shown_fits fields.fifth)
                (sym is ∙ spelt line.shown fields.fifth),
            fields.fifth,
          );
      short = last_short text a b c d read.shown.now s;
    }

-- if `text` was read as `read` and spells `line`, the two have the same caller
pub same_caller : (text : List ℕ) (read : ReadLine) → IsRead text read → (line : SeenLine) → LineFits line
    → text ≡ line_text line → line.caller ≡ read.caller
same_caller text read is line fits e = ap (λ (l : SeenLine). l.caller) (is.only line fits e).0

-- if `text` was read as `read` and spells `line`, the last field of `read` spells the data of `line`
pub shows_data : (text : List ℕ) (read : ReadLine) → IsRead text read → (line : SeenLine) → LineFits line
    → text ≡ line_text line → ShownFits read.word line.shown × (read.shown.now ≡ shown_text line.shown)
shows_data text read is line fits e =
    let only = is.only line fits e in
    let same : line.word ≡ read.word = ap (λ (l : SeenLine). l.word) only.0 in
    (subst (λ (w : Word). ShownFits w line.shown) same fits.shown, only.1)

-- ---- a line's text is not `end`, and contains no line feed

pub no_end : (line : SeenLine) → line_text line ≡ codes "end" → ⊥
unfolding line_text
no_end line e =
    not_lacking 32 (numbers_text (numbers_in line)) _ (subst (λ (x : List ℕ). lacks 32 x ≡ true) (sym e) refl)

lower_lacks : (byte : ℕ) (text : List ℕ) → AllLower text → ((c : ℕ) → is_lower_digit c ≡ true → (c == byte) ≡ false)
    → lacks byte text ≡ true
lower_lacks byte [] lower other = refl
lower_lacks byte (c ∷ text) lower other = rw (other c lower.0, lower_lacks byte text lower.1 other) refl

no_feed : (c : ℕ) → is_lower_digit c ≡ true → (c == 10) ≡ false
no_feed c lower = false_from_ne_true _ (λ e. let h = rw (eqb-true c 10 e) at lower in absurd cc)

shown_lacks_feed : (word : Word) (shown : Shown) → ShownFits word shown → lacks 10 (shown_text shown) ≡ true
unfolding shown_text
shown_lacks_feed word no_data fits = refl
shown_lacks_feed word (bytes shown) fits = lower_lacks 10 (encode_lower shown) (lower_encoded shown fits.2) no_feed
shown_lacks_feed word (count n) fits = lacks-decimal 10 n (no_digit_below 10 (omega arith)) (omega arith)

pub line_lacks_feed : (line : SeenLine) → LineFits line → lacks 10 (line_text line) ≡ true
unfolding line_text
line_lacks_feed line fits =
    lacks-append 10 (numbers_text (numbers_in line)) _ (numbers_lack 10 feed_outside refl (numbers_in line)
    (numbers_fit line fits))
    (lacks-append 10 (32 ∷ word_text line.word) _ (word_lacks_feed line.word)
    (lacks-append 10 (32 ∷ answer_text line.answer) _ (answer_lacks_feed line.answer)
    (lacks-append 10 (32 ∷ steps_text line.steps) _ (steps_lack 10 feed_outside refl refl line.steps fits.steps)
    (shown_lacks_feed line.word line.shown fits.shown))))
