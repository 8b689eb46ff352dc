-- Appending to the kept bytes and steps leaves the earlier lines as they were. A new line refers to the bytes and steps
-- that were appended for it.
use Rattle.std.proofs.Common.{◌≡◌, ℕ, zero, suc, ◌+◌, ◌<◌, ◌≤◌, List, [], ◌∷◌, ◌++◌, length, take, drop, set, map, get_or, refl, ap, sym, subst, ◌∙◌, append-nil, All, arith}
use Rattle.std.specs.List.{AllByRecursion}
use Rattle.std.proofs.lemmas.List.{length-append, length-drop, take-append-drop, take-append-le, drop-append-le, take_all, drop_at, map_push, map-set}
use Rattle.std.proofs.lemmas.List.Elements.{All-from_recursion}
use Rattle.key_names.proofs.Lists.Each.{each_more, each_set}
use Rattle.key_names.specs.declared.lines.Data.{Data}
use Rattle.key_names.specs.declared.lines.Data.TheVariants.{None as NoData, Bytes, Count}
use Rattle.key_names.specs.declared.lines.Line.{Line}
use Rattle.key_names.specs.declared.names.Step.{Step}
use Rattle.key_names.specs.Transcripts.SeenLine.{SeenLine, bytes, shown_in, seen_line, seen_lines, bytes_or_none}
use Rattle.key_names.specs.Texts.TranscriptGrammar.{LineFits}
use Rattle.transcript_text.specs.declared.view.LineView.{LineView}
use Rattle.transcript_text.specs.declared.view.Shown.{Shown}
use Rattle.transcript_text.specs.declared.view.Shown.TheVariants.{None as ShowsNone, Bytes as ShowsBytes, Count as ShowsCount}
use Rattle.transcript_text.specs.Gathered.{IsWithin, LineWithin, IsKept, bytes_from, data_from, kept_line}
use Rattle.transcript_text.specs.declared.parsing.line.ReadLine.{ReadLine}
use Rattle.transcript_text.specs.ReadLines.{seen_read}
use Rattle.transcript_text.specs.Views.{bytes_of, seen, seen_shown}

-- a part of the list `kept` does not change if `more` is appended
part_more : {X : Type 0} (start len : ℕ) (kept more : List X) → start + len ≤ length kept
    → take len (drop start (kept ++ more)) ≡ take len (drop start kept)
part_more start len kept more within =
    let a : start ≤ length kept = omega arith in
    let b : len ≤ length (drop start kept) = omega (arith, length-drop start kept) in
    ap (take len) (drop-append-le start kept more a) ∙ take-append-le len (drop start kept) more b

-- after `more` is appended to `kept`, the items from place `length kept` on are `more`
part_at : {X : Type 0} (kept more : List X) → take (length more) (drop (length kept) (kept ++ more)) ≡ more
part_at kept more = ap (take (length more)) (drop_at kept more (length kept) refl) ∙ take_all (length more) more (omega arith)

shown_in-more : (kept more : List ℕ) (shown : Data) → IsWithin (length kept) shown
    → shown_in (kept ++ more) shown ≡ shown_in kept shown
shown_in-more kept more NoData within = refl
shown_in-more kept more (Count n) within = refl
shown_in-more kept more (Bytes len start) within = ap bytes (part_more start len kept more within.1)

within_more : (kept more : List ℕ) (shown : Data) → IsWithin (length kept) shown
    → IsWithin (length (kept ++ more)) shown
within_more kept more NoData within = tt
within_more kept more (Count n) within = tt
within_more kept more (Bytes len start) within = (within.0, omega (arith, length-append kept more))

pub shown_in-bytes_from : (kept shown : List ℕ)
    → shown_in (kept ++ shown) (bytes_from (length kept) shown) ≡ bytes_or_none shown
shown_in-bytes_from kept [] = refl
shown_in-bytes_from kept (b ∷ bs) = ap bytes (part_at kept (b ∷ bs))

pub bytes_from_within : (kept shown : List ℕ) → IsWithin (length (kept ++ shown)) (bytes_from (length kept) shown)
bytes_from_within kept [] = tt
bytes_from_within kept (b ∷ bs) = (omega arith, omega (arith, length-append kept (b ∷ bs)))

data_from_within : (kept : List ℕ) (shown : Shown)
    → IsWithin (length (kept ++ bytes_of shown)) (data_from (length kept) shown)
data_from_within kept ShowsNone = tt
data_from_within kept (ShowsCount n) = tt
data_from_within kept (ShowsBytes shown) = bytes_from_within kept shown.now

shown_in-data_from : (kept : List ℕ) (shown : Shown)
    → shown_in (kept ++ bytes_of shown) (data_from (length kept) shown) ≡ seen_shown shown
shown_in-data_from kept ShowsNone = refl
shown_in-data_from kept (ShowsCount n) = refl
shown_in-data_from kept (ShowsBytes shown) = shown_in-bytes_from kept shown.now

module _ (bs more : List ℕ) (steps others : List Step) where
  pub seen_lines-more : (lines : List Line) → AllByRecursion (LineWithin (length bs) (length steps)) lines
      → seen_lines (bs ++ more) (steps ++ others) lines ≡ seen_lines bs steps lines
  seen_lines-more [] within = refl
  seen_lines-more (line ∷ lines) within = rw (
    shown_in-more bs more line.shown within.0.shown,
    part_more line.first_step line.step_count steps others within.0.steps',
    seen_lines-more lines within.1,
  ) refl

  all_within_more : (lines : List Line) → AllByRecursion (LineWithin (length bs) (length steps)) lines
      → AllByRecursion (LineWithin (length (bs ++ more)) (length (steps ++ others))) lines
  all_within_more [] within = tt
  all_within_more (line ∷ lines) within = (
    record {
      shown = within_more bs more line.shown within.0.shown;
      steps' = omega (arith, length-append steps others, within.0.steps');
    },
    all_within_more lines within.1,
  )

  -- `lines` that fit with the kept bytes and steps still fit if more bytes and steps are appended
  pub kept_more : (lines : List Line) → IsKept bs steps lines → IsKept (bs ++ more) (steps ++ others) lines
  kept_more lines old = record {
    within = all_within_more lines old.within;
    fits = rw (seen_lines-more lines old.within) old.fits;
  }

-- if `line` has the content `now`, then appending `line` to `lines` appends `now` to their contents
seen_one : (bs : List ℕ) (steps : List Step) (lines : List Line) (line : Line) (now : SeenLine) (before : List SeenLine)
    → seen_line bs steps line ≡ now → seen_lines bs steps lines ≡ before
    → seen_lines bs steps (lines ++ line ∷ []) ≡ before ++ now ∷ []
seen_one bs steps lines line now before is e = map_push (seen_line bs steps) lines line ∙ rw (e, is) refl

kept_one : (bs : List ℕ) (steps : List Step) (lines : List Line) (line : Line) (now : SeenLine)
    → seen_line bs steps line ≡ now → LineWithin (length bs) (length steps) line → LineFits now
    → IsKept bs steps lines → IsKept bs steps (lines ++ line ∷ [])
kept_one bs steps lines line now is within fits old = record {
  within = each_more (LineWithin (length bs) (length steps)) lines line old.within within;
  fits = rw (seen_one bs steps lines line now _ is refl)
      (each_more LineFits (seen_lines bs steps lines) now old.fits fits);
}

-- if the bytes and steps of `line` were appended last, the stored line `named` has the content of `line`
module _ (bs after_bs : List ℕ) (steps after_steps : List Step) (line : LineView) (named : Line)
    (bytes_are : after_bs ≡ bs ++ bytes_of line.shown) (steps_are : after_steps ≡ steps ++ line.steps.now)
    (named_is : named ≡ kept_line (length steps) (length bs) line) where
  pub seen_named : seen_line after_bs after_steps named ≡ seen line
  seen_named = rw (named_is, bytes_are, steps_are, shown_in-data_from bs line.shown, part_at steps line.steps.now) refl

  named_within : LineWithin (length after_bs) (length after_steps) named
  named_within = rw (named_is, bytes_are, steps_are) (record {
    shown = data_from_within bs line.shown;
    steps' = omega (arith, length-append steps line.steps.now);
  })

  pub seen_pushed : (lines : List Line) (before : List SeenLine) → seen_lines after_bs after_steps lines ≡ before
      → seen_lines after_bs after_steps (lines ++ named ∷ []) ≡ before ++ seen line ∷ []
  seen_pushed lines before e = seen_one after_bs after_steps lines named (seen line) before seen_named e

  pub kept_pushed : (lines : List Line) → LineFits (seen line) → IsKept after_bs after_steps lines
      → IsKept after_bs after_steps (lines ++ named ∷ [])
  kept_pushed lines fits old = kept_one after_bs after_steps lines named (seen line) seen_named named_within fits old

  pub seen_replaced : (number : ℕ) (lines : List Line) (before : List SeenLine)
      → seen_lines after_bs after_steps lines ≡ before
      → seen_lines after_bs after_steps (set lines number named) ≡ set before number (seen line)
  seen_replaced number lines before e = map-set (seen_line after_bs after_steps) lines number named
      ∙ rw (e, seen_named) refl

  pub kept_replaced : (number : ℕ) (lines : List Line) → LineFits (seen line) → IsKept after_bs after_steps lines
      → IsKept after_bs after_steps (set lines number named)
  kept_replaced number lines fits old = record {
    within = each_set (LineWithin (length after_bs) (length after_steps)) lines number named old.within named_within;
    fits = rw (seen_replaced number lines _ refl) (each_set LineFits (seen_lines after_bs after_steps lines) number
        (seen line) old.fits fits);
  }

-- if the list `after` begins with `bs`, it is `bs` and then the rest of `after`
grown : (bs after : List ℕ) → take (length bs) after ≡ bs → bs ++ drop (length bs) after ≡ after
grown bs after e = ap (λ x. x ++ drop (length bs) after) (sym e) ∙ take-append-drop (length bs) after

-- suppose that reading a line changed the kept bytes from `bs` to `after`, which begins with `bs`
module _ (bs after : List ℕ) (steps : List Step) (begins : take (length bs) after ≡ bs) where
  pub seen_grown : (others : List Step) (lines : List Line) → IsKept bs steps lines
      → seen_lines after (steps ++ others) lines ≡ seen_lines bs steps lines
  seen_grown others lines old =
      subst (λ (x : List ℕ). seen_lines x (steps ++ others) lines ≡ seen_lines bs steps lines) (grown bs after begins)
      (seen_lines-more bs (drop (length bs) after) steps others lines old.within)

  kept_grown : (others : List Step) (lines : List Line) → IsKept bs steps lines → IsKept after (steps ++ others) lines
  kept_grown others lines old = subst (λ (x : List ℕ). IsKept x (steps ++ others) lines) (grown bs after begins)
      (kept_more bs (drop (length bs) after) steps others lines old)

  pub kept_bytes : (lines : List Line) → IsKept bs steps lines → IsKept after steps lines
  kept_bytes lines old = subst (λ (x : List Step). IsKept after x lines) (append-nil steps) (kept_grown [] lines old)

  module _ (read : ReadLine) (shown : Data) where
    abbrev read_kept : Line
    read_kept = record {
      caller = read.caller;
      event = read.event;
      word = read.word;
      answer = read.answer;
      step_count = length read.steps.now;
      first_step = length steps;
      shown = shown;
    }

    read_seen : seen_line after (steps ++ read.steps.now) read_kept ≡ seen_read read (shown_in after shown)
    read_seen = rw (part_at steps read.steps.now) refl

    pub seen_read_pushed : (lines : List Line) (old : List SeenLine) → IsKept bs steps lines
        → seen_lines bs steps lines ≡ old
        → seen_lines after (steps ++ read.steps.now) (lines ++ read_kept ∷ [])
        ≡ old ++ seen_read read (shown_in after shown) ∷ []
    seen_read_pushed lines old kept e = seen_one after (steps ++ read.steps.now) lines read_kept _ old read_seen
        (seen_grown read.steps.now lines kept ∙ e)

    pub kept_read_pushed : (lines : List Line) → IsWithin (length after) shown
        → LineFits (seen_read read (shown_in after shown)) → IsKept bs steps lines
        → IsKept after (steps ++ read.steps.now) (lines ++ read_kept ∷ [])
    kept_read_pushed lines within fits old =
        kept_one after (steps ++ read.steps.now) lines read_kept _ read_seen
        (record { shown = within; steps' = omega (arith, length-append steps read.steps.now) }) fits
        (kept_grown read.steps.now lines old)

fits_at : (see : Line → SeenLine) (lines : List Line) (i : ℕ) (d : Line) → AllByRecursion LineFits (map see lines)
    → i < length lines → LineFits (see (get_or lines i d))
fits_at see [] i d fits lt = absurd (omega arith)
fits_at see (line ∷ lines) zero d fits lt = fits.0
fits_at see (line ∷ lines) (suc i) d fits lt = fits_at see lines i d fits.1 (omega arith)

pub all_within : (bs : List ℕ) (steps : List Step) (lines : List Line) → IsKept bs steps lines
    → All (LineWithin (length bs) (length steps)) lines
all_within bs steps lines old = All-from_recursion (LineWithin (length bs) (length steps)) lines old.within

pub line_fits : (bs : List ℕ) (steps : List Step) (lines : List Line) (i : ℕ) (line : Line) → IsKept bs steps lines
    → i < length lines → line ≡ get_or lines i line → LineFits (seen_line bs steps line)
line_fits bs steps lines i line old lt is = subst (λ (l : Line). LineFits (seen_line bs steps l)) (sym is)
    (fits_at (seen_line bs steps) lines i line old.fits lt)
