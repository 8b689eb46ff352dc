-- Suppose that a session's run has made the events of a text, and is then closed. Then `emitted` is the right output
-- for this text.
use Rattle.std.proofs.Common.{◌≡◌, ℕ, ◌⊎◌, inl, inr, Bool, true, false, Option, None, Some, List, [], ◌∷◌, ◌++◌, map, refl, sym, ap, subst, ◌∙◌, append-nil}
use Rattle.std.specs.Prelude.{IfSome, IsSomeAnd, codes}
use Rattle.std.specs.List.{AllByRecursion}
use Rattle.key_names.specs.Transcripts.SeenLine.{SeenLine}
use Rattle.key_names.specs.Texts.ScriptFaults.{Draft, script_of_draft}
use Rattle.key_names.specs.Texts.ScriptGrammar.{Script, WellFormed}
use Rattle.key_names.specs.Texts.Spelling.{lined}
use Rattle.key_names.specs.Texts.TranscriptGrammar.{line_text}
use Rattle.caller_run.specs.Alone.{IsGoing, IsLawful, IsEmittedByOne, IsEmittedOnce}
use Rattle.caller_run.specs.declared.alone.LoneRun.{LoneRun}
use Rattle.event_script.specs.Progress.{IsLone}
use Rattle.event_script.proofs.GoingOn.{closed_script, ended_is, lone_blocks, well_formed}
use Rattle.transcript_text.specs.Lines.{text_of, whole_line}
use Rattle.rng_tool.specs.LiveOutcome.{EmittedAll, EmittedSoFar, EmittedWhole}
use Rattle.rng_tool.specs.LiveSteps.{HasEnded, HasRun, HasEmitted, IsAllEmitted, IsUnopened, begun}
use Rattle.rng_tool.proofs.Runs.{run_of}

lines_text : (lines : List SeenLine) → lined (map line_text lines) ≡ text_of lines
lines_text [] = refl
lines_text (line ∷ lines) = ap (λ (x : List ℕ). whole_line line ++ x) (lines_text lines)

begun_lined : (lines : List SeenLine) → begun lines ≡ lined (codes "rngtranscript 1" ∷ map line_text lines)
begun_lined lines = ap (λ (x : List ℕ). codes "rngtranscript 1\n" ++ x) (sym (lines_text lines))

pub one_emitted : (d : Draft) → IsLone d → AllByRecursion IsEmittedOnce d.events → IsEmittedByOne (script_of_draft d)
one_emitted d lone once = record { one = rw lone.first refl; once = rw lone.first (once, tt) }

module _ (front emitted : List ℕ) (run : LoneRun) (h : HasRun front emitted run) where
  pub is_well : WellFormed (script_of_draft h.draft)
  is_well = well_formed front h.draft h.next h.goes (lone_blocks h.draft h.lone) h.room

  -- the run so far is also a run of the script that consists of the draft (the script so far) and the line `end`
  pub going : IsGoing (script_of_draft h.draft) [] run h.lines
  going = h.made (script_of_draft h.draft) [] is_well (one_emitted h.draft h.lone h.once) refl
      (rw h.lone.first (ap (λ e. e ∷ []) (sym (append-nil h.draft.events))))

  pub emitted_so_far : (last : SeenLine) → IsLawful (script_of_draft h.draft) (h.lines ++ last ∷ []) → EmittedSoFar front emitted
  emitted_so_far last lawful = record {
    script = script_of_draft h.draft;
    is_script = closed_script front h.draft h.next h.goes (lone_blocks h.draft h.lone) h.room;
    one = one_emitted h.draft h.lone h.once;
    lines = h.lines;
    last = last;
    sound = run_of (script_of_draft h.draft) ((h.lines ++ last ∷ []) ∷ []) is_well lawful;
    emitted = h.text ∙ begun_lined h.lines;
  }

pub emitted_whole : (front emitted : List ℕ) → HasEnded front emitted → EmittedWhole front emitted
emitted_whole front emitted h = record {
  script = script_of_draft h.draft;
  is_script = ended_is front h.draft h.next h.ends h.short;
  one = h.one;
  run = h.run;
}

-- ---- closing a run adds its last line

-- if the run has made all events of a script, closing it makes the last line of a lawful transcript
abbrev pub Closes : Option LoneRun → Type 0
Closes run = (script : Script) (lines : List SeenLine) → IsSomeAnd run (λ r. IsGoing script [] r lines)
    → (last : SeenLine) × IsLawful script (lines ++ last ∷ [])

abbrev pub CanClose : Option LoneRun → Type 0
CanClose run = IfSome run (λ r. (script : Script) × (lines : List SeenLine) × IsGoing script [] r lines)

pub can_close : (is_over : Bool) (run : Option LoneRun) (front emitted : List ℕ) → HasEmitted is_over run front emitted → CanClose run
can_close true run front emitted has = subst CanClose (sym has.0) tt
can_close false None front emitted has = tt
can_close false (Some run) front emitted has = (script_of_draft has.draft, has.lines, going front emitted run has)

pub closed_part : (is_over : Bool) (run : Option LoneRun) (front emitted : List ℕ) → HasEmitted is_over run front emitted → Closes run
    → (emitted ≡ []) ⊎ (EmittedSoFar front emitted ⊎ EmittedWhole front emitted)
closed_part true run front emitted has closes = inr (inr (emitted_whole front emitted has.1))
closed_part false None front emitted has closes = inl has
closed_part false (Some run) front emitted has closes =
    let last = closes (script_of_draft has.draft) has.lines (going front emitted run has) in
    inr (inl (emitted_so_far front emitted run has last.0 last.1))

pub closed_all : (is_over : Bool) (run : Option LoneRun) (text front rest emitted : List ℕ) → text ≡ front ++ rest
    → HasEmitted is_over run front emitted → IsAllEmitted is_over run front rest → Closes run → EmittedAll text emitted
closed_all true run text front rest emitted parts has all closes =
    inr (inr (record { front = front; rest = rest; parts = parts; whole = emitted_whole front emitted has.1 }))
closed_all false None text front rest emitted parts has all closes =
    inl (record { nothing = has; unopened = subst IsUnopened (sym parts) all })
closed_all false (Some run) text front rest emitted parts has all closes =
    let last = closes (script_of_draft has.draft) has.lines (going front emitted run has) in
    inr (inl (record {
      front = front;
      rest = rest;
      parts = parts;
      so_far = emitted_so_far front emitted run has last.0 last.1;
      stops = all;
    }))
