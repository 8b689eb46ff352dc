-- The lines of a transcript in sequence, and the same lines grouped by caller.
use Rattle.std.specs.Prelude.{ℕ, ◌≡◌, List, ◌++◌, length, map}
use Rattle.std.specs.List.{AllByRecursion}
use Rattle.key_names.specs.Transcripts.SeenLine.{SeenLine}
use Rattle.key_names.specs.Texts.TranscriptGrammar.{all_lines, TranscriptFits, UnderOwnNumber}
use Rattle.transcript_text.specs.declared.caller_lines.CallerLines.{CallerLines}

abbrev pub OfCaller : ℕ → List SeenLine → Type 0
OfCaller caller lines = AllByRecursion (λ line. line.caller ≡ caller) lines

-- `lines` are exactly the lines of the callers in `done`, and then those of the current caller. Each line is grouped
-- under its own caller's number.
pub record Groups (done : List (List SeenLine)) (current lines : List SeenLine) : Type 0 where
  pub done_own : UnderOwnNumber 0 done
  pub current_own : OfCaller (length done) current
  pub whole : all_lines done ++ current ≡ lines

-- `callers` is a transcript, and `lines` are its lines in sequence
pub record Gives (callers : List (List SeenLine)) (lines : List SeenLine) : Type 0 where
  pub fits : TranscriptFits callers
  pub own : UnderOwnNumber 0 callers
  pub all : all_lines callers ≡ lines

abbrev pub seen_callers : List CallerLines → List (List SeenLine)
seen_callers callers = map (λ c. c.lines) callers
