-- Whether a transcript has the stamp, or the line, that a command names.
use Rattle.std.specs.Prelude.{ℕ, ◌==◌, Bool, true, Option, Some, None, List, [], ◌∷◌, ◌++◌, codes, if◌then◌else◌, nat_le}
use Rattle.std.specs.List.{list_any}
use Rattle.std.specs.Option.{is_some}
use Rattle.key_names.specs.Lanes.Book.{list_at}
use Rattle.key_names.specs.Callers.Calls.{Call}
use Rattle.key_names.specs.Transcripts.IsTranscript.{all_marks}
use Rattle.key_names.specs.Transcripts.SeenLine.{SeenLine}
use Rattle.judge_lines.specs.declared.marks.MarkOf.{MarkOf}
use Rattle.audit_keys.specs.declared.line_ends.LineEnd.{LineEnd}
use Rattle.audit_keys.specs.LineEnds.{listed_lines}
use Rattle.audit_keys.specs.declared.moments.LineOf.{LineOf}
use Rattle.key_audit.specs.declared.ask.Ask.{Ask}
use Rattle.key_audit.specs.declared.ask.Ask.TheVariants.{Keys, Live, LiveAfter, Line as OneLine}

-- the first of these lines whose event has the number `event`
abbrev pub line_in : ℕ → List LineEnd → Option LineEnd
line_in event [] = None
line_in event (line ∷ lines) = if line.event == event then Some line else line_in event lines

-- if the callers have `line`: the number of its call, and the stamp when this call was over
abbrev pub line_end : List (List Call) → LineOf → Option LineEnd
line_end callers line = line_in line.event (list_at (listed_lines callers) line.caller)

-- whether some visit of the transcript `t` has the stamp `stamp` or a higher one
abbrev pub has_stamp : List (List SeenLine) → ℕ → Bool
has_stamp t stamp = list_any (λ by. nat_le stamp by.mark.stamp) (all_marks t)

-- whether one of `marks` has the stamp `stamp` or a higher one
abbrev pub stamps_reach : ℕ → List MarkOf → Bool
stamps_reach stamp marks = list_any (λ of. nat_le stamp of.mark.stamp) marks

abbrev pub is_there : Ask → List (List Call) → List (List SeenLine) → Bool
is_there Keys callers t = true
is_there (Live stamp) callers t = has_stamp t stamp
is_there (LiveAfter line) callers t = is_some (line_end callers line)
is_there (OneLine line) callers t = is_some (line_end callers line)

-- the output if the transcript lacks the stamp, or the line, that the command names
abbrev pub missing_text : Ask → List ℕ
missing_text (Live stamp) = codes "no stamp" ++ 10 ∷ []
missing_text _ = codes "no line" ++ 10 ∷ []
