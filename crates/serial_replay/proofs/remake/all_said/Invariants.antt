use Rattle.std.proofs.Common.{◌≡◌, ℕ, ◌<◌, List, length}
use Rattle.key_names.specs.Lanes.Book.{Lists, LawfulLanes, list_at}
use Rattle.key_names.specs.Transcripts.IsTranscript.{start_setting}
use Rattle.key_names.specs.Texts.ScriptGrammar.{Script}
use Rattle.key_names.specs.Transcripts.SeenLine.{SeenLine}
use Rattle.judge_lines.specs.Called.{seen_calls}
use Rattle.judge_log.specs.Kept.{Keeps}
use Rattle.judge_log.specs.Filled.{AllCallsFill}
use Rattle.judge_log.specs.Said.{IsSaid}
use Rattle.serial_replay.specs.Remade.{CallersConform, said_lists, said_of_caller}
use Rattle.serial_replay.proofs.remake.all_said.Given as goal

abbrev pub invariant-loop-caller : goal.invariant-loop-caller
invariant-loop-caller g l = record {
  long : length l.callers.items ≡ l.caller;
  each : (script : Script) (t : List (List SeenLine)) (lists : Lists) →
      CallersConform script t (seen_calls l.calls) l.settings → Keeps l.kept lists → LawfulLanes lists →
      AllCallsFill lists (seen_calls l.calls) → (c : ℕ) → c < l.caller →
      IsSaid lists (start_setting (seen_calls l.calls) c) (list_at (seen_calls l.calls) c)
      (said_of_caller (g.N.Note.IsNoted l.how) (said_lists l.callers.items) c);
}
