use Rattle.std.proofs.Common.{◌≡◌, List, length, map}
use Rattle.judge_lines.specs.Called.{seen_call}
use Rattle.judge_log.specs.Writes.{Write}
use Rattle.judge_log.specs.CallSays.{VStates, first_states, CallsSaid}
use Rattle.judge_log.proofs.AnswersMade.CallLoop.{SoFar, Left}
use Rattle.judge_log.proofs.calls.calls_said.Given as goal

abbrev pub invariant-loop-call : goal.invariant-loop-call
invariant-loop-call g l = record {
  lists : l.walk.lists.now ≡ l.lists;
  how : l.walk.notes.how.now ≡ l.how;
  caller : l.walk.notes.caller ≡ l.caller;
  so_far : SoFar l.lists l.settings (map seen_call l.calls) (g.N.Note.IsNoted l.how l.caller) (length l.yielded)
      l.walk.states l.walk.notes.noted.items;
  left : (t : VStates) (writes : List Write) →
      CallsSaid l.lists l.settings (map seen_call l.calls) first_states t writes →
      Left l.lists l.settings (map seen_call l.calls) (length l.yielded) l.walk.states;
}
