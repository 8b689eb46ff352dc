use Rattle.std.proofs.lemmas.Result.{IfOk-weaker}
use Rattle.std.proofs.Common.{map}
use Rattle.judge_lines.specs.Called.{seen_call}
use Rattle.judge_log.proofs.AnswersMade.CallsMeant.{option_said, option_is_said}
use Rattle.judge_log.proofs.calls.caller_said.Goals as goal

pub returns : goal.returns
returns g c = record {
  some = λ book set events lines keeps lawful of found fill.
      IfOk-weaker c.calls_said.result _ _
      (option_said c.args.lists.now book set events lines (map seen_call c.args.calls.now) c.args.settings.now keeps lawful
      of found (g.N.Note.IsNoted c.args.how.now c.args.caller) fill) c.calls_said.ensures;
  only = λ book set events lines ms keeps lawful of found means.
      IfOk-weaker c.calls_said.result _ _
      (option_is_said c.args.lists.now book set events lines (map seen_call c.args.calls.now) c.args.settings.now keeps
      lawful of found (g.N.Note.IsNoted c.args.how.now c.args.caller) ms means) c.calls_said.ensures;
}
