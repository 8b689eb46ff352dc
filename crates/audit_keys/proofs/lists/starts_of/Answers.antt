use Rattle.std.proofs.Common.{List, map, ap, ◌∙◌}
use Rattle.std.specs.Global.{Vec}
use Rattle.key_names.specs.declared.names.Step.{Step}
use Rattle.key_names.specs.Callers.History.{calls_steps}
use Rattle.key_names.specs.Transcripts.IsTranscript.{script_calls}
use Rattle.judge_lines.specs.declared.called.CalledLines.{CalledLines}
use Rattle.judge_lines.specs.Called.{seen_calls}
use Rattle.audit_keys.proofs.lists.starts_of.Goals as goal

pub returns : goal.returns
returns c = λ script t conforms n low.
    c.in_ok-starts.ensures (script_calls script t)
    (ap (λ (own : List (Vec Step)). map (λ (steps : Vec Step). steps.items) own) c.deref-2.ensures.value
    ∙ c.in_ok-own.ensures ∙ ap (λ (calls : List (Vec CalledLines)). map calls_steps (seen_calls calls)) c.deref.ensures.value
    ∙ ap (map calls_steps) conforms.calls)
    (c.deref-3.ensures.value ∙ conforms.forks) n low
