use Rattle.std.proofs.Common.{ℕ, List, ap, ◌∙◌}
use Rattle.std.specs.Prelude.{slice_get, unwrap_or}
use Rattle.std.specs.Global.{Vec}
use Rattle.key_names.specs.Transcripts.IsTranscript.{script_calls}
use Rattle.judge_lines.specs.declared.called.CalledLines.{CalledLines}
use Rattle.judge_lines.specs.Called.{seen_calls}
use Rattle.audit_keys.specs.LineEnds.{all_line_ends}
use Rattle.audit_keys.proofs.LineEnds.{lines_are_listed}
use Rattle.audit_keys.proofs.line_ends.line_ends.Goals as goal

pub returns : goal.returns
returns c = λ script t conforms.
    let starts : ℕ → ℕ = λ n. unwrap_or (slice_get c.deref.result.now n) 0 in
    c.in_ok-lines.ensures
    ∙ ap (λ (calls : List (Vec CalledLines)). all_line_ends starts 0 (seen_calls calls)) c.deref-2.ensures.value
    ∙ ap (all_line_ends starts 0) conforms.calls
    ∙ lines_are_listed starts (script_calls script t)
    (λ n low. ap (λ (xs : List ℕ). unwrap_or (slice_get xs n) 0) c.deref.ensures.value
    ∙ c.in_ok-starts.ensures script t conforms n low)
