use Rattle.std.proofs.Common.{ℕ, List, ap, ◌∙◌}
use Rattle.std.specs.Prelude.{slice_get, unwrap_or}
use Rattle.std.specs.Global.{Vec}
use Rattle.key_names.specs.Transcripts.IsTranscript.{script_calls}
use Rattle.judge_lines.specs.declared.called.CalledLines.{CalledLines}
use Rattle.judge_lines.specs.Called.{seen_calls}
use Rattle.audit_keys.specs.Stamped.{all_kept, all_over}
use Rattle.audit_keys.proofs.CallersLeave.{all_leave}
use Rattle.audit_keys.proofs.StateCuts.{entries_are_left, entries_are_cut}
use Rattle.audit_keys.proofs.ListedCalls.{ends_are_listed}
use Rattle.audit_keys.proofs.lists.state_lists.Goals as goal

pub returns-clause-lists : goal.returns-clause-lists
returns-clause-lists c = λ lists settings ms means.
    let starts : ℕ → ℕ = λ n. unwrap_or (slice_get c.deref.result.now n) 0 in
    entries_are_left starts (seen_calls c.args.parts.now.calls.items) c.in_ok-lists.lists.items
    (c.in_ok-lists.ensures
    ∙ ap (λ (calls : List (Vec CalledLines)). all_over starts 0 (seen_calls calls)) c.deref-2.ensures.value)
    ∙ all_leave lists settings 0 (seen_calls c.args.parts.now.calls.items) ms means

pub returns-clause-cut : goal.returns-clause-cut
returns-clause-cut c = λ script t conforms.
    let starts : ℕ → ℕ = λ n. unwrap_or (slice_get c.deref.result.now n) 0 in
    entries_are_cut starts (script_calls script t) c.in_ok-lists.lists.items
    (c.in_ok-lists.ensures
    ∙ ap (λ (calls : List (Vec CalledLines)). all_over starts 0 (seen_calls calls)) c.deref-2.ensures.value
    ∙ ap (all_over starts 0) conforms.calls)
    (λ n low. ap (λ (xs : List ℕ). unwrap_or (slice_get xs n) 0) c.deref.ensures.value
    ∙ c.in_ok-starts.ensures script t conforms n low)

pub returns-clause-ends : goal.returns-clause-ends
returns-clause-ends c = λ script t conforms.
    let starts : ℕ → ℕ = λ n. unwrap_or (slice_get c.deref.result.now n) 0 in
    ends_are_listed starts (script_calls script t) (all_kept c.in_ok-lists.lists.items)
    (c.in_ok-lists.ensures
    ∙ ap (λ (calls : List (Vec CalledLines)). all_over starts 0 (seen_calls calls)) c.deref-2.ensures.value
    ∙ ap (all_over starts 0) conforms.calls)
    (λ n low. ap (λ (xs : List ℕ). unwrap_or (slice_get xs n) 0) c.deref.ensures.value
    ∙ c.in_ok-starts.ensures script t conforms n low)
