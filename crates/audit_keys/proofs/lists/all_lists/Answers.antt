use Rattle.std.proofs.Common.{◌≡◌, ℕ, ◌+◌, [], ◌∷◌, ◌++◌, List, map, drop, ap, ◌∙◌}
use Rattle.std.specs.Prelude.{slice_get, unwrap_or}
use Rattle.std.specs.Global.{Vec}
use Rattle.judge_lines.specs.declared.called.CalledLines.{CalledLines}
use Rattle.judge_lines.specs.Called.{seen_call, seen_calls}
use Rattle.judge_lines.proofs.Fronts.{goes_on, map_last}
use Rattle.audit_keys.specs.declared.entry.StateEntry.{StateEntry}
use Rattle.audit_keys.specs.Stamped.{kept_lists, all_kept, caller_over, all_over}
use Rattle.audit_keys.proofs.Over.{one_caller}
use Rattle.audit_keys.proofs.lists.all_lists.Goals as goal

pub loop-number-preserved : goal.loop-number-preserved
loop-number-preserved c =
    let starts : ℕ → ℕ = λ n. unwrap_or (slice_get c.args.starts.now n) 0 in
    let rest : List (Vec CalledLines) = drop (c.loop-number.number + 1) c.args.callers.now in
    let new : List (Vec StateEntry) = c.in_ok-caller_lists.field-0.items in
    let here : kept_lists new
    ≡ caller_over (starts c.loop-number.number) (map seen_call c.index-callers-number.result.items) =
    c.in_ok-caller_lists.ensures ∙ ap (λ n. caller_over n (map seen_call c.deref.result.now)) c.start_at-start.ensures
    ∙ ap (λ (calls : List CalledLines). caller_over (starts c.loop-number.number) (map seen_call calls))
    c.deref.ensures.value in
    ap (λ (l : List (Vec (Vec StateEntry))).
    all_kept l ++ all_over starts (c.loop-number.number + 1) (seen_calls rest))
    c.in_ok-push.ensures.items
    ∙ ap (λ (l : List (List (List StateEntry))). l ++ all_over starts (c.loop-number.number + 1) (seen_calls rest))
    (map_last (λ (l : Vec (Vec StateEntry)). kept_lists l.items) c.loop-number.lists.items c.in_ok-caller_lists.field-0)
    ∙ goes_on (λ (xs : List (Vec CalledLines)). all_over starts c.loop-number.number (seen_calls xs))
    (λ (xs : List (Vec CalledLines)). all_over starts (c.loop-number.number + 1) (seen_calls xs)) c.args.callers.now
    c.loop-number.number c.index-callers-number.result (all_kept c.loop-number.lists.items)
    (kept_lists new ∷ []) _
    c.loop-number-test.true c.index-callers-number.is
    (one_caller starts c.loop-number.number (map seen_call c.index-callers-number.result.items) (seen_calls rest)
    (kept_lists new) here)
    c.loop-number.invariant
