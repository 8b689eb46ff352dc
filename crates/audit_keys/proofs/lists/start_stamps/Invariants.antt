use Rattle.std.proofs.Common.{◌≡◌, ℕ, ◌<◌, List, map, length}
use Rattle.std.specs.Prelude.{slice_get, unwrap_or}
use Rattle.key_names.specs.Callers.Calls.{Call}
use Rattle.key_names.specs.Callers.History.{calls_steps}
use Rattle.judge_lines.specs.Orders.{all_forks}
use Rattle.audit_keys.specs.Stamps.{start_stamp}
use Rattle.audit_keys.proofs.lists.start_stamps.Given as goal

-- `starts` has the stamp at the start of each caller below `l.caller`
abbrev pub invariant-loop-caller : goal.invariant-loop-caller
invariant-loop-caller l = record {
  count : length l.starts.items ≡ l.caller;
  known : (callers : List (List Call)) → map (λ own. own.items) l.own ≡ map calls_steps callers →
      l.forks ≡ all_forks 0 callers →
      (p : ℕ) → p < l.caller → unwrap_or (slice_get l.starts.items p) 0 ≡ start_stamp callers p;
}
