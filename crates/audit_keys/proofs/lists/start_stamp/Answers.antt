use Rattle.std.proofs.Common.{◌≡◌, ℕ, Some, None, List, sym, ap, ◌∙◌, arith}
use Rattle.std.specs.Prelude.{slice_get, unwrap_or}
use Rattle.std.proofs.lemmas.Option.{slice_get_past}
use Rattle.key_names.specs.declared.names.Step.{Step}
use Rattle.judge_lines.specs.Orders.{all_forks, front_in}
use Rattle.audit_keys.specs.Stamps.{latest_of}
use Rattle.audit_keys.proofs.Starts.{start_from, start_is}
use Rattle.audit_keys.proofs.lists.start_stamp.Goals as goal

pub returns-in-None : goal.returns-in-None
returns-in-None c = λ callers own forks long known.
    let starts : ℕ → ℕ = λ p. unwrap_or (slice_get c.args.starts.now p) 0 in
    let front : front_in c.args.caller (all_forks 0 callers) ≡ None =
    sym (c.in-None.ensures ∙ ap (front_in c.args.caller) forks) in
    sym (ap (start_from starts callers) front)
    ∙ start_is starts callers c.args.caller known
    (λ p high. ap (λ o. unwrap_or o 0) (slice_get_past c.args.starts.now p (omega arith)))

pub returns-in-Some : goal.returns-in-Some
returns-in-Some c = λ callers own forks long known.
    let starts : ℕ → ℕ = λ p. unwrap_or (slice_get c.args.starts.now p) 0 in
    let front : front_in c.args.caller (all_forks 0 callers) ≡ Some c.in-Some.fork =
    sym (c.in-Some.ensures ∙ ap (front_in c.args.caller) forks) in
    c.latest.ensures ∙ ap (λ n. latest_of n c.steps_before.result.now) c.start_at.ensures
    ∙ ap (λ (s : List Step). latest_of (starts c.in-Some.fork.parent) s) (c.steps_before.ensures callers own)
    ∙ sym (ap (start_from starts callers) front)
    ∙ start_is starts callers c.args.caller known
    (λ p high. ap (λ o. unwrap_or o 0) (slice_get_past c.args.starts.now p (omega arith)))
