use Rattle.std.proofs.Common.{sym, ap, ◌∙◌, map}
use Rattle.key_names.specs.declared.point.Point.TheVariants.{Start, Written, Serve, End}
use Rattle.key_names.specs.Callers.History.{steps_at_point}
use Rattle.judge_lines.specs.Called.{seen_act}
use Rattle.audit_keys.specs.Stamps.{latest_of}
use Rattle.audit_keys.proofs.Latest.{latest_vread}
use Rattle.audit_keys.proofs.stamps.after_vread.Goals as goal

pub returns : goal.returns
returns c =
    c.after_point.ensures
    ∙ ap (λ n. latest_of n (steps_at_point (map seen_act c.args.acts.now) End)) (c.after_point-served.ensures
    ∙ ap (λ n. latest_of n (steps_at_point (map seen_act c.args.acts.now) Serve)) (c.after_point-written.ensures
    ∙ ap (λ n. latest_of n (steps_at_point (map seen_act c.args.acts.now) Written)) (c.after_point-started.ensures
    ∙ ap (λ n. latest_of n (steps_at_point (map seen_act c.args.acts.now) Start)) c.latest-own.ensures)))
    ∙ sym (latest_vread c.args.stamp c.args.steps.now (map seen_act c.args.acts.now))
