use Rattle.std.proofs.Common.{List, [], rules, subst}
use Rattle.std.specs.List.{range_with_len}
use Rattle.key_names.specs.declared.events.Event.TheVariants.{Add}
use Rattle.key_names.specs.declared.events.Answer.TheVariants.{Ok as Done}
use Rattle.key_names.specs.declared.names.Step.{Step}
use Rattle.key_names.specs.Transcripts.SeenLine.{no_data}
use Rattle.lane_table.specs.declared.view.View.{View}
use Rattle.rng_core.specs.Traces.{knowing, moment}
use Rattle.rng_core.specs.Makes.{Makes, IsOutcomeOf, setting_of}
use Rattle.rng_core.proofs.sources.first_sample.add_first_sample.Goals as goal

pub returns-clause-did : goal.returns-clause-did
returns-clause-did g c =
    let set = c.args.set in
    let steps = c.add.new.site.trace.now in
    let P = IsOutcomeOf (setting_of set) (Add (range_with_len 0 32) 256) Done no_data in (
      steps,
      subst (λ (v : View). Makes P set (moment c.args.pass.now []) (knowing v steps)) (search rules)
          (subst (λ (l : List Step). Makes P set (moment c.args.pass.now l) (moment c.add.new.site.pass.now steps))
          c.empty-trace.ensures c.add.ensures.did),
    )
