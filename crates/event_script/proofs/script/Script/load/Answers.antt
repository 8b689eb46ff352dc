use Rattle.std.proofs.Common.{arith, sym, subst}
use Rattle.key_names.specs.Texts.ScriptGrammar.{WellFormed}
use Rattle.event_script.proofs.Loads.{load_well_formed}
use Rattle.event_script.proofs.script.Script.load.Goals as goal

pub invariant_of-result : goal.invariant_of-result
invariant_of-result c =
    subst (λ blocks. WellFormed (record { version = 1; cpus = c.args.callers; callers = blocks }))
    (sym c.in_ok-callers_events.ensures)
    (load_well_formed c.args.start c.args.callers c.args.events c.requires.callers.0 c.requires.callers.1 (omega arith))
