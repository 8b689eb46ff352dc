use Rattle.transcript_check.proofs.Fronts.{in_range_of}
use Rattle.transcript_check.proofs.other_forms.first_of_all.Goals as goal

pub first_of_caller-requires : goal.first_of_caller-requires
first_of_caller-requires c =
    rw c.deref.ensures.value
    (in_range_of c.args.callers.now c.loop-caller.caller c.index-callers-caller.result c.loop-caller-test.true
    c.index-callers-caller.is c.requires)
