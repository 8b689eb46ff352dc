use Rattle.std.proofs.Common.{◌+◌, ◌-◌, ◌/◌}
use Rattle.transcript_check.proofs.Fronts.{front_in_range}
use Rattle.transcript_check.proofs.other_forms.most_forms.Goals as goal

pub are_forms-requires : goal.are_forms-requires
are_forms-requires c =
    front_in_range (c.loop-most.least + (c.loop-most.most - c.loop-most.least) / 2) c.args.calls.now c.requires
