use Rattle.std.proofs.Common.{◌≡◌, Some, ap}
use Rattle.rng_tool.specs.declared.command.Command.TheVariants.{Vfork as VforkCommand}
use Rattle.rng_tool.specs.declared.vfork.Vfork.{Vfork}
use Rattle.rng_tool.proofs.command.Command.of.Goals as goal

pub returns-in-Some-vfork_of-clause-vfork : goal.returns-in-Some-vfork_of-clause-vfork
returns-in-Some-vfork_of-clause-vfork c point attempt n is =
    let same : c.in-Some-vfork_of.vfork ≡ record { point = point; attempt = attempt; len = n } =
    cc (c.vfork_of.ensures.only point attempt n is, c.in-Some-vfork_of.is) in
    ap (λ (vfork : Vfork). Some (VforkCommand vfork)) same
