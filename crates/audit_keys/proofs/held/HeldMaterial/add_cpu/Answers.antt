use Rattle.key_names.specs.Lanes.CpuList.{CpuState, cpu_after}
use Rattle.audit_keys.specs.KeptEntries.{cpu_entries}
use Rattle.audit_keys.specs.Held.{held_fills}
use Rattle.audit_keys.proofs.Along.{after_same}
use Rattle.audit_keys.proofs.held.HeldMaterial.add_cpu.Goals as goal

pub returns-clause-rests : goal.returns-clause-rests
returns-clause-rests c = λ base.
    let s : CpuState = cpu_after base c.args.cpu (cpu_entries c.args.lane.now) in
    after_same _ _ _ (held_fills c.args.cpu s.fills) c.key.ensures.rests (c.in_ok-fills.ensures.rests s.fills (c.in_ok-keys.ensures.end base).fills)
