use Rattle.std.specs.Prelude.{List}
use Rattle.key_names.specs.declared.entries.BaseEntry.{BaseEntry}
use Rattle.key_names.specs.Lanes.CpuList.{cpu_start, cpu_step}
use Rattle.audit_keys.specs.UsedAt.{cpu_used_at}
use Rattle.audit_keys.specs.Fills.{CpuConforms, rekeys_of}
use Rattle.audit_keys.specs.KeptEntries.{cpu_entries}
use Rattle.audit_keys.proofs.UsesMore.{SoFar}
use Rattle.audit_keys.proofs.cpu_uses.cpu_uses.Given as goal

abbrev pub invariant-loop-place : goal.invariant-loop-place
invariant-loop-place l = (base : List BaseEntry) →
    SoFar (cpu_used_at l.cpu (rekeys_of l.rekeyed)) (cpu_step base l.cpu) cpu_start CpuConforms (cpu_entries l.lane)
    l.place l.keys l.uses.items
