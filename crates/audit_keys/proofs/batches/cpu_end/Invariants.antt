use Rattle.std.specs.Prelude.{List}
use Rattle.key_names.specs.declared.entries.BaseEntry.{BaseEntry}
use Rattle.key_names.specs.Lanes.CpuList.{cpu_start, cpu_step}
use Rattle.audit_keys.specs.Fills.{CpuConforms}
use Rattle.audit_keys.specs.KeptEntries.{cpu_entries}
use Rattle.audit_keys.proofs.Conforms.{ConformsAt}
use Rattle.audit_keys.proofs.batches.cpu_end.Given as goal

abbrev pub invariant-loop-place : goal.invariant-loop-place
invariant-loop-place l = (base : List BaseEntry) →
    ConformsAt (cpu_step base l.cpu) cpu_start CpuConforms (cpu_entries l.lane) l.place l.keys
