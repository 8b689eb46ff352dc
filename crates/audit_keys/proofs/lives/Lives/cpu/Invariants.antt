use Rattle.std.specs.Prelude.{ℕ, List}
use Rattle.key_names.specs.declared.entries.BaseEntry.{BaseEntry}
use Rattle.key_names.specs.declared.entries.CpuEntry.{CpuEntry}
use Rattle.key_names.specs.Lanes.CpuList.{cpu_start, cpu_step}
use Rattle.audit_keys.specs.declared.cpu_uses.CpuKeys.{CpuKeys}
use Rattle.audit_keys.specs.Fills.{CpuConforms}
use Rattle.audit_keys.specs.KeptEntries.{cpu_entries}
use Rattle.audit_keys.specs.declared.lives.Lives.{Lives}
use Rattle.audit_keys.specs.Lives.{cpu_births_at, cpu_endings_at}
use Rattle.audit_keys.specs.Rests.{cpu_given_up_at}
use Rattle.audit_keys.proofs.Along.{IsListed}
use Rattle.audit_keys.proofs.Conforms.{ConformsAt}
use Rattle.audit_keys.proofs.lives.Lives.cpu.Given as goal

-- `now` is `old` with the births, endings and given-up rests of the entries before `place` added, and `keys` has the
-- CPU's key and fills before the entry at `place`
pub record CpuSoFar (base : List BaseEntry) (c : ℕ) (es : List CpuEntry) (place : ℕ) (old now : Lives) (keys : CpuKeys) :
    Type 0 where
  pub births : IsListed (cpu_births_at c) (cpu_step base c) cpu_start es place old.births.items now.births.items
  pub endings : IsListed (cpu_endings_at c) (cpu_step base c) cpu_start es place old.endings.items now.endings.items
  pub given_up : IsListed (cpu_given_up_at c) (cpu_step base c) cpu_start es place old.given_up.items now.given_up.items
  pub conforms : ConformsAt (cpu_step base c) cpu_start CpuConforms es place keys

abbrev pub invariant-loop-place : goal.invariant-loop-place
invariant-loop-place l = (base : List BaseEntry) →
    CpuSoFar base l.cpu (cpu_entries l.lane) l.place l.initial.self l.self l.keys
