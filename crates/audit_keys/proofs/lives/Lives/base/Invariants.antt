use Rattle.std.specs.Prelude.{ℕ, ◌≡◌, List, Option}
use Rattle.key_names.specs.declared.names.KeyName.{KeyName}
use Rattle.key_names.specs.declared.entries.BaseEntry.{BaseEntry}
use Rattle.key_names.specs.Lanes.BaseList.{base_start, base_step}
use Rattle.audit_keys.specs.KeptEntries.{base_entries}
use Rattle.audit_keys.proofs.BaseKeys.{BaseConforms}
use Rattle.audit_keys.specs.declared.lives.Lives.{Lives}
use Rattle.audit_keys.specs.Lives.{base_births_at, base_endings_at}
use Rattle.audit_keys.proofs.Along.{IsListed}
use Rattle.audit_keys.proofs.Conforms.{ConformsAt}
use Rattle.audit_keys.proofs.lives.Lives.base.Given as goal

-- `now` is `old` with the births and endings of keys by the entries before `place` added, and `key` is the base's key
-- before the entry at `place`
pub record BaseSoFar (es : List BaseEntry) (place : ℕ) (old now : Lives) (key : Option KeyName) : Type 0 where
  pub births : IsListed base_births_at base_step base_start es place old.births.items now.births.items
  pub endings : IsListed base_endings_at base_step base_start es place old.endings.items now.endings.items
  pub given_up : now.given_up.items ≡ old.given_up.items
  pub conforms : ConformsAt base_step base_start BaseConforms es place key

abbrev pub invariant-loop-place : goal.invariant-loop-place
invariant-loop-place l = BaseSoFar (base_entries l.base) l.place l.initial.self l.self l.key
