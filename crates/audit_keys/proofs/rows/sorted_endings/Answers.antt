use Rattle.std.proofs.Common.{ap, ◌∙◌, rules}
use Rattle.std.proofs.lemmas.Fn.{always_returns_same}
use Rattle.key_names.specs.declared.names.LaneId.TheVariants.{Pool}
use Rattle.key_names.specs.declared.names.KeyName.{KeyName}
use Rattle.audit_keys.specs.declared.used.Origin.TheVariants.{Lane}
use Rattle.audit_keys.specs.declared.lives.Ending.{Ending}
use Rattle.audit_keys.specs.Rows.{endings_of}
use Rattle.audit_keys.proofs.Groups.{group_stays}
use Rattle.audit_keys.proofs.rows.sorted_endings.Goals as goal

abbrev key_of : Ending → KeyName
key_of ending = ending.key

abbrev of_key : KeyName → Ending
of_key key = record { key = key; by = Lane Pool 0 }

pub returns-clause-sorted : goal.returns-clause-sorted
returns-clause-sorted c = c.in_ok-sort_by_key.ensures.sorted key_of (always_returns_same _ _ _ (λ a r q k. search rules))

pub returns-clause-same : goal.returns-clause-same
returns-clause-same c = λ key.
    group_stays key_of (of_key key) c.in_ok-endings.endings.items c.sort_by_key.new.self.items
    (c.sort_by_key.ensures.stable key_of (always_returns_same _ _ _ (λ a r q k. search rules)) (of_key key))
    ∙ ap (endings_of key) c.in_ok-endings.ensures.items
