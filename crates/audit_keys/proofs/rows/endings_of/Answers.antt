use Rattle.std.proofs.Common.{ℕ, rules}
use Rattle.std.specs.Ordering.{is_lt, is_le}
use Rattle.std.proofs.lemmas.List.Sorted.{IsPartitionPoint-from_clause}
use Rattle.key_names.specs.contracts.names.KeyNameOrd.TheImpl.{ghosts as order}
use Rattle.audit_keys.specs.declared.lives.Ending.{Ending}
use Rattle.audit_keys.proofs.Groups.{starts_parted, after_parted, named}
use Rattle.audit_keys.proofs.rows.endings_of.Goals as goal

pub returns : goal.returns
returns c =
    let key = λ (x : Ending). x.key in
    let k = c.args.key in
    let all = c.args.all.now in
    let first : ℕ = c.partition_point-first.result in
    named key k all first c.partition_point-count.result c.partition_point-first.ensures.bound
    (IsPartitionPoint-from_clause (λ x. is_lt (order.cmp (key x) k)) all first
    c.partition_point-first.ensures.partitioned (starts_parted key k all c.requires) (λ a r q h. search rules))
    (IsPartitionPoint-from_clause (λ x. is_le (order.cmp (key x) k)) _ c.partition_point-count.result
    c.partition_point-count.ensures.partitioned (after_parted key k all first c.requires) (λ a r q h. search rules))
    c.partition_point-count.ensures.bound
