use Rattle.std.proofs.Common.{◌≡◌, ◌++◌, drop}
use Rattle.std.specs.List.{flat_map}
use Rattle.key_audit.specs.Live.{rest_line}
use Rattle.key_audit.proofs.held.put_rests.Given as goal

abbrev pub invariant-loop-rest : goal.invariant-loop-rest
invariant-loop-rest l =
    l.text.bytes.items ++ flat_map rest_line (drop l.rest-index l.rests)
    ≡ l.initial.text.bytes.items ++ flat_map rest_line l.rests
