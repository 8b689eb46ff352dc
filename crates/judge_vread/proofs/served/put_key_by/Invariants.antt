use Rattle.std.proofs.Common.{◌≡◌, ◌<◌, ◌≤◌, ◌-◌, ◌++◌, length}
use Rattle.key_names.specs.Kernel.Keystream.{keystream}
use Rattle.judge_vread.proofs.served.put_key_by.Given as goal

abbrev pub invariant-loop-done : goal.invariant-loop-done
invariant-loop-done l =
    (l.done ≤ l.len) × (l.out.items ≡ l.initial.out.items ++ keystream l.key l.from l.done) × (0 < length l.piece)

abbrev pub decreases-loop-done : goal.decreases-loop-done
decreases-loop-done l = l.len - l.done
