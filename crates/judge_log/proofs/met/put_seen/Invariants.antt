use Rattle.std.proofs.Common.{◌≡◌, map, take}
use Rattle.judge_log.specs.Met.{seen_of}
use Rattle.judge_log.proofs.met.put_seen.Given as goal

abbrev pub invariant-loop-one : goal.invariant-loop-one
invariant-loop-one l = l.seen.items ≡ map (seen_of l.cpu) (take l.one-index l.met)
