use Rattle.std.proofs.Common.{Some, None, []}
use Rattle.blake2s_core.proofs.hasher.hash.Goals as goal
use Rattle.blake2s_core.proofs.hasher.hash.Goals.{in-Some, in-None}

pub returns : goal.returns
returns c = elim c.match-key.branch [
  | in-Some w ↦
      let key = Some w.in-Some.key.now in
      let appended = c.update.ensures key [] (rw w.hash-is w.keyed-hash.ensures) in
      rw w.in-Some.is (c.finish.ensures key c.args.text.now appended)
  | in-None w ↦
      let appended = c.update.ensures None [] (rw w.hash-is w.plain-hash.ensures) in
      rw w.in-None.is (c.finish.ensures None c.args.text.now appended)
]
