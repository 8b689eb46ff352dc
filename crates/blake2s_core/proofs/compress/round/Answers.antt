use Rattle.std.proofs.Common.{◌≡◌, List, ℕ, length, ap, sym, rules}
use Rattle.key_names.specs.Kernel.Blake2s.{round, mixed_at}
use Rattle.blake2s_core.proofs.Words.{by_places}
use Rattle.blake2s_core.proofs.compress.round.Goals as goal

pub returns : goal.returns
unfolding round mixed_at
returns c =
    let len : length c.args.v ≡ 16 = search rules in
    let written = ap (λ (v : List ℕ). round v c.args.m) (by_places c.args.v 16 len) in
    rw (c.mix-a3-2.ensures, c.mix-a2-2.ensures, c.mix-a1-2.ensures, c.mix-a0-2.ensures)
    (rw (c.mix-a3.ensures, c.mix-a2.ensures, c.mix-a1.ensures, c.mix-a0.ensures) (sym written))
