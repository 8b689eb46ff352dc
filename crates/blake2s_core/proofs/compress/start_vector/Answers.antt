use Rattle.std.proofs.Common.{◌≡◌, ◌/◌, ◌%◌, ◌^◌, List, ℕ, length, ap, sym, arith, rules}
use Rattle.key_names.specs.Kernel.Blake2s.{start_vector}
use Rattle.blake2s_core.proofs.Words.{by_places}
use Rattle.blake2s_core.proofs.compress.start_vector.Goals as goal
use Rattle.blake2s_core.proofs.compress.start_vector.Goals.{then-is_last, else-is_last}

pub returns : goal.returns
unfolding start_vector
returns c =
    let len : length c.args.h ≡ 8 = search rules in
    let high : c.args.count / 2 ^ 32 % 2 ^ 32 ≡ c.args.count / 2 ^ 32 = omega arith in
    let written = sym (ap (λ (h : List ℕ). start_vector h c.args.count c.args.is_last) (by_places c.args.h 8 len)) in
    elim c.if-is_last.branch [
      | then-is_last w ↦ rw (w.v14-is, w.if-is_last.true, high) (rw (high, w.if-is_last.true) at written)
      | else-is_last w ↦ rw (w.v14-is, w.if-is_last.false, high) (rw (high, w.if-is_last.false) at written)
    ]
