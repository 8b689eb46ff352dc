use Rattle.std.proofs.Common.{◌≡◌, ◌-◌, min, length, ap, refl, arith}
use Rattle.key_names.specs.Kernel.VgetrandomState.{VgetrandomState}
use Rattle.key_names.specs.Kernel.BatchCopy.{bytes_left}
use Rattle.vdso_state.proofs.state.VState.copy.Goals as goal

pub returns-else-out-left-clause-bytes : goal.returns-else-out-left-clause-bytes
returns-else-out-left-clause-bytes c =
    let s = c.args.self.now in
    let n = length c.args.out.now in
    let split = c.split_at_mut-front.ensures in
    let front : length c.split_at_mut-front.result.0.now ≡ min n (bytes_left s) =
    omega (arith, split.front_len, c.left-left.ensures) in
    let rest : length c.split_at_mut-front.result.1.now ≡ n - bytes_left s =
    omega (arith, split.back_len, c.left-left.ensures) in
    let key : c.copy_from_batch-else-out-left.new.self.key ≡ s.key =
    ap (λ (t : VgetrandomState). t.key) c.copy_from_batch-else-out-left.ensures.state in
    rw (c.copy_from_batch-else-out-left.ensures.bytes, c.copy_from_key.ensures.bytes, front, rest, key) refl
