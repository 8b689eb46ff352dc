use Rattle.std.proofs.Common.{◌≡◌, ◌+◌, ◌*◌, ◌/◌, ◌%◌, length, refl, ap, ◌∙◌, arith}
use Rattle.key_names.specs.Kernel.Keystream.{keystream}
use Rattle.key_names.specs.Kernel.VgetrandomState.{VgetrandomState}
use Rattle.vdso_state.proofs.Copies.{state_at, bytes_at}
use Rattle.vdso_state.proofs.state.VState.copy_from_key.Goals as goal

pub returns-clause-bytes : goal.returns-clause-bytes
returns-clause-bytes c =
    let n = length c.args.out.now in
    let blocks : length c.split_at_mut-blocks.result.0.now ≡ n / 64 * 64 =
    omega (arith, c.split_at_mut-blocks.ensures.front_len) in
    let front : length c.split_at_mut-blocks.result.1.now ≡ n % 64 =
    omega (arith, c.split_at_mut-blocks.ensures.back_len) in
    let key = ap (λ (s : VgetrandomState). s.key) c.self.view_is in
    bytes_at c.args.self.now.key c.args.next_block n _ c.refill.new.self.batch _
    (c.fill.ensures ∙ ap (λ k. keystream k (64 * c.args.next_block) (length c.split_at_mut-blocks.result.0.now)) key
    ∙ ap (keystream c.args.self.now.key (64 * c.args.next_block)) blocks)
    (ap (λ (s : VgetrandomState). s.batch) c.refill.ensures)
    (c.copy_from_batch.ensures.bytes ∙ rw (c.refill.ensures, front) refl)

pub returns-clause-state : goal.returns-clause-state
returns-clause-state c =
    let n = length c.args.out.now in
    let front : length c.split_at_mut-blocks.result.1.now ≡ n % 64 =
    omega (arith, c.split_at_mut-blocks.ensures.back_len) in
    state_at c.args.self.now c.refill.new.self _ (c.args.next_block + n / 64) (n % 64) _
    c.refill.ensures front
    c.copy_from_batch.ensures.state
