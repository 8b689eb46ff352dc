use Rattle.std.proofs.Common.{◌≡◌, ℕ, List, true, ap, sym, ◌∙◌, arith, rules}
use Rattle.key_names.specs.Kernel.Keystream.{keystream}
use Rattle.cpu_gen.specs.CpuValue.{CpuValue}
use Rattle.int_batch.specs.BatchValue.{wants, next_bytes, filled}
use Rattle.rng_core.proofs.IntFulfilling.{some_of, filled_bytes, wants_of}
use Rattle.rng_core.proofs.batches.serve_from.Goals as goal

pub serve_next-requires-2 : goal.serve_next-requires-2
serve_next-requires-2 g c = (omega arith, (rw c.refill.ensures (some_of g.row.W c.requires.width), c.requires.out))

pub returns-clause-bytes : goal.returns-clause-bytes
returns-clause-bytes g c = λ s got fills ec eb ef.
    let wanted : c.wants.result ≡ true = search rules in
    let t : fills ≡ true = ef ∙ sym (wants_of c.args.look g.row.W (s.fills g.row.W) (s.bytes g.row.W))
    ∙ ap (wants c.args.look g.row.W) (sym eb) ∙ sym c.wants.ensures ∙ wanted in
    rw t (c.serve_next-2.ensures.bytes ∙ ap (next_bytes g.row.W)
    (c.refill.ensures ∙ ap (λ (b : List ℕ). filled b c.args.look)
    (c.kernel_read.ensures.bytes ∙ ap (λ (z : CpuValue). keystream z.key 32 96) ec))
    ∙ filled_bytes g.row.W c.args.look s.cpu.key (some_of g.row.W c.requires.width))
