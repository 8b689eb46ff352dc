use Rattle.std.proofs.Common.{◌≡◌, ℕ, None, length, ap, sym, ◌∙◌, arith}
use Rattle.key_names.specs.declared.entries.CpuEntry.TheVariants.{Int}
use Rattle.key_names.specs.Kernel.Batches.{must_fill}
use Rattle.lane_table.specs.Meaning.{batch_at, cpu_entered}
use Rattle.rng_core.proofs.IntFulfilling.{other_width}
use Rattle.rng_core.proofs.batches.serve.Goals as goal

pub returns-in-1-clause-made : goal.returns-in-1-clause-made
returns-in-1-clause-made c = λ m got fills h ef. let e : length c.args.out.now ≡ 1 = c.in-1.is in let width : ℕ =
    length c.args.out.now in let look = c.args.look in let f : fills ≡ must_fill look 1 (m.fills 1) =
    ef ∙ ap (λ (w : ℕ). must_fill look w (m.fills w)) e in record {
      cpu = c.serve_from.ensures.cpu m got fills h.cpu h.b8 f
          ∙ ap (λ (w : ℕ). (cpu_entered (Int look None w fills) got m).cpu) (sym e);
      b8 = c.serve_from.ensures.batch m got fills h.cpu h.b8 f
          ∙ ap (λ (w : ℕ). batch_at 1 (cpu_entered (Int look None w fills) got m)) (sym e);
      b16 = h.b16 ∙ other_width 2 width look None fills got m (λ z. omega arith);
      b32 = h.b32 ∙ other_width 4 width look None fills got m (λ z. omega arith);
      b64 = h.b64 ∙ other_width 8 width look None fills got m (λ z. omega arith);
      fast = h.fast;
    }

pub returns-in-2-clause-made : goal.returns-in-2-clause-made
returns-in-2-clause-made c = λ m got fills h ef. let e : length c.args.out.now ≡ 2 = c.in-2.is in let width : ℕ =
    length c.args.out.now in let look = c.args.look in let f : fills ≡ must_fill look 2 (m.fills 2) =
    ef ∙ ap (λ (w : ℕ). must_fill look w (m.fills w)) e in record {
      cpu = c.serve_from-in-2.ensures.cpu m got fills h.cpu h.b16 f
          ∙ ap (λ (w : ℕ). (cpu_entered (Int look None w fills) got m).cpu) (sym e);
      b8 = h.b8 ∙ other_width 1 width look None fills got m (λ z. omega arith);
      b16 = c.serve_from-in-2.ensures.batch m got fills h.cpu h.b16 f
          ∙ ap (λ (w : ℕ). batch_at 2 (cpu_entered (Int look None w fills) got m)) (sym e);
      b32 = h.b32 ∙ other_width 4 width look None fills got m (λ z. omega arith);
      b64 = h.b64 ∙ other_width 8 width look None fills got m (λ z. omega arith);
      fast = h.fast;
    }

pub returns-in-4-clause-made : goal.returns-in-4-clause-made
returns-in-4-clause-made c = λ m got fills h ef. let e : length c.args.out.now ≡ 4 = c.in-4.is in let width : ℕ =
    length c.args.out.now in let look = c.args.look in let f : fills ≡ must_fill look 4 (m.fills 4) =
    ef ∙ ap (λ (w : ℕ). must_fill look w (m.fills w)) e in record {
      cpu = c.serve_from-in-4.ensures.cpu m got fills h.cpu h.b32 f
          ∙ ap (λ (w : ℕ). (cpu_entered (Int look None w fills) got m).cpu) (sym e);
      b8 = h.b8 ∙ other_width 1 width look None fills got m (λ z. omega arith);
      b16 = h.b16 ∙ other_width 2 width look None fills got m (λ z. omega arith);
      b32 = c.serve_from-in-4.ensures.batch m got fills h.cpu h.b32 f
          ∙ ap (λ (w : ℕ). batch_at 4 (cpu_entered (Int look None w fills) got m)) (sym e);
      b64 = h.b64 ∙ other_width 8 width look None fills got m (λ z. omega arith);
      fast = h.fast;
    }

pub returns-in-8-clause-made : goal.returns-in-8-clause-made
returns-in-8-clause-made c = λ m got fills h ef. let e : length c.args.out.now ≡ 8 = c.in-8.is in let width : ℕ =
    length c.args.out.now in let look = c.args.look in let f : fills ≡ must_fill look 8 (m.fills 8) =
    ef ∙ ap (λ (w : ℕ). must_fill look w (m.fills w)) e in record {
      cpu = c.serve_from-in-8.ensures.cpu m got fills h.cpu h.b64 f
          ∙ ap (λ (w : ℕ). (cpu_entered (Int look None w fills) got m).cpu) (sym e);
      b8 = h.b8 ∙ other_width 1 width look None fills got m (λ z. omega arith);
      b16 = h.b16 ∙ other_width 2 width look None fills got m (λ z. omega arith);
      b32 = h.b32 ∙ other_width 4 width look None fills got m (λ z. omega arith);
      b64 = c.serve_from-in-8.ensures.batch m got fills h.cpu h.b64 f
          ∙ ap (λ (w : ℕ). batch_at 8 (cpu_entered (Int look None w fills) got m)) (sym e);
      fast = h.fast;
    }
