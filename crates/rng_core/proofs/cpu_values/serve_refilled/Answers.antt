use Rattle.std.proofs.Common.{true, sym, subst, ◌∙◌}
use Rattle.lane_table.specs.declared.values.LaneState.{LaneState}
use Rattle.lane_table.specs.Meaning.{CpuModel, ValueRepresents, generator_of}
use Rattle.rng_core.proofs.IntFulfilling.{generator_is}
use Rattle.rng_core.proofs.cpu_values.serve_refilled.Goals as goal

-- `m` is the CPU's model (its value in the proofs), with the key and the generation that the base handed over
pub returns-clause-made : goal.returns-clause-made
returns-clause-made c = λ lane s got place two ek eg must h. let k =
    subst (λ (z : LaneState). ValueRepresents lane z s) c.in-Cpu.is h in let m : CpuModel =
    record s.cpu { cpu = generator_of got } in
    let e = c.serve.ensures.made m got true record {
      cpu = c.refill.ensures
          ∙ generator_is c.args.key c.args.generation got ek eg;
      b8 = k.1.b8;
      b16 = k.1.b16;
      b32 = k.1.b32;
      b64 = k.1.b64;
      fast = k.1.fast;
    } (sym must) in
    (two, record { cpu = e.cpu; b8 = e.b8; b16 = e.b16; b32 = e.b32; b64 = e.b64; fast = e.fast })

pub returns-clause-bytes : goal.returns-clause-bytes
returns-clause-bytes c = λ lane s got place two ek eg must h. let k =
    subst (λ (z : LaneState). ValueRepresents lane z s) c.in-Cpu.is h in let m : CpuModel =
    record s.cpu { cpu = generator_of got } in
    c.serve.ensures.bytes m got true record {
      cpu = c.refill.ensures
          ∙ generator_is c.args.key c.args.generation got ek eg;
      b8 = k.1.b8;
      b16 = k.1.b16;
      b32 = k.1.b32;
      b64 = k.1.b64;
      fast = k.1.fast;
    } (sym must)
