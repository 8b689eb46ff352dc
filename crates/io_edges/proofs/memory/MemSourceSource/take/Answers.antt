use Rattle.std.proofs.Common.{rules, drop, arith, ap, sym, ◌∙◌}
use Rattle.std.proofs.lemmas.Grind.{common_steps}
use Rattle.io_edges.proofs.Fronts.{front_and_rest}
use Rattle.io_edges.proofs.memory.MemSourceSource.take.Goals as goal

pub returns-clause-taken : goal.returns-clause-taken
returns-clause-taken c =
    ap (λ s. s.left) (sym c.self.view_is)
    ∙ front_and_rest c.self.inside.bytes.items _ (drop c.min-count.result c.args.buf.now)
    c.self.inside.at c.min-count.result (search rules) (grind (arith, common_steps))
