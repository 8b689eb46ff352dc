use Rattle.std.proofs.Common.{◌<◌, ℕ, refl, sym, ap, ◌∙◌, ◌++◌, append-nil, arith}
use Rattle.std.proofs.lemmas.Option.{get_or_from_slice_get}
use Rattle.key_names.specs.Keys.LiveMaterial.{fill_rest}
use Rattle.audit_keys.specs.declared.held.BatchHolder.TheVariants.{Cpu}
use Rattle.audit_keys.specs.Held.{held_rest}
use Rattle.audit_keys.proofs.Below.{added_more, all_widths}
use Rattle.audit_keys.proofs.held.HeldMaterial.fills.Goals as goal

pub loop-width-init : goal.loop-width-init
loop-width-init c = record { keys = refl; rests = λ book are. sym (append-nil _) }

pub loop-width-preserved : goal.loop-width-preserved
loop-width-preserved c =
    let width : ℕ = c.loop-width.width in
    let h = c.loop-width.invariant in
    record {
      keys = c.rest.ensures.keys ∙ h.keys;
      rests = λ book are. added_more (λ w. held_rest (Cpu c.args.cpu w) (fill_rest w (book w))) width _ _ _ (h.rests book are)
          (c.in_ok-rest.ensures.rests
          ∙ ap (λ span. c.loop-width.self.rests.items ++ held_rest (Cpu c.args.cpu width) span)
          (c.in_ok-span.ensures.rest (book width)
          (let low : width < 256 = omega arith in
          get_or_from_slice_get c.args.fills.now width _ _ (are width low))));
    }

pub returns-clause-rests : goal.returns-clause-rests
returns-clause-rests c = λ book are.
    c.loop-width.invariant.rests book are
    ∙ ap (λ ts. c.args.self.now.rests.items ++ ts)
    (all_widths (λ w. held_rest (Cpu c.args.cpu w) (fill_rest w (book w))) c.loop-width.width (omega arith))
