use Rattle.std.proofs.Common.{◌<◌, ℕ, refl, sym, ap, ◌∙◌, ◌++◌, append-nil, arith}
use Rattle.std.proofs.lemmas.Option.{get_or_from_slice_get}
use Rattle.key_names.specs.Keys.LiveMaterial.{fill_rest}
use Rattle.audit_keys.specs.Rests.{given_up}
use Rattle.audit_keys.proofs.Below.{added_more, all_widths}
use Rattle.audit_keys.proofs.lives.Lives.give_up_fills.Goals as goal

pub loop-width-init : goal.loop-width-init
loop-width-init c = record { births = refl; endings = refl; given_up = λ book are. sym (append-nil _) }

pub loop-width-preserved : goal.loop-width-preserved
loop-width-preserved c =
    let width : ℕ = c.loop-width.width in
    let h = c.loop-width.invariant in
    record {
      births = c.give_up.ensures.births ∙ h.births;
      endings = c.give_up.ensures.endings ∙ h.endings;
      given_up = λ book are. added_more (λ w. given_up c.args.by (fill_rest w (book w))) width _ _ _ (h.given_up book are)
          (c.in_ok-give_up.ensures.given_up
          ∙ ap (λ span. c.loop-width.self.given_up.items ++ given_up c.args.by span)
          (c.in_ok-fill_rest.ensures.rest (book width)
          (let low : width < 256 = omega arith in
          get_or_from_slice_get c.args.fills.now width _ _ (are width low))));
    }

pub returns-clause-given_up : goal.returns-clause-given_up
returns-clause-given_up c = λ book are.
    c.loop-width.invariant.given_up book are
    ∙ ap (λ ts. c.args.self.now.given_up.items ++ ts)
    (all_widths (λ w. given_up c.args.by (fill_rest w (book w))) c.loop-width.width (omega arith))
