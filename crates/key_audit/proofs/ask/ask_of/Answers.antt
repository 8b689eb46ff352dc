use Rattle.std.proofs.Common.{List, ℕ, [], ◌∷◌, sym, ap, ◌∙◌}
use Rattle.std.specs.Prelude.{codes}
use Rattle.key_audit.proofs.WordTexts.{one, same_text}
use Rattle.key_audit.proofs.ask.ask_of.Goals as goal

pub returns-in-len1-clause-found : goal.returns-in-len1-clause-found
returns-in-len1-clause-found c =
    one c.args.words.now c.word-item.result c.in-len1.len_at_least c.in-len1.len_below c.word-item.is
    ∙ ap (λ (t : List ℕ). t ∷ []) (sym c.as_str.ensures.value
    ∙ same_text c.as_str.result.now (codes "keys") _ c.eq.ensures c.if-eq.true)
