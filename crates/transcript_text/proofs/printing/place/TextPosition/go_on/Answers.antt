use Rattle.std.proofs.Common.{◌≡◌, ◌++◌, [], List, ℕ, length, ap, arith, refl, ◌∙◌}
use Rattle.std.specs.Prelude.{codes}
use Rattle.transcript_text.specs.declared.printing.place.TextAfter.TheVariants.{Lines}
use Rattle.transcript_text.proofs.Places.{fewer_pieces, head_done}
use Rattle.transcript_text.proofs.printing.place.TextPosition.go_on.Goals as goal

put : (clear append : List ℕ) → clear ≡ [] → append ≡ clear ++ codes "rngtranscript 1\n" → append ≡ codes "rngtranscript 1\n"
put clear append none is = is ∙ ap (λ front. front ++ codes "rngtranscript 1\n") none

pub returns-in-Head-clause-text : goal.returns-in-Head-clause-text
returns-in-Head-clause-text c = head_done c.args.self.now c.args.t.now c.append.new.self c.in-Head.is c.requires
    (put c.clear.new.self c.append.new.self c.clear.ensures c.append.ensures)

pub returns-in-Head-clause-fewer : goal.returns-in-Head-clause-fewer
returns-in-Head-clause-fewer c = λ _.
    let is = put c.clear.new.self c.append.new.self c.clear.ensures c.append.ensures in
    fewer_pieces c.args.self.now (record c.args.self.now { coming = Lines }) c.args.t.now c.append.new.self
    (head_done c.args.self.now c.args.t.now c.append.new.self c.in-Head.is c.requires is) (omega (arith, ap length is)) refl
