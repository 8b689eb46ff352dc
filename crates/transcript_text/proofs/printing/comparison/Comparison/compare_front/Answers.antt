use Rattle.std.proofs.Common.{◌≡◌, ◌≢◌, ◌++◌, List, ℕ, ap, drop, length, subst, sym, ◌∙◌, take}
use Rattle.std.proofs.lemmas.Slice.Eq.{bytes_eq-Decides}
use Rattle.std.proofs.lemmas.Bool.{false≢true}
use Rattle.transcript_text.specs.Comparing.{IsOther}
use Rattle.transcript_text.proofs.Comparing.{other, same_on, text_on}
use Rattle.transcript_text.proofs.printing.comparison.Comparison.compare_front.Goals as goal

next_is : (bytes piece text next : List ℕ) (from : ℕ) → text ≡ piece → next ≡ take (length bytes) (drop from text)
    → next ≡ take (length bytes) (drop from piece)
next_is bytes piece text next from same is = is ∙ ap (λ t. take (length bytes) (drop from t)) same

pub invariant_of-self-then-eq : goal.invariant_of-self-then-eq
invariant_of-self-then-eq c =
    let i = c.loop-self.self-inside in
    same_on i.made i.same i.from i.piece c.args.bytes.now c.bytes_from-next.result.now i.place c.loop-self.invariant.conforms
    (next_is c.args.bytes.now c.loop-self.self-inside.piece c.text-2.result.now c.bytes_from-next.result.now
    c.loop-self.self-inside.from c.text-2.ensures c.bytes_from-next.ensures.bytes)

pub returns-then-eq-clause-text : goal.returns-then-eq-clause-text
returns-then-eq-clause-text c =
    let i = c.loop-self.self-inside in
    let alike = (bytes_eq-Decides c.split_at.result.0.now c.bytes_from-next.result.now).0 (sym c.eq.ensures ∙ c.if-eq.true) in
    text_on i.made i.same i.from i.piece c.args.bytes.now c.bytes_from-next.result.now c.split_at.result.0.now i.place
    c.loop-self.invariant.conforms
    (next_is c.args.bytes.now c.loop-self.self-inside.piece c.text-2.result.now c.bytes_from-next.result.now
    c.loop-self.self-inside.from c.text-2.ensures c.bytes_from-next.ensures.bytes) c.split_at.ensures.front alike
    ∙ ap (λ (text : List ℕ). text ++ take (length c.bytes_from-next.result.now) c.args.bytes.now) c.loop-self.invariant.text

pub returns-clause-others : goal.returns-clause-others
returns-clause-others c = λ _.
    let i = c.loop-self.self-inside in
    let differ : c.split_at.result.0.now ≢ c.bytes_from-next.result.now = λ alike. false≢true (sym c.if-eq.false
    ∙ c.eq.ensures ∙ (bytes_eq-Decides c.split_at.result.0.now c.bytes_from-next.result.now).1 alike) in
    subst (λ made. IsOther made c.args.self.now.text c.args.bytes.now) c.loop-self.invariant.made
    (subst (λ text. IsOther i.made text c.args.bytes.now) c.loop-self.invariant.text (other i.made i.same i.from i.piece c.args.bytes.now c.bytes_from-next.result.now c.split_at.result.0.now i.place
    c.loop-self.invariant.conforms
    (next_is c.args.bytes.now c.loop-self.self-inside.piece c.text-2.result.now c.bytes_from-next.result.now
    c.loop-self.self-inside.from c.text-2.ensures c.bytes_from-next.ensures.bytes) c.split_at.ensures.front differ))
