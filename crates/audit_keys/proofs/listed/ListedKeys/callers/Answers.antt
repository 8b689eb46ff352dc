use Rattle.std.proofs.Common.{Some, ◌≡◌, ℕ, List, refl, sym, ap, subst, ◌∙◌, length, arith}
use Rattle.std.specs.Prelude.{map}
use Rattle.std.proofs.lemmas.List.{length-map}
use Rattle.judge_log.proofs.Loops.{found}
use Rattle.key_names.specs.Lanes.Book.{list_at}
use Rattle.key_names.specs.declared.entries.VEntry.{VEntry}
use Rattle.std.specs.Global.{Vec}
use Rattle.audit_keys.specs.Listed.{tells_of, joined, all_below, caller_tells}
use Rattle.audit_keys.proofs.Below.{list_at_map}
use Rattle.audit_keys.proofs.Tells.{joined_nothing, joined_more}
use Rattle.audit_keys.proofs.listed.ListedKeys.callers.Goals as goal

pub loop-index-init : goal.loop-index-init
loop-index-init c = λ lists callers. sym (joined_nothing _)

pub loop-index-preserved : goal.loop-index-preserved
loop-index-preserved c = λ lists callers.
    let index : ℕ = c.loop-index.index in
    let same : c.in_ok-number.number ≡ index = c.in_ok-number.ensures.number in
    let at = list_at_map (λ (states : Vec (Vec VEntry)). map (λ (es : Vec VEntry). es.items) states.items)
    c.args.callers.now index c.index-callers-index.result
    (found c.args.callers.now c.args.callers.now index c.index-callers-index.result refl c.loop-index-test.true
    ∙ ap Some (sym c.index-callers-index.is)) in
    joined_more (caller_tells lists) index _ _ _ (c.loop-index.invariant lists callers)
    (subst (λ n. tells_of c.states.new.self ≡ joined (tells_of c.loop-index.self) (caller_tells lists n)) same
    (c.in_ok-states.ensures lists
    (ap (λ (ess : List (Vec VEntry)). map (λ (es : Vec VEntry). es.items) ess) c.deref.ensures.value ∙ sym at ∙ ap (λ xs. list_at xs index) callers ∙ ap (λ n. list_at lists.callers n) (sym same))))

pub returns : goal.returns
returns c = λ lists callers.
    let index : ℕ = c.loop-index.index in
    let all : index ≡ length lists.callers =
    (let e = ap length callers in
    let l = length-map c.args.callers.now (λ (states : Vec (Vec VEntry)). map (λ (es : Vec VEntry). es.items) states.items) in
    omega (arith, e, l)) in
    c.loop-index.invariant lists callers
    ∙ ap (λ n. joined (tells_of c.args.self.now) (all_below n (caller_tells lists))) all
