use Rattle.std.proofs.Common.{Some, ◌≡◌, ℕ, refl, sym, ap, subst, ◌∙◌, length, arith}
use Rattle.std.proofs.lemmas.List.{length-map}
use Rattle.judge_log.proofs.Loops.{found}
use Rattle.key_names.specs.Lanes.Book.{list_at}
use Rattle.key_names.specs.declared.entries.VEntry.{VEntry}
use Rattle.std.specs.Global.{Vec}
use Rattle.audit_keys.specs.Listed.{tells_of, joined, all_below, state_tells}
use Rattle.audit_keys.proofs.Below.{list_at_map}
use Rattle.audit_keys.proofs.Tells.{joined_nothing, joined_more}
use Rattle.audit_keys.proofs.listed.ListedKeys.states.Goals as goal

pub loop-index-init : goal.loop-index-init
loop-index-init c = λ lists states. sym (joined_nothing _)

pub loop-index-preserved : goal.loop-index-preserved
loop-index-preserved c = λ lists states.
    let index : ℕ = c.loop-index.index in
    let caller : ℕ = c.args.caller in
    let same : c.in_ok-number.number ≡ index = c.in_ok-number.ensures.number in
    let at = list_at_map (λ (es : Vec VEntry). es.items) c.args.states.now index c.index-states-index.result
    (found c.args.states.now c.args.states.now index c.index-states-index.result refl c.loop-index-test.true
    ∙ ap Some (sym c.index-states-index.is)) in
    joined_more (state_tells lists caller) index _ _ _ (c.loop-index.invariant lists states)
    (subst (λ n. tells_of c.state.new.self ≡ joined (tells_of c.loop-index.self) (state_tells lists caller n)) same
    (c.in_ok-state.ensures lists
    (c.deref.ensures.value ∙ sym at ∙ ap (λ xs. list_at xs index) states
    ∙ ap (λ n. list_at (list_at lists.callers caller) n) (sym same))))

pub returns : goal.returns
returns c = λ lists states.
    let index : ℕ = c.loop-index.index in
    let all : index ≡ length (list_at lists.callers c.args.caller) =
    (let e = ap length states in
    let l = length-map c.args.states.now (λ (es : Vec VEntry). es.items) in
    omega (arith, e, l)) in
    c.loop-index.invariant lists states
    ∙ ap (λ n. joined (tells_of c.args.self.now) (all_below n (state_tells lists c.args.caller))) all
