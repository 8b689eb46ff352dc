use Rattle.std.proofs.Common.{Some, ◌≡◌, ℕ, List, refl, sym, ap, subst, ◌∙◌, ◌++◌, append-nil, length, arith}
use Rattle.std.specs.Prelude.{map}
use Rattle.std.proofs.lemmas.List.{length-map}
use Rattle.judge_log.proofs.Loops.{found}
use Rattle.key_names.specs.Lanes.Book.{Lists, list_at, state_list}
use Rattle.key_names.specs.declared.entries.VEntry.{VEntry}
use Rattle.key_names.specs.Keys.LiveMaterial.{state_rest}
use Rattle.key_names.specs.Lanes.StateList.{state_after}
use Rattle.audit_keys.specs.declared.state_uses.StateOf.{StateOf}
use Rattle.std.specs.Global.{Vec}
use Rattle.audit_keys.specs.declared.held.KeyHolder.TheVariants.{State}
use Rattle.audit_keys.specs.declared.held.BatchHolder.TheVariants.{State as StateBatch}
use Rattle.audit_keys.specs.Held.{held_key, held_rest}
use Rattle.audit_keys.specs.Listed.{state_tells, listed_below}
use Rattle.audit_keys.proofs.Below.{added_more, list_at_map}
use Rattle.audit_keys.proofs.held_book.add_states.Goals as goal

pub loop-index-init : goal.loop-index-init
loop-index-init c = record { keys = λ lists states. sym (append-nil _); rests = λ lists states. sym (append-nil _) }

pub loop-index-preserved : goal.loop-index-preserved
loop-index-preserved c =
    let index : ℕ = c.loop-index.index in
    let caller : ℕ = c.args.caller in
    let number : ℕ = c.in_ok-number.number in
    let of : StateOf = record { caller = caller; state = number } in
    let same : number ≡ index = c.in_ok-number.ensures.number in
    let at = list_at_map (λ (es : Vec VEntry). es.items) c.args.states.now index c.index-states-index.result
    (found c.args.states.now c.args.states.now index c.index-states-index.result refl c.loop-index-test.true
    ∙ ap Some (sym c.index-states-index.is)) in
    let entries : (lists : Lists) → map (λ (es : Vec VEntry). es.items) c.args.states.now ≡ list_at lists.callers caller →
    c.deref.result.now ≡ state_list lists caller number = (λ lists states.
    c.deref.ensures.value ∙ sym at ∙ ap (λ xs. list_at xs index) states
    ∙ ap (λ n. list_at (list_at lists.callers caller) n) (sym same)) in
    record {
      keys = λ lists states. added_more (λ n. (state_tells lists caller n).keys) index _ _ _
          (c.loop-index.invariant.keys lists states)
          (subst (λ n. c.add_state.new.self.keys.items ≡ c.loop-index.held.keys.items ++ (state_tells lists caller n).keys)
          same (c.in_ok-add_state.ensures.keys
          ∙ ap (λ es. c.loop-index.held.keys.items ++ held_key (State of) (state_after caller number es).key)
          (entries lists states)));
      rests = λ lists states. added_more (λ n. (state_tells lists caller n).rests) index _ _ _
          (c.loop-index.invariant.rests lists states)
          (subst (λ n. c.add_state.new.self.rests.items
          ≡ c.loop-index.held.rests.items ++ (state_tells lists caller n).rests) same
          (c.in_ok-add_state.ensures.rests
          ∙ ap (λ es. c.loop-index.held.rests.items ++ held_rest (StateBatch of) (state_rest (state_after caller number es)))
          (entries lists states)));
    }

all_states : (states : List (Vec VEntry)) (to : List (List VEntry)) (index : ℕ) →
    map (λ (es : Vec VEntry). es.items) states ≡ to → index ≡ length states → index ≡ length to
all_states states to index is all =
    let e = ap length is in
    let l = length-map states (λ (es : Vec VEntry). es.items) in
    omega (arith, e, l, all)

pub returns-clause-keys : goal.returns-clause-keys
returns-clause-keys c = λ lists states.
    c.loop-index.invariant.keys lists states
    ∙ ap (λ n. c.args.held.now.keys.items ++ listed_below n (λ i. (state_tells lists c.args.caller i).keys))
    (all_states c.args.states.now (list_at lists.callers c.args.caller) c.loop-index.index states (omega arith))

pub returns-clause-rests : goal.returns-clause-rests
returns-clause-rests c = λ lists states.
    c.loop-index.invariant.rests lists states
    ∙ ap (λ n. c.args.held.now.rests.items ++ listed_below n (λ i. (state_tells lists c.args.caller i).rests))
    (all_states c.args.states.now (list_at lists.callers c.args.caller) c.loop-index.index states (omega arith))
